-- `list_changes::unlist_one` meets its contract.
use Rattle.std.proofs.Common.{◌∙◌, arith}
use Rattle.listings.specs.ListingLaws.{word_room, unlisted_less, unlisted_none}
use Rattle.list_changes.proofs.unlist_one.Goals as goal
use Rattle.list_changes.proofs.unlist_one.Goals.{then-k-gt0, else-k-gt0}

pub free_unused-requires : goal.free_unused-requires
free_unused-requires c = (
  omega arith,
  elim c.if-k-gt0.branch [
    | then-k-gt0 w ↦ word_room c.args.books.now c.args.i.0 16 _ (w.books-is ∙ w.put32.ensures) c.requires.1 c.if-k-gt0.auto.books
    | else-k-gt0 w ↦ rw w.books-is c.requires.1
  ],
)

pub returns : goal.returns
returns c =
    elim c.if-k-gt0.branch [
      | then-k-gt0 w ↦ unlisted_less _ c.args.i.0 c.get32-k.ensures w.if-k-gt0.true (w.books-is ∙ w.put32.ensures) c.free_unused.ensures
      | else-k-gt0 w ↦ unlisted_none _ c.args.i.0 c.get32-k.ensures w.if-k-gt0.false (rw w.books-is at c.free_unused.ensures)
    ]
