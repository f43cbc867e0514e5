-- `ranges::block_in_range` meets its contract.
use borrow.Author.Rules.{rules}
use borrow.Author.Tests.{lt-ltb, le-ltb}
use Rattle.std.specs.Prelude.{◌≡◌, ◌&&◌, not, ltb}
use Rattle.std.proofs.Common.{◌∙◌}
use Rattle.search.specs.Cases.{both_fails, both_rest}
use Rattle.books.specs.Entry.{is_free_at}
use Rattle.ranges.specs.RangeLaws.{number_room, block_closed, block_fails, block_rest}
use Rattle.ranges.proofs.block_in_range.Goals as goal
use Rattle.ranges.proofs.block_in_range.Goals.{then-k-s, else-k-s, then-in_use, else-in_use}

pub in_use-requires : goal.in_use-requires
in_use-requires c = search (number_room, rules)

pub returns-in-None : goal.returns-in-None
returns-in-None c = search (block_closed, rules)

-- two: what the first two tests say; three: the first three
pub returns-then-list-s : goal.returns-then-list-s
returns-then-list-s c =
    let two : c.if-k-s.value ≡ (ltb c.in-Some.k.0 c.args.s.numbers && not (is_free_at c.args.books.now c.in-Some.k.0)) =
    elim c.if-k-s.branch [
      | then-k-s w ↦ w.value-is ∙ w.in_use.ensures ∙ both_rest _ (lt-ltb _ _ w.if-k-s.true)
      | else-k-s w ↦ w.value-is ∙ le-ltb _ _ w.if-k-s.false ∙ both_fails _ (le-ltb _ _ w.if-k-s.false)
    ] in
    let three : c.if-in_use.value ≡ (c.if-k-s.value && ltb c.args.list c.args.s.lists) =
    elim c.if-in_use.branch [
      | then-in_use w ↦ w.value-is ∙ both_rest _ w.if-in_use.true
      | else-in_use w ↦ w.value-is ∙ w.if-in_use.false ∙ both_fails _ w.if-in_use.false
    ] in
    block_rest _ _ _ _ c.in-Some.is two three c.if-list-s.true c.none_before.ensures

pub returns-else-list-s : goal.returns-else-list-s
returns-else-list-s c =
    let two : c.if-k-s.value ≡ (ltb c.in-Some.k.0 c.args.s.numbers && not (is_free_at c.args.books.now c.in-Some.k.0)) =
    elim c.if-k-s.branch [
      | then-k-s w ↦ w.value-is ∙ w.in_use.ensures ∙ both_rest _ (lt-ltb _ _ w.if-k-s.true)
      | else-k-s w ↦ w.value-is ∙ le-ltb _ _ w.if-k-s.false ∙ both_fails _ (le-ltb _ _ w.if-k-s.false)
    ] in
    let three : c.if-in_use.value ≡ (c.if-k-s.value && ltb c.args.list c.args.s.lists) =
    elim c.if-in_use.branch [
      | then-in_use w ↦ w.value-is ∙ both_rest _ w.if-in_use.true
      | else-in_use w ↦ w.value-is ∙ w.if-in_use.false ∙ both_fails _ w.if-in_use.false
    ] in
    block_fails _ _ _ _ c.in-Some.is two three c.if-list-s.false
