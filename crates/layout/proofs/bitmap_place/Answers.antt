-- `layout::bitmap_place` meets its contract.
use borrow.Author.Rules.{rules}
use Rattle.layout.specs.ExitLaws.{bitmap_place_is}
use Rattle.layout.proofs.bitmap_place.Goals as goal

pub returns : goal.returns
returns c = (search (bitmap_place_is, rules), search rules)
