-- `layout::bitmap_bytes` meets its contract.
use borrow.Author.Rules.{rules}
use Rattle.layout.specs.ExitLaws.{bitmap_is}
use Rattle.layout.proofs.bitmap_bytes.Goals as goal

pub returns : goal.returns
returns c = (search (bitmap_is, rules), search rules)
