-- `open_blocks::put_length` meets its contract.
use borrow.Author.Rules.{rules}
use Rattle.open_blocks.specs.OpenLaws.{length-put}
use Rattle.open_blocks.proofs.put_length.Goals as goal

pub returns : goal.returns
returns c = search (length-put, rules)
