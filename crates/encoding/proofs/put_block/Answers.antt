-- `encoding::put_block` meets its contract.
use borrow.Author.Rules.{rules}
use Rattle.codes.specs.PutLaws.{block_put_number, block_put_closed}
use Rattle.encoding.proofs.put_block.Goals as goal

pub returns-in-Some : goal.returns-in-Some
returns-in-Some c = search (block_put_number, rules)

pub returns-in-None : goal.returns-in-None
returns-in-None c = search (block_put_closed, rules)
