-- `decoding::state_of` meets its contract.
use borrow.Author.Rules.{rules}
use Rattle.decoding.specs.ReadLaws.{state_is}
use Rattle.decoding.proofs.state_of.Goals as goal

pub returns : goal.returns
returns c = search (state_is, rules)
