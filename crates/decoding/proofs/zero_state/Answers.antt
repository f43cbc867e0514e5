-- `decoding::zero_state` meets its contract.
use borrow.Author.Rules.{rules}
use Rattle.codes.specs.Code.{zero_state}
use Rattle.decoding.proofs.zero_state.Goals as goal

pub returns : goal.returns
unfolding zero_state
returns c = search rules
