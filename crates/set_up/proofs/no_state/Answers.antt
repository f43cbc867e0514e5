-- `set_up::no_state` meets its contract.
use borrow.Author.Rules.{rules}
use Rattle.set_up.specs.SetUpLaws.{state_none}
use Rattle.set_up.proofs.no_state.Goals as goal

pub returns : goal.returns
returns c = search (state_none, rules)
