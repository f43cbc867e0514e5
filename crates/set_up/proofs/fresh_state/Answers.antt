-- `set_up::fresh_state` meets its contract.
use borrow.Author.Rules.{rules}
use Rattle.set_up.specs.SetUpLaws.{state_new}
use Rattle.set_up.proofs.fresh_state.Goals as goal

pub returns : goal.returns
returns c = search (state_new, rules)
