-- `set_up::new_coalescer` meets its contract.
use borrow.Author.Rules.{rules}
use Rattle.set_up.specs.SetUpLaws.{set_up_yes, set_up_no}
use Rattle.set_up.proofs.new_coalescer.Goals as goal

pub returns-then-fits_set_up : goal.returns-then-fits_set_up
returns-then-fits_set_up c = search (set_up_yes, rules)

pub returns-else-fits_set_up : goal.returns-else-fits_set_up
returns-else-fits_set_up c = search (set_up_no, rules)
