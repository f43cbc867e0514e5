-- `column_checks::keeps_rules` meets its contract.
use borrow.Author.Rules.{rules}
use Rattle.column_checks.specs.RuleLaws.{ruled_are}
use Rattle.column_checks.proofs.keeps_rules.Goals as goal

pub returns : goal.returns
returns c = search (ruled_are, rules)
