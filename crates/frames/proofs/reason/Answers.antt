-- `frames::reason` meets its contract.
use borrow.Author.Rules.{rules}
use Rattle.frames.specs.ReasonLaws.{reason_31, reason_32, reason_33, reason_34, reason_35, reason_other}
use Rattle.frames.proofs.reason.Goals as goal

pub returns-in-31-clause-text : goal.returns-in-31-clause-text
returns-in-31-clause-text c = search (reason_31, rules)

pub returns-in-32-clause-text : goal.returns-in-32-clause-text
returns-in-32-clause-text c = search (reason_32, rules)

pub returns-in-33-clause-text : goal.returns-in-33-clause-text
returns-in-33-clause-text c = search (reason_33, rules)

pub returns-in-34-clause-text : goal.returns-in-34-clause-text
returns-in-34-clause-text c = search (reason_34, rules)

pub returns-in-35-clause-text : goal.returns-in-35-clause-text
returns-in-35-clause-text c = search (reason_35, rules)

pub returns-in_default-clause-text : goal.returns-in_default-clause-text
returns-in_default-clause-text c = search (reason_other, rules)
