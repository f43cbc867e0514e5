-- `judging::judge` meets its contract.
use borrow.Author.Rules.{rules}
use Rattle.ranges.specs.SaysLaws.{says_columns, says-rows}
use Rattle.byte_view.specs.FoldLaws.{bytes-known}
use Rattle.judging.specs.JudgeLaws.{judges, says_pooled, judge_refused, judge_nothing, judge_go, judge_fault}
use Rattle.judging.proofs.judge.Goals as goal

pub batch_fault-requires : goal.batch_fault-requires
batch_fault-requires c = search (says_pooled, says_columns, says-rows, rules)

pub returns-then-number-ne0 : goal.returns-then-number-ne0
returns-then-number-ne0 c = judges (search (judge_refused, rules)) (search (bytes-known, rules))

pub returns-then-rows-eq0 : goal.returns-then-rows-eq0
returns-then-rows-eq0 c = judges (search (judge_nothing, rules)) (search (bytes-known, rules))

pub returns-in-Ok : goal.returns-in-Ok
returns-in-Ok c = judges (search (judge_go, rules)) (search (bytes-known, rules))

pub returns-in-Err : goal.returns-in-Err
returns-in-Err c = judges (search (judge_fault, rules)) (search (bytes-known, rules))
