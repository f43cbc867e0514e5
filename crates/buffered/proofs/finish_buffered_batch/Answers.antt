-- `buffered::finish_buffered_batch` meets its contract.
use borrow.Author.Rules.{rules}
use Rattle.ranges.specs.SaysLaws.{says_slots}
use Rattle.byte_view.specs.FoldLaws.{bytes-known}
use Rattle.finishing.specs.FinishLaws.{running_closable}
use Rattle.buffered.specs.RunningLaws.{running}
use Rattle.buffered.specs.FinishLaws.{finish_done, finish_stopped}
use Rattle.buffered.proofs.finish_buffered_batch.Goals as goal

pub finish-requires : goal.finish-requires
finish-requires c = running_closable (search (running, bytes-known, rules)) (search (says_slots, rules))

pub returns-then-refusal-eq0 : goal.returns-then-refusal-eq0
returns-then-refusal-eq0 c = search (finish_done, rules)

pub returns-else-refusal-eq0 : goal.returns-else-refusal-eq0
returns-else-refusal-eq0 c = search (finish_stopped, rules)
