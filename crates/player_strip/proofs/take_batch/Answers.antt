-- `player_strip::take_batch` meets its contract.
use Rattle.player_strip.specs.CallLaws.{take_done, take-refused}
use Rattle.player_strip.proofs.take_batch.Goals as goal

pub returns-then-read-eq0 : goal.returns-then-read-eq0
returns-then-read-eq0 c = take_done _ _ _ _ _ _ c.read_batch-read.ensures c.if-read-eq0.true c.next_completed_batch-dropped.ensures

pub returns-else-read-eq0 : goal.returns-else-read-eq0
returns-else-read-eq0 c = take-refused _ _ _ _ _ _ c.read_batch-read.ensures c.if-read-eq0.false
