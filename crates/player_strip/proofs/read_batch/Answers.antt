-- `player_strip::read_batch` meets its contract.
use Rattle.player_strip.specs.CallLaws.{read_passed, read_match, read-coded, read_room, read-refused, read_done}
use Rattle.player_strip.proofs.read_batch.Goals as goal

pub read_front-rows-requires : goal.read_front-rows-requires
read_front-rows-requires c = (read_passed _ _ _ _ _ _ c.read_refusal-number.ensures c.if-number-eq0.true, read_match _ _ _ _ _ _ c.read_refusal-number.ensures c.if-number-eq0.true, read-coded _ _ _ _ _ _ c.read_refusal-number.ensures c.if-number-eq0.true, read_room _ _ _ _ _ _ c.read_refusal-number.ensures c.if-number-eq0.true)

pub returns-then-number-eq0 : goal.returns-then-number-eq0
returns-then-number-eq0 c = read_done _ _ _ _ _ _ c.read_refusal-number.ensures c.if-number-eq0.true c.read_front-rows.ensures

pub returns-else-number-eq0 : goal.returns-else-number-eq0
returns-else-number-eq0 c = read-refused _ _ _ _ _ _ c.read_refusal-number.ensures c.if-number-eq0.false
