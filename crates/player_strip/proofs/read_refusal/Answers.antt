-- `player_strip::read_refusal` meets its contract.
use Rattle.player_strip.specs.CallLaws.{refused_tests, refused-length, refused_room, refused-code, may_read, refused_columns}
use Rattle.ranges.specs.Passed.{passed}
use borrow.Author.Rules.{rules}
use Rattle.player_strip.proofs.read_refusal.Goals as goal

pub returns-then-number-ne0 : goal.returns-then-number-ne0
returns-then-number-ne0 c = search (refused_tests, rules)

pub returns-then-fault-eq1 : goal.returns-then-fault-eq1
returns-then-fault-eq1 c = search (refused-length, rules)

pub front_rows-rows-requires : goal.front_rows-rows-requires
front_rows-rows-requires c = search (passed, rules)

pub returns-then-room-rows : goal.returns-then-room-rows
returns-then-room-rows c = search (refused_room, rules)

pub returns-then-fault-ne0 : goal.returns-then-fault-ne0
returns-then-fault-ne0 c = search (refused-code, rules)

pub returns-then-is_match : goal.returns-then-is_match
returns-then-is_match c = search (may_read, rules)

pub returns-else-is_match : goal.returns-else-is_match
returns-else-is_match c = search (refused_columns, rules)
