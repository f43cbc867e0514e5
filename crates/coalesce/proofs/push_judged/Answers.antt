-- `coalesce::push_judged` meets its contract.
use borrow.Author.Rules.{rules}
use Rattle.coalesce.specs.ExactLaws.{judged_done, judged_lacks}
use Rattle.coalesce.specs.PushLaws.{tried-pushing, tried_sourced}
use Rattle.coalesce.proofs.push_judged.Goals as goal

pub push_rows-requires : goal.push_rows-requires
push_rows-requires c = (search (tried-pushing, rules), search (tried_sourced, rules), search rules, search rules)

pub returns-then-lacking-eq0 : goal.returns-then-lacking-eq0
returns-then-lacking-eq0 c = judged_done c.requires c.room_refusal-lacking.ensures.0 c.room_refusal-lacking.ensures.1 c.if-lacking-eq0.true c.push_rows.ensures

pub returns-else-lacking-eq0 : goal.returns-else-lacking-eq0
returns-else-lacking-eq0 c = judged_lacks c.requires c.room_refusal-lacking.ensures.0 c.room_refusal-lacking.ensures.1 c.if-lacking-eq0.false
