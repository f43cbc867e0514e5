-- `decoding::limit_of` meets its contract.
use borrow.Author.Rules.{rules}
use Rattle.decoding.specs.ReadLaws.{limit_unset, limit_set_lem}
use Rattle.decoding.proofs.limit_of.Goals as goal

pub returns-then-set-eq0 : goal.returns-then-set-eq0
returns-then-set-eq0 c = search (limit_unset, rules)

pub returns-else-set-eq0 : goal.returns-else-set-eq0
returns-else-set-eq0 c = search (limit_set_lem, rules)
