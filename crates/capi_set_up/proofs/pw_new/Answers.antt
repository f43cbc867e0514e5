-- `capi_set_up::pw_new` meets its contract.
use Rattle.capi.specs.NewLaws.{asks_bytes, asks_few, asks_count, asks_pool, new-said, new-refused}
use borrow.Author.Rules.{rules}
use Rattle.capi_set_up.proofs.pw_new.Goals as goal

pub overflow_cast-wanted : goal.overflow_cast-wanted
overflow_cast-wanted c = search (asks_count, rules)

pub kinds_of-requires : goal.kinds_of-requires
kinds_of-requires c = search (asks_few, rules)

pub overflow_cast-wanted-then-is_askable : goal.overflow_cast-wanted-then-is_askable
overflow_cast-wanted-then-is_askable c = search (asks_pool, rules)

pub keep-requires : goal.keep-requires
keep-requires c = search (asks_bytes, rules)

pub returns-then-is_askable : goal.returns-then-is_askable
returns-then-is_askable c = search (new-said, rules)

pub returns-else-is_askable : goal.returns-else-is_askable
returns-else-is_askable c = search (new-refused, rules)
