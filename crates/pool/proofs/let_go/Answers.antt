-- `pool::let_go` meets its contract.
use borrow.Author.Rules.{rules}
use Rattle.books.specs.SearchLaws.{used_room}
use Rattle.pool.specs.RegisterLaws.{gone_beyond, gone_not_held, gone-done}
use Rattle.pool.proofs.let_go.Goals as goal

pub returns-then-used-number : goal.returns-then-used-number
returns-then-used-number c = search (gone_beyond, rules)

pub entry_at-e-requires : goal.entry_at-e-requires
entry_at-e-requires c = search (used_room, rules)

pub returns-then-e-eq0 : goal.returns-then-e-eq0
returns-then-e-eq0 c = search (gone_not_held, rules)

pub release-requires : goal.release-requires
release-requires c = search (used_room, rules)

pub returns : goal.returns
returns c = search (gone-done, rules)
