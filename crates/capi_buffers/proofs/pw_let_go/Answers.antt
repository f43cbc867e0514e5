-- `capi_buffers::pw_let_go` meets its contract.
use Rattle.capi.specs.ApiLaws.{number_none, let_go_said}
use Rattle.byte_view.specs.FoldLaws.{bytes-known}
use Rattle.std.proofs.Common.{refl}
use borrow.Author.Rules.{rules}
use Rattle.capi_buffers.proofs.pw_let_go.Goals as goal

pub returns-in-Ok : goal.returns-in-Ok
returns-in-Ok c =
    let_go_said c.args.state.now c.args.slots.now c.args.pool.now c.args.books.now c.in-Ok.ensures refl _
    (search (bytes-known, rules)) c.let_go.ensures

pub returns-in-Err : goal.returns-in-Err
returns-in-Err c = search (number_none, rules)
