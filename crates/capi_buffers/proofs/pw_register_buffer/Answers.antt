-- `capi_buffers::pw_register_buffer` meets its contract.
use Rattle.capi.specs.ApiLaws.{both_none, register_said}
use Rattle.byte_view.specs.FoldLaws.{bytes-known}
use Rattle.std.proofs.Common.{refl}
use borrow.Author.Rules.{rules}
use Rattle.capi_buffers.proofs.pw_register_buffer.Goals as goal

pub returns-in-Ok : goal.returns-in-Ok
returns-in-Ok c =
    register_said c.args.state.now c.args.slots.now c.args.pool.now c.args.books.now c.in-Ok.ensures refl _ _
    (search (bytes-known, rules)) c.register_buffer-answer.ensures c.registered_pair.ensures

pub returns-in-Err : goal.returns-in-Err
returns-in-Err c = both_none c.in-Err.ensures _ c.both.ensures
