-- `capi_front::pw_front_batch` meets its contract.
use Rattle.std.proofs.Common.{refl}
use Rattle.capi_front.specs.FrontLaws.{front-told, front_none}
use Rattle.capi_front.proofs.pw_front_batch.Goals as goal

pub returns-in-Ok : goal.returns-in-Ok
returns-in-Ok c =
    front-told c.args.state.now c.args.slots.now c.args.pool.now c.args.books.now c.args.out.now c.in-Ok.ensures refl
    c.front_batch-front.ensures c.both.ensures

pub returns-in-Err : goal.returns-in-Err
returns-in-Err c = front_none _ c.in-Err.ensures c.both-in-Err.ensures
