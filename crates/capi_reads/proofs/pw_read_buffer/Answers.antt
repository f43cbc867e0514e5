-- `capi_reads::pw_read_buffer` meets its contract.
use Rattle.capi.specs.ApiLaws.{read_none, read_done}
use Rattle.std.proofs.Common.{refl}
use borrow.Author.Rules.{rules}
use Rattle.capi_reads.proofs.pw_read_buffer.Goals as goal

pub returns-in-Ok : goal.returns-in-Ok
returns-in-Ok c =
    read_done c.args.state.now c.args.slots.now c.args.pool.now c.args.books.now c.in-Ok.ensures _ _ refl
    c.read_buffer-part.ensures.result_value c.copy_front.ensures

pub returns-in-Err : goal.returns-in-Err
returns-in-Err c = search (read_none, rules)
