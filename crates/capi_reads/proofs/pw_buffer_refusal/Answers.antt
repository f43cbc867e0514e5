-- `capi_reads::pw_buffer_refusal` meets its contract.
use Rattle.capi.specs.ApiLaws.{refusal_none, refusal-read}
use Rattle.std.proofs.Common.{refl}
use borrow.Author.Rules.{rules}
use Rattle.capi_reads.proofs.pw_buffer_refusal.Goals as goal

pub returns-in-Ok : goal.returns-in-Ok
returns-in-Ok c = refusal-read c.args.state.now c.args.slots.now c.args.pool.now c.args.books.now c.in-Ok.ensures _ refl c.buffer_refusal.ensures

pub returns-in-Err : goal.returns-in-Err
returns-in-Err c = search (refusal_none, rules)
