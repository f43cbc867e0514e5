-- `capi_batches::pw_next_completed_batch` meets its contract.
use Rattle.capi.specs.ApiLaws.{decoded-length, both_none, drop-said}
use Rattle.std.proofs.Common.{refl}
use borrow.Author.Rules.{rules}
use Rattle.capi_batches.proofs.pw_next_completed_batch.Goals as goal

pub keep-refusal-requires : goal.keep-refusal-requires
keep-refusal-requires c = search (decoded-length, rules)

pub returns-in-Ok : goal.returns-in-Ok
returns-in-Ok c =
    drop-said c.args.state.now c.args.slots.now c.args.pool.now c.args.books.now c.in-Ok.ensures refl
    c.next_completed_batch-dropped.ensures c.keep-refusal.ensures c.both.ensures

pub returns-in-Err : goal.returns-in-Err
returns-in-Err c = both_none c.in-Err.ensures _ c.both-in-Err.ensures
