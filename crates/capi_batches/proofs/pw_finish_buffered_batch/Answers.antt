-- `capi_batches::pw_finish_buffered_batch` meets its contract.
use Rattle.capi.specs.ApiLaws.{decoded-length, number_none, finish_said}
use Rattle.std.proofs.Common.{refl}
use borrow.Author.Rules.{rules}
use Rattle.capi_batches.proofs.pw_finish_buffered_batch.Goals as goal

pub keep-requires : goal.keep-requires
keep-requires c = search (decoded-length, rules)

pub returns-in-Ok : goal.returns-in-Ok
returns-in-Ok c =
    finish_said c.args.state.now c.args.slots.now c.args.pool.now c.args.books.now c.in-Ok.ensures refl
    c.finish_buffered_batch-step.ensures c.keep.ensures

pub returns-in-Err : goal.returns-in-Err
returns-in-Err c = search (number_none, rules)
