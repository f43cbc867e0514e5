-- `capi_batches::pw_push_batch` meets its contract.
use Rattle.capi.specs.ApiLaws.{decoded-length, number_none, push_said}
use Rattle.std.proofs.Common.{refl}
use borrow.Author.Rules.{rules}
use Rattle.capi_batches.proofs.pw_push_batch.Goals as goal

pub keep-requires : goal.keep-requires
keep-requires c = search (decoded-length, rules)

pub returns-in-Ok : goal.returns-in-Ok
returns-in-Ok c =
    push_said c.args.state.now c.args.slots.now c.args.pool.now c.args.books.now c.in-Ok.ensures refl _
    c.push_batch-step.ensures c.keep.ensures

pub returns-in-Err : goal.returns-in-Err
returns-in-Err c = search (number_none, rules)
