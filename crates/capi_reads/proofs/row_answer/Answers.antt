-- `capi_reads::row_answer` meets its contract.
use Rattle.capi.specs.ApiLaws.{row_none, row_is}
use Rattle.std.proofs.Common.{refl}
use borrow.Author.Rules.{rules}
use Rattle.capi_reads.proofs.row_answer.Goals as goal

pub returns-in-Ok : goal.returns-in-Ok
returns-in-Ok c = row_is c.args.state.now c.args.slots.now c.args.pool.now c.args.books.now c.in-Ok.ensures _ _ refl c.read_row.ensures

pub returns-in-Err : goal.returns-in-Err
returns-in-Err c = search (row_none, rules)
