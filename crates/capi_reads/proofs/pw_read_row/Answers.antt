-- `capi_reads::pw_read_row` meets its contract.
use Rattle.capi.specs.ApiLaws.{row_told, row_one}
use borrow.Author.Rules.{rules}
use Rattle.capi_reads.proofs.pw_read_row.Goals as goal

pub returns-then-out-eq20 : goal.returns-then-out-eq20
returns-then-out-eq20 c = search (row_told, rules)

pub returns-else-out-eq20 : goal.returns-else-out-eq20
returns-else-out-eq20 c = search (row_one, rules)
