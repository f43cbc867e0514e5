-- `whole::copy_whole` meets its contract.
use borrow.Author.Rules.{rules}
use Rattle.whole.specs.WholeLaws.{columned_record, columned_rows, columned_list, columned_done}
use Rattle.whole.proofs.copy_whole.Goals as goal

pub record_at-r-requires : goal.record_at-r-requires
record_at-r-requires c = search (columned_record, rules)

pub lay_rows-requires : goal.lay_rows-requires
lay_rows-requires c = columned_rows c.requires c.record_at-r.ensures

pub append_list-requires : goal.append_list-requires
append_list-requires c = columned_list c.requires c.record_at-r.ensures c.lay_rows.ensures

pub returns : goal.returns
returns c = search (columned_done, rules)
