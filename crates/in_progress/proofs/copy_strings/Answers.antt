-- `in_progress::copy_strings` meets its contract.
use native.Mathlib.Omega.{arith}
use borrow.Author.Rules.{rules}
use Rattle.in_progress.specs.StringLaws.{strings_entry, strings_spanned, strings_carriable, strings_done}
use Rattle.in_progress.specs.AskLaws.{part_few, part_slot, part_books, part_place, part_at}
use Rattle.in_progress.proofs.copy_strings.Goals as goal

pub entry_at-block-requires : goal.entry_at-block-requires
entry_at-block-requires c = search (strings_entry, rules)

pub list_length-index-requires : goal.list_length-index-requires
list_length-index-requires c = (search (part_few, rules), search (part_slot, rules), search rules, search (part_books, rules))

pub overflow_add-j-2 : goal.overflow_add-j-2
overflow_add-j-2 c = omega (arith, part_place c.requires.0.part.part, part_at c.requires.0.part.part)

pub append_views_and_copy_strings_inner-filled-requires : goal.append_views_and_copy_strings_inner-filled-requires
append_views_and_copy_strings_inner-filled-requires c = (strings_spanned _ _ _ _ _ _ _ _ _ _ c.requires.0 c.requires.1, strings_carriable _ _ _ _ _ _ _ _ _ _ c.requires.0 c.requires.1 c.entry_at-block.ensures)

pub put_length-requires : goal.put_length-requires
put_length-requires c = strings_entry _ _ _ _ _ _ _ _ _ _ c.requires.0 c.requires.1

pub returns : goal.returns
returns c = strings_done _ _ _ _ _ _ _ _ _ _ c.requires.0 c.requires.1 c.entry_at-block.ensures c.list_length-index.ensures c.append_views_and_copy_strings_inner-filled.ensures.0 c.append_views_and_copy_strings_inner-filled.ensures.1 c.append_views_and_copy_strings_inner-filled.ensures.2 c.put_length.ensures
