-- A batch of two columns, one with a bitmap that begins within a byte: which rows are null, and the bytes of the others.
use Rattle.std.specs.Prelude.{ℕ, ◌<◌, ◌≡◌, refl, Bool, true, false, ◌&&◌, List, [], ◌∷◌, ◌++◌, map, T, length, get_or, drop}
use Rattle.std.specs.Prelude.{Option, None, Some}
use Rattle.search.specs.Cases.{and_left, and_right}
use Rattle.search.specs.Table.{at_entry, same, same→eq}
use Rattle.blocks.specs.declared.BufferSource.{BufferSource}
use Rattle.rules.specs.Batch.{record_of, has_bitmap, listed_number, list_of, bytes_listed, listed_bytes, value_place, row_view, bit_of, row_bit, sum_to, ideal, actual, way_of, way}
use Rattle.rules.specs.Checks.{is_ruled, keeps_rules, in_body, bitmap_need, lies_within, lies_in_body, held_all, all_held, valid_row, bad_row, column_fault, batch_fault}
use Rattle.rules.specs.Ranges.{in_bounds, fits_set_up, has_open, column_in_range, list_in_range, slot_in_range, state_in_range, tested as tested'rules}
use Rattle.rules.specs.Steps.{for_each, each, counting, listing, queueing}
use Rattle.rules.specs.Copies.{views_put, long_to, bytes_carried, starts_fit}
use Rattle.rules.specs.Views.{bits_laid, values_laid, bits_copied, values_copied, open_number, open_filled, open_rest, closed, block_opened, source_place, views_compacted, long_before, walked, part_compacted, list_attached, views_raised, part_attached, column_copied, part_copied}
use Rattle.rules.specs.Push.{all_closed, finished, column_whole, columns_whole, queued_whole, part_taken, if_full, full_parts, in_parts, cut_up, stepped, pushed}
use Rattle.rules.specs.Calls.{Answered, columns_for, new_state, set_up_call, push_call}
use Rattle.state.specs.World.{column_of}
use Rattle.state.specs.Layout.{width_of, is_views, values_bytes, bitmap_bytes, list_bytes, columns_bytes, slot_bytes, values_place, bitmap_place, list_place, cell_place, slots_length, books_length, rows_in, list_length, next_slot, slot_before, queued_slot}
use Rattle.state.specs.Rows.{up_to, listed_at, buffer_at, cell_of, slot_cell, slot_row, slot_rows, queued_batches, buffered_rows}
use Rattle.blocks.specs.Block.{fresh, doubled, enough, doublings, grown, kept, asked}
use Rattle.books.specs.Entry.{used_of, entry_of, with_entry, is_free, is_free_at, share_byte, occupies}
use Rattle.books.specs.Search.{lowest_free, clear_at, lowest_gap}
use Rattle.listings.specs.Listing.{with_used, taken, one_more, with_listings, listed_one, over_list}
use Rattle.sound.specs.Sound.{filled_bytes}
use Rattle.sound.specs.Change.{with_length}
use Rattle.room.specs.Room.{chosen, is_zero, block_room, opened_as, opened}
use Rattle.pool.specs.Register.{is_held}
use Rattle.pool.specs.Read.{fits_in, in_range}
use Rattle.pool.specs.Carry.{carried}
use Rattle.tallies.specs.Tally.{tally_place, tally_of, with_tally}
use Rattle.views.specs.View.{view_of, with_view, inline_bytes, zero_from, is_padded, in_buffer, is_valid, shows, long_length, repointed, raised_by}
use Rattle.bits.specs.Bits.{bit_in, bit_at, bits_from, byte_with, with_bit, appended}
use Rattle.kinds.specs.Kind.{kind_of, width_at, is_view}
use Rattle.words.specs.Word.{word_of, word32, with_word32}
use Rattle.words.specs.Run.{read, put, lay}
use Rattle.search.specs.First.{first_from}
use Rattle.search.specs.Every.{every}
use Rattle.worked.specs.Scene.{word_bytes, words_bytes, fresh as fresh', numbers, numbered, court, pushes, bytes_of_cell, bytes_of_row, bytes_of_rows, view_court, sample, holding, filled_block, view_words, viewed, left, twice, squeezed, last_block, mixed, behind}
use Rattle.rules.specs.Batch.{Batch}
use Rattle.state.specs.World.{World}
use Rattle.state.specs.Rows.{Cell, null, value, Row}

-- a null cell as 256, which no byte is
unfoldable pub marks_of_cell : Cell → List ℕ
marks_of_cell null = 256 ∷ []
marks_of_cell (value bs) = bs

-- the cells of a row, and the rows, one behind another
unfoldable pub marks_of_row : Row → List ℕ
marks_of_row [] = []
marks_of_row (c ∷ cs) = marks_of_cell c ++ marks_of_row cs

unfoldable pub marks_of_rows : List Row → List ℕ
marks_of_rows [] = []
marks_of_rows (r ∷ rs) = marks_of_row r ++ marks_of_rows rs

-- UInt8 and Int16, T 4
unfoldable pub null_court : World
null_court = fresh' (record { target = 4; rows = 4; queue = 1; kinds = 5 ∷ 2 ∷ []; lists = 1; numbers = 1; pool = 0 })

-- 3 rows: 10, 20, 30 with bits 6, 7, 8 from byte 3 on: 1, 0, 1; and 258, 772, 1286 with no bitmap
unfoldable pub nulled : Batch
nulled =
    record {
      rows = 3;
      records = words_bytes (5 ∷ 0 ∷ 3 ∷ 6 ∷ 0 ∷ 0 ∷ 0 ∷ 0 ∷ 2 ∷ 5 ∷ 4294967295 ∷ 0 ∷ 0 ∷ 0 ∷ 0 ∷ 0 ∷ []);
      body = 10 ∷ 20 ∷ 30 ∷ 64 ∷ 1 ∷ 2 ∷ 1 ∷ 4 ∷ 3 ∷ 6 ∷ 5 ∷ [];
    }

pub null_example : T (same (marks_of_rows (buffered_rows (push_call null_court nulled).world)) (10 ∷ 2 ∷ 1 ∷ 256 ∷ 4 ∷ 3 ∷ 30 ∷ 6 ∷ 5 ∷ []))
unfolding record_of has_bitmap listed_number list_of bytes_listed listed_bytes value_place row_view bit_of row_bit sum_to ideal actual way_of way is_ruled keeps_rules in_body bitmap_need lies_within lies_in_body held_all all_held valid_row bad_row column_fault batch_fault in_bounds fits_set_up has_open column_in_range list_in_range slot_in_range state_in_range tested'rules for_each each counting listing queueing bits_laid values_laid bits_copied values_copied open_number open_filled open_rest closed block_opened source_place views_put long_to bytes_carried starts_fit views_compacted long_before walked part_compacted list_attached views_raised part_attached column_copied part_copied all_closed finished column_whole columns_whole queued_whole part_taken if_full full_parts in_parts cut_up stepped pushed columns_for new_state set_up_call push_call column_of width_of is_views values_bytes bitmap_bytes list_bytes columns_bytes slot_bytes values_place bitmap_place list_place cell_place slots_length books_length rows_in list_length next_slot slot_before queued_slot up_to listed_at buffer_at cell_of slot_cell slot_row slot_rows queued_batches buffered_rows doubled enough doublings grown kept asked used_of entry_of with_entry is_free is_free_at share_byte occupies lowest_free clear_at lowest_gap with_used taken one_more with_listings listed_one over_list filled_bytes with_length chosen is_zero block_room opened_as opened is_held fits_in in_range carried tally_place tally_of with_tally view_of with_view inline_bytes zero_from is_padded in_buffer is_valid shows long_length repointed raised_by bit_in bit_at bits_from byte_with with_bit appended kind_of width_at is_view word_of word32 with_word32 read put lay first_from every word_bytes words_bytes fresh' numbers numbered court pushes bytes_of_cell bytes_of_row bytes_of_rows view_court sample holding filled_block view_words viewed left twice squeezed last_block mixed behind nulled marks_of_rows marks_of_row marks_of_cell null_court
null_example = tt
