-- The worked examples of 01's "Both sides of each edge": one table, one computed test, and the rule at each entry.
use Rattle.std.specs.Prelude.{ℕ, ◌<◌, ◌≡◌, refl, Bool, true, false, ◌&&◌, List, [], ◌∷◌, ◌++◌, map, T, eqb, length, get_or, drop}
use Rattle.std.proofs.Common.{ap, eqb→eq}
use Rattle.std.specs.Prelude.{Option, None, Some}
use Rattle.search.specs.Cases.{and_left, and_right}
use Rattle.search.specs.Table.{at_entry, same, same→eq}
use Rattle.blocks.specs.declared.BufferSource.{BufferSource}
use Rattle.rules.specs.Batch.{record_of, has_bitmap, listed_number, list_of, bytes_listed, listed_bytes, value_place, row_view, bit_of, row_bit, sum_to, ideal, actual, way_of, way}
use Rattle.rules.specs.Checks.{is_ruled, keeps_rules, in_body, bitmap_need, lies_within, lies_in_body, held_all, all_held, valid_row, bad_row, column_fault, batch_fault}
use Rattle.rules.specs.Ranges.{in_bounds, fits_set_up, has_open, column_in_range, list_in_range, slot_in_range, state_in_range, tested as tested'rules}
use Rattle.rules.specs.Steps.{for_each, each, counting, listing, queueing}
use Rattle.rules.specs.Copies.{views_put, long_to, bytes_carried, starts_fit}
use Rattle.rules.specs.Views.{bits_laid, values_laid, bits_copied, values_copied, open_number, open_filled, open_rest, closed, block_opened, source_place, views_compacted, long_before, walked, part_compacted, list_attached, views_raised, part_attached, column_copied, part_copied}
use Rattle.rules.specs.Push.{all_closed, finished, column_whole, columns_whole, queued_whole, part_taken, if_full, full_parts, in_parts, cut_up, stepped, pushed}
use Rattle.rules.specs.Calls.{Answered, columns_for, new_state, set_up_call, push_call}
use Rattle.state.specs.World.{column_of}
use Rattle.state.specs.Layout.{width_of, is_views, values_bytes, bitmap_bytes, list_bytes, columns_bytes, slot_bytes, values_place, bitmap_place, list_place, cell_place, slots_length, books_length, rows_in, list_length, next_slot, slot_before, queued_slot}
use Rattle.state.specs.Rows.{up_to, listed_at, buffer_at, cell_of, slot_cell, slot_row, slot_rows, queued_batches, buffered_rows}
use Rattle.blocks.specs.Block.{fresh, doubled, enough, doublings, grown, kept, asked}
use Rattle.books.specs.Entry.{used_of, entry_of, with_entry, is_free, is_free_at, share_byte, occupies}
use Rattle.books.specs.Search.{lowest_free, clear_at, lowest_gap}
use Rattle.listings.specs.Listing.{with_used, taken, one_more, with_listings, listed_one, over_list}
use Rattle.sound.specs.Sound.{filled_bytes}
use Rattle.sound.specs.Change.{with_length}
use Rattle.room.specs.Room.{chosen, is_zero, block_room, opened_as, opened}
use Rattle.pool.specs.Register.{is_held}
use Rattle.pool.specs.Read.{fits_in, in_range}
use Rattle.pool.specs.Carry.{carried}
use Rattle.tallies.specs.Tally.{tally_place, tally_of, with_tally}
use Rattle.views.specs.View.{view_of, with_view, inline_bytes, zero_from, is_padded, in_buffer, is_valid, shows, long_length, repointed, raised_by}
use Rattle.bits.specs.Bits.{bit_in, bit_at, bits_from, byte_with, with_bit, appended}
use Rattle.kinds.specs.Kind.{kind_of, width_at, is_view}
use Rattle.words.specs.Word.{word_of, word32, with_word32}
use Rattle.words.specs.Run.{read, put, lay}
use Rattle.search.specs.First.{first_from}
use Rattle.search.specs.Every.{every}
use Rattle.worked.specs.Scene.{word_bytes, words_bytes, fresh as fresh', numbers, numbered, court, pushes, bytes_of_cell, bytes_of_row, bytes_of_rows, view_court, sample, holding, filled_block, view_words, viewed, Extent, extent, Left, left, twice, squeezed, zero_words, five_times, less_than_ideal, last_block, mixed, behind}

-- one row of the table
pub data Case : Type 0 where
  -- what is asked of a fresh block size, ask after ask, and the answers
  asks : List ℕ → List ℕ → Case
  -- target, limit, the rows of each push, numbered through from 0; the rows of each queued batch, and those buffered
  cuts : ℕ → Option ℕ → List ℕ → List (List ℕ) → List ℕ → Case
  -- a push of views; what it leaves, and the bytes that the buffered rows show
  views : Answered → Left → List ℕ → Case
  -- a part of a push of views, and what it leaves
  part : Answered → Left → Case

-- the answers of a source to ask after ask
unfoldable pub answers : BufferSource → List ℕ → List ℕ
answers source [] = []
answers source (m ∷ ms) =
    (asked source (record { 0 = m })).size.0 ∷ answers (asked source (record { 0 = m })).source ms

-- what a row says of the definitions
unfoldable pub Meant : Case → Type 0
Meant (asks ms as') = answers fresh ms ≡ as'
Meant (cuts t l ns qs bs) =
    (map bytes_of_rows (queued_batches (pushes (court t l) 0 ns)) ≡ qs) × (bytes_of_rows (buffered_rows (pushes (court t l) 0 ns)) ≡ bs)
Meant (views a l bs) = (left a ≡ l) × (bytes_of_rows (buffered_rows a.world) ≡ bs)
Meant (part a l) = left a ≡ l

-- the test of a row that is computed
abbrev pub same_all : List (List ℕ) → List (List ℕ) → Bool
same_all [] [] = true
same_all [] (y ∷ ys) = false
same_all (x ∷ xs) [] = false
same_all (x ∷ xs) (y ∷ ys) = same x y && same_all xs ys

same_all→eq : (xs ys : List (List ℕ)) → T (same_all xs ys) → xs ≡ ys
same_all→eq [] [] t = refl
same_all→eq [] (y ∷ ys) t = absurd t
same_all→eq (x ∷ xs) [] t = absurd t
same_all→eq (x ∷ xs) (y ∷ ys) t =
    let p : x ≡ y = same→eq x y (and_left (same x y) (same_all xs ys) t) in
    let q : xs ≡ ys = same_all→eq xs ys (and_right (same x y) (same_all xs ys) t) in
    cc

-- and of what a push leaves: number by number
abbrev same_extent : Extent → Extent → Bool
same_extent x y = same (x.start ∷ x.capacity ∷ x.filled ∷ []) (y.start ∷ y.capacity ∷ y.filled ∷ [])

same_extent→eq : (x y : Extent) → T (same_extent x y) → x ≡ y
same_extent→eq x y t =
    let e = same→eq (x.start ∷ x.capacity ∷ x.filled ∷ []) (y.start ∷ y.capacity ∷ y.filled ∷ []) t in
    let p : x.start ≡ y.start = cc in
    let q : x.capacity ≡ y.capacity = cc in
    let r : x.filled ≡ y.filled = cc in
    go p q r
  where
    go : {a b c a' b' c' : ℕ} → a ≡ a' → b ≡ b' → c ≡ c' → extent a b c ≡ extent a' b' c'
    go p q r = rw (p, q, r)

abbrev same_extents : List Extent → List Extent → Bool
same_extents [] [] = true
same_extents [] (y ∷ ys) = false
same_extents (x ∷ xs) [] = false
same_extents (x ∷ xs) (y ∷ ys) = same_extent x y && same_extents xs ys

same_extents→eq : (xs ys : List Extent) → T (same_extents xs ys) → xs ≡ ys
same_extents→eq [] [] t = refl
same_extents→eq [] (y ∷ ys) t = absurd t
same_extents→eq (x ∷ xs) [] t = absurd t
same_extents→eq (x ∷ xs) (y ∷ ys) t =
    let p : x ≡ y = same_extent→eq x y (and_left (same_extent x y) (same_extents xs ys) t) in
    let q : xs ≡ ys = same_extents→eq xs ys (and_right (same_extent x y) (same_extents xs ys) t) in
    cc

abbrev same_block : Option ℕ → Option ℕ → Bool
same_block None None = true
same_block None (Some n) = false
same_block (Some m) None = false
same_block (Some m) (Some n) = eqb m n

same_block→eq : (m n : Option ℕ) → T (same_block m n) → m ≡ n
same_block→eq None None t = refl
same_block→eq None (Some n) t = absurd t
same_block→eq (Some m) None t = absurd t
same_block→eq (Some m) (Some n) t = ap Some (eqb→eq m n t)

abbrev same_numbers : Left → Left → Bool
same_numbers l m = same (l.answer ∷ l.kept ∷ l.listed ∷ []) (m.answer ∷ m.kept ∷ m.listed ∷ [])

abbrev same_left : Left → Left → Bool
same_left l m = same_numbers l m && (same_block l.block m.block && same_extents l.buffers m.buffers)

same_left→eq : (l m : Left) → T (same_left l m) → l ≡ m
same_left→eq l m t =
    let b = and_right (same_numbers l m) (same_block l.block m.block && same_extents l.buffers m.buffers) t in
    let e = same→eq (l.answer ∷ l.kept ∷ l.listed ∷ []) (m.answer ∷ m.kept ∷ m.listed ∷ []) (and_left (same_numbers l m) (same_block l.block m.block && same_extents l.buffers m.buffers) t) in
    let p : l.answer ≡ m.answer = cc in
    let q : l.kept ≡ m.kept = cc in
    let r : l.listed ≡ m.listed = cc in
    go p q r (same_block→eq l.block m.block (and_left (same_block l.block m.block) (same_extents l.buffers m.buffers) b))
    (same_extents→eq l.buffers m.buffers (and_right (same_block l.block m.block) (same_extents l.buffers m.buffers) b))
  where
    go : {a k n a' k' n' : ℕ} {b b' : Option ℕ} {x x' : List Extent} → a ≡ a' → k ≡ k' → n ≡ n' → b ≡ b' → x ≡ x' → ◌≡◌ {A = Left} (record { answer = a; kept = k; listed = n; block = b; buffers = x }) (record { answer = a'; kept = k'; listed = n'; block = b'; buffers = x' })
    go p q r s t = rw (p, q, r, s, t)

unfoldable pub right : ℕ → Case → Bool
right i (asks ms as') = same (answers fresh ms) as'
right i (cuts t l ns qs bs) =
    same_all (map bytes_of_rows (queued_batches (pushes (court t l) 0 ns))) qs
    && same (bytes_of_rows (buffered_rows (pushes (court t l) 0 ns))) bs
right i (views a l bs) = same_left (left a) l && same (bytes_of_rows (buffered_rows a.world)) bs
right i (part a l) = same_left (left a) l

right→meant : (i : ℕ) (c : Case) → T (right i c) → Meant c
unfolding right Meant
right→meant i (asks ms as') t = same→eq (answers fresh ms) as' t
right→meant i (cuts t l ns qs bs) u = search (same_all→eq, same→eq, and_left, and_right)
right→meant i (views a l bs) u =
    (same_left→eq (left a) l (and_left (same_left (left a) l) (same (bytes_of_rows (buffered_rows a.world)) bs) u), same→eq (bytes_of_rows (buffered_rows a.world)) bs (and_right (same_left (left a) l) (same (bytes_of_rows (buffered_rows a.world)) bs) u))
right→meant i (part a l) u = same_left→eq (left a) l u

-- 01, "Both sides of each edge": a row for each line marked W. Then of "Tempting and wrong": the empty last block, the block size after a refusal,
-- the text of inline views; and "open one for ideal minus bytes copied"
abbrev pub table : List Case
table =
    -- W1 "1 gives 8,192"
    asks (1 ∷ []) (8_192 ∷ [])
    -- W2 "8,192 gives 8,192"
    ∷ asks (8_192 ∷ []) (8_192 ∷ [])
    -- W3 "8,193 gives 16,384"
    ∷ asks (8_193 ∷ []) (16_384 ∷ [])
    -- W4 "16,384 gives 32,768"
    ∷ asks (16_384 ∷ []) (32_768 ∷ [])
    -- W5 "2,000,000 gives 2,000,000, then 1 gives 1,048,576; 1,048,576 gives 1,048,576"
    ∷ asks (2_000_000 ∷ 1 ∷ []) (2_000_000 ∷ 1_048_576 ∷ [])
    ∷ asks (1_048_576 ∷ []) (1_048_576 ∷ [])
    -- W6 "T 4, pushes 3 and 3: queued 4, buffered 2"
    ∷ cuts 4 None (3 ∷ 3 ∷ []) ((0 ∷ 1 ∷ 2 ∷ 3 ∷ []) ∷ []) (4 ∷ 5 ∷ [])
    -- W7 "T 4, push 8: queued 4, 4, buffered 0"
    ∷ cuts 4 None (8 ∷ []) ((0 ∷ 1 ∷ 2 ∷ 3 ∷ []) ∷ (4 ∷ 5 ∷ 6 ∷ 7 ∷ []) ∷ []) []
    -- W8 "T 8, limit 2, pushes 2, 3, 3: queued 5, 3"
    ∷ cuts 8 (Some 2) (2 ∷ 3 ∷ 3 ∷ []) ((0 ∷ 1 ∷ 2 ∷ 3 ∷ 4 ∷ []) ∷ (5 ∷ 6 ∷ 7 ∷ []) ∷ []) []
    -- W9 "T 4, limit 5, push 6: queued 6; push 5 instead: queued 4, buffered 1"
    ∷ cuts 4 (Some 5) (6 ∷ []) ((0 ∷ 1 ∷ 2 ∷ 3 ∷ 4 ∷ 5 ∷ []) ∷ []) []
    ∷ cuts 4 (Some 5) (5 ∷ []) ((0 ∷ 1 ∷ 2 ∷ 3 ∷ []) ∷ []) (4 ∷ [])
    -- W10 "ideal 100: actual 200 attaches, 201 compacts"
    ∷ views (twice 200 8_392)
    (record { answer = 0; kept = 4_096; listed = 1; block = None; buffers = extent 0 200 100 ∷ [] })
    (up_to 100 sample)
    ∷ views (twice 201 8_393)
    (record { answer = 0; kept = 8_192; listed = 0; block = Some 1; buffers = extent 0 201 100 ∷ extent 201 8_192 100 ∷ [] })
    (up_to 100 sample)
    -- W11 "block ends at 8,152, the new one is 16,384 with 70 bytes"
    ∷ views squeezed
    (record { answer = 0; kept = 16_384; listed = 1; block = Some 2; buffers = extent 0 8_192 8_152 ∷ extent 8_192 300 130 ∷ extent 8_492 16_384 70 ∷ [] })
    (up_to 130 sample)
    -- "dropping the empty last block"
    ∷ views last_block
    (record { answer = 0; kept = 16_384; listed = 2; block = Some 3; buffers = extent 0 4_096 4_089 ∷ extent 4_096 60 26 ∷ extent 4_156 8_192 0 ∷ extent 12_348 16_384 13 ∷ [] })
    (drop 13 (up_to 26 sample))
    -- "rolling rows back after a refusal but not the block size": W10's pool, one byte short
    ∷ views (twice 201 8_392)
    (record { answer = 12; kept = 4_096; listed = 0; block = None; buffers = extent 0 201 100 ∷ [] })
    []
    -- "raising the index of inline views, which hold text there"
    ∷ views behind
    (record { answer = 0; kept = 4_096; listed = 2; block = None; buffers = extent 0 40 40 ∷ extent 40 40 40 ∷ [] })
    (up_to 20 sample ++ (97 ∷ 98 ∷ 99 ∷ 100 ∷ 101 ∷ 102 ∷ 103 ∷ 104 ∷ up_to 20 sample))
    -- "open one for ideal minus bytes copied": 16,340 of 16,400 are left, so 16,384 and not 32,768
    ∷ part less_than_ideal
    (record { answer = 0; kept = 16_384; listed = 1; block = Some 2; buffers = extent 0 8_192 8_152 ∷ extent 8_192 8_192 8_192 ∷ extent 16_384 16_384 50 ∷ [] })
    ∷ []

-- every row of the table holds of the definitions
pub worked : (d : Case) (k : ℕ) → k < length table → Meant (get_or table k d)
unfolding right answers record_of has_bitmap listed_number list_of bytes_listed listed_bytes value_place row_view bit_of row_bit sum_to ideal actual way_of way is_ruled keeps_rules in_body bitmap_need lies_within lies_in_body held_all all_held valid_row bad_row column_fault batch_fault in_bounds fits_set_up has_open column_in_range list_in_range slot_in_range state_in_range tested'rules for_each each counting listing queueing bits_laid values_laid bits_copied values_copied open_number open_filled open_rest closed block_opened source_place views_put long_to bytes_carried starts_fit views_compacted long_before walked part_compacted list_attached views_raised part_attached column_copied part_copied all_closed finished column_whole columns_whole queued_whole part_taken if_full full_parts in_parts cut_up stepped pushed columns_for new_state set_up_call push_call column_of width_of is_views values_bytes bitmap_bytes list_bytes columns_bytes slot_bytes values_place bitmap_place list_place cell_place slots_length books_length rows_in list_length next_slot slot_before queued_slot up_to listed_at buffer_at cell_of slot_cell slot_row slot_rows queued_batches buffered_rows doubled enough doublings grown kept asked used_of entry_of with_entry is_free is_free_at share_byte occupies lowest_free clear_at lowest_gap with_used taken one_more with_listings listed_one over_list filled_bytes with_length chosen is_zero block_room opened_as opened is_held fits_in in_range carried tally_place tally_of with_tally view_of with_view inline_bytes zero_from is_padded in_buffer is_valid shows long_length repointed raised_by bit_in bit_at bits_from byte_with with_bit appended kind_of width_at is_view word_of word32 with_word32 read put lay first_from every word_bytes words_bytes fresh' numbers numbered court pushes bytes_of_cell bytes_of_row bytes_of_rows view_court sample holding filled_block view_words viewed left twice squeezed zero_words five_times less_than_ideal last_block mixed behind
worked d k h = right→meant k (get_or table k d) (at_entry right table d tt k h)
