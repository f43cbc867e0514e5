-- Views copied into the open block with their bytes: each shows there what it showed, and no other byte of a buffer changes.
use Rattle.std.specs.Prelude.{ℕ, ◌+◌, ◌≤◌, ◌<◌, ◌^◌, ◌≡◌, Bool, false, List, [], length, leb}
use Rattle.std.proofs.Math.Path.{refl}
use Rattle.std.proofs.Common.{sym, ◌∙◌, ap, true≢false, arith}
use Rattle.std.proofs.Math.Bool.{true, cond}
use Rattle.std.proofs.Math.Decide.{dec_lt, dec_le, ℕ_discrete}
use borrow.Author.Tests.{le-leb}
use Rattle.search.specs.Cases.{by_cond}
use Rattle.search.specs.Every.{every_is}
use Rattle.words.specs.Run.{read}
use Rattle.words.specs.RunLaws.{length-read, read-read}
use Rattle.words.specs.Frame.{Framed, Apart, under, over}
use Rattle.words.specs.FrameLaws.{framed_wider, agrees_read}
use Rattle.books.specs.declared.Entry.{Entry}
use Rattle.books.specs.Entry.{used_of, entry_of, is_free}
use Rattle.sound.specs.Sound.{filled_bytes}
use Rattle.sound.specs.Change.{Changed, length_as, with_length}
use Rattle.sound.specs.Live.{length-free}
use Rattle.sound.proofs.Filled.{occupied_once}
use Rattle.sound.proofs.Kept.{length_sound}
use Rattle.sound.proofs.Others.{length_filled_same, grown-filled, grown_filled_same}
use Rattle.views.specs.declared.View.{View}
use Rattle.views.specs.View.{is_inline, is_valid, long_length, repointed}
use Rattle.views.specs.StoreLaws.{ViewWords, view-fits}
use Rattle.views.specs.ShowLaws.{keeps_repointed, repoint_inline, repoint-long, long-says, long-some, long-none}
use Rattle.state.specs.World.{World, column_of}
use Rattle.state.specs.Layout.{is_views, list_length}
use Rattle.state.specs.Rows.{buffer_at}
use Rattle.rules.specs.Batch.{Batch, record_of, listed_number, bytes_listed, listed_bytes, row_view}
use Rattle.rules.specs.Copies.{long_to, bytes_carried, starts_fit}
use Rattle.rules.specs.CopyLaws.{length-bytes_carried}
use Rattle.rules.specs.Steps.{ok, in_slots}
use Rattle.rules.specs.Views.{span, has_block, block_number, is_open, open_number, open_filled, open_rest, source_place, views_from, long_before, views_compacted}
use Rattle.rules.specs.Held.{Among, Holds, held}
use Rattle.rules.specs.Stays.{beside_state}
use Rattle.push_safety.specs.TestedLaws.{bounds_say}
use Rattle.push_safety.specs.BooksGo.{length_at, length_go}
use Rattle.push_safety.specs.Firm.{run_firm, within_goes}
use Rattle.push_safety.specs.BlockGoes.{open_used, open_room, open_number_lem, open_capacity, open_inside}
use Rattle.push_safety.specs.ReadLaws.{held_used}
use Rattle.invariant.specs.Holding.{reach, HasOpen, Unheld, Holding, Begins, Stands}
use Rattle.invariant.proofs.BeginLaws.{begins_is}
use Rattle.invariant.proofs.Rests.{buffer_number_lem, reach_open, number_open}
use Rattle.invariant.proofs.PoolLaws.{grown_stays, unheld_on}
use Rattle.invariant.specs.Steps.Moves.{Moves, BitsStill, ReadableBatch, Laid, Extends}
use Rattle.invariant.proofs.Steps.MoveLaws.{remains_moves, live_stands, moves_trans, still_trans, laid_on}
use Rattle.invariant.proofs.SlotLaws.{slots_reach, slots_length_lem, slots_open}
use Rattle.invariant.proofs.Steps.Stored.{Stored, stored_extends}
use Rattle.invariant.specs.PutLaws.{long_grows, bytes_framed, bytes-agree}
use Rattle.invariant.proofs.Steps.RaiseMoves.{put, put_moves, put_still, put_view}
use Rattle.invariant.proofs.Steps.EntryMoves.{in_memory, memory-reach, memory-number, memory_still, memory_remains}
use Rattle.std.specs.Prelude.{Option, Some, None}
use Rattle.counts.specs.declared.BufferNumber.{BufferNumber}

repointed-fits : (index offset : ℕ) (v : View) → ViewWords v → index < 2 ^ 32 → (12 < v.length → offset < 2 ^ 32) → ViewWords (repointed index offset v)
repointed-fits index offset v f i g = go (dec_lt 12 v.length)
  where
    go : Dec (12 < v.length) → ViewWords (repointed index offset v)
    go (yes d) =
        rw (← (repoint-long index offset v d))
        (record { length-fits = f.length-fits; prefix_fits = f.prefix_fits; index-fits = i; offset_fits = g d })
    go (no d) = rw (← (repoint_inline index offset v (omega arith))) f

-- the filled bytes of a buffer that lies in the pool are as many as its length
bytes-length : (s pool : List ℕ) (k : ℕ) → (entry_of s k).start + (entry_of s k).length.0 ≤ length pool → length (filled_bytes s pool k) ≡ (entry_of s k).length.0
unfolding filled_bytes
bytes-length s pool k h = length-read (entry_of s k).start (entry_of s k).length.0 pool h

module _ {w : World} {ext : ℕ → ℕ} (b : Batch) (c from n : ℕ) (a : Holding w ext) (x : ReadableBatch w b) (q : c < w.state.columns) (y : is_views w.state c ≡ true) (o : is_open w c ≡ true) (h : ext c + n ≤ w.state.rows.0) (m : from + n ≤ b.rows) (r : long_before w b c from n ≤ open_rest w c) where
  abbrev place : ℕ
  place = w.state.place

  abbrev index : ℕ
  index = list_length w place c

  abbrev k : ℕ
  k = open_number w c

  abbrev filled : ℕ
  filled = open_filled w c

  abbrev start : ℕ
  start = (entry_of w.books k).start

  abbrev f : ℕ → View
  f = views_from w b c from

  abbrev to : ℕ
  to = start + filled

  abbrev total : ℕ
  total = long_to f n

  abbrev repoint : ℕ → View
  repoint i = repointed index (filled + long_to f i) (f i)

  -- room
  total_is : long_before w b c from n ≡ total
  unfolding long_before
  total_is = refl

  capacity : filled + total ≤ (entry_of w.books k).capacity.0
  capacity = omega (arith, open_capacity c a.run q y o, r, total_is)

  in_pool : start + (entry_of w.books k).capacity.0 ≤ w.state.pool.0
  in_pool = omega (arith, open_inside c a.run q y o, open_capacity c a.run q y o)

  few : w.state.pool.0 ≤ 4294967295
  few = (bounds_say w.state a.run.fit.bounds).pool

  ends : to + total ≤ length w.pool
  ends = omega (arith, capacity, in_pool, a.run.fit.pool_is)

  -- a long view of the part
  long_valid : (j : ℕ) → j < n → is_valid (f j) (listed_bytes w b c) (record_of b c).count ≡ true
  long_valid j l = x.valid c (from + j) q y (omega arith)

  fits : (j : ℕ) → j < n → ViewWords (repoint j)
  unfolding row_view
  fits j l =
      repointed-fits index (filled + long_to f j) (f j) (view-fits b.body _ x.bytes)
      (omega (arith, open_room c a.run q y o, (bounds_say w.state a.run.fit.bounds).lists))
      (λ d. omega (arith, long_grows f j n l, capacity, in_pool, few))

  -- no row starts past a word: 8 is never met
  starts : starts_fit f filled n ≡ true
  unfolding starts_fit
  starts =
      every_is (λ i. cond (is_inline (f i)) true (leb (filled + long_to f i) 4294967295)) n (λ i l.
      by_cond (λ (t : Bool). t ≡ true) (is_inline (f i)) (λ e. refl) (λ e.
      le-leb (filled + long_to f i) 4294967295 (omega (arith, long_grows f i n l, capacity, in_pool, few))))

  -- first the views, then their bytes
  abbrev u : World
  u = in_slots w (put b c from n a q y h repoint fits)

  u_moves : Moves w ext u ext
  u_moves = put_moves b c from n a q y h repoint fits

  abbrev pool' : List ℕ
  pool' = bytes_carried f (source_place w b c) w.pool to n

  abbrev books' : List ℕ
  books' = with_length w.books k (filled + total)

  abbrev v : World
  v = in_memory u pool' books'

  compacted_is : views_compacted w b (span c (ext c) from n) ≡ ok v
  unfolding views_compacted long_before
  compacted_is = rw starts

  -- the bytes
  filled_is : filled ≡ (entry_of w.books k).length.0
  unfolding open_filled
  filled_is = refl

  k_used : k < used_of w.books
  k_used = open_used c a.run q y o

  k-below : k < w.state.numbers
  k-below = open_number_lem c a.run q y o

  carried : Framed to (to + total) w.pool pool'
  carried = bytes_framed f (source_place w b c) w.pool to n

  free_part : Framed (start + (entry_of w.books k).length.0) (start + (entry_of w.books k).capacity.0) w.pool pool'
  free_part = framed_wider _ _ carried (omega (arith, filled_is)) (omega (arith, capacity))

  changed : Changed w.books books' w.state.numbers k (length_as (entry_of w.books k) (filled + total))
  changed = length_at k (filled + total) (run_firm a.run).books k_used capacity

  pool_most : w.state.pool.0 ≤ length w.pool
  pool_most = omega (arith, a.run.fit.pool_is)

  bytes_of : filled_bytes books' pool' k ≡ read start (filled + total) pool'
  bytes_of = length_filled_same pool' k a.sound k-below (filled + total) (omega (arith, capacity, in_pool, few))

  length_of : length (filled_bytes books' pool' k) ≡ filled + total
  length_of = ap length bytes_of ∙ length-read start (filled + total) pool' (omega (arith, carried.len, ends))

  stands_here : (j : ℕ) → j < w.state.numbers → is_free (entry_of w.books j) ≡ false → Stands u v j
  stands_here j l e = go (ℕ_discrete j k)
    where
      was : length (filled_bytes w.books w.pool k) ≡ filled
      was = bytes-length w.books w.pool k (omega (arith, capacity, in_pool, pool_most, filled_is)) ∙ sym filled_is

      go : Dec (j ≡ k) → Stands u v j
      go (no d) =
          record {
            live = ap is_free (changed.other j d) ∙ e;
            begins = begins_is (grown-filled w.pool k a.sound k-below (filled + total) (omega (arith, capacity, in_pool, few)) pool_most free_part j l d);
          }
      go (yes d) =
          let z : is_free (entry_of w.books k) ≡ false = rw d at e in
          let g : Begins (filled_bytes w.books w.pool k) (filled_bytes books' pool' k) = record { most = omega (arith, was, length_of); same = rw was (rw (← filled_is) at (grown_filled_same w.pool k a.sound k-below (filled + total) (omega (arith, filled_is)) capacity pool_most free_part)) } in
          rw d
          (record {
            live = ap is_free changed.same ∙ length-free (entry_of w.books k) (filled + total) ∙ z;
            begins = g;
          })

  is_open_lem : HasOpen w.state c k
  unfolding open_number
  is_open_lem = record { column = q; views = y; block = number_of (column_of w.state c).block o }
    where
      number_of : (z : Option BufferNumber) → has_block z ≡ true → z ≡ Some (record { 0 = block_number z })
      number_of (Some n) e = refl
      number_of None e = absurd (true≢false (sym e))

  unheld_here : Unheld w.state books'
  unheld_here = unheld_on a w.state books' (λ d j p. p) (λ j l h z. hold j z (ℕ_discrete j k))
    where
      hold : (j : ℕ) → (entry_of w.books j).hold ≡ 0 → Dec (j ≡ k) → (entry_of books' j).hold ≡ 0
      hold j z (yes d) = rw d (ap (λ (e : Entry). e.hold) changed.same ∙ (rw d at z))
      hold j z (no d) = ap (λ (e : Entry). e.hold) (changed.other j d) ∙ z

  v_moves : Moves u ext v ext
  v_moves =
      remains_moves u_moves.holding
      (within_goes u v refl refl (length-bytes_carried f (source_place w b c) w.pool to n) (length_go k (filled + total) (run_firm a.run).books k_used capacity) changed.framed u_moves.holding.run)
      (beside_state u v refl refl (length-bytes_carried f (source_place w b c) w.pool to n) changed.framed.len)
      (memory_remains u pool' books' changed.framed u_moves.holding (length_sound k u_moves.holding.sound k-below (filled + total) capacity) (live_stands u_moves.holding stands_here) unheld_here)
      (λ z. z)
      stands_here
      (grown_stays u_moves.holding c k (filled + total) is_open_lem pool' books' changed (omega (arith, filled_is)) capacity (framed_wider _ _ carried (omega (arith, filled_is)) (omega arith)))

  all_moves : Moves w ext v ext
  all_moves = moves_trans u_moves v_moves

  all_still : BitsStill w v
  all_still = still_trans u_moves.beside (put_still b c from n a q y h repoint fits) (memory_still u pool' books' changed.framed)

  -- ---- what the new views show

  -- the bytes of a long view lie in a buffer's filled part, which is not where bytes are written
  module _ (j : ℕ) (l : j < n) (d : 12 < (f j).length) where
    abbrev number : ℕ
    number = listed_number b c (f j).index

    below : (f j).index < (record_of b c).count
    below = (long-says (f j) (listed_bytes w b c) (record_of b c).count d (long_valid j l)).below

    number_used : number < used_of w.books
    number_used = held_used w.books number ((x.reads.columns c q).held (f j).index below)

    abbrev source : Entry
    source = entry_of w.books number

    listed_is : listed_bytes w b c (f j).index ≡ read source.start source.length.0 w.pool
    unfolding listed_bytes bytes_listed listed_number filled_bytes
    listed_is = refl

    source_in_lem : source.start + source.length.0 ≤ length w.pool
    source_in_lem = omega (arith, a.run.inside number number_used, a.run.filled number number_used, a.run.fit.pool_is)

    within : (f j).offset + (f j).length ≤ source.length.0
    within =
        omega (
          arith,
          (long-says (f j) (listed_bytes w b c) (record_of b c).count d (long_valid j l)).within,
          ap length listed_is,
          length-read source.start source.length.0 w.pool source_in_lem,
        )

    source-at : source_place w b c (f j) ≡ source.start + (f j).offset
    unfolding source_place
    source-at = refl

    long : long_length (f j) ≡ (f j).length
    long = sym (long-some (f j) d)

    apart : Apart to (to + total) (source_place w b c (f j)) (long_length (f j))
    apart = go (dec_le (source_place w b c (f j) + long_length (f j)) to) (dec_le (to + total) (source_place w b c (f j)))
      where
        number-below : number < w.state.numbers
        number-below = omega (arith, number_used, a.run.used)

        -- a byte in both
        both : (z : ℕ) → source.start ≤ z → z < source.start + source.length.0 → to ≤ z → z < to + total → ⊥
        both z p s t e = same (occupied_once a.sound number k z number-below k-below p (omega (arith, a.run.filled number number_used)) (omega (arith)) (omega (arith, capacity)))
          where
            same : number ≡ k → ⊥
            same i = let g : source.start + source.length.0 ≡ start + (entry_of w.books k).length.0 = rw i in omega (arith, filled_is)

        go : Dec (source_place w b c (f j) + long_length (f j) ≤ to) → Dec (to + total ≤ source_place w b c (f j)) → Apart to (to + total) (source_place w b c (f j)) (long_length (f j))
        go (yes p) s = under p
        go (no p) (yes s) = over s
        go (no p) (no s) = absurd (higher (dec_le to (source_place w b c (f j))))
          where
            higher : Dec (to ≤ source_place w b c (f j)) → ⊥
            higher (yes t) = both (source_place w b c (f j)) (omega (arith, source-at)) (omega (arith, source-at, within)) t (omega arith)
            higher (no t) = both to (omega (arith, source-at)) (omega (arith, source-at, within, long)) (omega arith) (omega (arith, long_grows f j n l, long))

  abbrev to_end : ℕ → ℕ
  to_end j = filled + long_to f j

  -- the open block is where the new views point
  reach_was : reach w place c ≡ index + 1
  reach_was = reach_open w place c y refl o

  reach_is : reach v place c ≡ index + 1
  reach_is = memory-reach u pool' books' changed.framed place c ∙ slots_reach w (put b c from n a q y h repoint fits) place c ∙ reach_was

  block_bytes : buffer_at v place c index ≡ read start (filled + total) pool'
  block_bytes =
      buffer_number_lem v place c index (omega (arith, reach_is))
      ∙ ap (filled_bytes books' pool') (memory-number u pool' books' changed.framed place c index ∙ number_open u place c index (omega (arith, slots_length_lem w (put b c from n a q y h repoint fits) place c)) ∙ slots_open w (put b c from n a q y h repoint fits) c)
      ∙ bytes_of

  stored : (j : ℕ) → j < n → Stored w v b c (from + j) (ext c + j)
  stored j l =
      record {
        shown = λ z.
            rw (put_view b c from n a q y h repoint fits j l)
            (keeps_repointed (f j) (listed_bytes w b c) (record_of b c).count (buffer_at v place c) (reach v place c) index (to_end j) (long_valid j l)
            (λ d. (omega (arith, reach_is), most d, same d)));
        plain = λ z. absurd (true≢false (sym y ∙ z));
      }
    where
      grows : (d : 12 < (f j).length) → long_to f j + (f j).length ≤ total
      grows d = omega (arith, long_grows f j n l, long j l d)

      most : 12 < (f j).length → to_end j + (f j).length ≤ length (buffer_at v place c index)
      most d = omega (arith, grows d, ap length block_bytes, length-read start (filled + total) pool' (omega (arith, carried.len, ends)))

      copied : (d : 12 < (f j).length) → read (start + to_end j) (f j).length pool' ≡ read (source_place w b c (f j)) (f j).length w.pool
      copied d =
          agrees_read (start + to_end j) (source_place w b c (f j)) (f j).length
          (bytes-agree f (source_place w b c) w.pool to n ends (λ i k p. apart i k (some-long (f i) p)) j l (omega (arith, long j l d)))
          (omega arith) (omega (arith, long j l d)) (omega arith)
          (omega (arith, carried.len, ends, grows d))
          (omega (arith, source-at j l d, within j l d, source_in_lem j l d))
        where
          some-long : (t : View) → 0 < long_length t → 12 < t.length
          some-long t p = go (dec_lt 12 t.length)
            where
              go : Dec (12 < t.length) → 12 < t.length
              go (yes d) = d
              go (no d) = absurd (omega (arith, long-none t (omega arith)))

      same : (d : 12 < (f j).length) → read (to_end j) (f j).length (buffer_at v place c index) ≡ read (f j).offset (f j).length (listed_bytes w b c (f j).index)
      same d =
          ap (read (to_end j) (f j).length) block_bytes
          ∙ read-read (to_end j) (f j).length start (filled + total) pool' (omega (arith, grows d)) (omega (arith, carried.len, ends))
          ∙ copied d
          ∙ ap (λ (i : ℕ). read i (f j).length w.pool) (source-at j l d)
          ∙ sym (read-read (f j).offset (f j).length (source j l d).start (source j l d).length.0 w.pool (within j l d) (source_in_lem j l d))
          ∙ ap (read (f j).offset (f j).length) (sym (listed_is j l d))

  compacted_extends : Laid w b c (ext c) from n → Extends w ext b c from n v
  compacted_extends t =
      stored_extends b c from n all_moves q h (laid_on b c (ext c) from n a.run all_moves.beside all_still q h t) stored all_still

-- ---- the step

pub views_compacted_lem : {w : World} {ext : ℕ → ℕ} (b : Batch) (c from n : ℕ) → Holding w ext → ReadableBatch w b → c < w.state.columns → is_views w.state c ≡ true → is_open w c ≡ true → ext c + n ≤ w.state.rows.0 → from + n ≤ b.rows → long_before w b c from n ≤ open_rest w c → Laid w b c (ext c) from n → Holds (Extends w ext b c from n) (Among []) (views_compacted w b (span c (ext c) from n))
views_compacted_lem b c from n a x q y o h m r t =
    rw (compacted_is b c from n a x q y o h m r)
    (held (compacted_extends b c from n a x q y o h m r t))
