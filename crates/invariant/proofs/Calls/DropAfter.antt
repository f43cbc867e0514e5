-- The front batch dropped: the other batches and the rows buffered read as they did.
use Prim.Native.Nat.{ℕ, zero, suc, ◌+◌, ◌*◌, ◌-◌, ◌≤◌, ◌<◌}
use Rattle.std.specs.Prelude.{◌≡◌, ◌≢◌, Bool, true, false, length, eqb}
use Rattle.std.proofs.Math.Path.{refl, sym, ap}
use Rattle.std.proofs.Common.{◌∙◌}
use Rattle.std.proofs.Math.Bool.{cond}
use mathlib.Core.List.{List, ◌∷◌}
use native.Mathlib.Omega.{arith}
use Rattle.std.proofs.Math.Decide.{ℕ_discrete}
use Rattle.words.specs.WordLaws.{Bytes}
use Rattle.words.specs.Word.{word32}
use Rattle.books.specs.declared.Entry.{Entry}
use Rattle.books.specs.Entry.{used_of, entry_of, is_free}
use Rattle.sound.specs.Sound.{Sound}
use Rattle.sound.specs.SoundLaws.{sound_top, sound_recount}
use Rattle.sound.specs.Top.{live_used}
use Rattle.sound.proofs.Others.{filled-same}
use Rattle.sound.proofs.ListKept.{Relisted}
use Rattle.tallies.specs.Tally.{tally_place, tally_of}
use Rattle.tallies.specs.TallyLaws.{framed_tally}
use Rattle.views.specs.View.{view_of, is_valid}
use Rattle.counts.specs.declared.BufferNumber.{BufferNumber}
use Rattle.state.specs.declared.BatchCoalescer.{BatchCoalescer}
use Rattle.state.specs.declared.Column.{Column}
use Rattle.state.specs.World.{World, column_of}
use Rattle.state.specs.Layout.{is_views, tally, cell_place, list_length, rows_in, queued_slot}
use Rattle.state.proofs.SlotLaws.{queued_in, queued_one, queued_place, queued_less}
use Rattle.state.specs.Rows.{Row, up_to, listed_at, buffer_at, front_slot, slot_rows, taken_rows, queued_batches, buffered_rows}
use Rattle.rules.specs.Batch.{sum_to}
use Rattle.rules.specs.Steps.{with_counts, in_state, in_books}
use Rattle.rules.specs.Views.{has_block, block_number, open_number}
use Rattle.rules.specs.Calls.{uncounted, dropped}
use Rattle.rules.specs.Stays.{SameSetUp, same_counts}
use Rattle.rules.specs.SameLaws.{same_views, same_list_place, same_slots_length, same_books_length}
use Rattle.push_safety.specs.Run.{Run}
use Rattle.push_safety.specs.Firm.{run_firm, same_bounds}
use Rattle.push_safety.specs.StepGoes.{tally_room}
use Rattle.invariant.specs.Holding.{reach, number_at, times_in, listings, Unheld, Queued, rows_at, Holding, Between, Stands}
use Rattle.invariant.proofs.BeginLaws.{begins_is}
use Rattle.invariant.proofs.Rests.{Shows, reach_plain, reach_other, reach_open, number_open, rests_shows}
use Rattle.invariant.proofs.CountLaws.{sum_zero, times_same, listings_slot, listed_counted, number-below}
use Rattle.invariant.proofs.AloneLaws.{counts_open, alone_counts}
use Rattle.invariant.proofs.PoolLaws.{relisted_hold, unheld_on}
use Rattle.invariant.proofs.Steps.MoveLaws.{sound_at, rows-filling, rows_other, rows_most, rows_same}
use Rattle.invariant.proofs.Steps.SpareMoves.{SpareCase, no_rows, same_rows, spared_on}
use Rattle.invariant.specs.RowLaws.{rows-read, upTo-first, upTo-ext}
use Rattle.invariant.proofs.Calls.After.{rows_are}
use Rattle.invariant.proofs.Calls.DropLists.{Unlisted, dropping, lists_dropped, lists_unlisted}
use Rattle.invariant.specs.Calls.DropCounts.{Zeroed, uncounted_is, uncounted_zeroed}
use Rattle.std.specs.Prelude.{Some}

-- columns hang on no count
counts_column : (s : BatchCoalescer) (place queued buffered c : ℕ) → column_of (with_counts s place queued buffered) c ≡ column_of s c
unfolding column_of
counts_column s place queued buffered c = refl

open_is : (w : World) (c : ℕ) (k : BufferNumber) → (column_of w.state c).block ≡ Some k → open_number w c ≡ k.0
unfolding open_number
open_is w c k o = ap block_number o

module _ {w : World} (g : Between w) (some : w.state.queued ≢ 0) where
  a : Holding w (λ c. w.state.buffered.0)
  a = g.holding

  abbrev place : ℕ
  place = w.state.place

  abbrev front : ℕ
  front = front_slot w

  place_in : place ≤ w.state.queue
  place_in = a.run.fit.place

  front_in : front ≤ w.state.queue
  front_in = queued_in w.state 0 place_in

  front_other : front ≢ place
  front_other = queued_place w.state place_in a.run.fit.queued 0 (omega arith)

  -- ---- the books

  abbrev books₁ : List ℕ
  books₁ = (dropping front a front_in front_other).books

  un : Unlisted front a front_in front_other w.state.columns books₁
  un = lists_unlisted front a front_in front_other

  room : (k : ℕ) → k ≤ w.state.columns → tally_place (tally w.state front k) + 4 ≤ length books₁
  room k l = omega (arith, tally_room front k (run_firm a.run) front_in l, un.framed.len)

  abbrev books₂ : List ℕ
  books₂ = (uncounted (in_books w books₁) front).books

  ze : Zeroed (in_books w books₁) front room (1 + w.state.columns) books₂
  ze = uncounted_zeroed (in_books w books₁) front room

  abbrev state' : BatchCoalescer
  state' = with_counts w.state place (w.state.queued - 1) w.state.buffered.0

  abbrev v : World
  v = record { state = state'; slots = w.slots; pool = w.pool; books = books₂ }

  dropped_is : dropped w ≡ v
  unfolding dropped
  dropped_is =
      ap (λ (t : World). in_state (uncounted t front) state') (lists_dropped front a front_in front_other)
      ∙ ap (λ (t : World). in_state t state') (uncounted_is (in_books w books₁) front room)

  same : SameSetUp w.state state'
  same = same_counts w.state place (w.state.queued - 1) w.state.buffered.0

  -- ---- counts and lists

  count_other : (slot k : ℕ) → slot ≢ front → k ≤ w.state.columns → tally_of books₂ (tally w.state slot k) ≡ tally_of w.books (tally w.state slot k)
  count_other slot k d l = ze.others slot k d l ∙ framed_tally (tally w.state slot k) un.framed

  rows_there : (slot : ℕ) → slot ≢ front → rows_in v slot ≡ rows_in w slot
  unfolding rows_in
  rows_there slot d = count_other slot 0 d (omega arith)

  rows-front : rows_in v front ≡ 0
  unfolding rows_in
  rows-front = ze.zeros 0 (omega arith) (omega arith)

  lengths : (slot c : ℕ) → slot ≢ front → c < w.state.columns → list_length v slot c ≡ list_length w slot c
  unfolding list_length
  lengths slot c d q = count_other slot (c + 1) d (omega arith)

  length_front : (c : ℕ) → c < w.state.columns → list_length v front c ≡ 0
  unfolding list_length
  length_front c q = ze.zeros (c + 1) (omega arith) (omega arith)

  entries : (slot c i : ℕ) → listed_at v slot c i ≡ listed_at w slot c i
  unfolding listed_at
  entries slot c i = ap (λ (x : ℕ). word32 w.slots (x + 4 * i)) (same_list_place same slot c)

  reaches : (slot c : ℕ) → slot ≢ front → c < w.state.columns → reach v slot c ≡ reach w slot c
  unfolding reach is_views column_of
  reaches slot c d q = rw (lengths slot c d q)

  reach-front : (c : ℕ) → c < w.state.columns → reach v front c ≡ 0
  reach-front c q = go (is_views w.state c) refl
    where
      go : (b : Bool) → is_views w.state c ≡ b → reach v front c ≡ 0
      go true y = reach_other v front c (same_views same c ∙ y) front_other ∙ length_front c q
      go false y = reach_plain v front c (same_views same c ∙ y)

  numbers : (slot c i : ℕ) → slot ≢ front → c < w.state.columns → number_at v slot c i ≡ number_at w slot c i
  unfolding number_at open_number column_of
  numbers slot c i d q = rw (lengths slot c d q, entries slot c i)

  -- ---- listings

  abbrev gone : ℕ → ℕ
  gone k = sum_to w.state.columns (λ c. times_in w front c k)

  times_there : (slot c k : ℕ) → slot ≢ front → c < w.state.columns → times_in v slot c k ≡ times_in w slot c k
  times_there slot c k d q = times_same w v slot c k (reaches slot c d q) (λ i h. numbers slot c i d q)

  times_front : (c k : ℕ) → c < w.state.columns → times_in v front c k ≡ 0
  unfolding times_in sum_to
  times_front c k q = ap (λ (n : ℕ). sum_to n (λ i. cond (eqb k (number_at v front c i)) 1 0)) (reach-front c q)

  -- those of the front slot are gone
  listings_are : (k : ℕ) → listings v k + gone k ≡ listings w k
  listings_are k =
      omega (arith, listings_slot w v refl refl k front front_in (λ slot c p q d. times_there slot c k d q), sum_zero w.state.columns (λ c. times_in v front c k) (λ c q. times_front c k q))

  -- what another slot lists is listed more often than the front one lists it
  listed_more : (slot c i : ℕ) → slot ≤ w.state.queue → slot ≢ front → c < w.state.columns → i < reach w slot c → gone (number_at w slot c i) < listings w (number_at w slot c i)
  listed_more slot c i p d q h =
      let k : ℕ = number_at w slot c i in
      let e : number_at v slot c i ≡ k = numbers slot c i d q in
      omega (arith, listings_are k, rw e at (listed_counted v slot c i p q (omega (arith, reaches slot c d q))))

  sound : Sound books₂ w.state.numbers w.state.pool.0 (listings v)
  sound = sound_recount (listings v) (ze.sound un.sound) (λ k l. omega (arith, listings_are k))

  stands : (slot c i : ℕ) → slot ≤ w.state.queue → slot ≢ front → c < w.state.columns → i < reach w slot c → Stands w v (number_at w slot c i)
  stands slot c i p d q h =
      let k : ℕ = number_at w slot c i in
      let l : k < w.state.numbers = number-below a slot c i p q h in
      let m : gone k < listings w k = listed_more slot c i p d q h in
      record {
        live = ap is_free (ze.entries k l) ∙ un.live k l m;
        begins = begins_is (filled-same books₁ books₂ w.pool k (entry_of books₁ k) (ze.entries k l) refl refl ∙ un.filled k l m);
      }

  -- the entry of a number that is live then is as it was but for its listings
  relisted : (k : ℕ) → k < w.state.numbers → is_free (entry_of books₂ k) ≡ false → Relisted (entry_of w.books k) (entry_of books₂ k)
  relisted k l f = rw (ze.entries k l) (un.relisted k l (ap is_free (sym (ze.entries k l)) ∙ f))

  unheld_here : Unheld state' books₂
  unheld_here =
      unheld_on a state' books₂ (counts_open w.state place (w.state.queued - 1) w.state.buffered.0) (λ k l h z. by_free k l z (is_free (entry_of books₂ k)) refl)
    where
      by_free : (k : ℕ) → k < w.state.numbers → (entry_of w.books k).hold ≡ 0 → (b : Bool) → is_free (entry_of books₂ k) ≡ b → (entry_of books₂ k).hold ≡ 0
      by_free k l z true f = ap (λ (e : Entry). e.hold) (sound.zero k l f)
      by_free k l z false f = relisted_hold (relisted k l f) z

  -- ---- slots in turn

  queued_is : state'.queued + 1 ≡ w.state.queued
  queued_is = omega arith

  turn_is : (k : ℕ) → queued_slot state' k ≡ queued_slot w.state (suc k)
  turn_is k = queued_less w.state state' refl k refl queued_is

  queued_was : (slot : ℕ) → Queued v slot → Queued w slot
  queued_was slot z = record { turn = suc z.turn; below = omega (arith, z.below, queued_is); is = z.is ∙ turn_is z.turn }

  not_front : (slot : ℕ) → Queued v slot → slot ≢ front
  not_front slot z e =
      omega (arith, queued_one w.state place_in a.run.fit.queued (suc z.turn) 0 (omega (arith, z.below, queued_is)) (omega arith) (sym (z.is ∙ turn_is z.turn) ∙ e))

  queued_still : (slot : ℕ) → slot ≢ front → Queued w slot → Queued v slot
  queued_still slot d z = go z.turn z.below z.is
    where
      go : (k : ℕ) → k < w.state.queued → slot ≡ queued_slot w.state k → Queued v slot
      go zero l e = absurd (d e)
      go (suc k) l e = record { turn = k; below = omega (arith, queued_is); is = e ∙ sym (turn_is k) }

  -- ---- rows

  shows : (slot c i : ℕ) → slot ≤ w.state.queue → slot ≢ front → c < w.state.columns → i < rows_at w (λ d. w.state.buffered.0) slot c → Shows w v slot c i
  shows slot c i p d q h =
      rests_shows same slot c i p q (omega (arith, rows_most w (λ d. w.state.buffered.0) a slot c p q)) a.run.fit.slots_are refl
      (record { bit = refl; cell = record { byte = λ x y l m z. let t : x ≡ y = omega arith in rw t } })
      (record { more = omega (arith, reaches slot c d q); same = λ j l. numbers slot c j d q })
      (λ j l. stands slot c j p d q l)
      (λ y. a.valid slot c i p q y h)

  column : (c : ℕ) → column_of state' c ≡ column_of w.state c
  column c = counts_column w.state place (w.state.queued - 1) w.state.buffered.0 c

  run : Run v
  run =
      record {
        fit =
            record {
              bounds = same_bounds same ∙ a.run.fit.bounds;
              slots_are = a.run.fit.slots_are ∙ sym (same_slots_length same);
              pool_is = a.run.fit.pool_is;
              books_are = ze.len ∙ un.framed.len ∙ a.run.fit.books_are ∙ sym (same_books_length same);
              place = place_in;
              queued = omega (arith, a.run.fit.queued);
              bytes = sound.bytes;
            };
        used = sound.used;
        inside = λ k h. sound.inside k (omega (arith, sound.used));
        filled = λ k h. sound.filled k (omega (arith, sound.used));
        lists = λ slot c p q. list_at slot c p q (ℕ_discrete slot front);
        none = λ slot c p q y. none-at slot c p q (sym (same_views same c) ∙ y) (ℕ_discrete slot front);
        kept = λ c q y. rw (column c) (a.run.kept c q (sym (same_views same c) ∙ y));
        block = λ c k q y o. block_at c k q (sym (same_views same c) ∙ y) o;
        room = λ c k q y o. omega (arith, lengths place c place_other q, a.run.room c k q (sym (same_views same c) ∙ y) (column_was c k o));
      }
    where
      place_other : place ≢ front
      place_other e = front_other (sym e)

      column_was : (c : ℕ) (k : BufferNumber) → (column_of state' c).block ≡ Some k → (column_of w.state c).block ≡ Some k
      column_was c k o = ap (λ (x : Column). x.block) (sym (column c)) ∙ o

      list_at : (slot c : ℕ) → slot ≤ w.state.queue → c < w.state.columns → Dec (slot ≡ front) → list_length v slot c ≤ w.state.lists
      list_at slot c p q (yes e) = rw e (omega (arith, length_front c q))
      list_at slot c p q (no d) = omega (arith, lengths slot c d q, a.run.lists slot c p q)

      none-at : (slot c : ℕ) → slot ≤ w.state.queue → c < w.state.columns → is_views w.state c ≡ false → Dec (slot ≡ front) → list_length v slot c ≡ 0
      none-at slot c p q y (yes e) = rw e (length_front c q)
      none-at slot c p q y (no d) = lengths slot c d q ∙ a.run.none slot c p q y

      block_at : (c : ℕ) (k : BufferNumber) → c < w.state.columns → is_views w.state c ≡ true → (column_of state' c).block ≡ Some k → k.0 < used_of books₂
      block_at c k q y o =
          let r : reach w place c ≡ list_length w place c + 1 = reach_open w place c y refl (ap has_block (column_was c k o)) in
          let n : number_at w place c (list_length w place c) ≡ k.0 = number_open w place c _ (omega arith) ∙ open_is w c k (column_was c k o) in
          rw n at (live_used _ (sound_top sound) (number-below a place c _ place_in q (omega arith)) (stands place c (list_length w place c) place_in place_other q (omega arith)).live)

  holding : Holding v (λ c. w.state.buffered.0)
  holding =
      record {
        run = run;
        sound = sound_at same.numbers (ap (λ p. p.0) same.pool) sound;
        listed = λ slot c i p q h. listed slot c i p q h (ℕ_discrete slot front);
        sizes = λ c q y. rw (column c) (a.sizes c q (sym (same_views same c) ∙ y));
        sixteen = a.sixteen;
        alone = alone_counts w.state place (w.state.queued - 1) w.state.buffered.0 a.alone;
        unheld = unheld_here;
        uncounted = λ slot p n. uncounted-at slot p n (ℕ_discrete slot front);
        unlisted = λ slot c p d n q. unlisted_at slot c p d n q (ℕ_discrete slot front);
        some = λ slot z. omega (arith, rows_there slot (not_front slot z), a.some slot (queued_was slot z));
        counted = λ slot p. counted_at slot p (ℕ_discrete slot front);
        within = λ c q. a.within c q;
        valid = λ slot c i p q y h. valid_at slot c i p q y h (ℕ_discrete slot front);
      }
    where
      listed : (slot c i : ℕ) → slot ≤ w.state.queue → c < w.state.columns → i < list_length v slot c → Dec (slot ≡ front) → listed_at v slot c i < w.state.numbers
      listed slot c i p q h (yes e) = absurd (omega (arith, length_front c q, rw e at h))
      listed slot c i p q h (no d) = rw (entries slot c i) (a.listed slot c i p q (omega (arith, lengths slot c d q)))

      uncounted-at : (slot : ℕ) → slot ≤ w.state.queue → (Queued v slot → ⊥) → Dec (slot ≡ front) → rows_in v slot ≡ 0
      uncounted-at slot p n (yes e) = rw e rows-front
      uncounted-at slot p n (no d) = rows_there slot d ∙ a.uncounted slot p (λ z. n (queued_still slot d z))

      unlisted_at : (slot c : ℕ) → slot ≤ w.state.queue → slot ≢ place → (Queued v slot → ⊥) → c < w.state.columns → Dec (slot ≡ front) → list_length v slot c ≡ 0
      unlisted_at slot c p o n q (yes e) = rw e (length_front c q)
      unlisted_at slot c p o n q (no d) = lengths slot c d q ∙ a.unlisted slot c p o (λ z. n (queued_still slot d z)) q

      counted_at : (slot : ℕ) → slot ≤ w.state.queue → Dec (slot ≡ front) → rows_in v slot ≤ w.state.rows.0
      counted_at slot p (yes e) = rw e (omega (arith, rows-front))
      counted_at slot p (no d) = omega (arith, rows_there slot d, a.counted slot p)

      valid_at : (slot c i : ℕ) → slot ≤ w.state.queue → c < w.state.columns → is_views v.state c ≡ true → i < rows_at v (λ d. w.state.buffered.0) slot c → Dec (slot ≡ front) → is_valid (view_of v.slots (cell_place v.state slot c i)) (buffer_at v slot c) (reach v slot c) ≡ true
      valid_at slot c i p q y h (yes e) =
          absurd (omega (arith, rows_other v (λ d. w.state.buffered.0) slot c (λ z. front_other (sym e ∙ z)), ap (rows_in v) e, rows-front))
      valid_at slot c i p q y h (no d) =
          (shows slot c i p d q (rw (rows_same w v (λ d. w.state.buffered.0) (λ d. w.state.buffered.0) slot c refl (rows_there slot d) refl) at h)).valid y

  spare_case : (slot c : ℕ) → Dec (slot ≡ front) → SpareCase w v (λ c. w.state.buffered.0) (λ c. w.state.buffered.0) slot c
  spare_case slot c (yes e) = no_rows (rows_other v (λ c. w.state.buffered.0) slot c (λ z. front_other (sym e ∙ z)) ∙ ap (rows_in v) e ∙ rows-front)
  spare_case slot c (no d) = same_rows (rows_same w v (λ c. w.state.buffered.0) (λ c. w.state.buffered.0) slot c refl (rows_there slot d) refl) (λ i l. refl)

  between : Between v
  between =
      record {
        holding = holding;
        below = g.below;
        spared = spared_on (λ c. w.state.buffered.0) a same g.spared (λ slot c p q. spare_case slot c (ℕ_discrete slot front));
        begun = λ z c q. reaches place c (λ e. front_other (sym e)) q ∙ g.begun z c q;
      }

  batches : queued_batches w ≡ taken_rows w ∷ queued_batches v
  unfolding queued_batches taken_rows
  batches =
      let n : w.state.queued ≡ suc (w.state.queued - 1) = omega arith in
      ap (λ (k : ℕ). up_to k (λ k. slot_rows w (queued_slot w.state k) (rows_in w (queued_slot w.state k)))) n
      ∙ upTo-first (w.state.queued - 1) (λ k. slot_rows w (queued_slot w.state k) (rows_in w (queued_slot w.state k)))
      ∙ ap (λ (l : List (List Row)). slot_rows w front (rows_in w front) ∷ l)
      (upTo-ext (w.state.queued - 1) _ _ (λ k l.
      let e : queued_slot state' k ≡ queued_slot w.state (suc k) = turn_is k in
      let z : Queued v (queued_slot w.state (suc k)) = record { turn = k; below = l; is = sym e } in
      let d : queued_slot w.state (suc k) ≢ front = not_front _ z in
      rw (e, rows_there (queued_slot w.state (suc k)) d)
      (sym (rows-read w v (queued_slot w.state (suc k)) (rows_in w (queued_slot w.state (suc k))) refl (λ c i q h.
      (shows (queued_slot w.state (suc k)) c i (queued_in w.state (suc k) place_in) d q
      (omega (arith, rows_other w (λ d. w.state.buffered.0) (queued_slot w.state (suc k)) c (queued_place w.state place_in a.run.fit.queued (suc k) (omega (arith, l, queued_is)))))).cell)))))

  rows : buffered_rows v ≡ buffered_rows w
  rows =
      rows_are v
      ∙ rows-read w v place w.state.buffered.0 refl (λ c i q h. (shows place c i place_in (λ e. front_other (sym e)) q (omega (arith, rows-filling w (λ d. w.state.buffered.0) place c refl))).cell)
      ∙ sym (rows_are w)

  -- ---- the call

  pub drop-between : Between (dropped w)
  drop-between = rw dropped_is between

  pub drop-batches : queued_batches w ≡ taken_rows w ∷ queued_batches (dropped w)
  drop-batches = batches ∙ ap (λ (t : World). taken_rows w ∷ queued_batches t) (sym dropped_is)

  pub drop-rows : buffered_rows (dropped w) ≡ buffered_rows w
  drop-rows = ap buffered_rows dropped_is ∙ rows

  -- what is left of the pool, and of a number that the caller holds
  pub drop-pool : (dropped w).pool ≡ w.pool
  drop-pool = ap (λ (t : World). t.pool) dropped_is

  pub drop_held : (k : ℕ) → k < w.state.numbers → 0 < (entry_of w.books k).hold → Relisted (entry_of w.books k) (entry_of (dropped w).books k)
  drop_held k l h = rw dropped_is (relisted k l (ap is_free (ze.entries k l) ∙ un.held k l h))

  pub drop-bytes : Bytes w.slots → Bytes (dropped w).slots
  drop-bytes z = rw (ap (λ (t : World). t.slots) dropped_is) z
