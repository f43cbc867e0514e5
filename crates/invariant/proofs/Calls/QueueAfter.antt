-- The slot being filled queued with all its rows, no block being open: one batch more, and an empty slot begun.
use Prim.Native.Nat.{ℕ, suc, ◌+◌, ◌*◌, ◌≤◌, ◌<◌, ◌^◌}
use Rattle.std.specs.Prelude.{◌≡◌, ◌≢◌, Bool, true, false, length}
use Rattle.std.proofs.Math.Path.{refl, ap}
use Rattle.std.proofs.Common.{sym, ◌∙◌, arith}
use mathlib.Core.List.{List, [], ◌∷◌, ◌++◌}
use Rattle.std.proofs.Math.Decide.{dec_lt, ℕ_discrete}
use Rattle.words.specs.Word.{word32}
use Rattle.blocks.specs.BlockLaws.{Power}
use Rattle.views.specs.View.{view_of, is_valid}
use Rattle.bits.specs.Bits.{bits_from}
use Rattle.books.specs.Entry.{entry_of, is_free}
use Rattle.sound.specs.Sound.{Sound}
use Rattle.sound.specs.SoundLaws.{sound_recount}
use Rattle.sound.proofs.ListKept.{Relisted}
use Rattle.tallies.specs.TallyLaws.{entry-with_tally}
use Rattle.state.specs.World.{World, column_of}
use Rattle.state.specs.Layout.{bitmap_place, is_views, cell_place, tally, list_length, rows_in, next_slot, queued_slot}
use Rattle.state.proofs.SlotLaws.{queued_in, queued_place, queued_more, queued_last}
use Rattle.state.specs.Rows.{Row, up_to, listed_at, buffer_at, slot_rows, queued_batches, buffered_rows}
use Rattle.rules.specs.Steps.{counting, queueing}
use Rattle.rules.specs.Views.{has_block, is_open}
use Rattle.rules.specs.Stays.{SameSetUp, same_counts}
use Rattle.rules.specs.SameLaws.{same_views, same_list_place}
use Rattle.push_safety.specs.Run.{Goes}
use Rattle.push_safety.specs.TestedLaws.{bounds_say}
use Rattle.push_safety.specs.FinishGoes.{Shut, queueing_goes}
use Rattle.invariant.specs.Holding.{reach, number_at, listings, HasOpen, Alone, Unheld, Queued, rows_at, Spared, Holding, Stands, PoolStays}
use Rattle.invariant.proofs.BeginLaws.{begins_is}
use Rattle.invariant.proofs.Rests.{Lists, Shows, reach_plain, reach-shut, number-listed, rests_shows}
use Rattle.invariant.proofs.CountLaws.{times_same, listings-same, number-below, number_live}
use Rattle.invariant.proofs.AloneLaws.{counts_open, alone_counts}
use Rattle.invariant.proofs.PoolLaws.{relisted_is, relisted_hold, books_stay, unheld_on}
use Rattle.invariant.proofs.Steps.MoveLaws.{sound_at, rows-filling, rows_other}
use Rattle.invariant.proofs.Steps.SpareMoves.{SpareCase, same_rows, spared_on}
use Rattle.invariant.specs.Steps.TallyMoves.{tally_sound, tally-filled, counting-rows, counting-length, counting_rows_here}
use Rattle.invariant.specs.RowLaws.{rows-read, upTo-ext}
use Rattle.invariant.specs.Calls.TakeAfter.{LaterInPush}

module _ {w : World} (rows : ℕ) (a : Holding w (λ c. rows)) (s : Shut w) (room : w.state.queued < w.state.queue) (some : 1 ≤ rows) (most : rows ≤ w.state.rows.0) where
  abbrev v : World
  v = queueing w rows

  abbrev place : ℕ
  place = w.state.place

  place_in : place ≤ w.state.queue
  place_in = a.run.fit.place

  small : rows < 2 ^ 32
  small = omega (arith, most, (bounds_say w.state a.run.fit.bounds).rows)

  same : SameSetUp w.state v.state
  unfolding queueing counting
  same = same_counts w.state (next_slot w.state place) (w.state.queued + 1) 0

  sixteen_here : length v.state.column ≡ 16
  unfolding queueing counting
  sixteen_here = a.sixteen

  alone_here : Alone v.state
  unfolding queueing counting
  alone_here = alone_counts w.state (next_slot w.state place) (w.state.queued + 1) 0 a.alone

  goes : Goes w v
  goes = queueing_goes rows a.run s room small

  queued_is : v.state.queued ≡ w.state.queued + 1
  unfolding queueing counting
  queued_is = refl

  place_is : v.state.place ≡ next_slot w.state place
  unfolding queueing counting
  place_is = refl

  pub queue_none : v.state.buffered.0 ≡ 0
  unfolding queueing counting
  queue_none = refl

  slots_are : v.slots ≡ w.slots
  unfolding queueing counting
  slots_are = refl

  -- ---- the slots in turn

  old_turn : (k : ℕ) → k < w.state.queued → queued_slot v.state k ≡ queued_slot w.state k
  old_turn k l = queued_more w.state v.state same.queue k place_in a.run.fit.queued place_is queued_is l

  last_turn : queued_slot v.state w.state.queued ≡ place
  last_turn = queued_last w.state v.state same.queue place_in place_is queued_is

  next_not : (k : ℕ) → k < v.state.queued → queued_slot v.state k ≢ v.state.place
  next_not k l = queued_place v.state goes.run.fit.place goes.run.fit.queued k l

  data SlotCase (slot : ℕ) : Type 0 where
    last : slot ≡ place → SlotCase slot
    before : Queued w slot → SlotCase slot

  queued_case : (slot : ℕ) → Queued v slot → SlotCase slot
  queued_case slot q = go (dec_lt q.turn w.state.queued)
    where
      go : Dec (q.turn < w.state.queued) → SlotCase slot
      go (yes l) = before (record { turn = q.turn; below = l; is = q.is ∙ old_turn q.turn l })
      go (no l) =
          let e : q.turn ≡ w.state.queued = omega (arith, q.below, queued_is) in
          last (q.is ∙ ap (queued_slot v.state) e ∙ last_turn)

  queued_place_now : Queued v place
  queued_place_now = record { turn = w.state.queued; below = omega (arith, queued_is); is = sym last_turn }

  queued_on : (slot : ℕ) → Queued w slot → Queued v slot
  queued_on slot q = record { turn = q.turn; below = omega (arith, q.below, queued_is); is = q.is ∙ sym (old_turn q.turn q.below) }

  not_place : (slot : ℕ) → Queued w slot → slot ≢ place
  not_place slot q e = queued_place w.state place_in a.run.fit.queued q.turn q.below (sym q.is ∙ e)

  -- ---- counts and lists

  rows_here : rows_in v place ≡ rows
  unfolding queueing counting rows_in
  rows_here = counting_rows_here w place rows a.run place_in small

  rows_there : (slot : ℕ) → slot ≢ place → rows_in v slot ≡ rows_in w slot
  unfolding queueing counting rows_in
  rows_there slot n = counting-rows w place 0 rows slot (omega arith) (λ e z. n e)

  lengths : (slot c : ℕ) → c < w.state.columns → list_length v slot c ≡ list_length w slot c
  unfolding queueing counting list_length
  lengths slot c q = counting-length w place 0 rows slot c (omega arith) q (λ e z. omega arith)

  entries : (slot c i : ℕ) → listed_at v slot c i ≡ listed_at w slot c i
  unfolding listed_at
  entries slot c i = rw slots_are (ap (λ (x : ℕ). word32 w.slots (x + 4 * i)) (same_list_place same slot c))

  shut_was : (c : ℕ) → c < w.state.columns → is_views w.state c ≡ true → is_open w c ≡ false
  shut_was c q y = ap has_block (s.shut c q y)

  shut_is : (c : ℕ) → c < w.state.columns → is_views w.state c ≡ true → is_open v c ≡ false
  unfolding queueing counting column_of
  shut_is c q y = shut_was c q y

  reaches : (slot c : ℕ) → c < w.state.columns → reach v slot c ≡ reach w slot c
  reaches slot c q = go (is_views w.state c) refl
    where
      go : (b : Bool) → is_views w.state c ≡ b → reach v slot c ≡ reach w slot c
      go true y = reach-shut v slot c (same_views same c ∙ y) (shut_is c q y) ∙ lengths slot c q ∙ sym (reach-shut w slot c y (shut_was c q y))
      go false y = reach_plain v slot c (same_views same c ∙ y) ∙ sym (reach_plain w slot c y)

  -- what is within reach is listed
  reach-list : (slot c : ℕ) → c < w.state.columns → reach w slot c ≤ list_length w slot c
  reach-list slot c q = go (is_views w.state c) refl
    where
      go : (b : Bool) → is_views w.state c ≡ b → reach w slot c ≤ list_length w slot c
      go true y = omega (arith, reach-shut w slot c y (shut_was c q y))
      go false y = omega (arith, reach_plain w slot c y)

  numbers : (slot c i : ℕ) → c < w.state.columns → i < reach w slot c → number_at v slot c i ≡ number_at w slot c i
  numbers slot c i q h =
      let l : i < list_length w slot c = omega (arith, reach-list slot c q) in
      number-listed v slot c i (omega (arith, lengths slot c q)) ∙ entries slot c i ∙ sym (number-listed w slot c i l)

  lists : (slot c : ℕ) → c < w.state.columns → Lists w v slot c
  lists slot c q = record { more = omega (arith, reaches slot c q); same = λ i h. numbers slot c i q h }

  -- ---- the books

  stands : (k : ℕ) → k < w.state.numbers → is_free (entry_of w.books k) ≡ false → Stands w v k
  unfolding queueing counting
  stands k l h =
      record {
        live = ap is_free (entry-with_tally w.books (tally w.state place 0) rows k l) ∙ h;
        begins = begins_is (tally-filled w.books w.pool (tally w.state place 0) rows k l);
      }

  open_was : (c k : ℕ) → HasOpen v.state c k → HasOpen w.state c k
  unfolding queueing counting
  open_was = counts_open w.state (next_slot w.state place) (w.state.queued + 1) 0

  relisted : (k : ℕ) → k < w.state.numbers → Relisted (entry_of w.books k) (entry_of v.books k)
  unfolding queueing counting
  relisted k l = relisted_is (entry-with_tally w.books (tally w.state place 0) rows k l)

  unheld_here : Unheld v.state v.books
  unheld_here = unheld_on a v.state v.books open_was (λ k l h z. relisted_hold (relisted k l) z)

  pool_are : v.pool ≡ w.pool
  unfolding queueing counting
  pool_are = refl

  pool_here : PoolStays w v
  pool_here = books_stay w v same.numbers pool_are (λ k l h. (stands k l h).live) (λ k l h. relisted k l) (λ c k h o. open_was c k o)

  sound : Sound v.books w.state.numbers w.state.pool.0 (listings w)
  unfolding queueing counting
  sound = tally_sound (tally w.state place 0) rows a.sound small

  sizes : (c : ℕ) → c < w.state.columns → is_views w.state c ≡ true → Power (column_of v.state c).source.current.0
  unfolding queueing counting column_of
  sizes c q y = a.sizes c q y

  -- ---- rows

  -- those of a slot, of before
  had : (slot i : ℕ) → i < rows_in v slot → (c : ℕ) → i < rows_at w (λ d. rows) slot c
  had slot i h c = go (ℕ_discrete slot place)
    where
      go : Dec (slot ≡ place) → i < rows_at w (λ d. rows) slot c
      go (yes e) = omega (arith, rows-filling w (λ d. rows) slot c e, ap (rows_in v) e, rows_here)
      go (no n) = omega (arith, rows_other w (λ d. rows) slot c n, rows_there slot n)

  counted : (slot : ℕ) → slot ≤ w.state.queue → rows_in v slot ≤ w.state.rows.0
  counted slot p = go (ℕ_discrete slot place)
    where
      go : Dec (slot ≡ place) → rows_in v slot ≤ w.state.rows.0
      go (yes e) = omega (arith, ap (rows_in v) e, rows_here, most)
      go (no n) = omega (arith, rows_there slot n, a.counted slot p)

  shows : (slot c i : ℕ) → slot ≤ w.state.queue → c < w.state.columns → i < rows_in v slot → Shows w v slot c i
  shows slot c i p q h =
      rests_shows same slot c i p q (omega (arith, counted slot p)) a.run.fit.slots_are (ap length slots_are)
      (rw slots_are (record { bit = refl; cell = record { byte = λ x y l m z. let t : x ≡ y = omega arith in rw t } }))
      (lists slot c q)
      (λ j l. stands (number_at w slot c j) (number-below a slot c j p q l) (number_live a slot c j p q l))
      (λ y. a.valid slot c i p q y (had slot i h c))

  pub queue_holding : Holding v (λ c. 0)
  queue_holding =
      record {
        run = goes.run;
        sound =
            sound_at same.numbers (ap (λ p. p.0) same.pool)
            (sound_recount (listings v) sound (λ k l. sym (listings-same w v same.queue same.columns k (λ slot c p q. times_same w v slot c k (reaches slot c q) (λ i h. numbers slot c i q h)))));
        listed = λ slot c i p q h.
            let q' : c < w.state.columns = omega (arith, same.columns) in
            omega (arith, same.numbers, entries slot c i, a.listed slot c i (omega (arith, same.queue)) q' (omega (arith, lengths slot c q')));
        sizes = λ c q y. sizes c (omega (arith, same.columns)) (sym (same_views same c) ∙ y);
        sixteen = sixteen_here;
        alone = alone_here;
        unheld = unheld_here;
        uncounted = λ slot p n. rows_there slot (λ e. n (rw e queued_place_now)) ∙ a.uncounted slot (omega (arith, same.queue)) (λ z. n (queued_on slot z));
        unlisted = λ slot c p d n q.
            let q' : c < w.state.columns = omega (arith, same.columns) in
            lengths slot c q' ∙ a.unlisted slot c (omega (arith, same.queue)) (λ e. n (rw e queued_place_now)) (λ z. n (queued_on slot z)) q';
        some = λ slot z. some-row slot (queued_case slot z);
        counted = λ slot p. omega (arith, ap (λ r. r.0) same.rows, counted slot (omega (arith, same.queue)));
        within = λ c q. omega arith;
        valid = λ slot c i p q y h. valid slot c i p q y h (ℕ_discrete slot v.state.place);
      }
    where
      some-row : (slot : ℕ) → SlotCase slot → 1 ≤ rows_in v slot
      some-row slot (last e) = omega (arith, ap (rows_in v) e, rows_here, some)
      some-row slot (before z) = omega (arith, rows_there slot (not_place slot z), a.some slot z)

      valid : (slot c i : ℕ) → slot ≤ v.state.queue → c < v.state.columns → is_views v.state c ≡ true → i < rows_at v (λ d. 0) slot c → Dec (slot ≡ v.state.place) → is_valid (view_of v.slots (cell_place v.state slot c i)) (buffer_at v slot c) (reach v slot c) ≡ true
      valid slot c i p q y h (yes e) = absurd (omega (arith, rows-filling v (λ d. 0) slot c e))
      valid slot c i p q y h (no n) =
          (shows slot c i (omega (arith, same.queue)) (omega (arith, same.columns)) (omega (arith, rows_other v (λ d. 0) slot c n))).valid y

  -- the rows of each slot are those of before, and of the slot begun none
  pub queue_spared : Spared w (λ c. rows) → Spared v (λ c. 0)
  queue_spared t = spared_on (λ c. 0) a same t (λ slot c p q. case slot c (ℕ_discrete slot v.state.place) (ℕ_discrete slot place))
    where
      case : (slot c : ℕ) → Dec (slot ≡ v.state.place) → Dec (slot ≡ place) → SpareCase w v (λ c. rows) (λ c. 0) slot c
      case slot c (yes e) d = SpareCase.no_rows (rows-filling v (λ c. 0) slot c e)
      case slot c (no n) (yes e) =
          same_rows
          (rows_other v (λ c. 0) slot c n ∙ ap (rows_in v) e ∙ rows_here ∙ sym (rows-filling w (λ c. rows) slot c e))
          (λ i l. ap (λ (x : List ℕ). bits_from x (bitmap_place w.state slot c) 0 i) slots_are)
      case slot c (no n) (no d) =
          same_rows
          (rows_other v (λ c. 0) slot c n ∙ rows_there slot d ∙ sym (rows_other w (λ c. rows) slot c d))
          (λ i l. ap (λ (x : List ℕ). bits_from x (bitmap_place w.state slot c) 0 i) slots_are)

  -- nothing is listed for the slot begun
  pub queue_begun : (c : ℕ) → c < w.state.columns → reach v v.state.place c ≡ 0
  queue_begun c q = go (is_views w.state c) refl
    where
      free : Queued w v.state.place → ⊥
      free z = next_not (queued_on v.state.place z).turn (queued_on v.state.place z).below (sym (queued_on v.state.place z).is)

      other : v.state.place ≢ place
      other e = next_not w.state.queued (omega (arith, queued_is)) (last_turn ∙ sym e)

      go : (b : Bool) → is_views w.state c ≡ b → reach v v.state.place c ≡ 0
      go false y = reach_plain v v.state.place c (same_views same c ∙ y)
      go true y =
          reach-shut v v.state.place c (same_views same c ∙ y) (shut_is c q y) ∙ lengths v.state.place c q
          ∙ a.unlisted v.state.place c (omega (arith, goes.run.fit.place, same.queue)) other free q

  -- one batch more, and no row buffered
  pub queue_batches : queued_batches v ≡ queued_batches w ++ (slot_rows w place rows ∷ [])
  unfolding queued_batches up_to
  queue_batches =
      let n : v.state.queued ≡ suc w.state.queued = omega (arith, queued_is) in
      ap (λ (k : ℕ). up_to k (λ k. slot_rows v (queued_slot v.state k) (rows_in v (queued_slot v.state k)))) n
      ∙ (rw (last_turn, rows_here, read place (place_in) rows (λ i h. omega (arith, rows_here)))
      (ap (λ (l : List (List Row)). l ++ (slot_rows w place rows ∷ []))
      (upTo-ext w.state.queued _ _ (λ k l.
      let e : queued_slot v.state k ≡ queued_slot w.state k = old_turn k l in
      let d : queued_slot w.state k ≢ place = queued_place w.state place_in a.run.fit.queued k l in
      rw (e, rows_there (queued_slot w.state k) d)
      (read (queued_slot w.state k) (queued_in w.state k place_in) (rows_in w (queued_slot w.state k)) (λ i h. omega (arith, rows_there (queued_slot w.state k) d)))))))
    where
      read : (slot : ℕ) → slot ≤ w.state.queue → (n : ℕ) → ((i : ℕ) → i < n → i < rows_in v slot) → slot_rows v slot n ≡ slot_rows w slot n
      read slot p n h = rows-read w v slot n same.columns (λ c i q l. (shows slot c i p q (h i l)).cell)

  pub queue_rows : buffered_rows v ≡ []
  unfolding buffered_rows slot_rows up_to
  queue_rows = ap (λ (n : ℕ). slot_rows v v.state.place n) queue_none

  pub queue_along : LaterInPush w v
  queue_along = record { set_up = same; goes = goes; bytes = λ z. rw slots_are z; stands = stands; pool = pool_here }
