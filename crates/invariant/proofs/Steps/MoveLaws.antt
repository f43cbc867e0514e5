-- Steps of a push: none, one behind another, and how a step is shown to be one; the batch reads the same along them.
use Prim.Native.Nat.{ℕ, ◌+◌, ◌-◌, ◌≤◌, ◌<◌}
use Rattle.std.specs.Prelude.{◌≡◌, ◌≢◌, true, false, cond, List, length, eqb}
use Rattle.std.proofs.Math.Path.{refl}
use Rattle.std.proofs.Common.{sym, ◌∙◌, ap, eq-eqb, ne_eqb}
use native.Mathlib.Omega.{arith}
use Rattle.std.proofs.Math.Decide.{dec_lt, ℕ_discrete}
use Rattle.words.specs.WordLaws.{Bytes}
use Rattle.books.specs.Entry.{entry_of, is_free}
use Rattle.blocks.specs.BlockLaws.{Power}
use Rattle.sound.specs.Sound.{Sound, filled_bytes}
use Rattle.sound.specs.Live.{live_is}
use Rattle.views.specs.View.{view_of, is_valid, shows}
use Rattle.views.specs.ShowLaws.{Keeps}
use Rattle.state.specs.declared.BatchCoalescer.{BatchCoalescer}
use Rattle.state.specs.World.{World, column_of}
use Rattle.state.specs.Layout.{width_of, is_views, cell_place, rows_in, list_length, slot_before, queued_slot}
use Rattle.state.proofs.LayoutLaws.{bits_fit}
use Rattle.state.proofs.SlotLaws.{queued_in}
use Rattle.state.specs.Rows.{listed_at, buffer_at}
use Rattle.rules.specs.Batch.{Batch, record_of, row_view, listed_number, bytes_listed, listed_bytes, value_place, batch_cell}
use Rattle.rules.specs.Stays.{SameSetUp, Beside, beside_refl, beside_trans}
use Rattle.rules.specs.SameLaws.{same_width, same_views, same_value_place, same_row_view, same_bitmap_bytes, same_bitmap_place}
use Rattle.push_safety.specs.Run.{Run, Goes}
use Rattle.push_safety.specs.BooksGo.{held_says}
use Rattle.push_safety.specs.Firm.{goes_refl, goes_trans}
use Rattle.invariant.specs.Holding.{reach, number_at, listings, Alone, Unheld, Queued, rows_at, Holding, Begins, Stands, PoolStays}
use Rattle.invariant.proofs.BeginLaws.{begins_refl, begins_trans, keeps_begins}
use Rattle.invariant.proofs.Rests.{cell_is, Rests, Lists, Shows, rests_shows}
use Rattle.invariant.proofs.CountLaws.{number-below, number_live}
use Rattle.invariant.proofs.PoolLaws.{pool_refl, pool_trans}
use Rattle.invariant.specs.Steps.Moves.{more, Moves, BitsStill, ReadableBatch, Laid}

-- ---- live numbers

pub stands_refl : (w : World) (k : ℕ) → is_free (entry_of w.books k) ≡ false → Stands w w k
stands_refl w k h = record { live = h; begins = begins_refl (filled_bytes w.books w.pool k) }

pub stands_trans : {w v u : World} {k : ℕ} → Stands w v k → Stands v u k → Stands w u k
stands_trans a b = record { live = b.live; begins = begins_trans a.begins b.begins }

-- ---- rows of a slot

module _ (w : World) (ext : ℕ → ℕ) where
  pub rows-filling : (slot c : ℕ) → slot ≡ w.state.place → rows_at w ext slot c ≡ ext c
  unfolding rows_at
  rows-filling slot c e = rw (eq-eqb slot w.state.place e)

  pub rows_other : (slot c : ℕ) → slot ≢ w.state.place → rows_at w ext slot c ≡ rows_in w slot
  unfolding rows_at
  rows_other slot c d = rw (ne_eqb slot w.state.place d)

  -- no more than R
  pub rows_most : Holding w ext → (slot c : ℕ) → slot ≤ w.state.queue → c < w.state.columns → rows_at w ext slot c ≤ w.state.rows.0
  rows_most a slot c p q = go (ℕ_discrete slot w.state.place)
    where
      go : Dec (slot ≡ w.state.place) → rows_at w ext slot c ≤ w.state.rows.0
      go (yes e) = omega (arith, rows-filling slot c e, a.within c q)
      go (no d) = omega (arith, rows_other slot c d, a.counted slot p)

-- the same of two worlds with one place, and the same rows there
pub rows_same : (w v : World) (ext ext' : ℕ → ℕ) (slot c : ℕ) → v.state.place ≡ w.state.place → rows_in v slot ≡ rows_in w slot → ext' c ≡ ext c → rows_at v ext' slot c ≡ rows_at w ext slot c
unfolding rows_at
rows_same w v ext ext' slot c p r e = by_parts p r e
  where
    by_parts : {x x' : ℕ} {y y' : ℕ} {z z' : ℕ} → x' ≡ x → y' ≡ y → z' ≡ z → cond (eqb slot x') z' y' ≡ cond (eqb slot x) z y
    by_parts p q r = rw (p, q, r)

module _ (ext : ℕ → ℕ) (c n : ℕ) where
  pub more_here : more ext c n c ≡ ext c + n
  unfolding more
  more_here = rw (eq-eqb c c refl)

  pub more_other : (d : ℕ) → d ≢ c → more ext c n d ≡ ext d
  unfolding more
  more_other d h = rw (ne_eqb d c h) (omega arith)

  pub more_least : (d : ℕ) → ext d ≤ more ext c n d
  unfolding more
  more_least d = omega arith

-- the queued slots hang on the counts of the state
pub queued_slot_same : (s t : BatchCoalescer) (k : ℕ) → t.queue ≡ s.queue → t.place ≡ s.place → t.queued ≡ s.queued → queued_slot t k ≡ queued_slot s k
unfolding queued_slot slot_before
queued_slot_same s t k q p n = rw (q, p, n)

-- one set-up, and the same slots filled and queued
pub record SameSlots (w v : World) : Type 0 where
  pub set_up : SameSetUp w.state v.state
  pub place : v.state.place ≡ w.state.place
  pub queued : v.state.queued ≡ w.state.queued
  pub slots : length v.slots ≡ length w.slots

pub beside_alike : {w v : World} → Beside w v → SameSlots w v
beside_alike b = record { set_up = b.set_up; place = b.place; queued = b.queued; slots = b.slots }

pub queued_back : (w v : World) (slot : ℕ) → SameSlots w v → Queued v slot → Queued w slot
queued_back w v slot b q =
    record {
      turn = q.turn;
      below = omega (arith, q.below, b.queued);
      is = q.is ∙ queued_slot_same w.state v.state q.turn b.set_up.queue b.place b.queued;
    }

pub queued_on : (w v : World) (slot : ℕ) → SameSlots w v → Queued w slot → Queued v slot
queued_on w v slot b q =
    record {
      turn = q.turn;
      below = omega (arith, q.below, b.queued);
      is = q.is ∙ sym (queued_slot_same w.state v.state q.turn b.set_up.queue b.place b.queued);
    }

-- ---- how a step is shown

-- other numbers for the same ones
pub sound_at : {s : List ℕ} {n n' p p' : ℕ} {f : ℕ → ℕ} → n' ≡ n → p' ≡ p → Sound s n p f → Sound s n' p' f
sound_at e q h = rw (e, q) h

-- what has to be shown of a change that leaves set-up and counts, in the terms of the world before: rows, lists, and the numbers listed
pub record Remains (w : World) (ext : ℕ → ℕ) (v : World) : Type 0 where
  pub rests : (slot c i : ℕ) → slot ≤ w.state.queue → c < w.state.columns → i < rows_at w ext slot c → Rests w v slot c i
  pub lists : (slot c : ℕ) → slot ≤ w.state.queue → c < w.state.columns → Lists w v slot c
  pub stands : (slot c j : ℕ) → slot ≤ w.state.queue → c < w.state.columns → j < reach w slot c → Stands w v (number_at w slot c j)
  pub sound : Sound v.books w.state.numbers w.state.pool.0 (listings v)
  pub listed : (slot c i : ℕ) → slot ≤ w.state.queue → c < w.state.columns → i < list_length v slot c → listed_at v slot c i < w.state.numbers
  pub sizes : (c : ℕ) → c < w.state.columns → is_views w.state c ≡ true → Power (column_of v.state c).source.current.0
  pub sixteen : length v.state.column ≡ 16
  pub alone : Alone v.state
  pub unheld : Unheld v.state v.books
  pub rows : (slot : ℕ) → slot ≤ w.state.queue → rows_in v slot ≡ rows_in w slot
  pub unlisted : (slot c : ℕ) → slot ≤ w.state.queue → slot ≢ w.state.place → c < w.state.columns → list_length v slot c ≡ list_length w slot c

module _ {w : World} {ext : ℕ → ℕ} {v : World} (a : Holding w ext) (g : Run v) (b : SameSlots w v) (s : Remains w ext v) where
  -- a row of before shows the same
  pub remains_shows : (slot c i : ℕ) → slot ≤ w.state.queue → c < w.state.columns → i < rows_at w ext slot c → Shows w v slot c i
  remains_shows slot c i p q h =
      rests_shows b.set_up slot c i p q (omega (arith, rows_most w ext a slot c p q)) a.run.fit.slots_are b.slots (s.rests slot c i p q h) (s.lists slot c p q)
      (λ j l. s.stands slot c j p q l)
      (λ y. a.valid slot c i p q y h)

  pub remains_holding : Holding v ext
  remains_holding =
      record {
        run = g;
        sound = sound_at e.numbers (ap (λ p. p.0) e.pool) s.sound;
        listed = λ slot c i p q h. omega (arith, e.numbers, s.listed slot c i (rw e.queue at p) (rw e.columns at q) h);
        sizes = λ c q y. s.sizes c (rw e.columns at q) (sym (same_views e c) ∙ y);
        sixteen = s.sixteen;
        alone = s.alone;
        unheld = s.unheld;
        uncounted = λ slot p n. let p' : slot ≤ w.state.queue = rw e.queue at p in s.rows slot p' ∙ a.uncounted slot p' (λ z. n (queued_on w v slot b z));
        unlisted = λ slot c p d n q.
            let p' : slot ≤ w.state.queue = rw e.queue at p in
            let q' : c < w.state.columns = rw e.columns at q in
            let d' : slot ≢ w.state.place = λ z. d (z ∙ sym b.place) in
            s.unlisted slot c p' d' q' ∙ a.unlisted slot c p' d' (λ z. n (queued_on w v slot b z)) q';
        some = λ slot z. let y : Queued w slot = queued_back w v slot b z in omega (arith, a.some slot y, s.rows slot (slot_in_lem slot y));
        counted = λ slot p. let p' : slot ≤ w.state.queue = rw e.queue at p in omega (arith, ap (λ r. r.0) e.rows, s.rows slot p', a.counted slot p');
        within = λ c q. omega (arith, ap (λ r. r.0) e.rows, a.within c (rw e.columns at q));
        valid = λ slot c i p q y h.
            let p' : slot ≤ w.state.queue = rw e.queue at p in
            let q' : c < w.state.columns = rw e.columns at q in
            (remains_shows slot c i p' q' (rw (rows_same w v ext ext slot c b.place (s.rows slot p') refl) at h)).valid y;
      }
    where
      e : SameSetUp w.state v.state
      e = b.set_up

      slot_in_lem : (slot : ℕ) → Queued w slot → slot ≤ w.state.queue
      slot_in_lem slot y = rw y.is (queued_in w.state y.turn a.run.fit.place)

-- what is listed is live
pub live_stands : {w : World} {ext : ℕ → ℕ} {v : World} → Holding w ext → ((k : ℕ) → k < w.state.numbers → is_free (entry_of w.books k) ≡ false → Stands w v k) → (slot c j : ℕ) → slot ≤ w.state.queue → c < w.state.columns → j < reach w slot c → Stands w v (number_at w slot c j)
live_stands {w} a s slot c j p q l = s (number_at w slot c j) (number-below a slot c j p q l) (number_live a slot c j p q l)

-- a step of a push: besides, no live number loses a byte
pub remains_moves : {w : World} {ext : ℕ → ℕ} {v : World} → Holding w ext → Goes w v → Beside w v → Remains w ext v → (Bytes w.slots → Bytes v.slots) → ((k : ℕ) → k < w.state.numbers → is_free (entry_of w.books k) ≡ false → Stands w v k) → PoolStays w v → Moves w ext v ext
remains_moves a g b r x s t =
    record {
      holding = remains_holding a g.run (beside_alike b) r;
      goes = g;
      beside = b;
      grows = λ c. omega arith;
      rows = r.rows;
      cells = λ slot c i p q h. (remains_shows a g.run (beside_alike b) r slot c i p q h).cell;
      bytes = x;
      stands = s;
      pool = t;
    }

-- ---- no step, and one behind another

pub moves_refl : {w : World} {ext : ℕ → ℕ} → Holding w ext → Moves w ext w ext
moves_refl {w} a =
    record {
      holding = a;
      goes = goes_refl a.run;
      beside = beside_refl w;
      grows = λ c. omega arith;
      rows = λ slot p. refl;
      cells = λ slot c i p q h. refl;
      bytes = λ x. x;
      stands = λ k l h. stands_refl w k h;
      pool = pool_refl w;
    }

-- a row of before is a row then
pub rows_on : {w v : World} {ext ext' : ℕ → ℕ} → Moves w ext v ext' → (slot c i : ℕ) → slot ≤ w.state.queue → i < rows_at w ext slot c → i < rows_at v ext' slot c
rows_on {w} {v} {ext} {ext'} m slot c i p h = go (ℕ_discrete slot w.state.place)
  where
    go : Dec (slot ≡ w.state.place) → i < rows_at v ext' slot c
    go (yes e) = omega (arith, rows-filling w ext slot c e, rows-filling v ext' slot c (e ∙ sym m.beside.place), m.grows c)
    go (no d) = omega (arith, rows_other w ext slot c d, rows_other v ext' slot c (λ z. d (z ∙ m.beside.place)), m.rows slot p)

pub moves_trans : {w v u : World} {ext ext' ext'' : ℕ → ℕ} → Moves w ext v ext' → Moves v ext' u ext'' → Moves w ext u ext''
moves_trans {w} {v} m n =
    record {
      holding = n.holding;
      goes = goes_trans m.goes n.goes;
      beside = beside_trans m.beside n.beside;
      grows = λ c. omega (arith, m.grows c, n.grows c);
      rows = λ slot p. n.rows slot (in_slots_lem slot p) ∙ m.rows slot p;
      cells = λ slot c i p q h. n.cells slot c i (in_slots_lem slot p) (in_columns c q) (rows_on m slot c i p h) ∙ m.cells slot c i p q h;
      bytes = λ x. n.bytes (m.bytes x);
      stands = λ k l h. let s = m.stands k l h in stands_trans s (n.stands k (in_numbers k l) s.live);
      pool = pool_trans m.pool n.pool;
    }
  where
    in_slots_lem : (slot : ℕ) → slot ≤ w.state.queue → slot ≤ v.state.queue
    in_slots_lem slot p = omega (arith, m.beside.set_up.queue)

    in_columns : (c : ℕ) → c < w.state.columns → c < v.state.columns
    in_columns c q = omega (arith, m.beside.set_up.columns)

    in_numbers : (k : ℕ) → k < w.state.numbers → k < v.state.numbers
    in_numbers k l = omega (arith, m.beside.set_up.numbers)

pub still_refl : (w : World) → BitsStill w w
still_refl w = record { bit = λ slot c i p q h. refl }

pub still_trans : {w v u : World} → Beside w v → BitsStill w v → BitsStill v u → BitsStill w u
still_trans {w} {v} {u} b m n =
    record {
      bit = λ slot c i p q h.
          let k = n.bit slot c i (omega (arith, b.set_up.queue)) (omega (arith, b.set_up.columns)) (omega (arith, same_bitmap_bytes b.set_up)) in
          (rw (same_bitmap_place b.set_up slot c) at k) ∙ m.bit slot c i p q h;
    }

-- the bits of a part stay where no bit changes
pub laid_on : {w v : World} (b : Batch) (c at from n : ℕ) → Run w → Beside w v → BitsStill w v → c < w.state.columns → at + n ≤ w.state.rows.0 → Laid w b c at from n → Laid v b c at from n
laid_on {w} {v} b c at from n r s m q h l =
    record {
      bit = λ j k.
          rw (same_bitmap_place s.set_up v.state.place c, s.place)
          (m.bit w.state.place c (at + j) r.fit.place q (omega (arith, bits_fit w.state)) ∙ l.bit j k);
    }

-- ---- more rows

pub holding-more : {w : World} {ext : ℕ → ℕ} (c n : ℕ) → Holding w ext → c < w.state.columns → ext c + n ≤ w.state.rows.0 → (is_views w.state c ≡ true → (j : ℕ) → j < n → is_valid (view_of w.slots (cell_place w.state w.state.place c (ext c + j))) (buffer_at w w.state.place c) (reach w w.state.place c) ≡ true) → Holding w (more ext c n)
holding-more {w} {ext} c n a q h new =
    record {
      run = a.run;
      sound = a.sound;
      listed = a.listed;
      sizes = a.sizes;
      sixteen = a.sixteen;
      alone = a.alone;
      unheld = a.unheld;
      uncounted = a.uncounted;
      unlisted = a.unlisted;
      some = a.some;
      counted = a.counted;
      within = λ d l. within d l (ℕ_discrete d c);
      valid = λ slot d i p l y k. valid slot d i p l y k (ℕ_discrete slot w.state.place) (ℕ_discrete d c);
    }
  where
    within : (d : ℕ) → d < w.state.columns → Dec (d ≡ c) → more ext c n d ≤ w.state.rows.0
    within d l (yes e) = rw e (omega (arith, more_here ext c n))
    within d l (no e) = omega (arith, more_other ext c n d e, a.within d l)

    valid : (slot d i : ℕ) → slot ≤ w.state.queue → d < w.state.columns → is_views w.state d ≡ true → i < rows_at w (more ext c n) slot d → Dec (slot ≡ w.state.place) → Dec (d ≡ c) → is_valid (view_of w.slots (cell_place w.state slot d i)) (buffer_at w slot d) (reach w slot d) ≡ true
    valid slot d i p l y k (no z) e = a.valid slot d i p l y (omega (arith, rows_other w ext slot d z, rows_other w (more ext c n) slot d z))
    valid slot d i p l y k (yes z) (no e) =
        a.valid slot d i p l y (omega (arith, rows-filling w ext slot d z, rows-filling w (more ext c n) slot d z, more_other ext c n d e))
    valid slot d i p l y k (yes z) (yes e) = by_row (dec_lt i (ext d))
      where
        by_row : Dec (i < ext d) → is_valid (view_of w.slots (cell_place w.state slot d i)) (buffer_at w slot d) (reach w slot d) ≡ true
        by_row (yes r) = a.valid slot d i p l y (omega (arith, rows-filling w ext slot d z))
        by_row (no r) =
            let m : i < ext c + n = omega (arith, rows-filling w (more ext c n) slot d z, more_here ext c n, ap (more ext c n) e) in
            let f : ext d ≡ ext c = ap ext e in
            let t : ext c + (i - ext c) ≡ i = omega arith in
            let x = new (rw e at y) (i - ext c) (omega arith) in
            rw (z, e) (rw t at x)

-- ---- the batch along a push

module _ {w v : World} {b : Batch} (x : ReadableBatch w b) (r : Run w) (e : SameSetUp w.state v.state) (g : Goes w v) (stands : (k : ℕ) → k < w.state.numbers → is_free (entry_of w.books k) ≡ false → Stands w v k) where
  -- what the caller holds begins as it did
  pub listed_begins : (c i : ℕ) → c < w.state.columns → i < (record_of b c).count → Begins (listed_bytes w b c i) (listed_bytes v b c i)
  unfolding listed_bytes bytes_listed listed_number
  listed_begins c i q h =
      let k : ℕ = listed_number b c i in
      let s = held_says w.books k ((x.reads.columns c q).held i h) in
      (stands k (omega (arith, s.0, r.used)) (live_is (entry_of w.books k) (omega (arith, s.1)))).begins

  row_keeps : (c i : ℕ) → c < w.state.columns → is_views w.state c ≡ true → i < b.rows → Keeps (row_view w b c i) (listed_bytes w b c) (row_view w b c i) (listed_bytes v b c) (record_of b c).count
  row_keeps c i q y h =
      keeps_begins (row_view w b c i) (listed_bytes w b c) (record_of b c).count (listed_bytes v b c) (record_of b c).count (x.valid c i q y h) (omega arith) (λ j l. listed_begins c j q l)

  pub sourced_along : ReadableBatch v b
  sourced_along =
      record {
        reads = g.reads b x.reads;
        bytes = x.bytes;
        valid = λ c i q y h.
            rw (same_row_view w v b e c i) (row_keeps c i (omega (arith, e.columns)) (sym (same_views e c) ∙ y) h).valid;
      }

  row-shown : (c i : ℕ) → c < w.state.columns → is_views w.state c ≡ true → i < b.rows → shows (view_of b.body (value_place w b c i)) (listed_bytes v b c) ≡ shows (view_of b.body (value_place w b c i)) (listed_bytes w b c)
  unfolding row_view
  row-shown c i q y h = (row_keeps c i q y h).same

  pub batch_along : (c i : ℕ) → c < w.state.columns → i < b.rows → batch_cell v b c i ≡ batch_cell w b c i
  unfolding batch_cell
  batch_along c i q h =
      rw (same_views e c, same_value_place w v b e c i, same_width e c)
      (cell_is (is_views w.state c) b.body b.body (value_place w b c i) (value_place w b c i) (width_of w.state c) (listed_bytes w b c) (listed_bytes v b c) refl (λ y. row-shown c i q y h) (λ y. refl))

module _ {w v : World} {b : Batch} {ext ext' : ℕ → ℕ} (x : ReadableBatch w b) (m : Moves w ext v ext') (r : Run w) where
  pub sourced_on : ReadableBatch v b
  sourced_on = sourced_along x r m.beside.set_up m.goes m.stands

  pub batch_on : (c i : ℕ) → c < w.state.columns → i < b.rows → batch_cell v b c i ≡ batch_cell w b c i
  batch_on = batch_along x r m.beside.set_up m.goes m.stands
