-- The front batch behind the tests: its rows are those read through its places, which lie in the lent slots; how many there are.
use Rattle.std.specs.Prelude.{ℕ, zero, suc, ◌+◌, ◌*◌, ◌/◌, ◌≤◌, ◌<◌, ◌≡◌, Bool, length, eqb}
use Rattle.std.proofs.Math.Path.{refl}
use Rattle.std.proofs.Common.{sym, ◌∙◌, ap, length-append, eq-eqb, ne_eqb}
use Rattle.std.proofs.Math.Bool.{true, false, cond}
use mathlib.Core.List.{List, [], ◌∷◌}
use native.Mathlib.Omega.{arith}
use Rattle.std.proofs.Math.Decide.{ℕ_discrete}
use Rattle.words.specs.Word.{word32}
use Rattle.words.specs.Run.{put}
use Rattle.state.specs.declared.BatchCoalescer.{BatchCoalescer}
use Rattle.state.specs.World.{World, world}
use Rattle.state.specs.Layout.{bitmap_bytes, bitmap_place, rows_in, list_length, queued_slot}
use Rattle.state.proofs.SlotLaws.{queued_in, queued_place}
use Rattle.state.specs.Rows.{up_to, slot_rows, taken_rows}
use Rattle.layout.specs.PlaceLaws.{bitmap_below, list-below}
use Rattle.ranges.specs.SaysLaws.{says_entries, says-list, says-number}
use Rattle.ranges.specs.Passed.{PassedTests, passed_few, passed_slots, passed_place, passed_queued, passed_rows}
use Rattle.outs.specs.Coding.{code_of, strip_of}
use Rattle.match_rows.specs.declared.Places.{Places}
use Rattle.match_rows.specs.MatchRow.{is_match, after_rows, row_numbers}
use Rattle.match_rows.specs.ColumnLaws.{Match, match_says, name_views, number-bits, side_bits, event_bits, name_bits, list_at}
use Rattle.match_rows.specs.Placed.{places_in, places_of, placed_rows, Placed}
use Rattle.match_rows.specs.PlacedLaws.{rows_are}
use Rattle.player_strip.specs.StripCall.{front_batch}
use Rattle.player_strip.specs.Promises.{front_count, ReadsFront}
use Rattle.player_strip.specs.AlongLaws.{placed_none}

-- ---- front_rows

module _ (s : BatchCoalescer) (books : List ℕ) where
  pub count_none : s.queued ≡ 0 → 0 ≡ front_count s books
  unfolding front_count
  count_none z = rw (eq-eqb s.queued 0 z)

  pub count-front : {slot n : ℕ} → (s.queued ≡ 0 → ⊥) → slot ≡ queued_slot s 0 → n ≡ rows_in (world s [] [] books) slot → n ≡ front_count s books
  unfolding front_count
  count-front h p q = rw (ne_eqb s.queued 0 h, ← p) q

-- ---- front_places

pub match_column : (s : BatchCoalescer) → is_match s ≡ true → 3 < s.columns
match_column s m = omega (arith, (match_says s m).columns)

module _ (s : BatchCoalescer) (slots books : List ℕ) (t : PassedTests s slots books) where
  pub few_rows : s.rows.0 ≤ 65536
  few_rows = let f = passed_few s slots books t in f.rows

  pub few_lists : s.lists ≤ 1024
  few_lists = let f = passed_few s slots books t in f.lists

  module _ (m : is_match s ≡ true) (slot : ℕ) (h : slot ≤ s.queue) where
    -- how many numbers the list of the names has
    abbrev count : ℕ
    count = list_length (world s [] [] books) slot 3

    -- the places in the slot
    abbrev p : Places
    p = places_in slot s.rows.0 s.lists count

    is : Match s
    is = match_says s m

    in_slots_lem : (c : ℕ) → c < s.columns → {place : ℕ} → bitmap_place s slot c ≡ place → place + (s.rows.0 + 7) / 8 ≤ length slots
    unfolding bitmap_bytes
    in_slots_lem c l e = omega (arith, bitmap_below s h l (passed_slots s slots books t))

    listed_in : p.list + 4 * count ≤ length slots
    listed_in =
        omega (arith, list_at s is slot count, list-below s h (match_column s m) (passed_slots s slots books t) {k = count} (name_views s is) (says-list s slots t.pool books (sym t.zero) refl slot 3 refl h (match_column s m) (name_views s is)))

    numbered : (j : ℕ) → j < count → 24 + 20 * word32 slots (p.list + 4 * j) ≤ length books
    numbered j l =
        omega (arith, says_entries s slots t.pool books (sym t.zero) refl, says-number s slots t.pool books (sym t.zero) refl slot 3 refl h (match_column s m) j (sym (list_at s is slot count)) refl l)

    pub placed_so : Placed slots books (places_in slot s.rows.0 s.lists (list_length (world s [] [] books) slot 3))
    unfolding places_in
    placed_so =
        record {
          few = few_rows;
          numbers_in = in_slots_lem 0 (omega (arith, is.columns)) (number-bits s is slot count);
          sides_in = in_slots_lem 1 (omega (arith, is.columns)) (side_bits s is slot count);
          events_in = in_slots_lem 2 (omega (arith, is.columns)) (event_bits s is slot count);
          names_in_lem = in_slots_lem 3 (omega (arith, is.columns)) (name_bits s is slot count);
          list_in = listed_in;
          listed = numbered;
        }

  module _ (m : is_match s ≡ true) {slot count : ℕ} {r : Places} (h : slot ≤ s.queue) (o : slot ≡ queued_slot s 0) (q : count ≡ list_length (world s [] [] books) slot 3) (e : r ≡ places_in slot s.rows.0 s.lists count) where
    pub places_so : r ≡ places_of (world s [] [] books) (queued_slot s 0)
    unfolding places_of
    places_so = rw (← o, ← q) e

    pub placed_at : Placed slots books r
    placed_at = rw (e, q) (placed_so m slot h)

-- ---- read_front

length-upTo {ℓ} : {A : Type ℓ} (n : ℕ) (f : ℕ → A) → length (up_to n f) ≡ n
unfolding up_to
length-upTo zero f = refl
length-upTo (suc n) f = length-append (up_to n f) (f n ∷ []) ∙ omega (arith, length-upTo n f)

-- how many rows there are does not look at slots and pool
pub count-length : (s : BatchCoalescer) (slots pool books : List ℕ) → front_count s books ≡ length (front_batch (world s slots pool books))
unfolding front_count front_batch taken_rows slot_rows rows_in
count-length s slots pool books = go (eqb s.queued 0)
  where
    w : World
    w = world s slots pool books

    go : (b : Bool) → cond b 0 (rows_in w (queued_slot s 0)) ≡ length (cond b [] (slot_rows w (queued_slot s 0) (rows_in w (queued_slot s 0))))
    go true = refl
    go false = sym (length-upTo (rows_in w (queued_slot s 0)) _)

module _ (s : BatchCoalescer) (slots books : List ℕ) (t : PassedTests s slots books) where
  pub count_small : front_count s books ≤ s.rows.0
  unfolding front_count
  count_small = go (eqb s.queued 0)
    where
      go : (b : Bool) → cond b 0 (rows_in (world s [] [] books) (queued_slot s 0)) ≤ s.rows.0
      go true = omega arith
      go false = passed_rows s slots books t (queued_slot s 0) refl (queued_in s 0 (passed_place s slots books t))

  pub count_in : {p : Places} {n : ℕ} → p ≡ places_of (world s [] [] books) (queued_slot s 0) → n ≡ front_count s books → n ≤ p.rows
  unfolding places_of places_in
  count_in e q = rw (e, q) count_small

  -- THE ROWS: those that the next drop takes are those read through the places
  module _ (m : is_match s ≡ true) (pool : List ℕ) where
    -- the world
    abbrev w : World
    w = world s slots pool books

    pub batch_placed : front_batch (world s slots pool books) ≡ placed_rows slots pool books (places_of (world s [] [] books) (queued_slot s 0)) (front_count s books)
    unfolding front_batch front_count taken_rows places_of list_length rows_in
    batch_placed = go (ℕ_discrete s.queued 0)
      where
        go : Dec (s.queued ≡ 0) → cond (eqb s.queued 0) [] (slot_rows w (queued_slot s 0) (rows_in w (queued_slot s 0))) ≡ placed_rows slots pool books (places_of w (queued_slot s 0)) (cond (eqb s.queued 0) 0 (rows_in w (queued_slot s 0)))
        go (yes z) = rw (eq-eqb s.queued 0 z) (sym (placed_none slots pool books (places_of w (queued_slot s 0))))
        go (no h) =
            rw (ne_eqb s.queued 0 h)
            (rows_are w (queued_slot s 0) (match_says s m) (queued_place s (passed_place s slots books t) (passed_queued s slots books t) 0 (omega arith)) (rows_in w (queued_slot s 0)))

    pub front_reads : (strip numbers : List ℕ) {strip' numbers' : List ℕ} {p : Places} {n : ℕ} → p ≡ places_of (world s [] [] books) (queued_slot s 0) → n ≡ front_count s books → strip' ≡ code_of (after_rows (strip_of strip) (placed_rows slots pool books p n)) → numbers' ≡ put 0 (row_numbers (strip_of strip) (placed_rows slots pool books p n)) numbers → ReadsFront (world s slots pool books) strip strip' numbers numbers' n
    front_reads strip numbers {strip'} {numbers'} {p} {n} e q a b =
        let r : placed_rows slots pool books p n ≡ front_batch (world s slots pool books) = ap (λ (x : Places). placed_rows slots pool books x n) e ∙ ap (placed_rows slots pool books (places_of (world s [] [] books) (queued_slot s 0))) q ∙ sym batch_placed in
        record {
          rows_are = q ∙ count-length s slots pool books;
          strip_is = rw r at a;
          numbers_are = rw r at b;
        }
