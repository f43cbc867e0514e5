-- A set-up that is not refused: nothing queued, nothing buffered, and everything that holds between calls.
use Rattle.std.specs.Prelude.{ℕ, zero, suc, ◌+◌, ◌*◌, ◌≤◌, ◌<◌, ◌≡◌, Bool, true, false, List, [], ◌∷◌, length, get_or, replicate, eqb}
use Rattle.std.proofs.Math.Path.{refl, ap}
use Rattle.std.proofs.Common.{sym, ◌∙◌, arith}
use Rattle.std.proofs.Math.Bool.{cond, and-eq-true_iff}
use Rattle.std.proofs.Math.Decide.{ℕ_discrete}
use Rattle.std.proofs.lemmas.List.{length-replicate}
use borrow.Author.Tests.{eqb-true}
use Rattle.words.specs.Word.{word_of, word32}
use Rattle.words.specs.WordLaws.{Bytes}
use Rattle.blocks.specs.Block.{fresh}
use Rattle.blocks.specs.BlockLaws.{Power, fresh_power, power_range}
use Rattle.sound.specs.Sound.{Sound}
use Rattle.sound.specs.SoundLaws.{sound_recount}
use Rattle.sound.proofs.Kept.{empty_sound}
use Rattle.tallies.specs.declared.Tally.{Tally}
use Rattle.tallies.specs.Tally.{tally_of}
use Rattle.state.specs.World.{World, no_column, column_of}
use Rattle.state.specs.Layout.{is_views, slots_length, books_length, list_length, rows_in, queued_slot}
use Rattle.state.specs.Rows.{up_to, slot_rows, queued_batches, buffered_rows}
use Rattle.rules.specs.Batch.{sum_to}
use Rattle.rules.specs.Views.{has_block}
use Rattle.rules.specs.Ranges.{in_bounds, fits_set_up}
use Rattle.rules.specs.Calls.{Wanted, columns_for, new_state, set_up_call}
use Rattle.rules.proofs.CallLaws.{set_up_done, set_up_zero}
use Rattle.push_safety.specs.Run.{Run}
use Rattle.push_safety.specs.TestedLaws.{Bounds, bounds_say}
use Rattle.invariant.specs.Holding.{reach, number_at, times_in, listings, rows_at, Holding, Between}
use Rattle.invariant.proofs.Rests.{reach_plain, reach-shut}
use Rattle.invariant.proofs.CountLaws.{sum_zero}
use Rattle.invariant.proofs.AloneLaws.{new_sixteen, not_open_lem}
use Rattle.invariant.proofs.Steps.MoveLaws.{rows-filling, rows_other}
use Rattle.std.specs.Prelude.{None}

-- ---- bytes of zeros

abbrev zeros : ℕ → List ℕ
zeros n = replicate n 0

zero_byte : (n i : ℕ) → get_or (zeros n) i 0 ≡ 0
zero_byte zero i = refl
zero_byte (suc n) zero = refl
zero_byte (suc n) (suc i) = zero_byte n i

zero_word : (n at : ℕ) → word32 (zeros n) at ≡ 0
unfolding word32 word_of
zero_word n at = rw (zero_byte n at, zero_byte n (at + 1), zero_byte n (at + 2), zero_byte n (at + 3))

zero_bytes : (n : ℕ) → Bytes (zeros n)
zero_bytes n = record { byte = λ i. rw (zero_byte n i) (omega arith) }

zero_count : (n : ℕ) (t : Tally) → tally_of (zeros n) t ≡ 0
unfolding tally_of
zero_count n t = zero_word n _

-- ---- columns

new-column : (kinds : List ℕ) (n c : ℕ) → c < n → ((get_or (columns_for kinds n) c no_column).source ≡ fresh) × ((get_or (columns_for kinds n) c no_column).block ≡ None)
unfolding columns_for
new-column kinds zero c h = absurd (omega arith)
new-column [] (suc n) zero h = (refl, refl)
new-column [] (suc n) (suc c) h = new-column [] n c (omega arith)
new-column (k ∷ ks) (suc n) zero h = (refl, refl)
new-column (k ∷ ks) (suc n) (suc c) h = new-column ks n c (omega arith)

column_of_lem : (a : Wanted) (c : ℕ) → c < 16 → ((column_of (new_state a) c).source ≡ fresh) × ((column_of (new_state a) c).block ≡ None)
unfolding column_of new_state
column_of_lem a c h = new-column a.kinds 16 c h

-- ---- the world

module _ (a : Wanted) (slots pool books : List ℕ) (ok : fits_set_up (record { state = new_state a; slots = slots; pool = pool; books = books }) ≡ true) where
  abbrev w : World
  w = record { state = new_state a; slots = slots; pool = pool; books = zeros (length books) }

  record SetUpFits : Type 0 where
    bounds : in_bounds (new_state a) ≡ true
    slots_are : length slots ≡ slots_length (new_state a)
    pool_is : length pool ≡ (new_state a).pool.0
    books_are : length books ≡ books_length (new_state a)

  fits : SetUpFits
  unfolding fits_set_up
  fits =
      let p = (and-eq-true_iff _ _).0 ok in
      let q = (and-eq-true_iff _ _).0 p.1 in
      let r = (and-eq-true_iff _ _).0 q.1 in
      record { bounds = p.0; slots_are = eqb-true _ _ q.0; pool_is = eqb-true _ _ r.0; books_are = eqb-true _ _ r.1 }

  bounds : Bounds (new_state a)
  bounds = bounds_say (new_state a) fits.bounds

  books_length_lem : length (zeros (length books)) ≡ length books
  books_length_lem = length-replicate (length books) 0

  counts : (new_state a).place ≡ 0
  unfolding new_state
  counts = refl

  none_queued : (new_state a).queued ≡ 0
  unfolding new_state
  none_queued = refl

  none_buffered : (new_state a).buffered.0 ≡ 0
  unfolding new_state
  none_buffered = refl

  column : (c : ℕ) → c < (new_state a).columns → ((column_of (new_state a) c).source ≡ fresh) × ((column_of (new_state a) c).block ≡ None)
  column c q = column_of_lem a c (omega (arith, bounds.columns))

  lengths : (slot c : ℕ) → list_length w slot c ≡ 0
  unfolding list_length
  lengths slot c = zero_count (length books) _

  rows : (slot : ℕ) → rows_in w slot ≡ 0
  unfolding rows_in
  rows slot = zero_count (length books) _

  reaches : (slot c : ℕ) → c < (new_state a).columns → reach w slot c ≡ 0
  reaches slot c q = go (is_views (new_state a) c) refl
    where
      go : (b : Bool) → is_views (new_state a) c ≡ b → reach w slot c ≡ 0
      go true y = reach-shut w slot c y (ap has_block (column c q).1) ∙ lengths slot c
      go false y = reach_plain w slot c y

  no_times : (slot c k : ℕ) → c < (new_state a).columns → times_in w slot c k ≡ 0
  unfolding times_in sum_to
  no_times slot c k q = ap (λ (n : ℕ). sum_to n (λ i. cond (eqb k (number_at w slot c i)) 1 0)) (reaches slot c q)

  no_listings : (k : ℕ) → listings w k ≡ 0
  unfolding listings
  no_listings k =
      sum_zero ((new_state a).queue + 1) _ (λ slot p. sum_zero (new_state a).columns _ (λ c q. no_times slot c k q))

  entries_room : 4 + 20 * (new_state a).numbers ≤ length (zeros (length books))
  unfolding books_length
  entries_room = omega (arith, books_length_lem, fits.books_are)

  sound : Sound (zeros (length books)) (new_state a).numbers (new_state a).pool.0 (listings w)
  sound =
      sound_recount (listings w)
      (empty_sound (zeros (length books)) (new_state a).numbers (new_state a).pool.0 (zero_bytes (length books)) entries_room bounds.numbers (λ x h. zero_byte (length books) x))
      (λ k l. sym (no_listings k))

  sizes : (c : ℕ) → c < (new_state a).columns → Power (column_of (new_state a) c).source.current.0
  sizes c q = rw (column c q).0 fresh_power

  run : Run w
  run =
      record {
        fit =
            record {
              bounds = fits.bounds;
              slots_are = fits.slots_are;
              pool_is = fits.pool_is;
              books_are = books_length_lem ∙ fits.books_are;
              place = omega (arith, counts);
              queued = omega (arith, none_queued);
              bytes = zero_bytes (length books);
            };
        used = sound.used;
        inside = λ k h. sound.inside k (omega (arith, sound.used));
        filled = λ k h. sound.filled k (omega (arith, sound.used));
        lists = λ slot c p q. omega (arith, lengths slot c);
        none = λ slot c p q y. lengths slot c;
        kept = λ c q y. omega (arith, (power_range _ (sizes c q)).0);
        block = λ c k q y o. absurd (not_open_lem k (sym (column c q).1 ∙ o));
        room = λ c k q y o. absurd (not_open_lem k (sym (column c q).1 ∙ o));
      }

  no_row : (slot c i : ℕ) → i < rows_at w (λ d. (new_state a).buffered.0) slot c → Dec (slot ≡ (new_state a).place) → ⊥
  no_row slot c i h (yes e) = omega (arith, rows-filling w (λ d. (new_state a).buffered.0) slot c e, none_buffered)
  no_row slot c i h (no d) = omega (arith, rows_other w (λ d. (new_state a).buffered.0) slot c d, rows slot)

  holding : Holding w (λ c. (new_state a).buffered.0)
  holding =
      record {
        run = run;
        sound = sound;
        listed = λ slot c i p q h. absurd (omega (arith, lengths slot c));
        sizes = λ c q y. sizes c q;
        sixteen = new_sixteen a;
        alone = record { alone = λ c d k p r. absurd (not_open_lem (record { 0 = k }) (sym (column c p.column).1 ∙ p.block)) };
        unheld = record { unheld = λ c k p. absurd (not_open_lem (record { 0 = k }) (sym (column c p.column).1 ∙ p.block)) };
        uncounted = λ slot p n. rows slot;
        unlisted = λ slot c p d n q. lengths slot c;
        some = λ slot z. absurd (omega (arith, z.below, none_queued));
        counted = λ slot p. omega (arith, rows slot);
        within = λ c q. omega (arith, none_buffered);
        valid = λ slot c i p q y h. absurd (no_row slot c i h (ℕ_discrete slot (new_state a).place));
      }

  begun : Between w
  begun =
      record {
        holding = holding;
        below = omega (arith, none_buffered, bounds.target_some);
        spared = record { spare = λ slot c i p q h. absurd (no_row slot c 0 h.some (ℕ_discrete slot (new_state a).place)) };
        begun = λ z c q. reaches (new_state a).place c q;
      }

  no_batches : queued_batches w ≡ []
  unfolding queued_batches up_to
  no_batches = ap (λ (n : ℕ). up_to n (λ k. slot_rows w (queued_slot (new_state a) k) (rows_in w (queued_slot (new_state a) k)))) none_queued

  no_rows : buffered_rows w ≡ []
  unfolding buffered_rows slot_rows up_to
  no_rows = ap (slot_rows w (new_state a).place) none_buffered

-- ---- the call

pub record Starts (w : World) : Type 0 where
  pub between : Between w
  pub batches : queued_batches w ≡ []
  pub rows : buffered_rows w ≡ []

pub set_up_begins : (a : Wanted) (slots pool books : List ℕ) → (set_up_call a slots pool books).number ≡ 0 → Starts (set_up_call a slots pool books).world
set_up_begins a slots pool books e =
    let p = set_up_zero a slots pool books e in
    rw (set_up_done a slots pool books p)
    (record { between = begun a slots pool books p; batches = no_batches a slots pool books p; rows = no_rows a slots pool books p })
