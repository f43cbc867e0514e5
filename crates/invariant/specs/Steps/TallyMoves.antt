-- Counts of a slot that are put: what they leave of the books, and of the other counts.
use Rattle.std.specs.Prelude.{ℕ, ◌+◌, ◌-◌, ◌≤◌, ◌<◌, ◌^◌, ◌≡◌, refl, ◌≢◌, List}
use Rattle.std.proofs.Common.{sym, ◌∙◌, ap, arith}
use Rattle.std.proofs.Math.Decide.{dec_lt}
use Rattle.words.specs.WordLaws.{bytes-with_word32}
use Rattle.books.specs.Entry.{used_of, entry_of, is_free}
use Rattle.sound.specs.Sound.{Sound, filled_bytes}
use Rattle.sound.proofs.Others.{filled-same}
use Rattle.tallies.specs.declared.Tally.{Tally}
use Rattle.tallies.specs.Tally.{tally_place, tally_of, with_tally}
use Rattle.tallies.specs.TallyLaws.{OtherTally, slots, slots', words, tally-same, tally_other, length-with_tally, entry-with_tally, used_with_tally}
use Rattle.state.specs.World.{World}
use Rattle.state.specs.Layout.{tally, rows_in, list_length}
use Rattle.rules.specs.Steps.{counting}
use Rattle.push_safety.specs.Run.{Run}
use Rattle.push_safety.specs.Firm.{run_firm}
use Rattle.push_safety.specs.StepGoes.{tally_room}

-- ---- the books

module _ {s : List ℕ} {p : ℕ} {count : ℕ → ℕ} (t : Tally) (x : ℕ) where
  pub tally_sound : Sound s t.numbers p count → x < 2 ^ 32 → Sound (with_tally s t x) t.numbers p count
  unfolding with_tally
  tally_sound a f =
      record {
        bytes = bytes-with_word32 s (tally_place t) x a.bytes f;
        room = omega (arith, a.room, length-with_tally s t x);
        few = a.few;
        used = rw u a.used;
        tight = λ h. let k : 0 < used_of s = rw u at h in rw u (ap is_free (e (used_of s - 1) (omega (arith, a.used))) ∙ a.tight k);
        beyond = λ i h l. e i h ∙ a.beyond i h (rw u at l);
        zero = λ i h l. e i h ∙ a.zero i h (ap is_free (sym (e i h)) ∙ l);
        inside = λ i h. rw (e i h) (a.inside i h);
        filled = λ i h. rw (e i h) (a.filled i h);
        apart = λ i j h g d. rw (e i h, e j g) (a.apart i j h g d);
        held = λ i h. rw (e i h) (a.held i h);
        counted = λ i h. rw (e i h) (a.counted i h);
      }
    where
      u : used_of (with_tally s t x) ≡ used_of s
      u = used_with_tally s t x

      e : (i : ℕ) → i < t.numbers → entry_of (with_tally s t x) i ≡ entry_of s i
      e i h = entry-with_tally s t x i h

pub tally-filled : (s pool : List ℕ) (t : Tally) (x k : ℕ) → k < t.numbers → filled_bytes (with_tally s t x) pool k ≡ filled_bytes s pool k
tally-filled s pool t x k h = filled-same s (with_tally s t x) pool k (entry_of s k) (entry-with_tally s t x k h) refl refl

-- ---- the counts

-- a count of another slot, or another count of one slot
pub tally-kept : (w : World) (slot k x slot' k' : ℕ) → k ≤ w.state.columns → k' ≤ w.state.columns → (slot' ≡ slot → k' ≢ k) → tally_of (with_tally w.books (tally w.state slot k) x) (tally w.state slot' k') ≡ tally_of w.books (tally w.state slot' k')
tally-kept w slot k x slot' k' l l' d = go (dec_lt slot slot') (dec_lt slot' slot)
  where
    other : OtherTally (tally w.state slot k) (tally w.state slot' k') → tally_of (with_tally w.books (tally w.state slot k) x) (tally w.state slot' k') ≡ tally_of w.books (tally w.state slot' k')
    other o = tally_other w.books (tally w.state slot k) (tally w.state slot' k') x refl refl l l' o

    go : Dec (slot < slot') → Dec (slot' < slot) → tally_of (with_tally w.books (tally w.state slot k) x) (tally w.state slot' k') ≡ tally_of w.books (tally w.state slot' k')
    go (yes a) b = other (slots a)
    go (no a) (yes b) = other (slots' b)
    go (no a) (no b) =
        let e : slot' ≡ slot = omega arith in
        let n : k' ≢ k = d e in
        other (words (sym e) (omega arith))

module _ (w : World) (slot k x : ℕ) where
  pub counting-rows : (slot' : ℕ) → k ≤ w.state.columns → (slot' ≡ slot → k ≢ 0) → rows_in (counting w slot k x) slot' ≡ rows_in w slot'
  unfolding rows_in counting
  counting-rows slot' l d = tally-kept w slot k x slot' 0 l (omega arith) (λ e z. d e (sym z))

  pub counting-length : (slot' c : ℕ) → k ≤ w.state.columns → c < w.state.columns → (slot' ≡ slot → c + 1 ≢ k) → list_length (counting w slot k x) slot' c ≡ list_length w slot' c
  unfolding list_length counting
  counting-length slot' c l q d = tally-kept w slot k x slot' (c + 1) l (omega arith) d

pub counting_length_here : (w : World) (slot c x : ℕ) → Run w → slot ≤ w.state.queue → c < w.state.columns → x < 2 ^ 32 → list_length (counting w slot (c + 1) x) slot c ≡ x
unfolding list_length counting
counting_length_here w slot c x r p q f = tally-same w.books (tally w.state slot (c + 1)) x (tally_room slot (c + 1) (run_firm r) p (omega arith)) f

pub counting_rows_here : (w : World) (slot x : ℕ) → Run w → slot ≤ w.state.queue → x < 2 ^ 32 → rows_in (counting w slot 0 x) slot ≡ x
unfolding rows_in counting
counting_rows_here w slot x r p f = tally-same w.books (tally w.state slot 0) x (tally_room slot 0 (run_firm r) p (omega arith)) f
