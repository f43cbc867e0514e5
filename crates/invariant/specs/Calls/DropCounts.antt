-- The counts of a slot made zero: every other count, and every entry, is as it was.
use Prim.Native.Nat.{ℕ, zero, suc, ◌+◌, ◌≤◌, ◌<◌}
use Rattle.std.specs.Prelude.{◌≡◌, ◌≢◌, List, length}
use Rattle.std.proofs.Math.Path.{refl}
use Rattle.std.proofs.Common.{sym, ◌∙◌, ap, arith}
use Rattle.std.proofs.Math.Decide.{dec_lt}
use Rattle.books.specs.Entry.{entry_of}
use Rattle.sound.specs.Sound.{Sound}
use Rattle.tallies.specs.Tally.{tally_place, tally_of, with_tally}
use Rattle.tallies.specs.TallyLaws.{tally-same, length-with_tally, entry-with_tally}
use Rattle.state.specs.World.{World}
use Rattle.state.specs.Layout.{tally}
use Rattle.rules.specs.Steps.{each, in_books, counting}
use Rattle.rules.specs.Calls.{uncounted}
use Rattle.invariant.specs.Steps.TallyMoves.{tally_sound, tally-kept}

module _ (w : World) (slot : ℕ) (room : (k : ℕ) → k ≤ w.state.columns → tally_place (tally w.state slot k) + 4 ≤ length w.books) where
  -- the first n counts of the slot are zero
  pub record Zeroed (n : ℕ) (books : List ℕ) : Type 0 where
    pub zeros : (k : ℕ) → k < n → k ≤ w.state.columns → tally_of books (tally w.state slot k) ≡ 0
    pub others : (slot' k : ℕ) → slot' ≢ slot → k ≤ w.state.columns → tally_of books (tally w.state slot' k) ≡ tally_of w.books (tally w.state slot' k)
    pub entries : (k : ℕ) → k < w.state.numbers → entry_of books k ≡ entry_of w.books k
    pub sound : {p : ℕ} {count : ℕ → ℕ} → Sound w.books w.state.numbers p count → Sound books w.state.numbers p count
    pub len : length books ≡ length w.books

  none_yet : Zeroed 0 w.books
  none_yet =
      record {
        zeros = λ k h l. absurd (omega arith);
        others = λ slot' k d l. refl;
        entries = λ k h. refl;
        sound = λ s. s;
        len = refl;
      }

  one_more_lem : (n : ℕ) (books : List ℕ) → n ≤ w.state.columns → Zeroed n books → Zeroed (suc n) (with_tally books (tally w.state slot n) 0)
  one_more_lem n books h z =
      record {
        zeros = λ k g l. zero_at_lem k g l (dec_lt k n);
        others = λ slot' k d l. tally-kept (in_books w books) slot n 0 slot' k h l (λ e. absurd (d e)) ∙ z.others slot' k d l;
        entries = λ k l. entry-with_tally books (tally w.state slot n) 0 k l ∙ z.entries k l;
        sound = λ s. tally_sound (tally w.state slot n) 0 (z.sound s) (omega arith);
        len = length-with_tally books (tally w.state slot n) 0 ∙ z.len;
      }
    where
      zero_at_lem : (k : ℕ) → k < suc n → k ≤ w.state.columns → Dec (k < n) → tally_of (with_tally books (tally w.state slot n) 0) (tally w.state slot k) ≡ 0
      zero_at_lem k g l (yes d) = tally-kept (in_books w books) slot n 0 slot k h l (λ e f. omega arith) ∙ z.zeros k d l
      zero_at_lem k g l (no d) =
          let e : k ≡ n = omega arith in
          rw e (tally-same books (tally w.state slot n) 0 (omega (arith, room n h, z.len)) (omega arith))

  record CountsAfter (n : ℕ) (v : World) : Type 0 where
    books : List ℕ
    is : v ≡ in_books w books
    zeroed : Zeroed n books

  counting_is : (books : List ℕ) (k : ℕ) → counting (in_books w books) slot k 0 ≡ in_books w (with_tally books (tally w.state slot k) 0)
  unfolding counting
  counting_is books k = refl

  step : (n : ℕ) (v : World) → n ≤ w.state.columns → CountsAfter n v → CountsAfter (suc n) (counting v slot n 0)
  step n v h a =
      record {
        books = with_tally a.books (tally w.state slot n) 0;
        is = ap (λ (t : World). counting t slot n 0) a.is ∙ counting_is a.books n;
        zeroed = one_more_lem n a.books h a.zeroed;
      }

  zeroed_to : (n : ℕ) → n ≤ 1 + w.state.columns → CountsAfter n (each n (λ v k. counting v slot k 0) w)
  unfolding each
  zeroed_to zero h = record { books = w.books; is = refl; zeroed = none_yet }
  zeroed_to (suc n) h = step n (each n (λ v k. counting v slot k 0) w) (omega arith) (zeroed_to n (omega arith))

  all : CountsAfter (1 + w.state.columns) (uncounted w slot)
  unfolding uncounted
  all = zeroed_to (1 + w.state.columns) (omega arith)

  pub uncounted_is : uncounted w slot ≡ in_books w (uncounted w slot).books
  uncounted_is = all.is ∙ ap (λ (t : World). in_books w t.books) (sym all.is)

  pub uncounted_zeroed : Zeroed (1 + w.state.columns) (uncounted w slot).books
  uncounted_zeroed = rw (ap (λ (t : World). t.books) all.is) all.zeroed
