-- The loop over rows: what holds after i of them; none yet, one more, all.
use Prim.Native.Nat.{ℕ, zero, suc, ◌+◌, ◌*◌, ◌≤◌, ◌<◌}
use Rattle.std.specs.Prelude.{◌≡◌, Bool, true, false, cond, List, [], ◌∷◌, ◌++◌, length, get_or, set, drop}
use Rattle.std.proofs.Math.Path.{refl}
use Rattle.std.proofs.Common.{sym, ◌∙◌, ap, append_assoc, arith, zero-add, drop-cons}
use Rattle.std.proofs.Math.Numerals.{add-one}
use Rattle.std.proofs.Math.ListN.{length-append}
use Rattle.std.proofs.lemmas.List.{set_at}
use Rattle.words.specs.Run.{put}
use Rattle.words.specs.WordLaws.{Bytes, word32_lt}
use Rattle.outs.specs.Outs.{Strip, given_took}
use Rattle.outs.specs.Coding.{code_of, strip_of, is_strip}
use Rattle.outs.specs.CodingLaws.{StripFits, strip-fits, strip-code, code-strip, code_is_strip}
use Rattle.outs.proofs.CallerLaws.{given-fits}
use Rattle.state.specs.Rows.{Row, up_to}
use Rattle.match_rows.specs.declared.Places.{Places}
use Rattle.match_rows.specs.MatchRow.{row_number, row_took, row_numbers, after_rows}
use Rattle.match_rows.proofs.MatchRowLaws.{after_rows_none, after_rows_more, row_numbers_more, row_numbers_length}
use Rattle.match_rows.specs.Placed.{long_at, whole_at, name_at, placed_row, placed_rows}
use Rattle.match_rows.specs.FourLaws.{placed_took}

-- ---- rows one after the other

module _ (slots pool books : List ℕ) (p : Places) where
  pub placed_none : placed_rows slots pool books p 0 ≡ []
  unfolding placed_rows up_to
  placed_none = refl

  pub placed_more : (i : ℕ) → placed_rows slots pool books p (i + 1) ≡ placed_rows slots pool books p i ++ (placed_row slots pool books p i ∷ [])
  unfolding placed_rows up_to
  placed_more i = rw add-one

  pub placed_length : (i : ℕ) → length (placed_rows slots pool books p i) ≡ i
  unfolding placed_rows up_to
  placed_length zero = refl
  placed_length (suc i) = length-append (placed_rows slots pool books p i) (placed_row slots pool books p i ∷ []) ∙ omega (arith, placed_length i)

-- ---- a strip that fits does so after a row

long_small : (slots : List ℕ) (at : ℕ) → Bytes slots → long_at slots at < 18446744073709551616
unfolding long_at
long_small slots at b = omega (arith, word32_lt slots at b, word32_lt slots (at + 4) b)

row_fits : (s : Strip) (slots pool books : List ℕ) (p : Places) (i : ℕ) → Bytes slots → StripFits s → StripFits (row_took s (placed_row slots pool books p i))
row_fits s slots pool books p i b f = rw (placed_took s slots pool books p i) (go (whole_at slots p i))
  where
    go : (w : Bool) → StripFits (cond w (given_took s (long_at slots (p.numbers + 8 * i)) (get_or slots (p.sides + i) 0) (get_or slots (p.events + i) 0) (name_at slots pool books p i)) s)
    go true = given-fits s _ _ _ _ f (long_small slots (p.numbers + 8 * i) b)
    go false = f

-- ---- one answer more

put-more : (l d : List ℕ) (x : ℕ) → length l < length d → set (put 0 l d) (length l) x ≡ put 0 (l ++ (x ∷ [])) d
unfolding put
put-more l d x h =
    rw (zero-add (length l), zero-add (length (l ++ (x ∷ []))), length-append l (x ∷ []), add-one (length l), drop-cons d (length l) 0 h, set_at l (get_or d (length l) 0) (drop (suc (length l)) d) x (length l) refl, append_assoc l (x ∷ []) (drop (suc (length l)) d))

-- ---- after i rows

-- the strip's bytes code a strip, the one that i rows leave, and the answers have a number for each of them
pub record Along (slots pool books : List ℕ) (p : Places) (strip₀ numbers₀ strip numbers : List ℕ) (i : ℕ) : Type 0 where
  pub coded : is_strip strip ≡ true
  pub holds : strip_of strip ≡ after_rows (strip_of strip₀) (placed_rows slots pool books p i)
  pub numbers_are : numbers ≡ put 0 (row_numbers (strip_of strip₀) (placed_rows slots pool books p i)) numbers₀

module _ (slots pool books : List ℕ) (p : Places) (strip₀ numbers₀ : List ℕ) where
  -- the first i rows
  abbrev rows : ℕ → List Row
  rows i = placed_rows slots pool books p i

  nothing_put : (d : List ℕ) → d ≡ put 0 [] d
  unfolding put
  nothing_put d = refl

  no_numbers : (s : Strip) → row_numbers s [] ≡ []
  unfolding row_numbers
  no_numbers s = refl

  pub along_none : is_strip strip₀ ≡ true → Along slots pool books p strip₀ numbers₀ strip₀ numbers₀ 0
  along_none h =
      record {
        coded = h;
        holds = sym (ap (after_rows (strip_of strip₀)) (placed_none slots pool books p) ∙ after_rows_none (strip_of strip₀));
        numbers_are = nothing_put numbers₀ ∙ ap (λ (l : List ℕ). put 0 l numbers₀) (sym (ap (row_numbers (strip_of strip₀)) (placed_none slots pool books p) ∙ no_numbers (strip_of strip₀)));
      }

  module _ {strip numbers : List ℕ} {i : ℕ} (a : Along slots pool books p strip₀ numbers₀ strip numbers i) where
    pub along_more : {strip' : List ℕ} {r : ℕ} → Bytes slots → i < length numbers₀ → r ≡ row_number (strip_of strip) (placed_row slots pool books p i) → strip' ≡ code_of (row_took (strip_of strip) (placed_row slots pool books p i)) → Along slots pool books p strip₀ numbers₀ strip' (set numbers i r) (i + 1)
    along_more {strip'} {r} b h q t = record { coded = ap is_strip t ∙ code_is_strip next fits; holds = ap strip_of t ∙ code-strip next fits ∙ step; numbers_are = answers }
      where
        next : Strip
        next = row_took (strip_of strip) (placed_row slots pool books p i)

        fits : StripFits next
        fits = row_fits (strip_of strip) slots pool books p i b (strip-fits strip a.coded)

        step : next ≡ after_rows (strip_of strip₀) (rows (i + 1))
        step =
            ap (λ (s : Strip). row_took s (placed_row slots pool books p i)) a.holds
            ∙ sym (ap (after_rows (strip_of strip₀)) (placed_more slots pool books p i) ∙ after_rows_more (strip_of strip₀) (rows i) (placed_row slots pool books p i))

        so_far : List ℕ
        so_far = row_numbers (strip_of strip₀) (rows i)

        long : length so_far ≡ i
        long = row_numbers_length (strip_of strip₀) (rows i) ∙ placed_length slots pool books p i

        one_more_lem : so_far ++ (r ∷ []) ≡ row_numbers (strip_of strip₀) (rows (i + 1))
        one_more_lem =
            ap (λ (n : ℕ). so_far ++ (n ∷ [])) (q ∙ ap (λ (s : Strip). row_number s (placed_row slots pool books p i)) a.holds)
            ∙ sym (ap (row_numbers (strip_of strip₀)) (placed_more slots pool books p i) ∙ row_numbers_more (strip_of strip₀) (rows i) (placed_row slots pool books p i))

        answers : set numbers i r ≡ put 0 (row_numbers (strip_of strip₀) (rows (i + 1))) numbers₀
        answers =
            ap (λ (l : List ℕ). set l i r) a.numbers_are
            ∙ ap (λ (k : ℕ). set (put 0 so_far numbers₀) k r) (sym long)
            ∙ put-more so_far numbers₀ r (omega (arith, long))
            ∙ ap (λ (l : List ℕ). put 0 l numbers₀) one_more_lem

    pub along_strip : (n : ℕ) → i ≤ n → n ≤ i → strip ≡ code_of (after_rows (strip_of strip₀) (placed_rows slots pool books p n))
    along_strip n h l =
        let e : i ≡ n = omega arith in
        strip-code strip a.coded ∙ ap code_of (a.holds ∙ ap (λ (k : ℕ). after_rows (strip_of strip₀) (rows k)) e)

    pub along_numbers : (n : ℕ) → i ≤ n → n ≤ i → numbers ≡ put 0 (row_numbers (strip_of strip₀) (placed_rows slots pool books p n)) numbers₀
    along_numbers n h l =
        let e : i ≡ n = omega arith in
        a.numbers_are ∙ ap (λ (k : ℕ). put 0 (row_numbers (strip_of strip₀) (rows k)) numbers₀) e
