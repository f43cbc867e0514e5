-- Bytes code a strip where the last number and both sides pass their tests; and what the functions that test a strip answer.
use Rattle.std.specs.Prelude.{ℕ, ◌+◌, ◌*◌, ◌/◌, ◌%◌, ◌<◌, ◌^◌, ◌≡◌, refl, Bool, true, false, cond, eqb, length, take, drop}
use Rattle.std.proofs.Common.{sym, ◌∙◌, true≢false, arith, eqb-true, eq-eqb, ne_eqb, lt-ltb, ltb-true}
use Rattle.std.proofs.Math.Path.{ap}
use mathlib.Core.List.{List, ◌++◌}
use Rattle.std.specs.Prelude.{Option, None, Some}
use Rattle.std.proofs.Math.Decide.{ℕ_discrete}
use Rattle.search.specs.Cases.{both, false_of, same_test}
use Rattle.words.specs.Word.{word32}
use Rattle.words.specs.WordLaws.{Bytes, word32_lt}
use Rattle.words.specs.Run.{read}
use Rattle.words.specs.RunLaws.{length-read}
use Rattle.outs.specs.Coding.{zeros, strip_bytes, side_bytes, word_bytes, side_code, last_code, code_of, names_in, last_in, strip_of, last_fits, is_side, is_strip, strip_fault}
use Rattle.outs.specs.Steps.{is_zero, is_last}
use Rattle.outs.specs.PieceLaws.{same_is, read_add, read_all, word_bytes_lem}
use Rattle.outs.specs.SideLaws.{coded-fits, coded_is}
use Rattle.outs.specs.CodingLaws.{StripFits, strip_fits_is, strip-fits, strip-code, first_side, second_side, none_flag, some_flag}
use Rattle.outs.specs.TestLaws.{zero_is, zero_says}

-- ---- bytes that pass are a code

pub last_off : (b : List ℕ) → word32 b 0 ≡ 0 → last_in b ≡ None
unfolding last_in
last_off b e = rw (eq-eqb (word32 b 0) 0 e)

pub last_on : (b : List ℕ) → (word32 b 0 ≡ 0 → ⊥) → last_in b ≡ Some (word32 b 4 + word32 b 8 * 4294967296)
unfolding last_in
last_on b e = rw (ne_eqb (word32 b 0) 0 e)

off_zero : (b : List ℕ) → word32 b 0 ≡ 0 → is_last b ≡ is_zero (read 4 8 b)
unfolding is_last
off_zero b e = rw (eq-eqb (word32 b 0) 0 e)

on_one : (b : List ℕ) → (word32 b 0 ≡ 0 → ⊥) → is_last b ≡ eqb (word32 b 0) 1
unfolding is_last
on_one b e = rw (ne_eqb (word32 b 0) 0 e)

zero_words_lem : zeros 12 ≡ word_bytes 0 ++ zeros 8
unfolding word_bytes
zero_words_lem = refl

code-none : last_code None ≡ zeros 12
unfolding last_code
code-none = refl

code-some : (n lo hi : ℕ) → lo < 2 ^ 32 → n ≡ lo + hi * 4294967296 → last_code (Some n) ≡ word_bytes 1 ++ (word_bytes lo ++ word_bytes hi)
unfolding last_code
code-some n lo hi h e =
    let p : n % 4294967296 ≡ lo = omega arith in
    let q : n / 4294967296 ≡ hi = omega arith in
    rw (p, q)

none-fits : last_fits None ≡ true
unfolding last_fits
none-fits = refl

pub some_fits : (n : ℕ) → n < 18446744073709551616 → last_fits (Some n) ≡ true
unfolding last_fits
some_fits n h = lt-ltb n 18446744073709551616 h

fits-some : (n : ℕ) → last_fits (Some n) ≡ true → n < 18446744073709551616
unfolding last_fits
fits-some n h = ltb-true n 18446744073709551616 h

none-zeros : (r : List ℕ) → read 4 8 (last_code None ++ r) ≡ zeros 8
unfolding read last_code
none-zeros r = refl

module _ (b : List ℕ) (k : Bytes b) (l : length b ≡ strip_bytes) where
  first_word : word_bytes (word32 b 0) ≡ read 0 4 b
  first_word = word_bytes_lem b 0 k (omega arith)

  last_off_code : word32 b 0 ≡ 0 → is_last b ≡ true → last_code (last_in b) ≡ read 0 12 b
  last_off_code e t =
      let n : length (read 4 8 b) ≡ 8 = length-read 4 8 b (omega arith) in
      let z : read 4 8 b ≡ zeros 8 = zero_says (read 4 8 b) (sym (off_zero b e) ∙ t) ∙ ap zeros n in
      ap last_code (last_off b e)
      ∙ code-none
      ∙ zero_words_lem
      ∙ ap (λ (n : ℕ). word_bytes n ++ zeros 8) (sym e)
      ∙ ap (λ (r : List ℕ). r ++ zeros 8) first_word
      ∙ ap (λ (r : List ℕ). read 0 4 b ++ r) (sym z)
      ∙ sym (read_add 0 4 8 b)

  last_on_code : (word32 b 0 ≡ 0 → ⊥) → is_last b ≡ true → last_code (last_in b) ≡ read 0 12 b
  last_on_code e t =
      let one : 1 ≡ word32 b 0 = sym (eqb-true (word32 b 0) 1 (sym (on_one b e) ∙ t)) in
      ap last_code (last_on b e)
      ∙ code-some (word32 b 4 + word32 b 8 * 4294967296) (word32 b 4) (word32 b 8) (word32_lt b 4 k) refl
      ∙ ap (λ (n : ℕ). word_bytes n ++ (word_bytes (word32 b 4) ++ word_bytes (word32 b 8))) one
      ∙ ap (λ (r : List ℕ). r ++ (word_bytes (word32 b 4) ++ word_bytes (word32 b 8))) first_word
      ∙ ap (λ (r : List ℕ). read 0 4 b ++ (r ++ word_bytes (word32 b 8))) (word_bytes_lem b 4 k (omega arith))
      ∙ ap (λ (r : List ℕ). read 0 4 b ++ (read 4 4 b ++ r)) (word_bytes_lem b 8 k (omega arith))
      ∙ ap (λ (r : List ℕ). read 0 4 b ++ r) (sym (read_add 4 4 4 b))
      ∙ sym (read_add 0 4 8 b)

  last_code_lem : is_last b ≡ true → last_code (last_in b) ≡ read 0 12 b
  last_code_lem t = go (ℕ_discrete (word32 b 0) 0)
    where
      go : Dec (word32 b 0 ≡ 0) → last_code (last_in b) ≡ read 0 12 b
      go (yes e) = last_off_code e t
      go (no e) = last_on_code e t

  last_fits_lem : last_fits (last_in b) ≡ true
  last_fits_lem = go (ℕ_discrete (word32 b 0) 0)
    where
      go : Dec (word32 b 0 ≡ 0) → last_fits (last_in b) ≡ true
      go (yes e) = ap last_fits (last_off b e) ∙ none-fits
      go (no e) = ap last_fits (last_on b e) ∙ some_fits (word32 b 4 + word32 b 8 * 4294967296) (omega (arith, word32_lt b 4 k, word32_lt b 8 k))

  -- the three parts of the bytes
  three_parts : b ≡ read 0 12 b ++ (read 12 side_bytes b ++ read 492 side_bytes b)
  three_parts =
      sym (read_all 972 b l) ∙ read_add 0 12 960 b ∙ ap (λ (r : List ℕ). read 0 12 b ++ r) (read_add 12 480 480 b)

  pub tested-strip : is_last b ≡ true → is_side (read 12 side_bytes b) ≡ true → is_side (read 492 side_bytes b) ≡ true → is_strip b ≡ true
  unfolding is_strip strip_of code_of
  tested-strip t p q =
      let f : StripFits (strip_of b) = record { number = last_fits_lem; one = coded-fits (read 12 side_bytes b) p; two = coded-fits (read 492 side_bytes b) q } in
      both (strip_fits_is f)
      (same_is b (code_of (strip_of b))
      (three_parts
      ∙ ap (λ (r : List ℕ). r ++ (read 12 side_bytes b ++ read 492 side_bytes b)) (sym (last_code_lem t))
      ∙ ap (λ (r : List ℕ). last_code (last_in b) ++ (r ++ read 492 side_bytes b)) (coded_is (read 12 side_bytes b) p)
      ∙ ap (λ (r : List ℕ). last_code (last_in b) ++ (side_code (names_in (read 12 side_bytes b)) ++ r)) (coded_is (read 492 side_bytes b) q)))

-- ---- and a code passes

code-last : (l : Option ℕ) (r : List ℕ) → last_fits l ≡ true → is_last (last_code l ++ r) ≡ true
code-last None r h = off_zero (last_code None ++ r) (none_flag r) ∙ zero_is (read 4 8 (last_code None ++ r)) 8 (none-zeros r)
code-last (Some n) r h =
    let f : word32 (last_code (Some n) ++ r) 0 ≡ 1 = some_flag n r (fits-some n h) in
    on_one (last_code (Some n) ++ r) (λ e. omega arith) ∙ eq-eqb (word32 (last_code (Some n) ++ r) 0) 1 f

pub strip-last : (b : List ℕ) → is_strip b ≡ true → is_last b ≡ true
unfolding code_of
strip-last b h = ap is_last (strip-code b h) ∙ code-last (strip_of b).last _ (strip-fits b h).number

-- ---- what the functions answer

-- the last number
pub last_zero : (b : List ℕ) {n : ℕ} {r : Bool} → n ≡ word32 b 0 → n ≡ 0 → r ≡ is_zero (take 8 (drop 4 b)) → r ≡ is_last b
unfolding read
last_zero b e z q = q ∙ sym (off_zero b (sym e ∙ z))

pub last_one : (b : List ℕ) {n : ℕ} → n ≡ word32 b 0 → (n ≡ 0 → ⊥) → eqb n 1 ≡ is_last b
last_one b {n} e z = ap (λ (m : ℕ). eqb m 1) e ∙ sym (on_one b (λ w. z (e ∙ w)))

-- the strip: the last number, side 1, side 2
pub strip-all : (b : List ℕ) {r s t : Bool} → Bytes b → length b ≡ strip_bytes → r ≡ is_last b → r ≡ true → s ≡ is_side (take 480 (drop 12 b)) → s ≡ true → t ≡ is_side (take 480 (drop 492 b)) → t ≡ is_strip b
unfolding read
strip-all b {r} {s} {t} k l p p' q q' e =
    same_test t (is_strip b) (λ h. tested-strip b k l (sym p ∙ p') (sym q ∙ q') (sym e ∙ h)) (λ h. e ∙ second_side b h)

pub strip_not_first : (b : List ℕ) {s : Bool} → s ≡ is_side (take 480 (drop 12 b)) → s ≡ false → false ≡ is_strip b
unfolding read
strip_not_first b e f = false_of (is_strip b) (λ h. true≢false (sym (first_side b h) ∙ sym e ∙ f))

pub strip_not_last : (b : List ℕ) {r : Bool} → r ≡ is_last b → r ≡ false → false ≡ is_strip b
strip_not_last b e f = false_of (is_strip b) (λ h. true≢false (sym (strip-last b h) ∙ sym e ∙ f))

-- the fault
pub fault-none : (b : List ℕ) {r : Bool} → length b ≡ strip_bytes → r ≡ is_strip b → r ≡ true → 0 ≡ strip_fault b
unfolding strip_fault
fault-none b l e t = rw (eq-eqb (length b) strip_bytes l, ← e, t)

pub fault-code : (b : List ℕ) {r : Bool} → length b ≡ strip_bytes → r ≡ is_strip b → r ≡ false → 14 ≡ strip_fault b
unfolding strip_fault
fault-code b l e t = rw (eq-eqb (length b) strip_bytes l, ← e, t)

pub fault-length : (b : List ℕ) → (length b ≡ strip_bytes → ⊥) → 1 ≡ strip_fault b
unfolding strip_fault
fault-length b l = rw (ne_eqb (length b) strip_bytes l)

-- no fault is a strip
pub fault-says : (b : List ℕ) {n : ℕ} → n ≡ strip_fault b → n ≡ 0 → is_strip b ≡ true
unfolding strip_fault
fault-says b {n} e z = go (eqb (length b) strip_bytes) (is_strip b) refl (sym e ∙ z)
  where
    go : (a c : Bool) → is_strip b ≡ c → ◌≡◌ {A = ℕ} (cond a (cond c 0 14) 1) 0 → is_strip b ≡ true
    go true true p q = p
    go true false p q = absurd (omega arith)
    go false c p q = absurd (omega arith)
