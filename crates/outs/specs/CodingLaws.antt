-- The coding goes both ways: a strip is read back from its bytes, and bytes that code a strip are its code. So each strip has one code.
use Rattle.std.specs.Prelude.{ℕ, ◌+◌, ◌*◌, ◌/◌, ◌%◌, ◌<◌, ◌≡◌, refl, true, ◌&&◌, length}
use Rattle.std.proofs.Common.{sym, ◌∙◌, ap, ltb-true, eq-eqb, ne_eqb}
use mathlib.Core.List.{List, [], ◌++◌, append_assoc, append-nil}
use Rattle.std.specs.Prelude.{Option, None, Some}
use native.Mathlib.Omega.{arith}
use Rattle.std.proofs.Math.ListN.{length-append}
use Rattle.search.specs.Cases.{both}
use Rattle.search.specs.Table.{same}
use Rattle.words.specs.Word.{word_of, word32}
use Rattle.words.specs.Run.{read}
use Rattle.outs.specs.Outs.{Strip, empty}
use Rattle.outs.specs.Coding.{strip_bytes, side_bytes, word_bytes, side_code, last_code, code_of, names_in, last_in, strip_of, last_fits, side_fits, fits, is_side, is_strip}
use Rattle.outs.specs.PieceLaws.{same_refl, same-says, left_of, right_of, read_at, length_word, word_at}
use Rattle.outs.specs.SideLaws.{SideFits, fits-says, fits_is, length_side, names_code_lem, side_coded, names_none}

-- a strip that fits: its number has 64 bits, each side at most seven names of 1 to 64 bytes
pub record StripFits (s : Strip) : Type 0 where
  pub number : last_fits s.last ≡ true
  pub one : SideFits s.first
  pub two : SideFits s.second

pub strip_fits_says : (s : Strip) → fits s ≡ true → StripFits s
unfolding fits
strip_fits_says s h =
    let k : (side_fits s.first && side_fits s.second) ≡ true = right_of (last_fits s.last) (side_fits s.first && side_fits s.second) h in
    record {
      number = left_of (last_fits s.last) (side_fits s.first && side_fits s.second) h;
      one = fits-says s.first (left_of (side_fits s.first) (side_fits s.second) k);
      two = fits-says s.second (right_of (side_fits s.first) (side_fits s.second) k);
    }

pub strip_fits_is : {s : Strip} → StripFits s → fits s ≡ true
unfolding fits
strip_fits_is f = both f.number (both (fits_is f.one) (fits_is f.two))

-- ---- the last number

pub length_last : (l : Option ℕ) → length (last_code l) ≡ 12
unfolding last_code word_bytes
length_last None = refl
length_last (Some n) = refl

pub none_flag : (r : List ℕ) → word32 (last_code None ++ r) 0 ≡ 0
unfolding word32 word_of last_code
none_flag r = refl

none_read : (r : List ℕ) → last_in (last_code None ++ r) ≡ None
unfolding last_in
none_read r = rw (eq-eqb (word32 (last_code None ++ r) 0) 0 (none_flag r))

-- the three words of a number
module _ (n : ℕ) (r : List ℕ) (h : n < 18446744073709551616) where
  words : last_code (Some n) ++ r ≡ word_bytes 1 ++ (word_bytes (n % 4294967296) ++ (word_bytes (n / 4294967296) ++ r))
  unfolding last_code
  words = simp append_assoc

  pub some_flag : word32 (last_code (Some n) ++ r) 0 ≡ 1
  some_flag = ap (λ (s : List ℕ). word32 s 0) words ∙ word_at [] (word_bytes (n % 4294967296) ++ (word_bytes (n / 4294967296) ++ r)) 0 1 refl (omega arith)

  some_low : word32 (last_code (Some n) ++ r) 4 ≡ n % 4294967296
  some_low =
      ap (λ (s : List ℕ). word32 s 4) words
      ∙ word_at (word_bytes 1) (word_bytes (n / 4294967296) ++ r) 4 (n % 4294967296) (length_word 1) (omega arith)

  some_high : word32 (last_code (Some n) ++ r) 8 ≡ n / 4294967296
  some_high =
      ap (λ (s : List ℕ). word32 s 8) (words ∙ sym (append_assoc (word_bytes 1) (word_bytes (n % 4294967296)) (word_bytes (n / 4294967296) ++ r)))
      ∙ word_at (word_bytes 1 ++ word_bytes (n % 4294967296)) r 8 (n / 4294967296) (length-append (word_bytes 1) (word_bytes (n % 4294967296)) ∙ omega (arith, length_word 1, length_word (n % 4294967296))) (omega arith)

  some_read : last_in (last_code (Some n) ++ r) ≡ Some n
  unfolding last_in
  some_read =
      let z : word32 (last_code (Some n) ++ r) 0 ≡ 0 → ⊥ = λ e. omega (arith, some_flag) in
      let q : n % 4294967296 + n / 4294967296 * 4294967296 ≡ n = omega arith in
      rw (ne_eqb (word32 (last_code (Some n) ++ r) 0) 0 z, some_low, some_high, q)

last-read : (l : Option ℕ) (r : List ℕ) → last_fits l ≡ true → last_in (last_code l ++ r) ≡ l
unfolding last_fits
last-read None r h = none_read r
last-read (Some n) r h = some_read n r (ltb-true n 18446744073709551616 h)

-- ---- the whole strip

-- a strip by its parts
parts : {l m : Option ℕ} {a b c d : List (List ℕ)} → l ≡ m → a ≡ b → c ≡ d → ◌≡◌ {A = Strip} (record { last = l; first = a; second = c }) (record { last = m; first = b; second = d })
parts p q r = rw (p, q, r)

module _ (s : Strip) (f : StripFits s) where
  pub length-code : length (code_of s) ≡ strip_bytes
  unfolding code_of
  length-code =
      length-append (last_code s.last) (side_code s.first ++ side_code s.second)
      ∙ omega (arith, length_last s.last, length-append (side_code s.first) (side_code s.second), length_side s.first f.one, length_side s.second f.two)

  pub first_read : read 12 side_bytes (code_of s) ≡ side_code s.first
  unfolding code_of
  first_read = read_at (last_code s.last) (side_code s.first) (side_code s.second) 12 (length_last s.last) side_bytes (length_side s.first f.one)

  -- side 2 is the last piece
  pub second_last : code_of s ≡ (last_code s.last ++ side_code s.first) ++ (side_code s.second ++ [])
  unfolding code_of
  second_last = rw (append-nil (side_code s.second), append_assoc)

  pub length_ahead_second : length (last_code s.last ++ side_code s.first) ≡ 492
  length_ahead_second = length-append (last_code s.last) (side_code s.first) ∙ omega (arith, length_last s.last, length_side s.first f.one)

  pub second_read : read 492 side_bytes (code_of s) ≡ side_code s.second
  second_read =
      ap (read 492 side_bytes) second_last
      ∙ read_at (last_code s.last ++ side_code s.first) (side_code s.second) [] 492 length_ahead_second side_bytes (length_side s.second f.two)

  last-back : last_in (code_of s) ≡ s.last
  unfolding code_of
  last-back = last-read s.last (side_code s.first ++ side_code s.second) f.number

  -- a strip is read back from its code
  pub code-strip : strip_of (code_of s) ≡ s
  unfolding strip_of
  code-strip =
      parts last-back (ap names_in first_read ∙ names_code_lem s.first f.one) (ap names_in second_read ∙ names_code_lem s.second f.two)

  -- and its code is bytes that code a strip
  pub code_is_strip : is_strip (code_of s) ≡ true
  unfolding is_strip
  code_is_strip = rw code-strip (both (strip_fits_is f) (same_refl (code_of s)))

-- two strips with one code are one
pub one_code : (s t : Strip) → StripFits s → StripFits t → code_of s ≡ code_of t → s ≡ t
one_code s t f g e = sym (code-strip s f) ∙ ap strip_of e ∙ code-strip t g

pub empty-fits : StripFits empty
unfolding last_fits
empty-fits =
    record { number = refl; one = record { seven = omega arith; named = names_none }; two = record { seven = omega arith; named = names_none } }

-- ---- bytes that code a strip

module _ (b : List ℕ) (h : is_strip b ≡ true) where
  pub strip-fits : StripFits (strip_of b)
  unfolding is_strip
  strip-fits = strip_fits_says (strip_of b) (left_of (fits (strip_of b)) (same b (code_of (strip_of b))) h)

  -- they are the code of the strip that they hold
  pub strip-code : b ≡ code_of (strip_of b)
  unfolding is_strip
  strip-code = same-says b (code_of (strip_of b)) (right_of (fits (strip_of b)) (same b (code_of (strip_of b))) h)

  pub strip-length : length b ≡ strip_bytes
  strip-length = ap length strip-code ∙ length-code (strip_of b) strip-fits

  pub first_is : read 12 side_bytes b ≡ side_code (strip_of b).first
  first_is = ap (read 12 side_bytes) strip-code ∙ first_read (strip_of b) strip-fits

  pub second_is : read 492 side_bytes b ≡ side_code (strip_of b).second
  second_is = ap (read 492 side_bytes) strip-code ∙ second_read (strip_of b) strip-fits

  pub first_side : is_side (read 12 side_bytes b) ≡ true
  first_side = rw first_is (side_coded (strip_of b).first strip-fits.one)

  pub second_side : is_side (read 492 side_bytes b) ≡ true
  second_side = rw second_is (side_coded (strip_of b).second strip-fits.two)
