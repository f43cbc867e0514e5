-- The places of a side and the lines of refused rows, as the code lays them: a law an exit, and three a loop.
use Rattle.std.specs.Prelude.{ℕ, ◌+◌, ◌*◌, ◌≤◌, ◌<◌, ◌≡◌, true, take, drop, get_or}
use Rattle.std.proofs.Common.{◌∙◌, ap, subst, arith, add-one, length-take, lt-ltb, le-ltb, eq-eqb, ne_eqb}
use mathlib.Core.List.{List, []}
use Rattle.std.proofs.Math.ListN.{length}
use Rattle.words.specs.Word.{word32}
use Rattle.words.specs.Run.{read}
use Rattle.outs.specs.Coding.{name_in, names_in, strip_of, is_side, last_in}
use Rattle.outs.specs.SideLaws.{coded-fits, coded_is, coded-count, coded_word, name_read}
use Rattle.outs.proofs.ReadExits.{first_names_lent, second_names_lent, last_of}
use Rattle.frames.specs.Text.{text, decimal}
use Rattle.frames.specs.Frame.{
  line_end,
  head_text,
  title_text,
  player_text,
  nobody,
  place_text,
  places_text,
  side_text,
  reason_text,
  which_text,
  why_text,
  row_text,
  rows_text,
  strip_text,
}
use Rattle.frames.specs.Laid.{Laid, laid_none, laid_then, laid_more, laid_three, laid-four, laid_five}

-- ---- the places of a side

module _ (side : List ℕ) (h : is_side side ≡ true) (i : ℕ) where
  -- name i, as the code lends it
  name_is : {m : List ℕ} → m ≡ name_in side i → i < word32 side 0 → m ≡ get_or (names_in side) i []
  name_is e l =
      e ∙ ap (λ (s : List ℕ). name_in s i) (coded_is side h) ∙ name_read (names_in side) (coded-fits side h) i (omega (arith, coded-count side h))

  -- and is short enough
  pub name_short : {c : ℕ} {m : List ℕ} → c ≡ word32 side 0 → i < c → m ≡ name_in side i → length m ≤ 64
  unfolding name_in read
  name_short e l f = rw f (simp length-take (omega (arith, coded_word side h i (omega arith))))

  -- the exits of `put_place`
  pub place-taken : (s : List ℕ) {c at r : ℕ} {m t : List ℕ} → c ≡ word32 side 0 → i < c → m ≡ name_in side i → Laid 78 at (player_text i m) s t r → Laid 78 at (place_text (names_in side) i) s t r
  unfolding place_text
  place-taken s {c} {at} {r} {m} {t} e l f p =
      let k : i < length (names_in side) = omega (arith, coded-count side h) in
      rw (lt-ltb i (length (names_in side)) k) (subst (λ (name : List ℕ). Laid 78 at (player_text i name) s t r) (name_is f (omega arith)) p)

  pub place-free : (s : List ℕ) {c at r : ℕ} {t : List ℕ} → c ≡ word32 side 0 → c ≤ i → Laid 15 at nobody s t r → Laid 78 at (place_text (names_in side) i) s t r
  unfolding place_text
  place-free s e l p =
      let k : length (names_in side) ≤ i = omega (arith, coded-count side h) in
      rw (le-ltb i (length (names_in side)) k) (laid_more p (omega arith))

-- the loop: none yet, one more
pub places_none : (names : List (List ℕ)) (s : List ℕ) {at : ℕ} → at + 546 ≤ length s → Laid (78 * 0) at (places_text names 0) s s at
unfolding places_text
places_none names s {at} h = laid_none at s (omega arith)

pub places_more : (names : List (List ℕ)) (s : List ℕ) (i : ℕ) {at p q : ℕ} {t u : List ℕ} → at + 546 ≤ length s → Laid (78 * i) at (places_text names i) s t p → Laid 78 p (place_text names i) t u q → Laid (78 * (i + 1)) at (places_text names (i + 1)) s u q
unfolding places_text
places_more names s i h l m = rw (add-one i) (laid_more (laid_then l m (omega arith)) (omega arith))

-- and all seven
pub places_all : (names : List (List ℕ)) (s : List ℕ) {at i p : ℕ} {t : List ℕ} → Laid (78 * i) at (places_text names i) s t p → i ≤ 7 → 7 ≤ i → Laid 546 at (places_text names 7) s t p
places_all names s {at} {i} {p} {t} l a b =
    let e : i ≡ 7 = omega arith in
    subst (λ (k : ℕ). Laid (78 * k) at (places_text names k) s t p) e l

-- a side
pub side_laid : (side label s : List ℕ) {n at p q : ℕ} {t u : List ℕ} → is_side side ≡ true → at + 578 ≤ length s → n ≡ word32 side 0 → Laid 32 at (title_text label n) s t p → Laid 546 p (places_text (names_in side) 7) t u q → Laid 578 at (side_text label (names_in side)) s u q
unfolding side_text
side_laid side label s {n} {at} {p} {q} {t} {u} h k e l m =
    laid_then (subst (λ (x : ℕ). Laid 32 at (title_text label x) s t p) (e ∙ coded-count side h) l) m (omega arith)

-- both sides
pub strip-laid : (b s : List ℕ) (w : ℕ) {p q r : ℕ} {t u v : List ℕ} → Laid 65 0 (head_text (last_in b) w) s t p → Laid 578 p (side_text (text "home ") (names_in (take 480 (drop 12 b)))) t u q → Laid 578 q (side_text (text "away ") (names_in (take 480 (drop 492 b)))) u v r → Laid 1221 0 (strip_text (strip_of b) w) s v r
unfolding strip_text
strip-laid b s w {p} {q} {r} {t} {u} {v} f g h =
    rw (last_of b, ← first_names_lent b, ← second_names_lent b) (laid_three f g h (omega arith))

-- ---- refused rows

-- which row
pub which_laid : (s : List ℕ) (i rows : ℕ) {at p q r o : ℕ} {t u v w : List ℕ} → at + 48 ≤ length s → Laid 4 at (text "row ") s t p → Laid 20 p (decimal (i + 1)) t u q → Laid 4 q (text " of ") u v r → Laid 20 r (decimal rows) v w o → Laid 48 at (which_text i rows) s w o
unfolding which_text
which_laid s i rows h a b c d = laid-four a b c d (omega arith)

-- why it was refused
pub why_laid : (s : List ℕ) (n : ℕ) {at p q r o z : ℕ} {t u v w x : List ℕ} → at + 81 ≤ length s → Laid 10 at (text " refused, ") s t p → Laid 20 p (decimal n) t u q → Laid 2 q (text ": ") u v r → Laid 48 r (reason_text n) v w o → Laid 1 o line_end w x z → Laid 81 at (why_text n) s x z
unfolding why_text
why_laid s n h a b c d e = laid_five a b c d e (omega arith)

-- an accepted row has no line
pub row-none : (numbers s : List ℕ) (i : ℕ) {at : ℕ} → at + 129 ≤ length s → get_or numbers i 0 ≡ 0 → Laid 129 at (row_text numbers i) s s at
unfolding row_text
row-none numbers s i {at} h e = rw (eq-eqb (get_or numbers i 0) 0 e) (laid_more (laid_none at s (omega arith)) (omega arith))

-- a refused one has
pub row_laid : (numbers s : List ℕ) (i : ℕ) {at p q : ℕ} {t u : List ℕ} → at + 129 ≤ length s → (get_or numbers i 0 ≡ 0 → ⊥) → Laid 48 at (which_text i (length numbers)) s t p → Laid 81 p (why_text (get_or numbers i 0)) t u q → Laid 129 at (row_text numbers i) s u q
unfolding row_text
row_laid numbers s i h e l m = rw (ne_eqb (get_or numbers i 0) 0 e) (laid_then l m (omega arith))

-- the loop: none yet, one more, all
pub rows_none : (numbers s : List ℕ) {at : ℕ} → at + 129 * length numbers ≤ length s → Laid (129 * 0) at (rows_text numbers 0) s s at
unfolding rows_text
rows_none numbers s {at} h = laid_none at s (omega arith)

pub rows_more : (numbers s : List ℕ) (i : ℕ) {at p q : ℕ} {t u : List ℕ} → at + 129 * length numbers ≤ length s → Laid (129 * i) at (rows_text numbers i) s t p → Laid 129 p (row_text numbers i) t u q → Laid (129 * (i + 1)) at (rows_text numbers (i + 1)) s u q
unfolding rows_text
rows_more numbers s i h l m = rw (add-one i) (laid_more (laid_then l m (omega arith)) (omega arith))

pub rows_all : (numbers s : List ℕ) {at i p : ℕ} {t : List ℕ} → Laid (129 * i) at (rows_text numbers i) s t p → i ≤ length numbers → length numbers ≤ i → Laid (129 * length numbers) at (rows_text numbers (length numbers)) s t p
rows_all numbers s {at} {i} {p} {t} l a b =
    let e : i ≡ length numbers = omega arith in
    subst (λ (k : ℕ). Laid (129 * k) at (rows_text numbers k) s t p) e l
