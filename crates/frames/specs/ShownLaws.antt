-- What bytes show: the exits of the test of one byte, a name shown byte by byte.
use Rattle.std.specs.Prelude.{ℕ, suc, ◌+◌, ◌-◌, ◌≤◌, ◌<◌, ◌≡◌, refl, List, [], ◌∷◌, length, take, drop, get_or, set}
use Rattle.std.proofs.Common.{sym, ◌∙◌, ap, arith, add-one, drop-cons, lt-ltb, le-ltb, le-leb, eq-eqb, ne_eqb}
use mathlib.Core.Logic.{◌⊎◌, inl, inr}
use Rattle.std.proofs.lemmas.Bool.{lt-leb}
use borrow.Rule.Slice.PartMut.{put_mid}
use Rattle.words.specs.Run.{put}
use Rattle.words.specs.RunLaws.{copied, copied_more, copied_all}
use Rattle.frames.specs.Text.{is_control, shown, shown_from, shown_name}
use Rattle.frames.specs.Laid.{Laid, laid_part}

-- ---- a byte behind another

-- below 32
pub shown_low : (p b : ℕ) → b < 32 → 63 ≡ shown p b
unfolding shown is_control
shown_low p b h = rw (lt-ltb b 32 h)

-- a plain letter
pub shown_plain : (p b : ℕ) → 32 ≤ b → b < 127 → b ≡ shown p b
unfolding shown is_control
shown_plain p b h k = rw (le-ltb b 32 h, ne_eqb b 127 (λ e. omega arith), lt-leb 128 b (omega arith))

-- 127
pub shown_delete : (p b : ℕ) → 127 ≤ b → b < 128 → 63 ≡ shown p b
unfolding shown is_control
shown_delete p b h k = rw (le-ltb b 32 (omega arith), eq-eqb b 127 (omega arith))

-- above 159
pub shown_high : (p b : ℕ) → 159 < b → b ≡ shown p b
unfolding shown is_control
shown_high p b h = rw (le-ltb b 32 (omega arith), ne_eqb b 127 (λ e. omega arith), le-leb 128 b (omega arith), lt-leb b 159 h)

-- from 128 to 159, by itself
pub shown_alone : (p b : ℕ) → 128 ≤ b → b ≤ 159 → p < 128 → 63 ≡ shown p b
unfolding shown is_control
shown_alone p b h k l = rw (le-ltb b 32 (omega arith), ne_eqb b 127 (λ e. omega arith), le-leb 128 b h, le-leb b 159 k, lt-ltb p 128 l)

-- the same behind 194
pub shown-coded : (p b : ℕ) → 128 ≤ b → b ≤ 159 → 128 ≤ p → p ≡ 194 → 63 ≡ shown p b
unfolding shown is_control
shown-coded p b h k l e = rw (le-ltb b 32 (omega arith), ne_eqb b 127 (λ q. omega arith), le-leb 128 b h, le-leb b 159 k, le-ltb p 128 l, eq-eqb p 194 e)

-- both
pub shown_hidden : (p b : ℕ) → 128 ≤ b → b ≤ 159 → (p < 128) ⊎ ((128 ≤ p) × (p ≡ 194)) → 63 ≡ shown p b
shown_hidden p b h k (inl l) = shown_alone p b h k l
shown_hidden p b h k (inr (l, e)) = shown-coded p b h k l e

-- the rest of a letter
pub shown_rest : (p b : ℕ) → 128 ≤ b → b ≤ 159 → 128 ≤ p → (p ≡ 194 → ⊥) → b ≡ shown p b
unfolding shown is_control
shown_rest p b h k l e = rw (le-ltb b 32 (omega arith), ne_eqb b 127 (λ q. omega arith), le-leb 128 b h, le-leb b 159 k, le-ltb p 128 l, ne_eqb p 194 e)

-- ---- a name, byte by byte

-- as many bytes as there are
length_from : (p : ℕ) (l : List ℕ) → length (shown_from p l) ≡ length l
unfolding shown_from
length_from p [] = refl
length_from p (b ∷ l) = ap suc (length_from (shown p b) l)

-- a name shows as many bytes as it has
pub length-shown : (name : List ℕ) → length (shown_name name) ≡ length name
unfolding shown_name
length-shown name = length_from 32 name

-- what is left to show behind the byte p
pub record Showing (name : List ℕ) (p i : ℕ) : Type 0 where
  pub left : drop i (shown_name name) ≡ shown_from p (drop i name)

-- the loop: none yet
pub showing_none : (name : List ℕ) → Showing name 32 0
unfolding shown_name
showing_none name = record { left = refl }

-- one byte, and the rest behind it
from_cons : (p x : ℕ) (l : List ℕ) → shown_from p (x ∷ l) ≡ shown p x ∷ shown_from (shown p x) l
unfolding shown_from
from_cons p x l = refl

module _ (name : List ℕ) {p i b : ℕ} (s : Showing name p i) (h : i < length name) (e : b ≡ shown p (get_or name i 0)) where
  -- what is left, taken apart
  both : get_or (shown_name name) i 0 ∷ drop (suc i) (shown_name name) ≡ shown p (get_or name i 0) ∷ shown_from (shown p (get_or name i 0)) (drop (suc i) name)
  both =
      sym (drop-cons (shown_name name) i 0 (omega (arith, length-shown name)))
      ∙ s.left
      ∙ ap (shown_from p) (drop-cons name i 0 h)
      ∙ from_cons p (get_or name i 0) (drop (suc i) name)

  -- the byte that is shown
  byte : get_or (shown_name name) i 0 ≡ b
  byte = let q : get_or (shown_name name) i 0 ∷ drop (suc i) (shown_name name) ≡ shown p (get_or name i 0) ∷ shown_from (shown p (get_or name i 0)) (drop (suc i) name) = both in cc

  -- one more
  pub showing_more : Showing name b (i + 1)
  showing_more =
      let q : get_or (shown_name name) i 0 ∷ drop (suc i) (shown_name name) ≡ shown p (get_or name i 0) ∷ shown_from (shown p (get_or name i 0)) (drop (suc i) name) = both in
      let r : drop (suc i) (shown_name name) ≡ shown_from b (drop (suc i) name) = cc in
      record { left = rw add-one r }

  -- one byte more stands in the part
  pub shown-more : (d : List ℕ) {t : List ℕ} → t ≡ copied d (shown_name name) i → length name ≤ length d → set t i b ≡ copied d (shown_name name) (i + 1)
  shown-more d {t} q k =
      ap (set t i) (sym byte) ∙ copied_more d (shown_name name) i q (omega (arith, length-shown name)) (omega (arith, length-shown name))

-- all of them do
pub shown-all : (d name : List ℕ) {t : List ℕ} (i : ℕ) → t ≡ copied d (shown_name name) i → i ≤ length name → length name ≤ i → t ≡ put 0 (shown_name name) d
shown-all d name i e a b = copied_all d (shown_name name) i e (omega (arith, length-shown name)) (omega (arith, length-shown name))

-- a name laid, from the part that is lent on
pub name_laid : (at : ℕ) (name s : List ℕ) {t : List ℕ} → t ≡ put 0 (shown_name name) (take (length s - at) (drop at s)) → length name ≤ 64 → at + 64 ≤ length s → Laid 64 at (shown_name name) s (put_mid at (length s - at) s t) (at + length name)
name_laid at name s e h k = laid_part at (shown_name name) s e (length-shown name) h k
