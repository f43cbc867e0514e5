-- The pieces of a frame, as the code lays them: a law an exit.
use Rattle.std.specs.Prelude.{ℕ, ◌+◌, ◌≤◌, ◌≡◌, List, length}
use Rattle.std.proofs.Common.{arith, ne_eqb}
use Rattle.std.specs.Prelude.{None, Some}
use Rattle.outs.specs.Coding.{last_in}
use Rattle.frames.specs.Text.{text, decimal, shown_name}
use Rattle.frames.specs.Frame.{line_end, last_text, head_text, title_text, mark_text, player_text}
use Rattle.frames.specs.Laid.{Laid, laid_more, laid_three, laid_five}

-- ---- the first line

-- the exits of `put_last`
pub last_none : (b s : List ℕ) {at r : ℕ} {t : List ℕ} → last_in b ≡ None → Laid 4 at (text "none") s t r → Laid 20 at (last_text (last_in b)) s t r
unfolding last_text
last_none b s e l = rw e (laid_more l (omega arith))

pub last_some : (b s : List ℕ) {n at r : ℕ} {t : List ℕ} → last_in b ≡ Some n → Laid 20 at (decimal n) s t r → Laid 20 at (last_text (last_in b)) s t r
unfolding last_text
last_some b s e l = rw e l

-- the first line
pub head_laid : (b s : List ℕ) (w : ℕ) {p q r o z : ℕ} {t u v x y : List ℕ} → Laid 9 0 (text "last row ") s t p → Laid 20 p (last_text (last_in b)) t u q → Laid 15 q (text ", rows waiting ") u v r → Laid 20 r (decimal w) v x o → Laid 1 o line_end x y z → Laid 65 0 (head_text (last_in b) w) s y z
unfolding head_text
head_laid b s w f g h i j = laid_five f g h i j (omega arith)

-- ---- a side

-- a side's title
pub title_laid : (label s : List ℕ) (n : ℕ) {at p q r : ℕ} {t u v : List ℕ} → length label ≡ 5 → at + 32 ≤ length s → Laid (length label) at label s t p → Laid 20 p (decimal n) t u q → Laid 7 q (text "/7 out\n") u v r → Laid 32 at (title_text label n) s v r
unfolding title_text
title_laid label s n e h f g i = laid_more (laid_three f g i (omega arith)) (omega arith)

-- who comes back next, and the others
pub mark-first : (s : List ℕ) {i at r : ℕ} {t : List ℕ} → i ≡ 0 → Laid 13 at (text "  next back  ") s t r → Laid 13 at (mark_text i) s t r
unfolding mark_text
mark-first s e l = rw e l

pub mark_other : (s : List ℕ) {i at r : ℕ} {t : List ℕ} → (i ≡ 0 → ⊥) → Laid 13 at (text "             ") s t r → Laid 13 at (mark_text i) s t r
unfolding mark_text
mark_other s {i} e l = rw (ne_eqb i 0 e) l

-- a player's line
pub player_laid : (name s : List ℕ) (i : ℕ) {at p q r : ℕ} {t u v : List ℕ} → at + 78 ≤ length s → Laid 13 at (mark_text i) s t p → Laid 64 p (shown_name name) t u q → Laid 1 q line_end u v r → Laid 78 at (player_text i name) s v r
unfolding player_text
player_laid name s i h f g j = laid_three f g j (omega arith)
