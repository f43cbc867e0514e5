-- A strip is shown in 17 lines, whoever is out and whatever the names, so that a frame can be drawn over the one before it; and a frame is never empty.
use Rattle.std.specs.Prelude.{ℕ, zero, suc, ◌+◌, ◌/◌, ◌%◌, ◌<◌, ◌≡◌, refl, Bool, true, false, cond, List, [], ◌∷◌, ◌++◌, length, get_or, eqb, ltb}
use Rattle.std.proofs.Common.{sym, ◌∙◌, ap, arith, ne_eqb}
use Rattle.std.specs.Prelude.{Option, None, Some}
use Rattle.search.specs.Cases.{by_cond}
use Rattle.outs.specs.Outs.{Strip}
use Rattle.frames.specs.Text.{text, decimal_in, decimal, is_control, shown, shown_from, shown_name}
use Rattle.frames.specs.Frame.{line_end, last_text, head_text, title_text, mark_text, player_text, place_text, places_text, side_text, strip_text, frame_of}
use Rattle.frames.specs.Clean.{lines}

-- lines of texts one behind the other
lines-append : (a b : List ℕ) → lines (a ++ b) ≡ lines a + lines b
unfolding lines
lines-append [] b = omega arith
lines-append (x ∷ a) b = omega (arith, lines-append a b)

-- a byte that ends no line
lines_one : (b : ℕ) (l : List ℕ) → (b ≡ 10 → ⊥) → lines (b ∷ l) ≡ lines l
unfolding lines
lines_one b l h = rw (ne_eqb b 10 h) (omega arith)

-- no text ends no line
lines_none : lines [] ≡ 0
unfolding lines
lines_none = refl

-- no digit ends a line, no byte of a name does
lines-number : (k n : ℕ) → lines (decimal_in k n) ≡ 0
unfolding decimal_in
lines-number zero n = lines_none
lines-number (suc k) n =
    by_cond (λ (t : List ℕ). lines t ≡ 0) (ltb n 10) (λ q. lines_one (48 + n) [] (λ e. omega arith) ∙ lines_none)
    (λ q. omega (arith, lines-append (decimal_in k (n / 10)) ((48 + n % 10) ∷ []), lines-number k (n / 10), lines_one (48 + n % 10) [] (λ e. omega arith), lines_none))

-- a number
lines-decimal : (n : ℕ) → lines (decimal n) ≡ 0
unfolding decimal
lines-decimal n = lines-number 20 n

-- no byte that is shown is a line end
shown_line : (p b : ℕ) → shown p b ≡ 10 → ⊥
unfolding shown is_control
shown_line p b e = go (is_control p b) refl e
  where
    go : (c : Bool) → is_control p b ≡ c → cond c 63 b ≡ 10 → ⊥
    go true f q = omega arith
    go false f q =
        let x : is_control p 10 ≡ false = ap (is_control p) (sym q) ∙ f in
        let z : ◌≡◌ {A = ℕ} 0 1 = cc in
        omega arith

-- a name
lines-shown : (p : ℕ) (l : List ℕ) → lines (shown_from p l) ≡ 0
unfolding shown_from
lines-shown p [] = lines_none
lines-shown p (b ∷ l) = lines_one (shown p b) (shown_from (shown p b) l) (shown_line p b) ∙ lines-shown (shown p b) l

-- ---- the pieces

-- the first line
lines_head : (l : Option ℕ) (w : ℕ) → lines (head_text l w) ≡ 1
unfolding head_text last_text lines
lines_head l w =
    omega
    (arith, lines-append (last_text l) (text ", rows waiting " ++ (decimal w ++ line_end)), lines-append (decimal w) line_end, lines-decimal w, go l)
  where
    go : (l : Option ℕ) → lines (last_text l) ≡ 0
    go None = refl
    go (Some n) = lines-decimal n

-- a player's line
lines_player : (i : ℕ) (name : List ℕ) → lines (player_text i name) ≡ 1
unfolding player_text mark_text shown_name lines
lines_player i name =
    by_cond (λ (m : List ℕ). lines (m ++ (shown_from 32 name ++ line_end)) ≡ 1) (eqb i 0)
    (λ q. omega (arith, lines-append (shown_from 32 name) line_end, lines-shown 32 name))
    (λ q. omega (arith, lines-append (shown_from 32 name) line_end, lines-shown 32 name))

-- a place
lines-place : (names : List (List ℕ)) (i : ℕ) → lines (place_text names i) ≡ 1
unfolding place_text lines
lines-place names i =
    by_cond (λ (t : List ℕ). lines t ≡ 1) (ltb i (length names)) (λ q. lines_player i (get_or names i [])) (λ q. refl)

-- places
lines_places : (names : List (List ℕ)) (n : ℕ) → lines (places_text names n) ≡ n
unfolding places_text
lines_places names zero = lines_none
lines_places names (suc i) = omega (arith, lines-append (places_text names i) (place_text names i), lines_places names i, lines-place names i)

-- a side
lines_side : (label : List ℕ) (names : List (List ℕ)) → lines label ≡ 0 → lines (side_text label names) ≡ 8
unfolding side_text title_text lines
lines_side label names h =
    omega
    (arith, lines-append (label ++ (decimal (length names) ++ text "/7 out\n")) (places_text names 7), lines-append label (decimal (length names) ++ text "/7 out\n"), lines-append (decimal (length names)) (text "/7 out\n"), lines-decimal (length names), lines_places names 7, h)

-- 1 line, and 8 for each side
pub seventeen_lines : (s : Strip) (w : ℕ) → lines (strip_text s w) ≡ 17
unfolding strip_text lines
seventeen_lines s w =
    omega
    (arith, lines-append (head_text s.last w) (side_text (text "home ") s.first ++ side_text (text "away ") s.second), lines-append (side_text (text "home ") s.first) (side_text (text "away ") s.second), lines_head s.last w, lines_side (text "home ") s.first refl, lines_side (text "away ") s.second refl)

-- 0 is no frame's length
pub never_empty : (s : Strip) (w : ℕ) (numbers : List ℕ) → 0 < length (frame_of s w numbers)
unfolding frame_of strip_text head_text
never_empty s w numbers = omega arith
