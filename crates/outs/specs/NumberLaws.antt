-- The number of a row is the lowest that applies, and 0 where none does.
use Rattle.std.specs.Prelude.{ℕ, Bool, false, cond, not, List, length, eqb, ltb}
use Rattle.std.specs.Prelude.{Option, None, Some}
use Rattle.outs.specs.Outs.{What, out, revive, Strip, out_on, among, is_above, in_range, side_of, what_of}

-- 02, K6: "33 an eighth out", the others put aside
abbrev pub is_eighth : List (List ℕ) → What → Bool
is_eighth l (out name) = not (ltb (length l) 7)
is_eighth l revive = false

-- 02, K6: "34 revive with nobody out"
abbrev pub is_nobody : List (List ℕ) → What → Bool
is_nobody l (out name) = false
is_nobody l revive = eqb (length l) 0

-- 02, K6: "35 a name already out on that side"
abbrev pub is_out_already : List (List ℕ) → What → Bool
is_out_already l (out name) = among name l
is_out_already l revive = false

-- whether refusal n applies to a row of four values, the others put aside
unfoldable pub applies : Strip → ℕ → ℕ → ℕ → List ℕ → ℕ → Bool
applies s k d e name n =
    cond (eqb n 31) (not (in_range d e name))
    (cond (eqb n 32) (not (is_above s.last k))
    (cond (eqb n 33) (is_eighth (out_on s (side_of d)) (what_of e name))
    (cond (eqb n 34) (is_nobody (out_on s (side_of d)) (what_of e name))
    (cond (eqb n 35) (is_out_already (out_on s (side_of d)) (what_of e name)) false))))

-- the lowest of the numbers, and 0 where there is none
abbrev pub or_zero : Option ℕ → ℕ
or_zero None = 0
or_zero (Some n) = n
