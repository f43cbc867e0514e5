-- The number of a row is the lowest that applies, and 0 where none does.
use Rattle.std.specs.Prelude.{ℕ, ◌≡◌, refl, Bool, true, false, cond, not, List, length, eqb, ltb}
use Rattle.std.proofs.Common.{sym}
use Rattle.search.specs.First.{first, first_from}
use Rattle.outs.specs.Outs.{What, out, revive, Event, Strip, out_on, among, is_above, refusal_on, refusal_for, in_range, side_of, what_of, event_of, given_number}
use Rattle.outs.specs.NumberLaws.{is_eighth, is_nobody, is_out_already, applies, or_zero}

-- five tests in order
in_turn : (a b x y z : Bool) → or_zero (first (λ (n : ℕ). cond (eqb n 31) (not a) (cond (eqb n 32) (not b) (cond (eqb n 33) x (cond (eqb n 34) y (cond (eqb n 35) z false))))) 36) ≡ cond a (cond b (cond x 33 (cond y 34 (cond z 35 0))) 32) 31
unfolding first_from
in_turn false b x y z = refl
in_turn true false x y z = refl
in_turn true true true y z = refl
in_turn true true false true z = refl
in_turn true true false false true = refl
in_turn true true false false false = refl

-- the three that look at a side
on_side : (l : List (List ℕ)) (w : What) → refusal_on l w ≡ cond (is_eighth l w) 33 (cond (is_nobody l w) 34 (cond (is_out_already l w) 35 0))
on_side l (out name) = go (ltb (length l) 7)
  where
    go : (b : Bool) → ◌≡◌ {A = ℕ} (cond b (cond (among name l) 35 0) 33) (cond (not b) 33 (cond (among name l) 35 0))
    go true = refl
    go false = refl
on_side l revive = refl

number_is : (s : Strip) (e : Event) → refusal_for s e ≡ cond (is_above s.last e.number) (cond (is_eighth (out_on s e.side) e.what) 33 (cond (is_nobody (out_on s e.side) e.what) 34 (cond (is_out_already (out_on s e.side) e.what) 35 0))) 32
unfolding refusal_for
number_is s e = rw (on_side (out_on s e.side) e.what)

-- 02, K6: "lowest number first"
pub lowest_applies : (s : Strip) (k d e : ℕ) (name : List ℕ) → given_number s k d e name ≡ or_zero (first (applies s k d e name) 36)
unfolding given_number applies
lowest_applies s k d e name =
    rw (number_is s (event_of k d e name))
    (sym (in_turn (in_range d e name) (is_above s.last k) (is_eighth (out_on s (side_of d)) (what_of e name)) (is_nobody (out_on s (side_of d)) (what_of e name)) (is_out_already (out_on s (side_of d)) (what_of e name))))
