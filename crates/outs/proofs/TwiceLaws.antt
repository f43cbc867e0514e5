-- Accepted numbers rise, so a batch whose numbers rise may be read twice.
use Rattle.std.specs.Prelude.{ℕ, ◌≤◌, ◌<◌, ◌≡◌, refl, Bool, true, false, cond, eqb}
use Rattle.std.proofs.Common.{sym, ◌∙◌, ap, true≢false, arith, eqb-true, ltb-true, ltb-false, le-ltb}
use mathlib.Core.List.{List, [], ◌∷◌, foldl}
use Rattle.std.specs.Prelude.{Option, None, Some}
use Rattle.std.proofs.lemmas.Bool.{eqb-false}
use Rattle.outs.specs.Outs.{Event, Strip, is_above, refusal_for, took, after, accepted_of}
use Rattle.outs.proofs.OutsLaws.{took-refused, took-accepted}
use Rattle.outs.specs.TwiceLaws.{Rise, Above, last_is, above_is, Case, ended, rises, next, unchanged, later}

above_as : {l m : Option ℕ} {es : List Event} → l ≡ m → Above l es → Above m es
above_as e a = rw e at a

-- the accepted numbers rise, whatever the numbers given
pub accepted_rise : (s : Strip) (es : List Event) → Above s.last (accepted_of s es)
unfolding accepted_of
accepted_rise s [] = ended
accepted_rise s (e ∷ es) = go (eqb (refusal_for s e) 0) refl (accepted_rise (took s e) es)
  where
    go : (b : Bool) → eqb (refusal_for s e) 0 ≡ b → Above (took s e).last (accepted_of (took s e) es) → Above s.last (cond b (e ∷ accepted_of (took s e) es) (accepted_of (took s e) es))
    go true q r =
        let z : refusal_for s e ≡ 0 = eqb-true (refusal_for s e) 0 q in
        let l : (took s e).last ≡ Some e.number = ap (λ (t : Strip). t.last) (took-accepted s e z) ∙ last_is s e in
        next (above_is s e z) (above_as l r)
    go false q r =
        let u : (took s e).last ≡ s.last = ap (λ (t : Strip). t.last) (took-refused s e (eqb-false (refusal_for s e) 0 q)) in
        above_as u r

up : (l : Option ℕ) (m n : ℕ) → is_above l m ≡ true → is_above l n ≡ false → n ≤ m
up None m n h k = let q : ◌≡◌ {A = ℕ} 0 1 = cc in absurd (omega arith)
up (Some j) m n h k = omega (arith, ltb-true j m h, ltb-false j n k)

not_above : (m n : ℕ) → n ≤ m → is_above (Some m) n ≡ false
not_above m n h = le-ltb m n h

stays : (s : Strip) (e : Event) (n : ℕ) → is_above s.last n ≡ false → is_above (took s e).last n ≡ false
stays s e n h = go (eqb (refusal_for s e) 0) refl
  where
    go : (b : Bool) → eqb (refusal_for s e) 0 ≡ b → is_above (took s e).last n ≡ false
    go true q =
        let z : refusal_for s e ≡ 0 = eqb-true (refusal_for s e) 0 q in
        ap (λ (t : Strip). is_above t.last n) (took-accepted s e z)
        ∙ ap (λ (l : Option ℕ). is_above l n) (last_is s e)
        ∙ not_above e.number n (up s.last e.number n (above_is s e z) h)
    go false q = ap (λ (t : Strip). is_above t.last n) (took-refused s e (eqb-false (refusal_for s e) 0 q)) ∙ h

stays_after : (s : Strip) (es : List Event) (n : ℕ) → is_above s.last n ≡ false → is_above (after s es).last n ≡ false
unfolding after
stays_after s [] n h = h
stays_after s (e ∷ es) n h = stays_after (took s e) es n (stays s e n h)

accepted_not_above : (s : Strip) (e : Event) (n : ℕ) → refusal_for s e ≡ 0 → n ≤ e.number → is_above (took s e).last n ≡ false
accepted_not_above s e n z h =
    ap (λ (t : Strip). is_above t.last n) (took-accepted s e z) ∙ ap (λ (l : Option ℕ). is_above l n) (last_is s e) ∙ not_above e.number n h

rise_less : {n m : ℕ} {es : List Event} → n ≤ m → Rise m es → Rise n es
rise_less h ended = ended
rise_less {n} h (rises {e = e} l r) = let q : n < e.number = omega arith in rises q r

which : (s : Strip) (es : List Event) (n : ℕ) → Rise n es → Case s (after s es) n
unfolding after
which s [] n ended = unchanged refl
which s (e ∷ es) n (rises l r) = go (eqb (refusal_for s e) 0) refl (which (took s e) es n (rise_less (omega arith) r))
  where
    go : (b : Bool) → eqb (refusal_for s e) 0 ≡ b → Case (took s e) (after (took s e) es) n → Case s (foldl took (took s e) es) n
    go true q c = later (stays_after (took s e) es n (accepted_not_above s e n (eqb-true (refusal_for s e) 0 q) (omega arith)))
    go false q (unchanged p) = unchanged (p ∙ took-refused s e (eqb-false (refusal_for s e) 0 q))
    go false q (later p) = later p

too_old : (t : Strip) (e : Event) → is_above t.last e.number ≡ false → took t e ≡ t
too_old t e h = took-refused t e (λ z. old z)
  where
    old : refusal_for t e ≡ 0 → ⊥
    old z = let q : ◌≡◌ {A = Bool} true false = sym (above_is t e z) ∙ h in true≢false q

again : (s : Strip) (e : Event) (es : List Event) → Rise e.number es → took (after (took s e) es) e ≡ after (took s e) es
again s e es r = go (eqb (refusal_for s e) 0) refl (which (took s e) es e.number r)
  where
    go : (b : Bool) → eqb (refusal_for s e) 0 ≡ b → Case (took s e) (after (took s e) es) e.number → took (after (took s e) es) e ≡ after (took s e) es
    go b q (later p) = too_old (after (took s e) es) e p
    go true q (unchanged p) =
        too_old (after (took s e) es) e (stays_after (took s e) es e.number (accepted_not_above s e e.number (eqb-true (refusal_for s e) 0 q) (omega arith)))
    go false q (unchanged p) =
        let u : took s e ≡ s = took-refused s e (eqb-false (refusal_for s e) 0 q) in
        ap (λ (t : Strip). took t e) (p ∙ u) ∙ u ∙ sym (p ∙ u)

-- a batch whose numbers rise, read a second time, changes nothing
pub read_twice : (s : Strip) (es : List Event) {n : ℕ} → Rise n es → after (after s es) es ≡ after s es
unfolding after
read_twice s [] ended = refl
read_twice s (e ∷ es) (rises l r) = ap (λ (t : Strip). foldl took t es) (again s e es r) ∙ read_twice (took s e) es r
