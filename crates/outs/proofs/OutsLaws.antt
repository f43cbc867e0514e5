-- A refused event changes nothing; the cutting makes no difference; first in, first out.
use Rattle.std.specs.Prelude.{ℕ, suc, ◌+◌, ◌≡◌, refl, ◌≢◌, Bool, true, false, cond, drop, eqb}
use Rattle.std.proofs.Common.{sym, ◌∙◌, ap, arith, eqb-true, eq-eqb, ne_eqb}
use mathlib.Core.List.{List, [], ◌∷◌, ◌++◌, append_assoc, append-nil, foldl, foldl-append, flatten}
use Rattle.std.proofs.lemmas.Bool.{eqb-false}
use Rattle.outs.specs.Outs.{Side, one, two, What, out, revive, Event, Strip, out_on, is_above, refusal_on, refusal_for, changed, with_side, accepted, took, after, after_batches, accepted_of, is_same, goes_out, comes_back, outs, revives}

-- 02, K6: "the row changing nothing"
pub took-refused : (s : Strip) (e : Event) → refusal_for s e ≢ 0 → took s e ≡ s
unfolding took
took-refused s e n = rw (ne_eqb (refusal_for s e) 0 n)

pub took-accepted : (s : Strip) (e : Event) → refusal_for s e ≡ 0 → took s e ≡ accepted s e
unfolding took
took-accepted s e z = rw (eq-eqb (refusal_for s e) 0 z)

-- ---- rows alone count, not how they are cut

pub after_none : (s : Strip) → s ≡ after s []
unfolding after
after_none s = refl

pub after-append : (s : Strip) (a b : List Event) → after s (a ++ b) ≡ after (after s a) b
unfolding after
after-append s a b = foldl-append took s a b

pub after_joined : (s : Strip) (bs : List (List Event)) → after_batches s bs ≡ after s (flatten bs)
unfolding after_batches flatten
after_joined s [] = after_none s
after_joined s (b ∷ bs) = after_joined (after s b) bs ∙ sym (after-append s b (flatten bs))

-- 02, K6: "cutting the same rows into other batches gives the same strip"
pub cut_alike : (s : Strip) (bs cs : List (List Event)) → flatten bs ≡ flatten cs → after_batches s bs ≡ after_batches s cs
cut_alike s bs cs e = after_joined s bs ∙ ap (after s) e ∙ sym (after_joined s cs)

-- ---- first in, first out

-- an accepted event passes what is asked of its side
pub accepted_on : (s : Strip) (e : Event) → refusal_for s e ≡ 0 → refusal_on (out_on s e.side) e.what ≡ 0
unfolding refusal_for
accepted_on s e z = go (is_above s.last e.number) z
  where
    go : (b : Bool) → cond b (refusal_on (out_on s e.side) e.what) 32 ≡ 0 → refusal_on (out_on s e.side) e.what ≡ 0
    go true z = z
    go false z = absurd (omega arith)

-- an accepted revive finds somebody
some_out : (l : List (List ℕ)) → refusal_on l revive ≡ 0 → l ≢ []
some_out [] z e = omega arith
some_out (x ∷ l) z e = let q : ◌≡◌ {A = ℕ} 0 1 = cc in omega arith

drop_more : (k : ℕ) (l r : List (List ℕ)) → l ≢ [] → drop k (drop 1 l ++ r) ≡ drop (suc k) (l ++ r)
drop_more k [] r n = absurd (n refl)
drop_more k (x ∷ l) r n = refl

-- one accepted event, seen from a side
one_more_lem : (s : Strip) (e : Event) (d : Side) (k : ℕ) (r : List (List ℕ)) → refusal_for s e ≡ 0 → drop k (out_on (accepted s e) d ++ r) ≡ drop (cond (is_same d e.side) (comes_back e.what) 0 + k) (out_on s d ++ (cond (is_same d e.side) (goes_out e.what) [] ++ r))
unfolding accepted
one_more_lem s e d k r z = go d e.side e.what (accepted_on s e z)
  where
    here : (l : List (List ℕ)) (w : What) → refusal_on l w ≡ 0 → drop k (changed l w ++ r) ≡ drop (comes_back w + k) (l ++ (goes_out w ++ r))
    here l (out name) q = let z : 0 + k ≡ k = omega arith in rw (append_assoc l (name ∷ []) r, z)
    here l revive q = let z : 1 + k ≡ suc k = omega arith in rw z (drop_more k l r (some_out l q))

    there : (l : List (List ℕ)) → drop k (l ++ r) ≡ drop (0 + k) (l ++ ([] ++ r))
    there l = let z : 0 + k ≡ k = omega arith in rw z

    go : (d c : Side) (w : What) → refusal_on (out_on s c) w ≡ 0 → drop k (out_on (with_side s c (changed (out_on s c) w) e.number) d ++ r) ≡ drop (cond (is_same d c) (comes_back w) 0 + k) (out_on s d ++ (cond (is_same d c) (goes_out w) [] ++ r))
    go one one w q = here s.first w q
    go one two w q = there s.first
    go two one w q = there s.second
    go two two w q = here s.second w q

-- the players out on a side are those that were, then those accepted as out, less as many from the front as were revived
pub first_in_first_out : (s : Strip) (es : List Event) (d : Side) → out_on (after s es) d ≡ drop (revives d (accepted_of s es)) (out_on s d ++ outs d (accepted_of s es))
unfolding after accepted_of outs revives
first_in_first_out s [] d = sym (append-nil (out_on s d))
first_in_first_out s (e ∷ es) d = go (eqb (refusal_for s e) 0) refl (first_in_first_out (took s e) es d)
  where
    rest : List Event
    rest = accepted_of (took s e) es

    go : (b : Bool) → eqb (refusal_for s e) 0 ≡ b → out_on (after (took s e) es) d ≡ drop (revives d rest) (out_on (took s e) d ++ outs d rest) → out_on (foldl took (took s e) es) d ≡ drop (revives d (cond b (e ∷ rest) rest)) (out_on s d ++ outs d (cond b (e ∷ rest) rest))
    go true q h =
        let z : refusal_for s e ≡ 0 = eqb-true (refusal_for s e) 0 q in
        h ∙ ap (λ (t : Strip). drop (revives d rest) (out_on t d ++ outs d rest)) (took-accepted s e z) ∙ one_more_lem s e d (revives d rest) (outs d rest) z
    go false q h = h ∙ ap (λ (t : Strip). drop (revives d rest) (out_on t d ++ outs d rest)) (took-refused s e (eqb-false (refusal_for s e) 0 q))
