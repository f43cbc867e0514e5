-- What every strip keeps: at most seven out on a side, no name twice on a side.
use Rattle.std.specs.Prelude.{ℕ, ◌≤◌, ◌≡◌, refl, Bool, true, false, cond, List, [], ◌∷◌, ◌++◌, length, ltb, eqb}
use Rattle.std.proofs.Common.{sym, ◌∙◌, ap, true≢false, arith, eqb-true}
use Rattle.search.specs.Table.{same, same→eq}
use Rattle.outs.specs.Outs.{Side, one, two, What, out, revive, Event, Strip, out_on, among, refusal_on, refusal_for, changed, with_side, accepted, took, after}
use Rattle.outs.proofs.OutsLaws.{accepted_on}
use Rattle.outs.specs.KeepLaws.{Distinct, Kept, changed-seven, among-append, nobody, other}

out_other : (l : List (List ℕ)) (name : List ℕ) → refusal_on l (out name) ≡ 0 → among name l ≡ false
out_other l name z = go (ltb (length l) 7) (among name l) refl z
  where
    go : (a b : Bool) → among name l ≡ b → ◌≡◌ {A = ℕ} (cond a (cond b 35 0) 33) 0 → among name l ≡ false
    go true true q z = absurd (omega arith)
    go true false q z = q
    go false b q z = absurd (omega arith)

-- the same bytes, whichever is named first
same_swap : (x y : List ℕ) → same x y ≡ false → same y x ≡ false
same_swap x y h = go (same y x) refl
  where
    equal : (x y : List ℕ) → same y x ≡ true → y ≡ x
    equal x y e = same→eq y x (rw e tt)

    go : (b : Bool) → same y x ≡ b → same y x ≡ false
    go true e = absurd (true≢false (sym e ∙ ap (λ (z : List ℕ). same z x) (equal x y e) ∙ ap (same x) (sym (equal x y e)) ∙ h))
    go false e = e

-- not among a list: not its first, nor among the rest
first_other : (n x : List ℕ) (l : List (List ℕ)) → among n (x ∷ l) ≡ false → same n x ≡ false
unfolding among
first_other n x l h = go (same n x) h
  where
    go : (b : Bool) → cond b true (among n l) ≡ false → b ≡ false
    go true h = h
    go false h = refl

rest_other : (n x : List ℕ) (l : List (List ℕ)) → among n (x ∷ l) ≡ false → among n l ≡ false
unfolding among
rest_other n x l h = go (same n x) h
  where
    go : (b : Bool) → cond b true (among n l) ≡ false → among n l ≡ false
    go true h = absurd (true≢false h)
    go false h = h

nobody_there : (n : List ℕ) → among n [] ≡ false
unfolding among
nobody_there n = refl

distinct_append : (l : List (List ℕ)) (name : List ℕ) → Distinct l → among name l ≡ false → Distinct (l ++ (name ∷ []))
distinct_append [] name nobody h = other (nobody_there name) nobody
distinct_append (x ∷ l) name (other k d) h =
    other (among-append x name l k (same_swap name x (first_other name x l h)))
    (distinct_append l name d (rest_other name x l h))

changed_distinct : (l : List (List ℕ)) (w : What) → Distinct l → refusal_on l w ≡ 0 → Distinct (changed l w)
changed_distinct l (out name) d z = distinct_append l name d (out_other l name z)
changed_distinct [] revive d z = d
changed_distinct (x ∷ l) revive (other h d) z = d

pub took-kept : (s : Strip) (e : Event) → Kept s → Kept (took s e)
unfolding took accepted
took-kept s e h = go (eqb (refusal_for s e) 0) refl
  where
    most : (d c : Side) (w : What) → refusal_on (out_on s c) w ≡ 0 → length (out_on (with_side s c (changed (out_on s c) w) e.number) d) ≤ 7
    most one one w z = changed-seven s.first w (h.most one) z
    most one two w z = h.most one
    most two one w z = h.most two
    most two two w z = changed-seven s.second w (h.most two) z

    distinct : (d c : Side) (w : What) → refusal_on (out_on s c) w ≡ 0 → Distinct (out_on (with_side s c (changed (out_on s c) w) e.number) d)
    distinct one one w z = changed_distinct s.first w (h.distinct one) z
    distinct one two w z = h.distinct one
    distinct two one w z = h.distinct two
    distinct two two w z = changed_distinct s.second w (h.distinct two) z

    go : (b : Bool) → eqb (refusal_for s e) 0 ≡ b → Kept (cond b (with_side s e.side (changed (out_on s e.side) e.what) e.number) s)
    go true q =
        let z : refusal_on (out_on s e.side) e.what ≡ 0 = accepted_on s e (eqb-true (refusal_for s e) 0 q) in
        record { most = λ d. most d e.side e.what z; distinct = λ d. distinct d e.side e.what z }
    go false q = h

pub after_kept : (s : Strip) (es : List Event) → Kept s → Kept (after s es)
unfolding after
after_kept s [] h = h
after_kept s (e ∷ es) h = after_kept (took s e) es (took-kept s e h)
