-- The laws of kinds: the rule of an arm of the code's decision, and what callers need to know of widths and views.
use Rattle.std.specs.Prelude.{ℕ, zero, suc, ◌+◌, ◌-◌, ◌≤◌, ◌<◌, ◌≡◌, refl, Bool, true, false, cond, not, ◌||◌, ◌⊎◌, List, [], ◌∷◌, T, eqb, length}
use Rattle.std.proofs.Common.{sym, ap, subst, inl, inr, ⊎_elim, arith, ne_eqb, eqb→eq}
use Rattle.std.specs.Prelude.{Option, None, Some}
use Rattle.std.proofs.Math.Decide.{dec_lt}
use Rattle.std.proofs.Math.Facts.{or_yes}
use mir.Val.{has_key}
use types.Run.{OneOf, hit}
use Rattle.search.specs.Every.{every, every-says}
use Rattle.kinds.specs.Kind.{Kind, kinds, layout_of, bytes_of, shown, place, kind_of, width_in, width_at, view_in, is_view}

-- a width is so many bytes
abbrev pub says : ℕ → Option ℕ → Bool
says x (Some w) = eqb x w
says x None = false

says→eq : (x : ℕ) (w : Option ℕ) → T (says x w) → Some x ≡ w
says→eq x (Some w) t = ap Some (eqb→eq x w t)
says→eq x None t = absurd t

-- an arm of single numbers: where A says that x is one of them, x is the number of a kind w bytes wide
pub record Wide (w x : ℕ) (A : Type 0) : Type 0 where
  pub width : A → Some w ≡ width_at x

-- one number, by a test that is computed; and one part or another of an arm
pub wide_one : {w k x : ℕ} → T (says w (width_at k)) → Wide w x (x ≡ k)
wide_one {w} {k} t = record { width = λ h. rw h (says→eq w (width_at k) t) }

pub wide_or : {w x : ℕ} {A B : Type 0} → Wide w x A → Wide w x B → Wide w x (A ⊎ B)
wide_or a b = record { width = ⊎_elim a.width b.width }

pub width_arm : (w x : ℕ) {A : Type 0} → A → Wide w x A → Some w ≡ width_at x
width_arm w x h a = a.width h

-- behind the arms of single numbers: x is in none of their lists, the last arm's first
abbrev pub NoneOf : List (List ℕ) → ℕ → Type 0
NoneOf [] x = Unit {0}
NoneOf (ks ∷ kss) x = NoneOf kss x × (OneOf ks x → ⊥)

-- a number is in one of the lists, or is that of a kind w bytes wide
abbrev pub rest_wide : ℕ → List (List ℕ) → ℕ → Bool
rest_wide w [] x = says w (width_at x)
rest_wide w (ks ∷ kss) x = has_key ks x || rest_wide w kss x

rest→eq : (w : ℕ) (kss : List (List ℕ)) (x : ℕ) → T (rest_wide w kss x) → NoneOf kss x → Some w ≡ width_at x
rest→eq w [] x t r = says→eq w (width_at x) t
rest→eq w (ks ∷ kss) x t r = elim (or_yes (has_key ks x) (rest_wide w kss x) t) [ inl a ↦ absurd (r.1 (hit ks x a)) | inr b ↦ rest→eq w kss x b r.0 ]

-- an arm of a range, by a test that is computed over the n numbers from lo on
pub width_range : (w lo n : ℕ) (kss : List (List ℕ)) → every (λ i. rest_wide w kss (lo + i)) n ≡ true → (x : ℕ) → lo ≤ x → x < lo + n → NoneOf kss x → Some w ≡ width_at x
width_range w lo n kss t x l h r =
    let e : lo + (x - lo) ≡ x = omega arith in
    let at : rest_wide w kss (lo + (x - lo)) ≡ true = every-says (λ i. rest_wide w kss (lo + i)) n t (x - lo) (omega arith) in
    let here : rest_wide w kss x ≡ true = rw (← e) at in
    rest→eq w kss x (subst T (sym here) tt) r

-- no kind has the number 0, or one past the table
past : (ks : List Kind) (i : ℕ) → length ks ≤ i → place ks i ≡ None
past [] i h = refl
past (k ∷ ks) zero h = absurd (omega arith)
past (k ∷ ks) (suc i) h = past ks i (omega arith)

pub no_kind : (n : ℕ) → 19 < n → kind_of n ≡ None
unfolding kind_of
no_kind zero h = absurd (omega arith)
no_kind (suc i) h = past kinds i (omega arith)

pub width_zero : (n : ℕ) → n ≡ 0 → None ≡ width_at n
unfolding width_at kind_of
width_zero n e = rw e

pub width_past : (n : ℕ) → 19 < n → None ≡ width_at n
unfolding width_at
width_past n h = rw (no_kind n h)

-- the views' numbers, found by looking at every number of the table
abbrev either : ℕ → Bool
either n = cond (eqb n 18) true (eqb n 19)

abbrev agree : Bool → Bool → Bool
agree true b = b
agree false b = not b

agree→eq : (a b : Bool) → agree a b ≡ true → a ≡ b
agree→eq true true e = refl
agree→eq true false e = sym e
agree→eq false true e = e
agree→eq false false e = refl

in_table : every (λ n. agree (either n) (is_view n)) 20 ≡ true
unfolding every is_view kind_of
in_table = refl

view_is : (n : ℕ) → either n ≡ is_view n
unfolding is_view
view_is n = go (dec_lt n 20)
  where
    go : Dec (n < 20) → either n ≡ is_view n
    go (yes d) = agree→eq (either n) (is_view n) (every-says (λ m. agree (either m) (is_view m)) 20 in_table n d)
    go (no d) = rw (no_kind n (omega arith), ne_eqb n 18 (omega arith), ne_eqb n 19 (omega arith))

pub view_first : (n : ℕ) → n ≡ 18 → true ≡ is_view n
view_first n e = rw (← view_is n, e)

pub view_second : (n : ℕ) → (n ≡ 18 → ⊥) → eqb n 19 ≡ is_view n
view_second n h = rw (← view_is n, ne_eqb n 18 h)
