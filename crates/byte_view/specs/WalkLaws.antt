-- The walk over views: none passed yet, one more, the ways out.
use Rattle.std.specs.Prelude.{ℕ, ◌+◌, ◌*◌, ◌-◌, ◌≤◌, ◌<◌, ◌≡◌, refl, List, ltb}
use Rattle.std.proofs.Common.{ap, arith, lt-ltb, le-ltb}
use Rattle.std.specs.Prelude.{Some, None}
use Rattle.search.specs.First.{first, Passed}
use Rattle.search.specs.FirstLaws.{passed_none, passed_more, passed_at, passed_all}
use Rattle.views.specs.declared.View.{View}
use Rattle.views.specs.View.{view_of, long_length}
use Rattle.rules.specs.Copies.{views_at, long_to}
use Rattle.byte_view.specs.declared.Walked.{Walked}
use Rattle.byte_view.specs.Copying.{walk_rows, walk_of}
use Rattle.byte_view.specs.FoldLaws.{long_le, long_zero, ideal-more, ideal-all}

-- after i turns: the long ones so far are taken off the rest, and each view was no longer than what those before it left
pub record Walking (body : List ℕ) (at rest left i : ℕ) : Type 0 where
  pub taken : left + long_to (views_at body at) i ≡ rest
  pub passed : Passed (λ u. ltb (rest - long_to (views_at body at) u) (views_at body at u).length) i

pub walking_none : (body : List ℕ) (at rest : ℕ) → Walking body at rest rest 0
walking_none body at rest =
    record { taken = omega (arith, long_zero (views_at body at)); passed = passed_none _ }

-- what is left is enough for a view that passes the test
pub walking_fits : {left : ℕ} (v : View) {x : ℕ} → x ≡ long_length v → v.length ≤ left → x ≤ left
walking_fits v e h = omega (arith, long_le v)

pub walking_more : {body : List ℕ} {at rest left : ℕ} (i : ℕ) {v : View} {x : ℕ} → Walking body at rest left i → v ≡ view_of body (at + i * 16) → v.length ≤ left → x ≡ long_length v → Walking body at rest (left - x) (i + 1)
walking_more {body} {at} {rest} {left} i {v} {x} w q h e =
    let g : long_to (views_at body at) i + x ≡ long_to (views_at body at) (i + 1) = ideal-more body at i refl q e in
    let l : x ≤ left = walking_fits v e h in
    let m : v.length ≡ (view_of body (at + i * 16)).length = ap (λ (y : View). y.length) q in
    let t = w.taken in
    record {
      taken = omega arith;
      passed = passed_more w.passed (le-ltb (rest - long_to (views_at body at) i) (view_of body (at + i * 16)).length (omega arith));
    }

-- the walk stops at view i
pub walked_at : {body : List ℕ} {at rest left : ℕ} (i n : ℕ) {v : View} → Walking body at rest left i → i < n → v ≡ view_of body (at + i * 16) → left < v.length → ◌≡◌ {A = Walked} (record { rows = record { 0 = i }; bytes = record { 0 = rest - left } }) (walk_of (views_at body at) n rest)
unfolding walk_of walk_rows
walked_at {body} {at} {rest} {left} i n {v} w a q h =
    let t = w.taken in
    let m : v.length ≡ (view_of body (at + i * 16)).length = ap (λ (y : View). y.length) q in
    let s : Some i ≡ first (λ u. ltb (rest - long_to (views_at body at) u) (views_at body at u).length) n =
    passed_at n w.passed a (lt-ltb (rest - long_to (views_at body at) i) (view_of body (at + i * 16)).length (omega arith)) in
    let d : rest - left ≡ long_to (views_at body at) i = omega arith in
    rw (← s, d)

-- or takes them all
pub walked_all : {body : List ℕ} {at rest left i : ℕ} (n : ℕ) → Walking body at rest left i → i ≤ n → n ≤ i → ◌≡◌ {A = Walked} (record { rows = record { 0 = n }; bytes = record { 0 = rest - left } }) (walk_of (views_at body at) n rest)
unfolding walk_of walk_rows
walked_all {body} {at} {rest} {left} {i} n w a b =
    let t = w.taken in
    let s : None ≡ first (λ u. ltb (rest - long_to (views_at body at) u) (views_at body at u).length) n =
    passed_all n w.passed b in
    let g : long_to (views_at body at) i ≡ long_to (views_at body at) n = ideal-all body at i n refl a b in
    let d : rest - left ≡ long_to (views_at body at) n = omega arith in
    rw (← s, d)
