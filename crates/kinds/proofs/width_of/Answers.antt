-- `kinds::width_of` meets its contract.
use Prim.Native.Nat.{ℕ}
use mathlib.Core.Path.{refl}
use mathlib.Core.List.{List, [], ◌∷◌}
use native.Mathlib.Omega.{arith}
use Rattle.search.specs.Every.{every}
use Rattle.kinds.specs.Kind.{width_at, kind_of}
use Rattle.kinds.specs.KindLaws.{wide_one, wide_or, width_arm, width_range, width_zero, width_past}
use Rattle.kinds.proofs.width_of.Goals as goal

-- the single numbers of the arms, the last arm first
abbrev single : List (List ℕ)
single = (17 ∷ []) ∷ (16 ∷ []) ∷ (4 ∷ 8 ∷ 11 ∷ []) ∷ (3 ∷ 7 ∷ 10 ∷ 12 ∷ []) ∷ (2 ∷ 6 ∷ 9 ∷ []) ∷ (1 ∷ 5 ∷ []) ∷ []

pub returns-in-1 : goal.returns-in-1
unfolding width_at kind_of
returns-in-1 c = width_arm 1 c.args.kind c.in-1.is (search (wide_one, wide_or))

pub returns-in-2 : goal.returns-in-2
unfolding width_at kind_of
returns-in-2 c = width_arm 2 c.args.kind c.in-2.is (search (wide_one, wide_or))

pub returns-in-3 : goal.returns-in-3
unfolding width_at kind_of
returns-in-3 c = width_arm 4 c.args.kind c.in-3.is (search (wide_one, wide_or))

pub returns-in-17 : goal.returns-in-17
unfolding width_at kind_of
returns-in-17 c = width_arm 32 c.args.kind c.in-17.is (search wide_one)

pub returns-in_default : goal.returns-in_default
returns-in_default c = width_zero _ (omega arith)

pub returns-in_default-2 : goal.returns-in_default-2
returns-in_default-2 c = width_past _ (omega arith)

pub returns-in-16 : goal.returns-in-16
unfolding width_at kind_of
returns-in-16 c = width_arm 16 c.args.kind c.in-16.in-16-own.keys5 (search wide_one)

pub returns-in-16-2 : goal.returns-in-16-2
unfolding every width_at kind_of
returns-in-16-2 c = width_range 16 16 4 single refl _ (omega arith) (omega arith) c.in-16.in_default-own.rest

pub returns-in-4 : goal.returns-in-4
unfolding width_at kind_of
returns-in-4 c = width_arm 8 c.args.kind c.in-4.in-4-own.keys4 (search (wide_one, wide_or))

pub returns-in-4-2 : goal.returns-in-4-2
unfolding every width_at kind_of
returns-in-4-2 c = width_range 8 1 15 single refl _ (omega arith) (omega arith) c.in-4.in_default-own.rest
