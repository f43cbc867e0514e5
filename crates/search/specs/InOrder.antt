-- Tests in their order, as a page has them: the first that fails says what comes of it.
use Rattle.std.specs.Prelude.{Bool, cond, List, [], ◌∷◌}

-- a test, and what comes of it where it fails
pub record Test (A : Type 0) : Type 0 where
  pub holds : Bool
  pub else : A

abbrev pub test : {A : Type 0} → Bool → A → Test A
test b x = record { holds = b; else = x }

-- what the first that fails says; `good` where none does
abbrev pub in_order : {A : Type 0} → List (Test A) → A → A
in_order [] good = good
in_order (t ∷ ts) good = cond t.holds (in_order ts good) t.else
