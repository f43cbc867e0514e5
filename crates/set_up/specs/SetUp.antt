-- Set-up: what is asked for, as the rules have it; and the contract.
use Rattle.std.specs.Prelude.{ℕ, zero, suc, ◌≡◌, cond, List, [], ◌∷◌, get_or, ltb}
use Rattle.rules.specs.declared.Step.{Step}
use Rattle.rules.specs.Calls.{Answered, of_kind}
use Rattle.rules.specs.Calls as calls
use Rattle.set_up.specs.declared.Wanted.{Wanted}

-- the first n of a list, and zeros where it ends: the kinds of n columns, which set-up refuses where they are more than the array holds
unfoldable pub padded : ℕ → List ℕ → List ℕ
padded zero l = []
padded (suc n) [] = 0 ∷ padded n []
padded (suc n) (x ∷ l) = x ∷ padded n l

-- what set-up is asked for
unfoldable pub wanted_of : Wanted → calls.Wanted
wanted_of w =
    record {
      target = w.target.0;
      rows = w.rows.0;
      queue = w.queue;
      kinds = padded w.columns w.kinds;
      lists = w.lists;
      numbers = w.numbers;
      pool = w.pool.0;
    }

-- the kind of column c, and 0 past the last
unfoldable pub kind_at : ℕ → List ℕ → ℕ → ℕ
kind_at columns kinds c = cond (ltb c columns) (get_or kinds c 0) 0

-- the contract: number, state and books are the call's. Slots and pool are not lent to be changed
pub record SetsUp (a : Answered) (books' : List ℕ) (r : Step) : Type 0 where
  pub state_is : r.state ≡ a.world.state
  pub number_is : r.number ≡ a.number
  pub books_are : books' ≡ a.world.books
