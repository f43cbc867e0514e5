-- Both sides of 30, computed: which set-ups are of a match's columns.
use Rattle.std.specs.Prelude.{ℕ, Bool, true, ◌&&◌, not, List, [], ◌∷◌, T}
use Rattle.state.specs.World.{column_of}
use Rattle.rules.specs.Calls.{columns_for, new_state}
use Rattle.match_rows.specs.MatchRow.{is_match}

-- whether a set-up of these kinds is of a match's columns
unfoldable pub is_match_of : List ℕ → Bool
is_match_of kinds =
    is_match (new_state (record { target = 1; rows = 1; queue = 1; kinds = kinds; lists = 1; numbers = 1; pool = 0 }))

-- none of them is
abbrev pub none : List (List ℕ) → Bool
none [] = true
none (k ∷ ks) = not (is_match_of k) && none ks

-- UInt64, UInt8, UInt8, Utf8View
pub is_match_lem : T (is_match_of (8 ∷ 5 ∷ 5 ∷ 18 ∷ []))
unfolding is_match_of is_match column_of new_state columns_for
is_match_lem = tt

-- BinaryView as the name, Int64 as the number, Int8 as side or event, another order; three columns, five, none
pub is_other : T (none ((8 ∷ 5 ∷ 5 ∷ 19 ∷ []) ∷ (4 ∷ 5 ∷ 5 ∷ 18 ∷ []) ∷ (8 ∷ 1 ∷ 5 ∷ 18 ∷ []) ∷ (8 ∷ 5 ∷ 1 ∷ 18 ∷ []) ∷ (18 ∷ 5 ∷ 5 ∷ 8 ∷ []) ∷ (8 ∷ 5 ∷ 5 ∷ []) ∷ (8 ∷ 5 ∷ 5 ∷ 18 ∷ 18 ∷ []) ∷ [] ∷ []))
unfolding is_match_of is_match column_of new_state columns_for
is_other = tt
