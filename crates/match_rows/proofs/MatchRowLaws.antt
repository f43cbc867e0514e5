-- Rows alone count, not how they are cut; a refused row changes nothing.
use Rattle.std.specs.Prelude.{ℕ, suc, ◌≡◌, refl, ◌≢◌, Bool, true, false, cond, length}
use Rattle.std.proofs.Common.{◌∙◌, ap}
use mathlib.Core.List.{List, [], ◌∷◌, ◌++◌, foldl-append}
use Rattle.state.specs.Rows.{Row}
use Rattle.outs.specs.Outs.{Strip, in_range, refusal_for, event_of, took, given_number, given_took}
use Rattle.outs.proofs.OutsLaws.{took-refused}
use Rattle.match_rows.specs.MatchRow.{is_whole, number_in, side_in, event_in, player_in, row_number, row_took, after_rows, row_numbers}

-- ---- rows in order

pub after_rows_none : (s : Strip) → after_rows s [] ≡ s
unfolding after_rows
after_rows_none s = refl

pub after_rows_append : (s : Strip) (a b : List Row) → after_rows s (a ++ b) ≡ after_rows (after_rows s a) b
unfolding after_rows
after_rows_append s a b = foldl-append row_took s a b

-- one row
pub after_rows_one : (s : Strip) (row : Row) → after_rows s (row ∷ []) ≡ row_took s row
unfolding after_rows
after_rows_one s row = refl

-- one row more, at the end
pub after_rows_more : (s : Strip) (a : List Row) (row : Row) → after_rows s (a ++ (row ∷ [])) ≡ row_took (after_rows s a) row
after_rows_more s a row = after_rows_append s a (row ∷ []) ∙ after_rows_one (after_rows s a) row

pub row_numbers_append : (s : Strip) (a b : List Row) → row_numbers s (a ++ b) ≡ row_numbers s a ++ row_numbers (after_rows s a) b
unfolding row_numbers after_rows
row_numbers_append s [] b = refl
row_numbers_append s (row ∷ a) b = ap (λ (l : List ℕ). row_number s row ∷ l) (row_numbers_append (row_took s row) a b)

pub row_numbers_one : (s : Strip) (row : Row) → row_numbers s (row ∷ []) ≡ row_number s row ∷ []
unfolding row_numbers
row_numbers_one s row = refl

pub row_numbers_more : (s : Strip) (a : List Row) (row : Row) → row_numbers s (a ++ (row ∷ [])) ≡ row_numbers s a ++ (row_number (after_rows s a) row ∷ [])
row_numbers_more s a row =
    row_numbers_append s a (row ∷ []) ∙ ap (λ (l : List ℕ). row_numbers s a ++ l) (row_numbers_one (after_rows s a) row)

-- a number for each row
pub row_numbers_length : (s : Strip) (rows : List Row) → length (row_numbers s rows) ≡ length rows
unfolding row_numbers
row_numbers_length s [] = refl
row_numbers_length s (row ∷ rows) = ap suc (row_numbers_length (row_took s row) rows)

-- ---- a refused row. 02, K6: "the row changing nothing"

given-refused : (s : Strip) (n d e : ℕ) (name : List ℕ) → given_number s n d e name ≢ 0 → given_took s n d e name ≡ s
unfolding given_number given_took
given-refused s n d e name = go (in_range d e name)
  where
    go : (b : Bool) → cond b (refusal_for s (event_of n d e name)) 31 ≢ 0 → cond b (took s (event_of n d e name)) s ≡ s
    go true h = took-refused s (event_of n d e name) h
    go false h = refl

pub row-refused : (s : Strip) (row : Row) → row_number s row ≢ 0 → row_took s row ≡ s
unfolding row_number row_took
row-refused s row = go (is_whole row)
  where
    go : (b : Bool) → cond b (given_number s (number_in row) (side_in row) (event_in row) (player_in row)) 31 ≢ 0 → cond b (given_took s (number_in row) (side_in row) (event_in row) (player_in row)) s ≡ s
    go true h = given-refused s (number_in row) (side_in row) (event_in row) (player_in row) h
    go false h = refl
