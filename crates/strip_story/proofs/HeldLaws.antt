-- What the theorems over histories rest on: rows alone count, an empty coalescer holds none, and the columns of a match stay.
use Rattle.std.specs.Prelude.{ℕ, ◌≡◌, refl, ◌≢◌, true, List, [], ◌∷◌, ◌++◌, length, get_or}
use Rattle.std.proofs.Common.{sym, ◌∙◌, ap, append-nil, arith, eqb-true, eq-eqb}
use Rattle.search.specs.Cases.{both}
use Rattle.state.specs.declared.BatchCoalescer.{BatchCoalescer}
use Rattle.state.specs.World.{World, no_column, column_of}
use Rattle.state.specs.Rows.{Row, joined, queued_rows, buffered_rows}
use Rattle.rules.specs.Calls.{Wanted, columns_for, new_state, is_empty}
use Rattle.invariant.specs.Holding.{Between}
use Rattle.history.specs.Law.{content}
use Rattle.history.proofs.Counts.{empty_counts}
use Rattle.outs.specs.Outs.{Strip}
use Rattle.match_rows.specs.MatchRow.{is_match, row_number, row_took, after_rows}
use Rattle.match_rows.proofs.MatchRowLaws.{after_rows_append, after_rows_one, row-refused}
use Rattle.strip_story.specs.StripAfter.{strip_after, match_kinds}
use Rattle.strip_story.proofs.RowEventLaws.{after-batches}

-- ---- rows

-- the strip of what is taken, going on with what is held, is that of what was accepted
pub goes_on : (s : Strip) {accepted : List Row} (taken : List (List Row)) (held : List Row) → accepted ≡ joined taken ++ held → after_rows (strip_after s taken) held ≡ after_rows s accepted
goes_on s taken held e =
    ap (λ (t : Strip). after_rows t held) (after-batches s taken) ∙ sym (after_rows_append s (joined taken) held) ∙ ap (after_rows s) (sym e)

no_rows : (l : List Row) → length l ≡ 0 → l ≡ []
no_rows [] e = refl
no_rows (row ∷ l) e = absurd (omega arith)

-- is_empty: no row is queued or buffered
pub nothing_held : (w : World) → Between w → is_empty w.state ≡ true → queued_rows w ++ buffered_rows w ≡ []
unfolding content
nothing_held w g e =
    no_rows (queued_rows w ++ buffered_rows w) (eqb-true (length (queued_rows w ++ buffered_rows w)) 0 (sym (empty_counts w g) ∙ e))

-- and then what is taken is what was accepted
pub all-taken : {accepted held : List Row} (taken : List (List Row)) → accepted ≡ joined taken ++ held → held ≡ [] → accepted ≡ joined taken
all-taken taken e h = e ∙ ap (λ (l : List Row). joined taken ++ l) h ∙ append-nil (joined taken)

-- a row that is refused where it stands may as well not be there
pub left_out : (s : Strip) (a b : List Row) (row : Row) → row_number (after_rows s a) row ≢ 0 → after_rows s (a ++ (row ∷ b)) ≡ after_rows s (a ++ b)
left_out s a b row n =
    after_rows_append s a (row ∷ b) ∙ first (after_rows s a) (row-refused (after_rows s a) row n) ∙ sym (after_rows_append s a b)
  where
    first : (t : Strip) → row_took t row ≡ t → after_rows t (row ∷ b) ≡ after_rows t b
    first t e = after_rows_append t (row ∷ []) b ∙ ap (λ (u : Strip). after_rows u b) (after_rows_one t row ∙ e)

-- ---- columns

-- a state with as many columns and the kinds of a set-up of a match
pub match_is : (a : Wanted) (s : BatchCoalescer) → a.kinds ≡ match_kinds → s.columns ≡ length a.kinds → ((c : ℕ) → (column_of s c).kind ≡ (column_of (new_state a) c).kind) → is_match s ≡ true
unfolding is_match new_state column_of columns_for
match_is a s e n k =
    both (eq-eqb s.columns 4 (n ∙ ap length e))
    (both (eq-eqb _ 8 (k 0 ∙ at 0))
    (both (eq-eqb _ 5 (k 1 ∙ at 1)) (both (eq-eqb _ 5 (k 2 ∙ at 2)) (eq-eqb _ 18 (k 3 ∙ at 3)))))
  where
    at : (c : ℕ) → (column_of (new_state a) c).kind ≡ (get_or (columns_for match_kinds 16) c no_column).kind
    at c = ap (λ (l : List ℕ). (get_or (columns_for l 16) c no_column).kind) e
