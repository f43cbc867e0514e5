-- Rows are events: the strip after rows is the strip after their events, and the rows accepted are the events accepted.
use Rattle.std.specs.Prelude.{ℕ, ◌≡◌, refl, Bool, true, false, ◌&&◌, cond, drop, eqb}
use Rattle.std.proofs.Common.{sym, ◌∙◌, ap}
use mathlib.Core.List.{List, [], ◌∷◌, foldl}
use Rattle.state.specs.Rows.{Row, joined}
use Rattle.outs.specs.Outs.{Side, one, two, Event, Strip, empty, out_on, in_range, refusal_for, took, after, given_number, given_took, accepted_of, outs, revives}
use Rattle.outs.proofs.OutsLaws.{first_in_first_out}
use Rattle.outs.specs.TwiceLaws as twice
use Rattle.outs.proofs.TwiceLaws as twice_laws
use Rattle.match_rows.specs.MatchRow.{is_whole, side_in, event_in, player_in, row_number, row_took, after_rows}
use Rattle.match_rows.proofs.MatchRowLaws.{after_rows_none, after_rows_append}
use Rattle.strip_story.specs.StripAfter.{strip_after, accepted_rows, is_event, row_event, events_of}

-- batch by batch is row by row
pub after-batches : (s : Strip) (batches : List (List Row)) → strip_after s batches ≡ after_rows s (joined batches)
unfolding strip_after joined
after-batches s [] = sym (after_rows_none s)
after-batches s (b ∷ bs) = after-batches (after_rows s b) bs ∙ sym (after_rows_append s b (joined bs))

-- ---- one row

-- two tests, one behind the other
two-tests {ℓ} : {A : Type ℓ} (a b : Bool) (x y : A) → cond a (cond b x y) y ≡ cond (a && b) x y
two-tests true b x y = refl
two-tests false b x y = refl

pub took_event : (s : Strip) (row : Row) → row_took s row ≡ cond (is_event row) (took s (row_event row)) s
unfolding row_took given_took is_event
took_event s row = two-tests (is_whole row) (in_range (side_in row) (event_in row) (player_in row)) (took s (row_event row)) s

pub number_event : (s : Strip) (row : Row) → row_number s row ≡ cond (is_event row) (refusal_for s (row_event row)) 31
unfolding row_number given_number is_event
number_event s row = two-tests (is_whole row) (in_range (side_in row) (event_in row) (player_in row)) (refusal_for s (row_event row)) 31

-- ---- rows

pub after_events : (s : Strip) (rows : List Row) → after_rows s rows ≡ after s (events_of rows)
unfolding after_rows after events_of
after_events s [] = refl
after_events s (row ∷ rows) = after_events (row_took s row) rows ∙ go (is_event row) (took_event s row)
  where
    go : (b : Bool) → row_took s row ≡ cond b (took s (row_event row)) s → after (row_took s row) (events_of rows) ≡ foldl took s (cond b (row_event row ∷ events_of rows) (events_of rows))
    go true e = ap (λ (t : Strip). foldl took t (events_of rows)) e
    go false e = ap (λ (t : Strip). foldl took t (events_of rows)) e

-- the rows whose number is 0 are the events that are accepted
pub accepted_events : (s : Strip) (rows : List Row) → events_of (accepted_rows s rows) ≡ accepted_of s (events_of rows)
unfolding accepted_rows accepted_of events_of
accepted_events s [] = refl
accepted_events s (row ∷ rows) = go (is_event row) refl (number_event s row) (took_event s row) (accepted_events (row_took s row) rows)
  where
    rest : List Row
    rest = accepted_rows (row_took s row) rows

    kept : (c : Bool) → is_event row ≡ true → events_of (cond c (row ∷ rest) rest) ≡ cond c (row_event row ∷ events_of rest) (events_of rest)
    kept true p = rw p
    kept false p = refl

    go : (b : Bool) → is_event row ≡ b → row_number s row ≡ cond b (refusal_for s (row_event row)) 31 → row_took s row ≡ cond b (took s (row_event row)) s → events_of rest ≡ accepted_of (row_took s row) (events_of rows) → events_of (cond (eqb (row_number s row) 0) (row ∷ rest) rest) ≡ accepted_of s (cond b (row_event row ∷ events_of rows) (events_of rows))
    go true p n t h =
        kept (eqb (row_number s row) 0) p
        ∙ ap (λ (k : ℕ). cond (eqb k 0) (row_event row ∷ events_of rest) (events_of rest)) n
        ∙ ap (λ (l : List Event). cond (eqb (refusal_for s (row_event row)) 0) (row_event row ∷ l) l)
        (h ∙ ap (λ (u : Strip). accepted_of u (events_of rows)) t)
    go false p n t h =
        ap (λ (k : ℕ). events_of (cond (eqb k 0) (row ∷ rest) rest)) n ∙ h ∙ ap (λ (u : Strip). accepted_of u (events_of rows)) t

-- ---- first in, first out, from the empty strip

pub first_out : (rows : List Row) (d : Side) → out_on (after_rows empty rows) d ≡ drop (revives d (events_of (accepted_rows empty rows))) (outs d (events_of (accepted_rows empty rows)))
first_out rows d = rw (after_events empty rows, accepted_events empty rows) (go d)
  where
    go : (d : Side) → out_on (after empty (events_of rows)) d ≡ drop (revives d (accepted_of empty (events_of rows))) (outs d (accepted_of empty (events_of rows)))
    go one = first_in_first_out empty (events_of rows) one
    go two = first_in_first_out empty (events_of rows) two

-- ---- rows whose numbers rise, read a second time, change nothing

pub rows-twice : (s : Strip) (rows : List Row) {n : ℕ} → twice.Rise n (events_of rows) → after_rows (after_rows s rows) rows ≡ after_rows s rows
rows-twice s rows r =
    after_events (after_rows s rows) rows
    ∙ ap (λ (t : Strip). after t (events_of rows)) (after_events s rows)
    ∙ twice_laws.read_twice s (events_of rows) r
    ∙ sym (after_events s rows)
