-- What the strip after rows keeps: at most seven out on a side, no name twice there, every name of 1 to 64 bytes; so its bytes hold it.
use Rattle.std.specs.Prelude.{ℕ, ◌≡◌, refl, Bool, true, false, ◌&&◌, ◌||◌, cond, List, [], ◌∷◌, ◌++◌, eqb}
use Rattle.std.specs.Prelude.{Option, None, Some}
use Rattle.std.proofs.Common.{arith, lt-ltb}
use Rattle.words.specs.WordLaws.{Bytes}
use Rattle.state.specs.Rows.{Row}
use Rattle.outs.specs.Outs.{Side, one, two, out, revive, Strip, empty, out_on, refusal_for, changed, with_side, accepted, took, is_name, in_range, side_of, what_of}
use Rattle.outs.specs.KeepLaws.{Kept}
use Rattle.outs.proofs.KeepLaws.{after_kept}
use Rattle.outs.specs.Coding.{are_names, word_bytes, last_code, side_code, code_of, last_fits}
use Rattle.outs.specs.PieceLaws.{right_of}
use Rattle.outs.specs.SideLaws.{names_none, names_append, names_drop}
use Rattle.outs.specs.CodingLaws.{StripFits}
use Rattle.match_rows.specs.MatchRow.{is_whole, number_in, side_in, event_in, player_in, row_took, after_rows}
use Rattle.strip_story.specs.StripAfter.{is_event, row_event, events_of}
use Rattle.strip_story.proofs.RowEventLaws.{took_event, after_events}

-- every name that is out is of 1 to 64 bytes
pub record Named (s : Strip) : Type 0 where
  pub names : (d : Side) → are_names (out_on s d) ≡ true

pub empty_named : Named empty
empty_named = record { names = λ d. go d }
  where
    go : (d : Side) → are_names (out_on empty d) ≡ true
    go one = names_none
    go two = names_none

-- ---- one row

-- a row that is an event has a name
event_name : (row : Row) → is_event row ≡ true → is_name (player_in row) ≡ true
unfolding is_event in_range
event_name row h =
    right_of ((eqb (side_in row) 1 || eqb (side_in row) 2) && (eqb (event_in row) 1 || eqb (event_in row) 2)) (is_name (player_in row))
    (right_of (is_whole row) (in_range (side_in row) (event_in row) (player_in row)) h)

event_named : (s : Strip) (row : Row) → Named s → is_name (player_in row) ≡ true → Named (took s (row_event row))
unfolding took accepted what_of
event_named s row h k =
    record { names = λ d. go (eqb (refusal_for s (row_event row)) 0) (eqb (event_in row) 1) d (side_of (side_in row)) }
  where
    side : (l : List (List ℕ)) (c : Bool) → are_names l ≡ true → are_names (changed l (cond c (out (player_in row)) revive)) ≡ true
    side l true n = names_append l (player_in row) n k
    side l false n = names_drop l n

    go : (b c : Bool) (d e : Side) → are_names (out_on (cond b (with_side s e (changed (out_on s e) (cond c (out (player_in row)) revive)) (number_in row)) s) d) ≡ true
    go true c one one = side s.first c (h.names one)
    go true c one two = h.names one
    go true c two one = h.names two
    go true c two two = side s.second c (h.names two)
    go false c d e = h.names d

row_named : (s : Strip) (row : Row) → Named s → Named (row_took s row)
row_named s row h = rw (took_event s row) (go (is_event row) refl)
  where
    go : (b : Bool) → is_event row ≡ b → Named (cond b (took s (row_event row)) s)
    go true e = event_named s row h (event_name row e)
    go false e = h

-- ---- rows

pub rows_named : (s : Strip) (rows : List Row) → Named s → Named (after_rows s rows)
unfolding after_rows
rows_named s [] h = h
rows_named s (row ∷ rows) h = rows_named (row_took s row) rows (row_named s row h)

pub rows-kept : (s : Strip) (rows : List Row) → Kept s → Kept (after_rows s rows)
rows-kept s rows h = rw (after_events s rows) (after_kept s (events_of rows) h)

-- ---- its bytes hold it

-- the last number is of 64 bits where its code is of bytes
last_fits_lem : (l : Option ℕ) (r : List ℕ) → Bytes (last_code l ++ r) → last_fits l ≡ true
unfolding last_code word_bytes last_fits
last_fits_lem None r b = refl
last_fits_lem (Some n) r b = lt-ltb n 18446744073709551616 (omega (arith, b.byte 11))

pub bytes_fit : (s : Strip) → Kept s → Named s → Bytes (code_of s) → StripFits s
unfolding code_of
bytes_fit s k h b =
    record {
      number = last_fits_lem s.last (side_code s.first ++ side_code s.second) b;
      one = record { seven = k.most one; named = h.names one };
      two = record { seven = k.most two; named = h.names two };
    }
