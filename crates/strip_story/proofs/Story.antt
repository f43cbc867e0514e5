-- THE PLAYER STRIP OVER EVERY HISTORY, 02, K6. A history: a set-up of any columns, bounds and target that is not refused, then any calls, refused ones among
-- them, refused ones on other memory too. Its strip is worked out from the batches that it took, one behind another.
use Rattle.std.specs.Prelude.{ℕ, ◌≤◌, ◌<◌, ◌≡◌, ◌≢◌, true, List, [], ◌∷◌, ◌++◌, map, length, get_or, drop}
use Rattle.std.proofs.Common.{sym, ◌∙◌, ap}
use Rattle.std.specs.Prelude.{None, Some}
use Rattle.words.specs.WordLaws.{Bytes}
use Rattle.state.specs.Rows.{Row, taken_rows}
use Rattle.invariant.specs.Holding.{Between}
use Rattle.history.specs.Call.{Call, Did}
use Rattle.history.proofs.History.{did, all}
use Rattle.history.proofs.StrayLaws.{over_turns, turns_in_order}
use Rattle.history.proofs.Columns.{columns_asked, kinds-asked}
use Rattle.history.proofs.RowReads.{last-bytes}
use Rattle.outs.specs.Outs.{Side, empty, out_on, outs, revives}
use Rattle.outs.specs.KeepLaws.{Distinct, empty-kept}
use Rattle.outs.specs.TwiceLaws.{Rise, Above}
use Rattle.outs.proofs.TwiceLaws.{accepted_rise}
use Rattle.outs.specs.Coding.{code_of}
use Rattle.outs.specs.SideLaws.{names_at, name_low, name_high}
use Rattle.match_rows.specs.MatchRow.{is_match, row_number, after_rows}
use Rattle.player_strip.specs.StripCall.{front_batch}
use Rattle.player_strip.specs.CallerLaws.{batch-some}
use Rattle.strip_story.specs.StripAfter.{accepted_rows, events_of, sheet, match_kinds}
use Rattle.strip_story.proofs.RowEventLaws.{after-batches, accepted_events, first_out, rows-twice}
use Rattle.strip_story.proofs.NamedLaws.{empty_named, rows_named, rows-kept}
use Rattle.strip_story.proofs.SheetLaws.{sheet-shows}
use Rattle.strip_story.proofs.HeldLaws.{goes_on, nothing_held, all-taken, left_out, match_is}
use Rattle.strip_story.specs.Story.{History, Whole, rows, strip, waiting}
use Rattle.strip_story.proofs.StripOfRows.{strip_of_rows}

-- ---- a history, and its strip

-- what is proved of every history that its calls alone make
over : (h : History) (P : Did → Type 0) → ((cs : List Call) → P (did h.asked h.slots h.pool h.books h.begun cs)) → P h.did
over h P f = over_turns h.asked h.slots h.pool h.books h.begun h.turns P f

between : (h : History) → Between h.did.world
between h = over h (λ y. Between y.world) (λ cs. (all h.asked h.slots h.pool h.books h.begun cs).between)

in_order_lem : (h : History) → h.did.accepted ≡ rows h ++ waiting h
in_order_lem h = turns_in_order h.asked h.slots h.pool h.books h.begun h.turns

-- ---- 02, K6: "The strip after any batches equals the queue worked out from the rows in order"

-- and going on with the rows that wait it is the queue worked out from the pushed rows, in push order
pub strip_in_order : (h : History) → after_rows (strip h) (waiting h) ≡ after_rows empty h.did.accepted
strip_in_order h = goes_on empty h.did.taken (waiting h) (in_order_lem h)

-- where nothing waits it is just that
pub strip-whole : (h : History) → Whole h → strip h ≡ after_rows empty h.did.accepted
strip-whole h e =
    strip_of_rows h ∙ ap (after_rows empty) (sym (all-taken h.did.taken (in_order_lem h) (nothing_held h.did.world (between h) e)))

-- ---- 02, K6: "cutting the same rows into other batches gives the same strip"

-- two histories, of any set-ups, targets, limits, finishes and pushes, that accepted the same rows and in which nothing waits
pub cut_alike : (h k : History) → h.did.accepted ≡ k.did.accepted → Whole h → Whole k → strip h ≡ strip k
cut_alike h k e p q = strip-whole h p ∙ ap (after_rows empty) e ∙ sym (strip-whole k q)

-- so the same 972 bytes
pub cut_alike_bytes : (h k : History) → h.did.accepted ≡ k.did.accepted → Whole h → Whole k → code_of (strip h) ≡ code_of (strip k)
cut_alike_bytes h k e p q = ap code_of (cut_alike h k e p q)

-- ---- 02, K6: "it keeps the out players, up to seven, in the order they went out; a revive takes the one who has been out longest"

-- first in, first out: the names of a side are those of the accepted outs there, in order, less as many from the front as were revived
pub first_in_first_out : (h : History) (d : Side) → out_on (strip h) d ≡ drop (revives d (events_of (accepted_rows empty (rows h)))) (outs d (events_of (accepted_rows empty (rows h))))
first_in_first_out h d = rw (strip_of_rows h) (first_out (rows h) d)

-- at most seven on a side, no name twice there, every name of 1 to 64 bytes
pub at_most_seven : (h : History) (d : Side) → length (out_on (strip h) d) ≤ 7
at_most_seven h d = rw (strip_of_rows h) ((rows-kept empty (rows h) empty-kept).most d)

pub no_name_twice : (h : History) (d : Side) → Distinct (out_on (strip h) d)
no_name_twice h d = rw (strip_of_rows h) ((rows-kept empty (rows h) empty-kept).distinct d)

pub every_name : (h : History) (d : Side) (i : ℕ) → i < length (out_on (strip h) d) → (1 ≤ length (get_or (out_on (strip h) d) i [])) × (length (get_or (out_on (strip h) d) i []) ≤ 64)
every_name h d i l =
    let n = names_at (out_on (strip h) d) i (rw (strip_of_rows h) ((rows_named empty (rows h) empty_named).names d)) l in
    (name_low (get_or (out_on (strip h) d) i []) n, name_high (get_or (out_on (strip h) d) i []) n)

-- 02, K6: "32 row number not above the last accepted row's": the numbers of the accepted rows rise
pub numbers_rise : (h : History) → Above None (events_of (accepted_rows empty (rows h)))
numbers_rise h = rw (accepted_events empty (rows h)) (accepted_rise empty (events_of (rows h)))

-- 02, K6: "the row changing nothing": the strip is the one of the rows without it
pub refused-row : (h : History) (a b : List Row) (row : Row) → rows h ≡ a ++ (row ∷ b) → row_number (after_rows empty a) row ≢ 0 → strip h ≡ after_rows empty (a ++ b)
refused-row h a b row e n = strip_of_rows h ∙ ap (after_rows empty) e ∙ left_out empty a b row n

-- a front batch whose numbers rise may be read twice, as after a fault between its read and its drop: the second time changes nothing
pub read_twice : (h : History) {n : ℕ} → Rise n (events_of (taken_rows h.did.world)) → after_rows (after_rows (strip h) (taken_rows h.did.world)) (taken_rows h.did.world) ≡ after_rows (strip h) (taken_rows h.did.world)
read_twice h r = rows-twice (strip h) (taken_rows h.did.world) r

-- ---- the strip and the sheet

-- a sheet shows the front batch by reading its rows; those are the very rows that the strip reads, and no read is refused
pub strip_and_sheet : (h : History) → Bytes h.slots → h.did.world.state.queued ≢ 0 → sheet h.did.world ≡ map (map Some) (front_batch h.did.world)
strip_and_sheet h bytes q =
    sheet-shows h.did.world (between h) (over h (λ y. Bytes y.world.slots) (λ cs. last-bytes h.asked h.slots h.pool h.books h.begun bytes cs)) q
    ∙ ap (map (map Some)) (sym (batch-some h.did.world q))

-- ---- 02, K6: "30, a batch of other columns": a history of a match never meets it

pub match_stays : (h : History) → h.asked.kinds ≡ match_kinds → is_match h.did.world.state ≡ true
match_stays h e =
    over h (λ y. is_match y.world.state ≡ true) (λ cs.
    match_is h.asked (did h.asked h.slots h.pool h.books h.begun cs).world.state e (columns_asked h.asked h.slots h.pool h.books h.begun cs) (kinds-asked h.asked h.slots h.pool h.books h.begun cs))
