-- The strip is the queue worked out from the rows that were taken.
use Rattle.std.specs.Prelude.{ℕ, ◌≤◌, ◌<◌, ◌≡◌, ◌≢◌, true, List, [], ◌∷◌, map, length, get_or, drop}
use Rattle.std.proofs.Common.{sym, ◌∙◌, ap}
use Rattle.std.specs.Prelude.{None, Some}
use Rattle.words.specs.WordLaws.{Bytes}
use Rattle.state.specs.Rows.{Row, taken_rows}
use Rattle.invariant.specs.Holding.{Between}
use Rattle.history.specs.Call.{Call, Did}
use Rattle.history.proofs.History.{did, all}
use Rattle.history.proofs.StrayLaws.{over_turns, turns_in_order}
use Rattle.history.proofs.Columns.{columns_asked, kinds-asked}
use Rattle.history.proofs.RowReads.{last-bytes}
use Rattle.outs.specs.Outs.{Side, empty, out_on, outs, revives}
use Rattle.outs.specs.KeepLaws.{Distinct, empty-kept}
use Rattle.outs.specs.TwiceLaws.{Rise, Above}
use Rattle.outs.proofs.TwiceLaws.{accepted_rise}
use Rattle.outs.specs.Coding.{code_of}
use Rattle.outs.specs.SideLaws.{names_at, name_low, name_high}
use Rattle.match_rows.specs.MatchRow.{is_match, row_number, after_rows}
use Rattle.player_strip.specs.StripCall.{front_batch}
use Rattle.player_strip.specs.CallerLaws.{batch-some}
use Rattle.strip_story.specs.StripAfter.{accepted_rows, events_of, sheet, match_kinds}
use Rattle.strip_story.proofs.RowEventLaws.{after-batches, accepted_events, first_out, rows-twice}
use Rattle.strip_story.proofs.NamedLaws.{empty_named, rows_named, rows-kept}
use Rattle.strip_story.proofs.SheetLaws.{sheet-shows}
use Rattle.strip_story.proofs.HeldLaws.{goes_on, nothing_held, all-taken, left_out, match_is}
use Rattle.strip_story.specs.Story.{History, Whole, rows, strip, waiting}

-- batch by batch is row by row
pub strip_of_rows : (h : History) → strip h ≡ after_rows empty (rows h)
strip_of_rows h = after-batches empty h.did.taken
