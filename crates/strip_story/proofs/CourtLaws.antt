-- A court on any lawful layer, from a set-up and a new strip: the strip's bytes and the numbers answered are those of the rows in order.
use Rattle.std.specs.Prelude.{ℕ, ◌≡◌, Bool, cond, length, eqb}
use Rattle.std.proofs.Math.Path.{refl, ap}
use Rattle.std.proofs.Common.{sym, ◌∙◌, arith}
use Rattle.std.proofs.Math.Bool.{true, false}
use mathlib.Core.List.{List, ◌++◌, append-nil}
use borrow.Author.Tests.{eqb-true}
use Rattle.state.specs.World.{World}
use Rattle.state.specs.Rows.{Row, joined, queued_rows, buffered_rows}
use Rattle.rules.specs.Calls.{Wanted, set_up_call, is_empty}
use Rattle.invariant.specs.Holding.{Between}
use Rattle.invariant.proofs.Calls.SetUpAfter.{set_up_begins}
use Rattle.history.specs.Call.{Call, Did}
use Rattle.history.proofs.History as history
use Rattle.outs.specs.Outs.{Strip, empty}
use Rattle.outs.specs.Coding.{strip_bytes, code_of, strip_of, is_strip, new_fault, new_leaves}
use Rattle.outs.specs.CodingLaws.{code_is_strip}
use Rattle.outs.specs.PieceLaws.{right_of}
use Rattle.match_rows.specs.MatchRow.{after_rows, row_numbers}
use Rattle.match_rows.proofs.MatchRowLaws.{after_rows_append}
use Rattle.strip_story.specs.Play.{Layer, court, read_ahead, Played, Strips}
use Rattle.strip_story.proofs.PlayLaws.{Lawful, Coded, empty-coded, held_strip, none_ahead, Went, strips_went}
use Rattle.strip_story.proofs.HeldLaws.{nothing_held, all-taken}

-- a history with a strip that began with a set-up that was not refused, and with a new strip
pub record Begun (L : Layer) (y : Played L) : Type 0 where
  pub asked : Wanted
  pub slots : List ℕ
  pub pool : List ℕ
  pub books : List ℕ
  pub begun : (set_up_call asked slots pool books).number ≡ 0
  pub memory : L.Memory
  pub holds : L.Holds memory (set_up_call asked slots pool books).world
  pub blank : List ℕ
  pub room : new_fault blank ≡ 0
  pub calls : List Call
  pub strips : Strips L (court L memory (new_leaves blank)) false calls y

new-strip : (b : List ℕ) → new_fault b ≡ 0 → new_leaves b ≡ code_of empty
unfolding new_fault new_leaves
new-strip b e = go (eqb (length b) strip_bytes) e
  where
    go : (x : Bool) → ◌≡◌ {A = ℕ} (cond x 0 1) 0 → cond x (code_of empty) b ≡ code_of empty
    go true e = refl
    go false e = absurd (omega arith)

module _ {L : Layer} (k : Lawful L) {y : Played L} (x : Begun L y) where
  -- the history of the definitions
  abbrev pub did : Did
  did = history.did x.asked x.slots x.pool x.books x.begun x.calls

  went : Went L empty false (set_up_call x.asked x.slots x.pool x.books).world x.calls y
  went =
      strips_went L k (set_up_begins x.asked x.slots x.pool x.books x.begun).between x.holds (empty-coded (new-strip x.blank x.room)) (none_ahead (set_up_call x.asked x.slots x.pool x.books).world) x.strips

  -- its memories hold a world at the end
  pub court_holds : L.Holds y.court.memory did.world
  court_holds = went.holds

  module _ {w : World} (h : L.Holds y.court.memory w) where
    last_is : did.world ≡ w
    last_is = k.one went.holds h

    between : Between w
    between = rw last_is at (history.all x.asked x.slots x.pool x.books x.begun x.calls).between

    -- the rows that pushes accepted are those taken and those that wait
    pub court_in_order : y.accepted ≡ joined y.taken ++ (queued_rows w ++ buffered_rows w)
    court_in_order =
        rw (went.accepted_are, went.taken_are, ← last_is) (history.in_order_lem x.asked x.slots x.pool x.books x.begun x.calls)

    -- the rows in the strip are those taken, and those of the front batch where it is read already
    rows_are : went.rows ≡ joined y.taken ++ read_ahead y.ahead w
    unfolding read_ahead
    rows_are = went.rows_are ∙ ap (λ (v : World). joined y.taken ++ read_ahead y.ahead v) last_is

    pub court-coded : Coded y.court.strip (after_rows empty (joined y.taken ++ read_ahead y.ahead w))
    court-coded = rw (← rows_are) went.coded

    pub court_codes : is_strip y.court.strip ≡ true
    court_codes = rw court-coded.is (code_is_strip (after_rows empty (joined y.taken ++ read_ahead y.ahead w)) court-coded.fits)

    pub court-numbers : y.numbers ≡ row_numbers empty (joined y.taken ++ read_ahead y.ahead w)
    court-numbers = went.numbers_are ∙ ap (row_numbers empty) rows_are

    -- nothing is read ahead of the drops: the strip is that of the rows taken
    module _ (e : y.ahead ≡ false) where
      none_left : joined y.taken ++ read_ahead y.ahead w ≡ joined y.taken
      unfolding read_ahead
      none_left = ap (λ (f : Bool). joined y.taken ++ read_ahead f w) e ∙ append-nil (joined y.taken)

      pub court-taken : y.court.strip ≡ code_of (after_rows empty (joined y.taken))
      court-taken = court-coded.is ∙ ap (λ (l : List Row). code_of (after_rows empty l)) none_left

      pub court_goes_on : after_rows (strip_of y.court.strip) (queued_rows w ++ buffered_rows w) ≡ after_rows empty y.accepted
      court_goes_on =
          ap (λ (s : Strip). after_rows s (queued_rows w ++ buffered_rows w)) (held_strip court-coded ∙ ap (after_rows empty) none_left)
          ∙ sym (after_rows_append empty (joined y.taken) (queued_rows w ++ buffered_rows w))
          ∙ ap (after_rows empty) (sym court_in_order)

    -- nothing waits, so nothing is ahead: the strip is that of the rows accepted
    module _ (e : is_empty w.state ≡ true) where
      not_ahead : y.ahead ≡ false
      unfolding is_empty
      not_ahead = go y.ahead refl
        where
          go : (f : Bool) → y.ahead ≡ f → y.ahead ≡ false
          go true p =
              absurd (went.ahead.queued p (ap (λ (v : World). v.state.queued) last_is ∙ eqb-true w.state.queued 0 (right_of (eqb w.state.buffered.0 0) (eqb w.state.queued 0) e)))
          go false p = p

      all_read : joined y.taken ++ read_ahead y.ahead w ≡ y.accepted
      all_read = none_left not_ahead ∙ sym (all-taken y.taken court_in_order (nothing_held w between e))

      pub court-whole : y.court.strip ≡ code_of (after_rows empty y.accepted)
      court-whole = court-coded.is ∙ ap (λ (l : List Row). code_of (after_rows empty l)) all_read

      pub court_all_numbers : y.numbers ≡ row_numbers empty y.accepted
      court_all_numbers = court-numbers ∙ ap (row_numbers empty) all_read
