-- THE STRIP'S BYTES AFTER EVERY HISTORY, 02, K6: of the code's calls, and of the C layer's. A court is the coalescer's memories and the strip's bytes. Its history
-- (Play.antt) begins with a set-up and a new strip; each batch is read into the strip before it is dropped, or taken by one call; refused calls are among them.
use Rattle.std.specs.Prelude.{ℕ, ◌≡◌, refl, Bool, true, false, cond, List, [], ◌++◌}
use Rattle.std.proofs.Common.{sym, ◌∙◌, ap, arith}
use Rattle.state.specs.World.{world}
use Rattle.state.specs.Rows.{Row, joined, queued_rows, buffered_rows}
use Rattle.rules.specs.Calls.{is_empty}
use Rattle.codes.specs.Code.{decoded}
use Rattle.capi.specs.Api.{world_in, empty_flag}
use Rattle.history.specs.Call.{Did, run}
use Rattle.promise.specs.Code as made
use Rattle.promise.proofs.CodeLaws.{begun, code_is}
use Rattle.promise.specs.OnBytes.{HoldsWorld}
use Rattle.promise.specs.OnBytes as sent
use Rattle.promise.proofs.OnBytesLaws.{set_up_is, bytes_ran}
use Rattle.outs.specs.Outs.{empty}
use Rattle.outs.specs.Coding.{code_of, strip_of, is_strip}
use Rattle.match_rows.specs.MatchRow.{after_rows, row_numbers}
use Rattle.strip_story.specs.Play.{read_ahead, court, Played}
use Rattle.strip_story.specs.SentStrip.{new_room, new-leaves}
use Rattle.strip_story.specs.Layers.{code, bytes}
use Rattle.strip_story.proofs.LayerLaws.{code_lawful, bytes_lawful}
use Rattle.strip_story.proofs.CourtLaws.{Begun, court_holds, court_codes, court-numbers, court-taken, court_goes_on, court-whole, court_all_numbers}
use Rattle.strip_story.specs.Courts.{BytesCourt, CodeCourt}

-- ---- the code

code_begun : {y : Played code} → CodeCourt y → Begun code y
unfolding run
code_begun x =
    record {
      asked = x.asked;
      slots = x.slots;
      pool = x.pool;
      books = x.books;
      begun = begun x.asked x.slots x.pool x.books x.set_up x.zero [] made.none;
      memory = world x.new.state x.slots x.pool x.books';
      holds = ap (λ (d : Did). d.world) (code_is x.asked x.slots x.pool x.books x.set_up x.zero [] made.none);
      blank = x.blank;
      room = x.room;
      calls = x.calls;
      strips = x.strips;
    }

module _ {y : Played code} (x : CodeCourt y) where
  -- 02, K6: "The strip after any batches equals the queue worked out from the rows in order": where no batch is read and not yet dropped
  pub code-strip : y.ahead ≡ false → y.court.strip ≡ code_of (after_rows empty (joined y.taken))
  code-strip = court-taken code_lawful (code_begun x) refl

  -- going on with the rows that wait, queued and buffered, it is the queue worked out from the rows of the accepted pushes, in push order
  pub code_goes_on : y.ahead ≡ false → after_rows (strip_of y.court.strip) (queued_rows y.court.memory ++ buffered_rows y.court.memory) ≡ after_rows empty y.accepted
  code_goes_on = court_goes_on code_lawful (code_begun x) refl

  -- is_empty: where nothing waits it is just that
  pub code-whole : is_empty y.court.memory.state ≡ true → y.court.strip ≡ code_of (after_rows empty y.accepted)
  code-whole = court-whole code_lawful (code_begun x) refl

  -- the numbers answered, one behind another, are those of the rows in the strip, in order
  pub code-numbers : y.numbers ≡ row_numbers empty (joined y.taken ++ read_ahead y.ahead y.court.memory)
  code-numbers = court-numbers code_lawful (code_begun x) refl

-- ---- the C layer

bytes_begun : {y : Played bytes} → BytesCourt y → Begun bytes y
unfolding run
bytes_begun x =
    record {
      asked = x.asked;
      slots = x.lent.slots;
      pool = x.lent.pool;
      books = x.lent.books;
      begun = set_up_is x.asked x.kinds x.lent x.new x.zero [] sent.none;
      memory = x.first;
      holds = (bytes_ran x.asked x.kinds x.lent x.new x.zero [] sent.none).holds;
      blank = x.blank;
      room = new_room x.made x.none;
      calls = x.calls;
      strips = rw (new-leaves x.made) at x.strips;
    }

-- pw_is_empty answers 1
flag_says : (b : List ℕ) → empty_flag b ≡ 1 → is_empty (decoded b).state ≡ true
unfolding empty_flag
flag_says b = go (is_empty (decoded b).state)
  where
    go : (f : Bool) → ◌≡◌ {A = ℕ} (cond f 1 0) 1 → f ≡ true
    go true e = refl
    go false e = absurd (omega arith)

module _ {y : Played bytes} (x : BytesCourt y) where
  held : HoldsWorld y.court.memory (world_in y.court.memory)
  held =
      let h = court_holds bytes_lawful (bytes_begun x) in
      record { bytes = h.bytes; coded = h.coded; is = refl }

  -- the same, in what was answered and the bytes that are left
  pub bytes-strip : y.ahead ≡ false → y.court.strip ≡ code_of (after_rows empty (joined y.taken))
  bytes-strip = court-taken bytes_lawful (bytes_begun x) held

  pub bytes_goes_on : y.ahead ≡ false → after_rows (strip_of y.court.strip) (queued_rows (world_in y.court.memory) ++ buffered_rows (world_in y.court.memory)) ≡ after_rows empty y.accepted
  bytes_goes_on = court_goes_on bytes_lawful (bytes_begun x) held

  pub bytes_whole : empty_flag y.court.memory.state ≡ 1 → y.court.strip ≡ code_of (after_rows empty y.accepted)
  bytes_whole e = court-whole bytes_lawful (bytes_begun x) held (flag_says y.court.memory.state e)

  pub bytes-numbers : y.numbers ≡ row_numbers empty (joined y.taken ++ read_ahead y.ahead (world_in y.court.memory))
  bytes-numbers = court-numbers bytes_lawful (bytes_begun x) held

  pub bytes_all_numbers : empty_flag y.court.memory.state ≡ 1 → y.numbers ≡ row_numbers empty y.accepted
  bytes_all_numbers e = court_all_numbers bytes_lawful (bytes_begun x) held (flag_says y.court.memory.state e)

  -- no read ever meets 14 for its strip, or 1 for the strip's length
  pub bytes_code_strip : is_strip y.court.strip ≡ true
  bytes_code_strip = court_codes bytes_lawful (bytes_begun x) held

-- 02, K6: "cutting the same rows into other batches gives the same strip": two courts of any set-ups that accepted the same rows and in which nothing waits
module _ {y z : Played bytes} (x : BytesCourt y) (u : BytesCourt z) (same : y.accepted ≡ z.accepted) (p : empty_flag y.court.memory.state ≡ 1) (q : empty_flag z.court.memory.state ≡ 1) where
  pub bytes_cut_alike : y.court.strip ≡ z.court.strip
  bytes_cut_alike = bytes_whole x p ∙ ap (λ (l : List Row). code_of (after_rows empty l)) same ∙ sym (bytes_whole u q)

  -- and each row was answered the same
  pub bytes_numbers_alike : y.numbers ≡ z.numbers
  bytes_numbers_alike = bytes_all_numbers x p ∙ ap (row_numbers empty) same ∙ sym (bytes_all_numbers u q)
