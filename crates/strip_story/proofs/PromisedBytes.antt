-- The C layer's calls of the strip, as their contracts say it, are steps of a history with a strip: pw_strip_read and pw_strip_take, done and refused.
use Rattle.std.specs.Prelude.{ℕ, ◌≤◌, ◌≡◌, ◌≢◌, Bool, false, List, [], ◌∷◌, length, take, eqb}
use Rattle.std.proofs.Math.Path.{refl, sym, ap}
use Rattle.std.proofs.Common.{◌∙◌, arith}
use Rattle.std.proofs.Math.Decide.{ℕ_discrete}
use borrow.Author.Tests.{eq-eqb, ne_eqb}
use Rattle.words.specs.WordLaws.{Bytes}
use Rattle.state.specs.World.{World}
use Rattle.rules.specs.Ranges.{tested}
use Rattle.rules.specs.Calls.{drop_call}
use Rattle.rules.proofs.CallLaws.{drop-number}
use Rattle.codes.specs.Code.{decoded}
use Rattle.crossing.specs.Cross.{pair}
use Rattle.capi.specs.Api.{Memory, memory, said, both, dropping, world_in, coded, called}
use Rattle.capi.specs.ApiLaws.{drop-same}
use Rattle.capi_strip.specs.StripApi.{StripSaid, strip_said, read_said, strip_read, TakenSaid, taken_said, taken_memory, strip_taken}
use Rattle.history.specs.Call.{Call, drop, front}
use Rattle.promise.specs.OnBytes.{HoldsWorld, Sent, sent_drop, upper, lower}
use Rattle.player_strip.specs.StripCall.{ReadAnswer, read_call, take_leaves}
use Rattle.player_strip.specs.CallerLaws.{done-tested, number_is, done_is, refused-strip, refused-numbers, rows_few, taken-dropped, taken-same}
use Rattle.strip_story.specs.Play.{Reads, Court, court, Played, behind, is_some, Strips, read, refused}
use Rattle.strip_story.specs.Play as play
use Rattle.strip_story.specs.SentStrip.{SentRead, SentTake}
use Rattle.strip_story.specs.Layers.{Answers, bytes}
use Rattle.strip_story.proofs.Promised.{drop-rows, done_reads}

-- two numbers taken apart
apart : (n v : ℕ) {r : ℕ} → r ≡ pair n v → v ≤ 65536 → (upper r ≡ n) × (lower r ≡ v)
apart n v e h = (omega arith, omega arith)

module _ (m : Memory) (b room : List ℕ) where
  -- ---- pw_strip_read

  -- on bytes that code a state, and on others
  read-coded : (decoded m.state).number ≡ 0 → strip_read m b room ≡ read_said (read_call (world_in m) b room)
  unfolding strip_read
  read-coded z = rw (eq-eqb (decoded m.state).number 0 z)

  read-uncoded : (decoded m.state).number ≢ 0 → ((strip_read m b room).strip ≡ b) × ((strip_read m b room).numbers ≡ room)
  unfolding strip_read
  read-uncoded n = rw (ne_eqb (decoded m.state).number 0 n) (refl, refl)

  module _ {r : ℕ} {b' room' : List ℕ} (p : strip_said r b' room' ≡ strip_read m b room) where
    pub sent_reads : upper r ≡ 0 → Bytes b' → (w : World) → HoldsWorld m w → Reads w b (take (lower r) room') b'
    sent_reads z is w h =
        let q : strip_said r b' room' ≡ read_said (read_call w b room) = p ∙ read-coded h.coded ∙ ap (λ (v : World). read_said (read_call v b room)) h.is in
        let e = apart (read_call w b room).number (read_call w b room).rows (ap (λ (t : StripSaid). t.answer) q) (rows_few w b room) in
        done_reads w b room (sym e.0 ∙ z) e.1 (ap (λ (t : StripSaid). t.strip) q) (ap (λ (t : StripSaid). t.numbers) q) is

    pub sent_read_nothing : upper r ≢ 0 → (b' ≡ b) × (room' ≡ room)
    sent_read_nothing n = go (ℕ_discrete (decoded m.state).number 0)
      where
        go : Dec ((decoded m.state).number ≡ 0) → (b' ≡ b) × (room' ≡ room)
        go (yes z) =
            let q = p ∙ read-coded z in
            let e = apart (read_call (world_in m) b room).number (read_call (world_in m) b room).rows (ap (λ (t : StripSaid). t.answer) q) (rows_few (world_in m) b room) in
            let k : (read_call (world_in m) b room).number ≢ 0 = λ z. n (e.0 ∙ z) in
            (ap (λ (t : StripSaid). t.strip) q ∙ refused-strip (world_in m) b room k, ap (λ (t : StripSaid). t.numbers) q ∙ refused-numbers (world_in m) b room k)
        go (no d) = (ap (λ (t : StripSaid). t.strip) p ∙ (read-uncoded d).0, ap (λ (t : StripSaid). t.numbers) p ∙ (read-uncoded d).1)

  -- ---- pw_strip_take

  -- what it leaves of the world of the bytes
  abbrev leaves : Memory
  leaves =
      taken_memory m.state (world_in m) (read_call (world_in m) b room).number (take_leaves (world_in m) b room)

  take-coded : (decoded m.state).number ≡ 0 → strip_taken m b room ≡ taken_said (pair (read_call (world_in m) b room).number (read_call (world_in m) b room).rows) leaves (read_call (world_in m) b room).strip (read_call (world_in m) b room).numbers
  unfolding strip_taken
  take-coded z = rw (eq-eqb (decoded m.state).number 0 z)

  -- on bytes that code no state it says what a drop says
  take-uncoded : (decoded m.state).number ≢ 0 → (said (strip_taken m b room).answer (strip_taken m b room).memory ≡ called both dropping m) × ((strip_taken m b room).memory ≡ m) × ((strip_taken m b room).strip ≡ b) × ((strip_taken m b room).numbers ≡ room)
  unfolding strip_taken called
  take-uncoded n = rw (ne_eqb (decoded m.state).number 0 n) (refl, refl, refl, refl)

  -- done, it leaves what a drop leaves
  done-dropped : (decoded m.state).number ≡ 0 → (read_call (world_in m) b room).number ≡ 0 → said (pair (read_call (world_in m) b room).number (read_call (world_in m) b room).rows) leaves ≡ called both dropping m
  unfolding taken_memory called coded dropping
  done-dropped z c =
      let w : World = world_in m in
      let t : tested w ≡ 0 = done-tested w b room (length room) (sym (number_is w b room) ∙ c) in
      let n : (read_call w b room).number ≡ (drop_call w).number = c ∙ sym (drop-number w ∙ t) in
      let k : (read_call w b room).rows ≡ (drop_call w).rows = ap (λ (a : ReadAnswer). a.rows) (done_is w b room c) ∙ sym (drop-rows w t) in
      rw (taken-dropped w b room c, n, k, eq-eqb (decoded m.state).number 0 z, (drop-same w).0, (drop-same w).1)

  -- refused, it leaves all
  refused-left : (read_call (world_in m) b room).number ≢ 0 → leaves ≡ m
  unfolding taken_memory
  refused-left n = rw (taken-same (world_in m) b room n, ne_eqb (read_call (world_in m) b room).number 0 n)

  module _ {r : ℕ} {m' : Memory} {b' room' : List ℕ} (p : taken_said r m' b' room' ≡ strip_taken m b room) where
    -- the answer, taken apart
    halves : (z : (decoded m.state).number ≡ 0) → (upper r ≡ (read_call (world_in m) b room).number) × (lower r ≡ (read_call (world_in m) b room).rows)
    halves z =
        apart (read_call (world_in m) b room).number (read_call (world_in m) b room).rows (ap (λ (t : TakenSaid). t.answer) (p ∙ take-coded z)) (rows_few (world_in m) b room)

    pub sent_take_reads : upper r ≡ 0 → Bytes b' → (w : World) → HoldsWorld m w → Reads w b (take (lower r) room') b'
    sent_take_reads z is w h =
        let q = p ∙ take-coded h.coded in
        let e = halves h.coded in
        rw h.is at (done_reads (world_in m) b room (sym e.0 ∙ z) e.1 (ap (λ (t : TakenSaid). t.strip) q) (ap (λ (t : TakenSaid). t.numbers) q) is)

    -- and its drop is pw_next_completed_batch's
    pub sent_take_drops : upper r ≡ 0 → Bytes m'.state → Sent m drop r m'
    sent_take_drops z is = sent_drop (go (ℕ_discrete (decoded m.state).number 0)) is
      where
        go : Dec ((decoded m.state).number ≡ 0) → said r m' ≡ called both dropping m
        go (yes d) = ap (λ (t : TakenSaid). said t.answer t.memory) (p ∙ take-coded d) ∙ done-dropped d (sym (halves d).0 ∙ z)
        go (no d) = ap (λ (t : TakenSaid). said t.answer t.memory) p ∙ (take-uncoded d).0

    pub sent_take_nothing : upper r ≢ 0 → (m' ≡ m) × (b' ≡ b) × (room' ≡ room)
    sent_take_nothing n = go (ℕ_discrete (decoded m.state).number 0)
      where
        go : Dec ((decoded m.state).number ≡ 0) → (m' ≡ m) × (b' ≡ b) × (room' ≡ room)
        go (yes d) =
            let q = p ∙ take-coded d in
            let k : (read_call (world_in m) b room).number ≢ 0 = λ z. n ((halves d).0 ∙ z) in
            (ap (λ (t : TakenSaid). t.memory) q ∙ refused-left k, ap (λ (t : TakenSaid). t.strip) q ∙ refused-strip (world_in m) b room k, ap (λ (t : TakenSaid). t.numbers) q ∙ refused-numbers (world_in m) b room k)
        go (no d) =
            let u = take-uncoded d in
            (ap (λ (t : TakenSaid). t.memory) p ∙ u.1, ap (λ (t : TakenSaid). t.strip) p ∙ u.2, ap (λ (t : TakenSaid). t.numbers) p ∙ u.3)

-- ---- so they are the steps of a history with a strip

module _ {m : Memory} {b b' room' : List ℕ} (room : List ℕ) {r : ℕ} {cs : List Call} {y : Played bytes} where
  -- pw_strip_read
  pub bytes_read : SentRead m b room r b' room' → upper r ≡ 0 → Strips bytes (court bytes m b') (is_some (take (lower r) room')) cs y → Strips bytes (court bytes m b) false cs (behind bytes [] [] (take (lower r) room') y)
  bytes_read p z ss = read (sent_reads m b room p.is z p.bytes) ss

  -- pw_strip_take
  pub bytes_take : {m' : Memory} → SentTake m b room r m' b' room' → upper r ≡ 0 → Strips bytes (court bytes m' b') false cs y → Strips bytes (court bytes m b) false (drop ∷ cs) (behind bytes [] (front (world_in m) (upper r) (eqb (lower r) 0)) (take (lower r) room') y)
  bytes_take {m'} p z ss = play.take (sent_take_reads m b room p.is z p.bytes) dropped ss
    where
      dropped : Answers m drop (upper r) m' [] (front (world_in m) (upper r) (eqb (lower r) 0))
      dropped = record { answer = r; sent = sent_take_drops m b room p.is z p.state; number_is = refl; accepted_are = refl; taken_are = refl }

  -- refused, on this court or lent any part of another one
  module _ {u : Court bytes} {f : Bool} (live : Court bytes → Court bytes) (e : live (court bytes m b) ≡ u) where
    pub bytes_read_refused : SentRead m b room r b' room' → upper r ≢ 0 → Strips bytes (live (court bytes m b')) f cs y → Strips bytes u f cs y
    bytes_read_refused p n ss = refused live e (ap (court bytes m) (sent_read_nothing m b room p.is n).0) ss

    pub bytes_take_refused : {m' : Memory} → SentTake m b room r m' b' room' → upper r ≢ 0 → Strips bytes (live (court bytes m' b')) f cs y → Strips bytes u f cs y
    bytes_take_refused {m'} p n ss =
        let q = sent_take_nothing m b room p.is n in
        refused live e (ap (λ (k : Memory). court bytes k b') q.0 ∙ ap (court bytes m) q.1) ss
