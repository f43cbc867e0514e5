-- The strip's functions, as their contracts say it, are steps of a history with a strip: read_batch and take_batch, done and refused.
use Rattle.std.specs.Prelude.{ℕ, ◌≡◌, ◌≢◌, Bool, false, List, [], ◌∷◌, length, take, eqb}
use Rattle.std.proofs.Common.{sym, ◌∙◌, ap}
use Rattle.std.proofs.Math.Decide.{ℕ_discrete}
use Rattle.words.specs.WordLaws.{Bytes}
use Rattle.state.specs.World.{World, world}
use Rattle.state.specs.Layout.{rows_in}
use Rattle.state.specs.Rows.{front_slot, taken_rows}
use Rattle.rules.specs.Ranges.{tested}
use Rattle.rules.specs.Calls.{drop_call}
use Rattle.rules.proofs.CallLaws.{drop-number, drop-empty, drop-front}
use Rattle.rules.specs.Calls as calls
use Rattle.invariant.specs.RowLaws.{length-rows}
use Rattle.history.specs.Call.{Call, drop, front}
use Rattle.promise.specs.Code.{Made, by_drop}
use Rattle.player_strip.specs.declared.Read.{Read}
use Rattle.player_strip.specs.declared.Taken.{Taken}
use Rattle.player_strip.specs.StripCall.{front_batch, ReadAnswer, read_call}
use Rattle.player_strip.specs.Promises.{Takes}
use Rattle.player_strip.specs.Promises as promises
use Rattle.player_strip.specs.CallerLaws.{batch-some, batch-none, done-tested, number_is, done_is, refused-strip, refused-numbers, done-answers, taken-dropped, taken-same}
use Rattle.strip_story.specs.Play.{Reads, Court, court, Played, behind, is_some, Strips, read, refused}
use Rattle.strip_story.specs.Play as play
use Rattle.strip_story.specs.Layers.{done, code}

-- a drop answers how many rows the front batch has
pub drop-rows : (w : World) → tested w ≡ 0 → (drop_call w).rows ≡ length (front_batch w)
unfolding taken_rows
drop-rows w t = go (ℕ_discrete w.state.queued 0)
  where
    go : Dec (w.state.queued ≡ 0) → (drop_call w).rows ≡ length (front_batch w)
    go (yes z) = ap (λ (d : calls.Dropped). d.rows) (drop-empty w t z) ∙ sym (ap length (batch-none w z))
    go (no n) =
        ap (λ (d : calls.Dropped). d.rows) (drop-front w t n)
        ∙ sym (ap length (batch-some w n) ∙ length-rows w (front_slot w) (rows_in w (front_slot w)))

module _ (w : World) (b room : List ℕ) where
  -- ---- a call that answered 0

  -- what a read that is done leaves
  pub done_reads : {n : ℕ} {b' room' : List ℕ} → (read_call w b room).number ≡ 0 → n ≡ (read_call w b room).rows → b' ≡ (read_call w b room).strip → room' ≡ (read_call w b room).numbers → Bytes b' → Reads w b (take n room') b'
  done_reads z r s a is =
      record {
        numbers_are = rw (r, a) (done-answers w b room z);
        strip_is = s ∙ ap (λ (x : ReadAnswer). x.strip) (done_is w b room z);
        bytes = is;
      }

  module _ {b' room' : List ℕ} where
    pub read_reads : {r : Read} → promises.Reads (read_call w b room) b' room' r → r.number ≡ 0 → Bytes b' → Reads w b (take r.rows.0 room') b'
    read_reads p z = done_reads (sym p.number_is ∙ z) p.rows_are p.strip_is p.numbers_are

    pub take_reads : {books' : List ℕ} {r : Taken} → Takes w b room books' b' room' r → r.number ≡ 0 → Bytes b' → Reads w b (take r.rows.0 room') b'
    take_reads p z = done_reads (sym p.number_is ∙ z) p.rows_are p.strip_is p.numbers_are

    -- and its drop is next_completed_batch's
    pub take_drops : {books' : List ℕ} {r : Taken} → Takes w b room books' b' room' r → r.number ≡ 0 → Made w drop r.number (done (world r.state w.slots w.pool books') [] (front w r.number (eqb w.state.queued 0)))
    take_drops {r = r} p z =
        let c : (read_call w b room).number ≡ 0 = sym p.number_is ∙ z in
        let t : tested w ≡ 0 = done-tested w b room (length room) (sym (number_is w b room) ∙ c) in
        by_drop {r = record { state = r.state; number = r.number; rows = r.rows }}
        (record {
          state_is = p.state_is ∙ ap (λ (v : World). v.state) (taken-dropped w b room c);
          number_is = z ∙ sym (drop-number w ∙ t);
          rows_are = p.rows_are ∙ ap (λ (x : ReadAnswer). x.rows) (done_is w b room c) ∙ sym (drop-rows w t);
          books_are = p.books_are ∙ ap (λ (v : World). v.books) (taken-dropped w b room c);
        })

  -- ---- a call that was refused leaves all as it was

  module _ {b' room' : List ℕ} where
    pub read-nothing : {r : Read} → promises.Reads (read_call w b room) b' room' r → r.number ≢ 0 → (b' ≡ b) × (room' ≡ room)
    read-nothing p n =
        let m : (read_call w b room).number ≢ 0 = λ z. n (p.number_is ∙ z) in
        (p.strip_is ∙ refused-strip w b room m, p.numbers_are ∙ refused-numbers w b room m)

    pub take-nothing : {books' : List ℕ} {r : Taken} → Takes w b room books' b' room' r → r.number ≢ 0 → (world r.state w.slots w.pool books' ≡ w) × (b' ≡ b) × (room' ≡ room)
    take-nothing {books'} {r} p n =
        let m : (read_call w b room).number ≢ 0 = λ z. n (p.number_is ∙ z) in
        let e : r.state ≡ w.state = p.state_is ∙ ap (λ (v : World). v.state) (taken-same w b room m) in
        let f : books' ≡ w.books = p.books_are ∙ ap (λ (v : World). v.books) (taken-same w b room m) in
        (rw (e, f), p.strip_is ∙ refused-strip w b room m, p.numbers_are ∙ refused-numbers w b room m)

-- ---- so they are the steps of a history with a strip

held : {w : World} {b numbers b' : List ℕ} → Reads w b numbers b' → (v : World) → w ≡ v → Reads v b numbers b'
held r v e = rw e at r

module _ {w : World} {b b' room' : List ℕ} (room : List ℕ) {cs : List Call} {y : Played code} where
  -- read_batch
  pub code_read : {r : Read} → promises.Reads (read_call w b room) b' room' r → r.number ≡ 0 → Bytes b' → Strips code (court code w b') (is_some (take r.rows.0 room')) cs y → Strips code (court code w b) false cs (behind code [] [] (take r.rows.0 room') y)
  code_read p z is ss = read (held (read_reads w b room p z is)) ss

  -- take_batch
  pub code-take : {books' : List ℕ} {r : Taken} → Takes w b room books' b' room' r → r.number ≡ 0 → Bytes b' → Strips code (court code (world r.state w.slots w.pool books') b') false cs y → Strips code (court code w b) false (drop ∷ cs) (behind code [] (front w r.number (eqb w.state.queued 0)) (take r.rows.0 room') y)
  code-take p z is ss = play.take (held (take_reads w b room p z is)) (take_drops w b room p z) ss

  -- refused, on this court or lent any part of another one
  module _ {u : Court code} {f : Bool} (live : Court code → Court code) (e : live (court code w b) ≡ u) where
    pub code_read_refused : {r : Read} → promises.Reads (read_call w b room) b' room' r → r.number ≢ 0 → Strips code (live (court code w b')) f cs y → Strips code u f cs y
    code_read_refused p n ss = refused live e (ap (court code w) (read-nothing w b room p n).0) ss

    pub code_take_refused : {books' : List ℕ} {r : Taken} → Takes w b room books' b' room' r → r.number ≢ 0 → Strips code (live (court code (world r.state w.slots w.pool books') b')) f cs y → Strips code u f cs y
    code_take_refused p n ss =
        let q = take-nothing w b room p n in
        refused live e (ap (λ (v : World). court code v b') q.0 ∙ ap (court code w) q.1) ss
