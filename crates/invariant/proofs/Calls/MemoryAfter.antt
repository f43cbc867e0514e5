-- Letting go and registering: books and pool change, and every row reads as it did, even where the caller lets its buffer go.
use Rattle.std.specs.Prelude.{ℕ, ◌+◌, ◌*◌, ◌≤◌, ◌<◌, ◌≡◌, ◌≢◌, Bool, cond, List, get_or, ltb}
use Rattle.std.proofs.Math.Path.{refl, ap}
use Rattle.std.proofs.Common.{sym, ◌∙◌, true≢false, arith, ltb-false}
use Rattle.std.proofs.Math.Bool.{true, false}
use Rattle.std.proofs.Math.Decide.{dec_lt, ℕ_discrete}
use Rattle.std.proofs.Math.ListN.{length}
use Rattle.words.specs.Run.{read, put}
use Rattle.words.specs.RunLaws.{read_put_same}
use Rattle.words.specs.Frame.{Framed}
use Rattle.words.specs.FrameLaws.{framed_wider, put_framed}
use Rattle.books.specs.declared.Entry.{Entry}
use Rattle.books.specs.Entry.{entry_of, is_free}
use Rattle.books.specs.EntryLaws.{EntryWords}
use Rattle.listings.specs.Listing.{no_entry, taken, released}
use Rattle.sound.specs.Sound.{Sound, filled_bytes, count_with}
use Rattle.sound.specs.Change.{Changed, hold_as, or_free}
use Rattle.sound.specs.Live.{live_is}
use Rattle.sound.specs.OpLaws.{taken-changed, released-changed}
use Rattle.sound.specs.SoundLaws.{sound_roomy, sound_top, sound_recount, count_same, count_other}
use Rattle.sound.specs.Top.{live_used, no_free}
use Rattle.sound.proofs.Kept.{released_sound, gap_sound}
use Rattle.sound.specs.Freed.{free-entry, free-uncounted, released_live}
use Rattle.sound.proofs.GapFilled.{gap_filled}
use Rattle.sound.proofs.Others.{taken_filled_live, released-filled, released_filled_same}
use Rattle.room.specs.declared.Room.{Room}
use Rattle.room.specs.Room.{chosen, entry_at}
use Rattle.room.specs.RoomLaws.{Found-room, room_says}
use Rattle.counts.specs.declared.BufferNumber.{BufferNumber}
use Rattle.pool.specs.Register.{RegisterOutcome, is_held, Gone, let_go, refused, settled_at, registered}
use Rattle.state.specs.World.{World}
use Rattle.state.specs.Layout.{list_length}
use Rattle.state.specs.Rows.{slot_rows, queued_batches, buffered_rows}
use Rattle.rules.specs.Steps.{in_books}
use Rattle.rules.specs.Views.{has_block, block_number, is_open, open_number}
use Rattle.rules.specs.Stays.{same_refl}
use Rattle.push_safety.specs.Run.{Run}
use Rattle.push_safety.specs.TestedLaws.{bounds_say}
use Rattle.push_safety.specs.BooksGo.{held_says, held_is}
use Rattle.invariant.specs.Holding.{reach, number_at, listings, Unheld, Holding, Between, Stands, Owns, Lies, Unfilled, PoolStays}
use Rattle.invariant.proofs.BeginLaws.{begins_is}
use Rattle.invariant.proofs.Rests.{reach_open, number_open}
use Rattle.invariant.proofs.CountLaws.{listed_counted, number-below, number_live}
use Rattle.invariant.proofs.PoolLaws.{pool_refl, unheld_on}
use Rattle.invariant.proofs.Steps.MoveLaws.{SameSlots, Remains, remains_shows, remains_holding, rows-filling, rows_same}
use Rattle.invariant.proofs.Steps.SpareMoves.{same_rows, spared_on}
use Rattle.invariant.specs.RowLaws.{rows-read}
use Rattle.invariant.proofs.Calls.After.{queued_read, rows_are}
use Rattle.invariant.proofs.Steps.EntryMoves.{in_memory, memory-length, memory-rows, memory-reach, memory_remains}
use Rattle.invariant.specs.Calls.MemoryAfter.{NewlyHeld, SameRows, number_of}
use Rattle.std.specs.Prelude.{Result, Ok, Err}

-- ---- rows that remain

module _ {w v : World} (a : Holding w (λ c. w.state.buffered.0)) (g : Run v) (b : SameSlots w v) (s : Remains w (λ c. w.state.buffered.0) v) where
  pub remains_batches : queued_batches v ≡ queued_batches w
  remains_batches =
      queued_read w v (λ c. w.state.buffered.0) a.run.fit.place a.run.fit.queued b s.rows (λ slot c i p q h. (remains_shows a g b s slot c i p q h).cell)

  pub remains_rows : v.state.buffered.0 ≡ w.state.buffered.0 → buffered_rows v ≡ buffered_rows w
  remains_rows e =
      rows_are v
      ∙ ap (λ (k : ℕ). slot_rows v k v.state.buffered.0) b.place
      ∙ ap (slot_rows v w.state.place) e
      ∙ rows-read w v w.state.place w.state.buffered.0 b.set_up.columns (λ c i q l. (remains_shows a g b s w.state.place c i a.run.fit.place q (omega (arith, rows-filling w (λ c. w.state.buffered.0) w.state.place c refl))).cell)
      ∙ sym (rows_are w)

pub same_self : {w : World} → Between w → SameRows w w
same_self g = record { between = g; batches = refl; rows = refl; bytes = λ z. z }

-- ---- another pool and other books

module _ {w : World} (g : Between w) (pool books : List ℕ) (f : Framed 0 (4 + 20 * w.state.numbers) w.books books) (len : length pool ≡ length w.pool) (s : Sound books w.state.numbers w.state.pool.0 (listings w)) (stands : (slot c j : ℕ) → slot ≤ w.state.queue → c < w.state.columns → j < reach w slot c → Stands w (in_memory w pool books) (number_at w slot c j)) (unheld : Unheld w.state books) where
  abbrev v : World
  v = in_memory w pool books

  a : Holding w (λ c. w.state.buffered.0)
  a = g.holding

  place_in : w.state.place ≤ w.state.queue
  place_in = a.run.fit.place

  run : Run v
  unfolding open_number
  run =
      record {
        fit =
            record {
              bounds = a.run.fit.bounds;
              slots_are = a.run.fit.slots_are;
              pool_is = len ∙ a.run.fit.pool_is;
              books_are = f.len ∙ a.run.fit.books_are;
              place = place_in;
              queued = a.run.fit.queued;
              bytes = s.bytes;
            };
        used = s.used;
        inside = λ k h. s.inside k (omega (arith, s.used));
        filled = λ k h. s.filled k (omega (arith, s.used));
        lists = λ slot c p q. omega (arith, memory-length w pool books f slot c, a.run.lists slot c p q);
        none = λ slot c p q y. memory-length w pool books f slot c ∙ a.run.none slot c p q y;
        kept = a.run.kept;
        block = λ c k q y o.
            let is_open_lem : is_open w c ≡ true = ap has_block o in
            let r : reach w w.state.place c ≡ list_length w w.state.place c + 1 = reach_open w w.state.place c y refl is_open_lem in
            let n : number_at w w.state.place c (list_length w w.state.place c) ≡ k.0 = number_open w w.state.place c _ (omega arith) ∙ ap block_number o in
            rw n at (live_used _ (sound_top s) (number-below a w.state.place c _ place_in q (omega arith)) (stands w.state.place c (list_length w w.state.place c) place_in q (omega arith)).live);
        room = λ c k q y o. omega (arith, memory-length w pool books f w.state.place c, a.run.room c k q y o);
      }

  alike : SameSlots w v
  alike = record { set_up = same_refl w.state; place = refl; queued = refl; slots = refl }

  remains : Remains w (λ c. w.state.buffered.0) v
  remains = memory_remains w pool books f a s stands unheld

  pub memory-same : SameRows w v
  memory-same =
      record {
        between =
            record {
              holding = remains_holding a run alike remains;
              below = g.below;
              spared = spared_on (λ c. w.state.buffered.0) a (same_refl w.state) g.spared (λ slot c p q. same_rows (rows_same w v (λ c. w.state.buffered.0) (λ c. w.state.buffered.0) slot c refl (memory-rows w pool books f slot) refl) (λ i l. refl));
              begun = λ z c q. memory-reach w pool books f w.state.place c ∙ g.begun z c q;
            };
        batches = remains_batches a run alike remains;
        rows = remains_rows a run alike remains refl;
        bytes = λ z. z;
      }

-- ---- letting go

module _ {w : World} (g : Between w) (i : ℕ) (h : is_held w.books i ≡ true) where
  pub below : i < w.state.numbers
  below = omega (arith, (held_says w.books i h).0, g.holding.run.used)

  pub changed : Changed w.books (released w.books i) w.state.numbers i (or_free (hold_as (entry_of w.books i) 0))
  changed = released-changed i (sound_roomy g.holding.sound) below

  -- what is listed stays, whoever held it
  pub listed_stands : (k : ℕ) → k < w.state.numbers → 1 ≤ listings w k → is_free (entry_of w.books k) ≡ false → Stands w (in_memory w w.pool (released w.books i)) k
  listed_stands k l n e = go (ℕ_discrete k i)
    where
      go : Dec (k ≡ i) → Stands w (in_memory w w.pool (released w.books i)) k
      go (no d) = record { live = ap is_free (changed.other k d) ∙ e; begins = begins_is (released-filled w.pool i g.holding.sound below k d) }
      go (yes d) =
          let m : 0 < listings w i = rw d at n in
          let f : is_free (entry_of (released w.books i) i) ≡ false = released_live i g.holding.sound below m in
          rw d (record { live = f; begins = begins_is (released_filled_same w.pool i g.holding.sound below f) })

-- a number that is not let go has its entry as it was
pub let_go_other : {w : World} → Between w → (i k : ℕ) → k ≢ i → entry_of (let_go w.books i).books k ≡ entry_of w.books k
unfolding let_go
let_go_other {w} g i k d = go (is_held w.books i) refl
  where
    go : (b : Bool) → is_held w.books i ≡ b → entry_of (cond {A = Gone} b (record { answer = 0; books = released w.books i }) (record { answer = 13; books = w.books })).books k ≡ entry_of w.books k
    go true h = (changed g i h).other k d
    go false h = refl

-- ---- registering

no_number : (n : ℕ) (k : BufferNumber) → Err n ≡ Ok k → ⊥
no_number n k e = let z : ◌≡◌ {A = ℕ} 0 1 = cc in omega arith

module _ {w : World} (g : Between w) (bytes : List ℕ) (capacity : ℕ) (l : length bytes ≤ capacity) (r : Room) (f : Found-room w.books w.state.numbers (length w.pool) capacity r) where
  abbrev k : ℕ
  k = r.number.0

  abbrev e : Entry
  e = entry_at r.start capacity (length bytes) 1 0

  abbrev books' : List ℕ
  books' = taken w.books k e

  abbrev pool' : List ℕ
  pool' = put r.start bytes w.pool

  sound : Sound w.books w.state.numbers w.state.pool.0 (listings w)
  sound = g.holding.sound

  fits : r.start + capacity ≤ w.state.pool.0
  fits = omega (arith, f.gap.fits, g.holding.run.fit.pool_is)

  words : EntryWords e
  words =
      let p : w.state.pool.0 ≤ 4294967295 = (bounds_say w.state g.holding.run.fit.bounds).pool in
      record { start_fits = omega (arith, fits); capacity_fits = omega (arith, fits); length-fits = omega (arith, fits); hold_fits = omega arith; listings-fits = omega arith }

  room : r.start + length bytes ≤ length w.pool
  room = omega (arith, f.gap.fits)

  written : Framed r.start (r.start + capacity) w.pool pool'
  written = framed_wider r.start (r.start + capacity) (put_framed r.start bytes w.pool room) (omega arith) (omega arith)

  new : Changed w.books books' w.state.numbers k e
  new = taken-changed k (sound_roomy sound) f.number.below e words

  kept : Sound books' w.state.numbers w.state.pool.0 (listings w)
  kept =
      sound_recount (listings w)
      (gap_sound k sound f.number.below e words (live_is e (omega arith)) (omega arith) l (record { fits = fits; clear = f.gap.clear; lowest = f.gap.lowest }))
      (λ j m. count j (ℕ_discrete j k))
    where
      count : (j : ℕ) → Dec (j ≡ k) → count_with (listings w) k 0 j ≡ listings w j
      count j (yes z) = rw z (count_same (listings w) k 0 ∙ sym (free-uncounted k sound f.number.below f.number.accepted))
      count j (no z) = count_other (listings w) k 0 j z

  -- a number that was live is another
  other_live : (j : ℕ) → is_free (entry_of w.books j) ≡ false → j ≢ k
  other_live j h z =
      true≢false (sym no_free ∙ ap is_free (sym (free-entry k sound f.number.below f.number.accepted)) ∙ ap (λ (x : ℕ). is_free (entry_of w.books x)) (sym z) ∙ h)

  live_stands : (j : ℕ) → j < w.state.numbers → is_free (entry_of w.books j) ≡ false → Stands w (in_memory w pool' books') j
  live_stands j m h =
      record {
        live = ap is_free (new.other j other) ∙ h;
        begins = begins_is (taken_filled_live pool' k sound f.number.below e words f.number.accepted j h ∙ gap_filled sound r.start capacity (omega (arith, g.holding.run.fit.pool_is)) written (record { fits = fits; clear = f.gap.clear; lowest = f.gap.lowest }) j m);
      }
    where
      other : j ≢ k
      other = other_live j h

  unheld_taken : Unheld w.state books'
  unheld_taken = unheld_on g.holding w.state books' (λ c j o. o) (λ j m h z. ap (λ (x : Entry). x.hold) (new.other j (other_live j h)) ∙ z)

  pub taken-same : SameRows w (in_memory w pool' books')
  taken-same =
      memory-same g pool' books' new.framed written.len kept (λ slot c j p q h.
      live_stands (number_at w slot c j) (number-below g.holding slot c j p q h) (number_live g.holding slot c j p q h))
      unheld_taken

  -- the bytes of every live number are as they were, and of the others only those change that the new number fills
  taken_stays : PoolStays w (in_memory w pool' books')
  taken_stays =
      record {
        numbers = refl;
        live = λ j m h. ap is_free (new.other j (other_live j h)) ∙ h;
        lies = λ j m h. lies j m h (new.other j (other_live j h));
        only = λ x z. only x z (dec_lt x r.start) (dec_lt x (r.start + length bytes));
      }
    where
      put_there : Framed r.start (r.start + length bytes) w.pool pool'
      put_there = put_framed r.start bytes w.pool room

      byte : (j : ℕ) → j < w.state.numbers → is_free (entry_of w.books j) ≡ false → (x : ℕ) → Owns w j x → Dec (x < r.start) → Dec (x < r.start + capacity) → get_or pool' x 0 ≡ get_or w.pool x 0
      byte j m h x o (yes s) t = written.before x s
      byte j m h x o (no s) (no t) = written.after x (omega arith)
      byte j m h x o (no s) (yes t) =
          let a : (entry_of w.books j).start ≤ x = o.from in
          let b : x < (entry_of w.books j).start + (entry_of w.books j).capacity.0 = o.below in
          absurd
          (f.gap.clear j (live_used j (sound_top sound) m h)
          (record { live = h; shares = record { some = omega arith; other = omega arith; below = omega arith; above = omega arith } }))

      lies : (j : ℕ) → j < w.state.numbers → is_free (entry_of w.books j) ≡ false → entry_of books' j ≡ entry_of w.books j → Lies w (in_memory w pool' books') j
      lies j m h q =
          let n : (entry_of books' j).length.0 ≡ (entry_of w.books j).length.0 = ap (λ (x : Entry). x.length.0) q in
          record {
            start = ap (λ (x : Entry). x.start) q;
            capacity = ap (λ (x : Entry). x.capacity.0) q;
            hold = ap (λ (x : Entry). x.hold) q;
            longer = omega arith;
            filled = λ z. n;
            was_open = λ c o. o;
            bytes = λ x o. byte j m h x o (dec_lt x r.start) (dec_lt x (r.start + capacity));
          }

      only : (x : ℕ) → Unfilled (in_memory w pool' books') x → Dec (x < r.start) → Dec (x < r.start + length bytes) → get_or pool' x 0 ≡ get_or w.pool x 0
      only x z (yes s) t = put_there.before x s
      only x z (no s) (no t) = put_there.after x (omega arith)
      only x z (no s) (yes t) =
          let a : (entry_of books' k).start ≡ r.start = ap (λ (y : Entry). y.start) new.same in
          let b : (entry_of books' k).length.0 ≡ length bytes = ap (λ (y : Entry). y.length.0) new.same in
          absurd (z.unfilled k f.number.below (ap is_free new.same ∙ live_is e (omega arith)) (omega arith) (omega arith))

  -- the caller holds the new number, and it is filled with the bytes
  taken-new : NewlyHeld pool' books' bytes k
  unfolding filled_bytes
  taken-new =
      record {
        held = held_is books' k (live_used k (sound_top kept) f.number.below (ap is_free new.same ∙ live_is e (omega arith))) (λ z. omega (arith, ap (λ (y : Entry). y.hold) new.same));
        filled = ap (λ (y : Entry). read y.start y.length.0 pool') new.same ∙ read_put_same r.start bytes w.pool room;
      }

module _ {w : World} (g : Between w) (bytes : List ℕ) (capacity : ℕ) where
  abbrev after : RegisterOutcome
  after = registered w.books w.pool w.state.numbers bytes capacity

  pub register_pool : PoolStays w (in_memory w after.pool after.books)
  unfolding registered
  register_pool = go (ltb capacity (length bytes)) refl
    where
      chose : length bytes ≤ capacity → (x : Result Room ℕ) → chosen w.books w.state.numbers (length w.pool) capacity ≡ x → PoolStays w (in_memory w (settled_at w.books w.pool bytes capacity x).pool (settled_at w.books w.pool bytes capacity x).books)
      chose l (Err n) e = pool_refl w
      chose l (Ok r) e = taken_stays g bytes capacity l r (room_says w.books w.state.numbers (length w.pool) capacity r e)

      go : (b : Bool) → ltb capacity (length bytes) ≡ b → PoolStays w (in_memory w (cond b (refused w.books w.pool 13) (settled_at w.books w.pool bytes capacity (chosen w.books w.state.numbers (length w.pool) capacity))).pool (cond b (refused w.books w.pool 13) (settled_at w.books w.pool bytes capacity (chosen w.books w.state.numbers (length w.pool) capacity))).books)
      go true h = pool_refl w
      go false h = chose (ltb-false capacity (length bytes) h) (chosen w.books w.state.numbers (length w.pool) capacity) refl

  pub register_new : (k : BufferNumber) → after.answer ≡ Ok k → NewlyHeld after.pool after.books bytes k.0
  unfolding registered
  register_new k = go (ltb capacity (length bytes)) refl
    where
      chose : length bytes ≤ capacity → (x : Result Room ℕ) → chosen w.books w.state.numbers (length w.pool) capacity ≡ x → (settled_at w.books w.pool bytes capacity x).answer ≡ Ok k → NewlyHeld (settled_at w.books w.pool bytes capacity x).pool (settled_at w.books w.pool bytes capacity x).books bytes k.0
      chose l (Err n) e z = absurd (no_number n k z)
      chose l (Ok r) e z =
          let q : r.number.0 ≡ k.0 = ap number_of z in
          rw (← q) (taken-new g bytes capacity l r (room_says w.books w.state.numbers (length w.pool) capacity r e))

      go : (b : Bool) → ltb capacity (length bytes) ≡ b → (cond b (refused w.books w.pool 13) (settled_at w.books w.pool bytes capacity (chosen w.books w.state.numbers (length w.pool) capacity))).answer ≡ Ok k → NewlyHeld (cond b (refused w.books w.pool 13) (settled_at w.books w.pool bytes capacity (chosen w.books w.state.numbers (length w.pool) capacity))).pool (cond b (refused w.books w.pool 13) (settled_at w.books w.pool bytes capacity (chosen w.books w.state.numbers (length w.pool) capacity))).books bytes k.0
      go true h z = absurd (no_number 13 k z)
      go false h z = chose (ltb-false capacity (length bytes) h) (chosen w.books w.state.numbers (length w.pool) capacity) refl z

pub register_same : {w : World} → Between w → (bytes : List ℕ) (capacity : ℕ) → SameRows w (in_memory w (registered w.books w.pool w.state.numbers bytes capacity).pool (registered w.books w.pool w.state.numbers bytes capacity).books)
unfolding registered
register_same {w} g bytes capacity = go (ltb capacity (length bytes)) refl
  where
    chose : length bytes ≤ capacity → (x : Result Room ℕ) → chosen w.books w.state.numbers (length w.pool) capacity ≡ x → SameRows w (in_memory w (settled_at w.books w.pool bytes capacity x).pool (settled_at w.books w.pool bytes capacity x).books)
    chose l (Err n) e = same_self g
    chose l (Ok r) e = taken-same g bytes capacity l r (room_says w.books w.state.numbers (length w.pool) capacity r e)

    go : (b : Bool) → ltb capacity (length bytes) ≡ b → SameRows w (in_memory w (cond b (refused w.books w.pool 13) (settled_at w.books w.pool bytes capacity (chosen w.books w.state.numbers (length w.pool) capacity))).pool (cond b (refused w.books w.pool 13) (settled_at w.books w.pool bytes capacity (chosen w.books w.state.numbers (length w.pool) capacity))).books)
    go true h = same_self g
    go false h = chose (ltb-false capacity (length bytes) h) (chosen w.books w.state.numbers (length w.pool) capacity) refl
