-- A block opened on trial: state and books stay in order, and its entry is marked.
use Rattle.std.specs.Prelude.{ℕ, ◌+◌, ◌≤◌, ◌<◌, ◌^◌, ◌≡◌, refl, true, List, []}
use Rattle.std.proofs.Common.{sym, ◌∙◌, ap, arith}
use Rattle.std.proofs.Math.Decide.{ℕ_discrete}
use Rattle.counts.specs.declared.ByteSum.{ByteSum}
use Rattle.blocks.specs.declared.NextSize.{NextSize}
use Rattle.blocks.specs.declared.BufferSource.{BufferSource}
use Rattle.blocks.specs.Block.{asked}
use Rattle.books.specs.declared.Entry.{Entry}
use Rattle.books.specs.Entry.{used_of, entry_of}
use Rattle.books.specs.EntryLaws.{EntryWords}
use Rattle.listings.specs.Listing.{no_entry, taken}
use Rattle.pool.specs.Register.{is_held}
use Rattle.sound.specs.Change.{Changed}
use Rattle.sound.specs.OpLaws.{changed_roomy, taken-changed, used_taken}
use Rattle.room.specs.declared.Room.{Room}
use Rattle.room.specs.Room.{block_room, entry_at, taken_for, opened_as, tried, Opens}
use Rattle.room.specs.RoomLaws.{Found-room, ZeroRoom, room_says, block_says}
use Rattle.room.specs.Back.{Tried}
use Rattle.room.proofs.BackLaws.{tried-answer, taken-tried}
use Rattle.state.specs.declared.BatchCoalescer.{BatchCoalescer}
use Rattle.state.specs.declared.Column.{Column}
use Rattle.state.specs.World.{World, world, column_of}
use Rattle.state.specs.Layout.{is_views, list_length}
use Rattle.rules.specs.Stays.{same_refl, same-column}
use Rattle.rules.specs.Steps.{with_column, in_books}
use Rattle.columns.specs.SourceLaws.{list_same}
use Rattle.push_safety.specs.Run.{Goes}
use Rattle.push_safety.specs.BooksGo.{BooksRun, BooksGo, held_says, held_is, taken_at, taken_go, taken_in}
use Rattle.push_safety.specs.Firm.{run_firm, same_list_length, within_goes}
use Rattle.push_safety.specs.StepGoes.{with_column_goes}
use Rattle.push_safety.specs.OpenGoes.{asked-some}
use Rattle.push_safety.specs.CallerLaws.{run_bounds}
use Rattle.trial_truth.specs.Like.{size_for, Took, Buffers}
use Rattle.trial_column.specs.Trying.{Trying, TriesColumn, Bufferable}
use Rattle.trial_column.specs.TryingLaws.{column-none}
use Rattle.std.specs.Prelude.{Some, Result, Ok, Err}

-- ---- the books

-- a marked entry at the lowest free number, beside the entry that the push itself would put there
module _ {s : List ℕ} {n p : ℕ} (capacity : ℕ) (r : BooksRun s n p) (room : Room) (f : Found-room s n p capacity room) (zero : entry_of s room.number.0 ≡ no_entry) (small : p < 2 ^ 32) where
  abbrev i : ℕ
  i = room.number.0

  abbrev mark : Entry
  mark = entry_at room.start capacity 0 2 0

  abbrev real : List ℕ
  real = taken s i (entry_at room.start capacity 0 0 1)

  abbrev t : List ℕ
  t = taken s i mark

  fits : room.start + capacity ≤ p
  fits = omega (arith, f.gap.fits)

  words : EntryWords mark
  words =
      record { start_fits = omega (arith, fits); capacity_fits = omega (arith, fits); length-fits = omega arith; hold_fits = omega arith; listings-fits = omega arith }

  changed : Changed s t n i mark
  changed = taken-changed i r.roomy f.number.below mark words

  beside : Changed s real n i (entry_at room.start capacity 0 0 1)
  beside = taken_at i room.start capacity r f.number.below fits small

  goes : BooksGo s real n p
  goes = taken_go i room.start capacity r f.number fits small

  same_used : used_of t ≡ used_of real
  same_used =
      used_taken i mark r.roomy f.number.below
      ∙ sym (used_taken i (entry_at room.start capacity 0 0 1) r.roomy f.number.below)

  not_held_lem : is_held s i ≡ true → ⊥
  not_held_lem h = (held_says real i (goes.held i h)).1 (ap (λ (e : Entry). e.hold) beside.same)

  inside_at : (k : ℕ) → k < used_of t → Dec (k ≡ i) → (entry_of t k).start + (entry_of t k).capacity.0 ≤ p
  inside_at k h (yes d) = rw (d, changed.same) fits
  inside_at k h (no d) =
      rw (changed.other k d) (rw (beside.other k d) at (goes.run.inside k (omega (arith, same_used))))

  filled_at : (k : ℕ) → k < used_of t → Dec (k ≡ i) → (entry_of t k).length.0 ≤ (entry_of t k).capacity.0
  filled_at k h (yes d) = rw (d, changed.same) (omega arith)
  filled_at k h (no d) =
      rw (changed.other k d) (rw (beside.other k d) at (goes.run.filled k (omega (arith, same_used))))

  held_at : (k : ℕ) → is_held s k ≡ true → Dec (k ≡ i) → is_held t k ≡ true
  held_at k h (yes d) = absurd (not_held_lem (rw d at h))
  held_at k h (no d) =
      let a = held_says s k h in
      held_is t k (omega (arith, a.0, goes.used, same_used)) (λ z. a.1 (ap (λ (e : Entry). e.hold) (sym (changed.other k d)) ∙ z))

  start-at : (k : ℕ) → is_held s k ≡ true → Dec (k ≡ i) → (entry_of t k).start ≡ (entry_of s k).start
  start-at k h (yes d) = absurd (not_held_lem (rw d at h))
  start-at k h (no d) = ap (λ (e : Entry). e.start) (changed.other k d)

  mark_go : BooksGo s t n p
  mark_go =
      record {
        run =
            record {
              roomy = changed_roomy r.roomy changed;
              used = omega (arith, same_used, goes.run.used);
              inside = λ k h. inside_at k h (ℕ_discrete k i);
              filled = λ k h. filled_at k h (ℕ_discrete k i);
            };
        len = changed.framed.len;
        used = omega (arith, same_used, goes.used);
        held = λ k h. held_at k h (ℕ_discrete k i);
        start = λ k h. start-at k h (ℕ_discrete k i);
      }

  mark_tries : Tried s t n
  mark_tries = taken-tried i mark r.roomy r.used f.number zero words refl

-- ---- the state

module _ {s : BatchCoalescer} {books : List ℕ} (x : Trying s books) (c : ℕ) (h : c < s.columns) (y : is_views s c ≡ true) (l : list_length (world s [] [] books) s.place c < s.lists) (source : BufferSource) (some : 1 ≤ source.current.0) (size : ℕ) (room : Room) (f : Found-room books s.numbers s.pool.0 size room) (zero : entry_of books room.number.0 ≡ no_entry) where
  abbrev w : World
  w = world s x.slots x.pool books

  abbrev booked : List ℕ
  booked = taken books room.number.0 (entry_at room.start size 0 2 0)

  small : s.pool.0 < 2 ^ 32
  small = omega (arith, (run_bounds x.run).pool)

  marks : Tried books booked s.numbers
  marks = mark_tries size (run_firm x.run).books room f zero small

  go : Goes w (in_books w booked)
  go =
      within_goes w (in_books w booked) refl refl refl (mark_go size (run_firm x.run).books room f zero small) marks.framed x.run

  list : list_length (in_books w booked) s.place c < s.lists
  list =
      omega (
        arith,
        same_list_length w (in_books w booked) (same_refl s) marks.framed s.place c,
        list_same s x.slots x.pool books c s.place,
      )

  opens : TriesColumn s books (with_column s c source (Some room.number)) booked
  opens =
      record {
        tries =
            record {
              set_up = same-column s c source (Some room.number);
              marks = marks;
              trying =
                  record {
                    slots = x.slots;
                    pool = x.pool;
                    run =
                        (with_column_goes c source (Some room.number) go.run (λ p q. some)
                        (λ k q.
                        let e : room.number ≡ k = cc in
                        (rw (← e) (taken_in room.number.0 (entry_at room.start size 0 2 0) (run_firm x.run).books f.number.below), list))).run;
                  };
            };
        buffered = refl;
      }

-- ---- the ways out of try_buffer

answer_at : (s : List ℕ) (n pool capacity : ℕ) {r : Result Room ℕ} {t : List ℕ} {room : Room} → Opens (tried s n pool capacity) t r → r ≡ Ok room → (block_room s n pool capacity ≡ Ok room) × (t ≡ taken s room.number.0 (entry_at room.start capacity 0 2 0))
unfolding tried opened_as
answer_at s n pool capacity {r} {t} {room} o e =
    let q : block_room s n pool capacity ≡ Ok room = sym (tried-answer s n pool capacity) ∙ sym o.answer_is ∙ e in
    (q, o.books_are ∙ ap (λ (a : Result Room ℕ). (taken_for s capacity 2 0 a).books) q)

answer_not : (s : List ℕ) (n pool capacity : ℕ) {r : Result Room ℕ} {t : List ℕ} {number : ℕ} → Opens (tried s n pool capacity) t r → r ≡ Err number → t ≡ s
unfolding tried opened_as
answer_not s n pool capacity {r} {t} {number} o e =
    let q : block_room s n pool capacity ≡ Err number = sym (tried-answer s n pool capacity) ∙ sym o.answer_is ∙ e in
    o.books_are ∙ ap (λ (a : Result Room ℕ). (taken_for s capacity 2 0 a).books) q

pub buffer_refused : {s : BatchCoalescer} {books : List ℕ} (size : ℕ) {r : Result Room ℕ} {t : List ℕ} {number : ℕ} → Trying s books → Opens (tried books s.numbers s.pool.0 size) t r → r ≡ Err number → TriesColumn s books s t
buffer_refused {s} {books} size x o e = rw (answer_not books s.numbers s.pool.0 size o e) (column-none x)

pub buffers_full : {s : BatchCoalescer} {books : List ℕ} (c n min : ℕ) → s.lists ≤ n → Buffers s books c n min (record { state = s; number = 10 }) books
buffers_full c n min l =
    record {
      full = λ h. refl;
      refused = λ h number e. absurd (omega arith);
      opened = λ h room e. absurd (omega arith);
    }

module _ (s : BatchCoalescer) (books : List ℕ) (c n : ℕ) (min : ByteSum) {k : Column} {a : NextSize} (l : n < s.lists) (e : k ≡ column_of s c) (q : a ≡ asked k.source min) where
  asked-at : a ≡ asked (column_of s c).source min
  asked-at = q ∙ ap (λ (x : Column). asked x.source min) e

  size-at : a.size.0 ≡ size_for s c min.0
  size-at = ap (λ (x : NextSize). x.size.0) asked-at

  -- state and books stay in order
  pub buffer_opened : {r : Result Room ℕ} {t : List ℕ} {room : Room} {v : BatchCoalescer} → Bufferable s books c n → Opens (tried books s.numbers s.pool.0 a.size.0) t r → r ≡ Ok room → v ≡ with_column s c a.source (Some room.number) → TriesColumn s books v t
  buffer_opened {r} {t} {room} {v} x o g e' =
      let b = answer_at books s.numbers s.pool.0 a.size.0 o g in
      let z : ZeroRoom books s.numbers s.pool.0 a.size.0 room = block_says books s.numbers s.pool.0 a.size.0 room b.0 in
      let some : 1 ≤ a.source.current.0 = rw (q, e) (asked-some (column_of s c).source min (x.trying.run.kept c x.column x.views)) in
      rw (b.1, e')
      (opens x.trying c x.column x.views (omega (arith, x.most)) a.source some a.size.0 room (room_says books s.numbers s.pool.0 a.size.0 room z.chooses) z.zero)

  -- and as the push sees them
  pub buffers_refused : {r : Result Room ℕ} {t : List ℕ} {number : ℕ} → Opens (tried books s.numbers s.pool.0 a.size.0) t r → r ≡ Err number → Buffers s books c n min.0 (record { state = s; number = number }) t
  buffers_refused {r} {t} {number} o g =
      record {
        full = λ h. absurd (omega arith);
        refused = λ h m z. let p : Err number ≡ Err m = sym says ∙ z in cc;
        opened = λ h room z. let p : Err number ≡ Ok room = sym says ∙ z in let i : ◌≡◌ {A = ℕ} 0 1 = cc in absurd (omega arith);
      }
    where
      says : block_room books s.numbers s.pool.0 (size_for s c min.0) ≡ Err number
      says = rw (← size-at) (sym (tried-answer books s.numbers s.pool.0 a.size.0) ∙ sym o.answer_is ∙ g)

  pub buffers_opened : {r : Result Room ℕ} {t : List ℕ} {room : Room} {v : BatchCoalescer} → Opens (tried books s.numbers s.pool.0 a.size.0) t r → r ≡ Ok room → v ≡ with_column s c a.source (Some room.number) → Buffers s books c n min.0 (record { state = v; number = 0 }) t
  buffers_opened {r} {t} {room} {v} o g x =
      record {
        full = λ h. absurd (omega arith);
        refused = λ h m z. let p : Ok room ≡ Err m = sym says ∙ z in let i : ◌≡◌ {A = ℕ} 0 1 = cc in absurd (omega arith);
        opened = λ h room' z. let p : Ok room ≡ Ok room' = sym says ∙ z in let i : room ≡ room' = cc in rw (← i) took;
      }
    where
      b : (block_room books s.numbers s.pool.0 a.size.0 ≡ Ok room) × (t ≡ taken books room.number.0 (entry_at room.start a.size.0 0 2 0))
      b = answer_at books s.numbers s.pool.0 a.size.0 o g

      says : block_room books s.numbers s.pool.0 (size_for s c min.0) ≡ Ok room
      says = rw (← size-at) b.0

      took : Took s books c min.0 room (record { state = v; number = 0 }) t
      took = record { number = refl; state = x ∙ ap (λ (y : NextSize). with_column s c y.source (Some room.number)) asked-at; books_are = rw (← size-at) b.1 }
