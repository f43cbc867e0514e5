-- A block opened in a push and in its trial: at the same number, from the same start on, or in neither.
use Rattle.std.specs.Prelude.{ℕ, ◌+◌, ◌≤◌, ◌<◌, ◌^◌, ◌≡◌, refl, ◌≢◌, true, false, cond, List, [], length, ltb}
use Rattle.std.proofs.Common.{sym, ◌∙◌, true≢false, arith, le-leb, lt-ltb, le-ltb}
use Rattle.std.proofs.Math.Path.{ap}
use Rattle.std.proofs.Math.Decide.{dec_lt}
use Rattle.search.specs.First.{Lowest}
use Rattle.counts.specs.declared.BufferNumber.{BufferNumber}
use Rattle.blocks.specs.declared.BufferSource.{BufferSource}
use Rattle.blocks.specs.Block.{asked}
use Rattle.books.specs.declared.Entry.{Entry}
use Rattle.books.specs.Entry.{used_of, entry_of, is_free, is_free_at}
use Rattle.books.specs.EntryLaws.{EntryWords, free_held}
use Rattle.listings.specs.Listing.{taken}
use Rattle.sound.specs.Change.{Roomy, Changed}
use Rattle.sound.specs.OpLaws.{taken-changed, used_taken}
use Rattle.room.specs.declared.Room.{Room}
use Rattle.room.specs.Room.{block_room, entry_at, opened_as, opened}
use Rattle.room.specs.RoomLaws.{Found-room, room_says, block_says}
use Rattle.state.specs.declared.BatchCoalescer.{BatchCoalescer}
use Rattle.state.specs.declared.Column.{Column}
use Rattle.state.specs.World.{World, world, column_of}
use Rattle.state.specs.Layout.{is_views, list_length}
use Rattle.rules.specs.Batch.{Batch}
use Rattle.rules.specs.Steps.{ok, refuse, bind, with_column, in_state, in_books}
use Rattle.rules.specs.Views.{span, filling, block_number, open_number, block_opened, long_before, views_compacted}
use Rattle.rules.specs.Held.{among_not, holds_ok}
use Rattle.rules.specs.Stays.{Beside, same_refl, same-column}
use Rattle.rules.specs.SameLaws.{same_views, same_long_before}
use Rattle.rules.proofs.PartLaws.{block_among, opened_holds}
use Rattle.rules.proofs.StepLaws.{opened_ten}
use Rattle.rules.specs.declared.Step.{Step}
use Rattle.push_safety.specs.Firm.{run_firm, same_list_length}
use Rattle.push_safety.specs.StepGoes.{column-new}
use Rattle.push_safety.specs.OpenGoes.{Opened, opened-rest}
use Rattle.push_safety.specs.CallerLaws.{run_bounds}
use Rattle.push_safety.specs.Along.{along_in, along_views}
use Rattle.trial_truth.specs.Alike.{Alike}
use Rattle.trial_truth.specs.AlikeLaws.{more_used, alike_trans, alike_room, taken_alike}
use Rattle.trial_truth.specs.Like.{ColumnOpens, Like, Reached, Follows, LeavesLists, size_for, Took, Buffers}
use Rattle.trial_truth.specs.LikeLaws.{column_other}
use Rattle.trial_truth.specs.MoveLaws.{views_make}
use Rattle.std.specs.Prelude.{Option, Some, Result, Ok, Err}

-- ---- the lowest free number

free_most : (s : List ℕ) (i n : ℕ) → Lowest (is_free_at s) n i → i ≤ used_of s
unfolding is_free_at
free_most s i n l = go (dec_lt (used_of s) i)
  where
    go : Dec (used_of s < i) → i ≤ used_of s
    go (yes d) =
        let z : true ≡ false = rw (le-ltb (used_of s) (used_of s) (omega arith)) at (l.others (used_of s) d) in
        absurd (true≢false z)
    go (no d) = omega arith

-- a buffer in use is another one
free_other : (s : List ℕ) (i k : ℕ) → is_free_at s i ≡ true → k < used_of s → is_free (entry_of s k) ≡ false → k ≢ i
unfolding is_free_at
free_other s i k f h l e =
    let g : is_free_at s k ≡ true = rw (← e) at f in
    true≢false (sym (rw (lt-ltb k (used_of s) h) at g) ∙ l)

marked_live : (start size : ℕ) → is_free (entry_at start size 0 2 0) ≡ false
marked_live start size = sym (free_held (entry_at start size 0 2 0) (λ e. omega arith))

opened_live : (start size : ℕ) → is_free (entry_at start size 0 0 1) ≡ false
unfolding is_free
opened_live start size = refl

small_fits : (start size p hold listings : ℕ) → start + size ≤ p → p < 2 ^ 32 → hold ≤ 2 → listings ≤ 2 → EntryWords (entry_at start size 0 hold listings)
small_fits start size p hold listings h f a b =
    record { start_fits = omega arith; capacity_fits = omega arith; length-fits = omega arith; hold_fits = omega arith; listings-fits = omega arith }

-- ---- a block opened in both

-- a column of views at which the push and its trial stand alike, but for a block that was closed: what is put there makes them the same
pub record MayOpen (s : BatchCoalescer) (books : List ℕ) (b : Batch) (c : ℕ) (v : World) : Type 0 where
  pub like : Like s books b (c + 1) v
  pub roomy : Roomy books s.numbers
  pub column : c < s.columns
  pub views : is_views s c ≡ true
  pub source : (column_of v.state c).source ≡ (column_of s c).source
  pub put : (source : BufferSource) (block : Option BufferNumber) → with_column v.state c source block ≡ with_column s c source block

module _ {s : BatchCoalescer} {books : List ℕ} {b : Batch} {c : ℕ} {v : World} (o : MayOpen s books b c v) (min at from m : ℕ) (l : long_before v b c from m ≤ min) where
  abbrev a : Like s books b (c + 1) v
  a = o.like

  abbrev size : ℕ
  size = size_for s c min

  abbrev source : BufferSource
  source = (asked (column_of s c).source (record { 0 = min })).source

  same_size : (asked (column_of v.state c).source (record { 0 = min })).size.0 ≡ size
  same_size = rw o.source

  same_source : (asked (column_of v.state c).source (record { 0 = min })).source ≡ source
  same_source = rw o.source

  same_room : block_room v.books v.state.numbers (length v.pool) (asked (column_of v.state c).source (record { 0 = min })).size.0 ≡ block_room books s.numbers s.pool.0 size
  same_room =
      rw (same_size, a.set_up.numbers, a.run.fit.pool_is, a.set_up.pool) (alike_room a.alike s.pool.0 size)

  h' : c < v.state.columns
  h' = omega (arith, o.column, a.set_up.columns)

  y' : is_views v.state c ≡ true
  y' = same_views a.set_up c ∙ o.views

  small : s.pool.0 < 2 ^ 32
  small = omega (arith, (run_bounds a.run).pool, ap (λ p. p.0) a.set_up.pool)

  module _ (room : Room) (e : block_room books s.numbers s.pool.0 size ≡ Ok room) where
    abbrev i : ℕ
    i = room.number.0

    abbrev mark : Entry
    mark = entry_at room.start size 0 2 0

    abbrev real : Entry
    real = entry_at room.start size 0 0 1

    found : Found-room books s.numbers s.pool.0 size room
    found = room_says books s.numbers s.pool.0 size room (block_says books s.numbers s.pool.0 size room e).chooses

    fits : room.start + size ≤ s.pool.0
    fits = omega (arith, found.gap.fits)

    tried : Changed books (taken books i mark) s.numbers i mark
    tried = taken-changed i o.roomy found.number.below mark (small_fits room.start size s.pool.0 2 0 fits small (omega arith) (omega arith))

    roomy' : Roomy v.books s.numbers
    roomy' = rw a.set_up.numbers at (run_firm a.run).books.roomy

    done : Changed v.books (taken v.books i real) s.numbers i real
    done = taken-changed i roomy' found.number.below real (small_fits room.start size s.pool.0 0 1 fits small (omega arith) (omega arith))

    both : Alike (taken books i mark) (taken v.books i real) s.numbers
    both =
        taken_alike a.alike
        (record {
          used = used_taken i mark o.roomy found.number.below;
          used' = used_taken i real roomy' found.number.below;
          changed = tried;
          changed' = done;
          most = free_most books i s.numbers found.number;
          live = marked_live room.start size;
          live' = opened_live room.start size;
          start_is = refl;
          capacity_is = refl;
        })

    abbrev u : World
    u = in_state (in_books v (taken v.books i real)) (with_column v.state c source (Some room.number))

    module _ (n : list_length v (filling v) c + 1 ≤ v.state.lists) where
      opens : block_opened v c min ≡ ok u
      unfolding block_opened opened opened_as
      opens = rw (le-leb (list_length v (filling v) c + 1) v.state.lists n, same_room, e, same_size, same_source)

      new : Opened v c min u
      new = opened-rest v c min u a.run h' y' opens

      beside : Beside v u
      beside = holds_ok u (opened_holds v c min) opens

      number_here : open_number u c ≡ i
      unfolding open_number
      number_here = ap (λ (x : Column). block_number x.block) (column-new v.state c source (Some room.number) y')

      live_here : is_free (entry_of u.books (open_number u c)) ≡ false
      live_here = rw number_here (ap is_free done.same ∙ opened_live room.start size)

      fills : LeavesLists c u (views_compacted u b (span c at from m))
      fills =
          views_make u b c at from m new.goes.run (along_in beside c h') (along_views beside c y') new.is_open_lem live_here
          (omega (arith, l, new.rest, same_long_before v u b beside.set_up c from m))

      abbrev w : World
      w = fills.world

      abbrev t : BatchCoalescer
      t = with_column s c source (Some room.number)

      state : w.state ≡ t
      state = fills.state ∙ o.put source (Some room.number)

      abbrev marked : List ℕ
      marked = taken books i mark

      -- an open block of a column behind c: it was open before
      was : {d k : ℕ} → c + 1 ≤ d → ColumnOpens t d k → ColumnOpens s d k
      was {d} {k} g o =
          record {
            column = o.column;
            views = sym (same_views (same-column s c source (Some room.number)) d) ∙ o.views;
            block = ap (λ (x : Column). x.block) (sym (column_other s c source (Some room.number) d (λ z. omega arith))) ∙ o.block;
          }

      other : {d k : ℕ} → c + 1 ≤ d → ColumnOpens t d k → k ≢ i
      other {d} {k} g o = let z = a.live d k g (was g o) in free_other books i k found.number.accepted z.0 z.1

      block_at : (k : ℕ) → k ≢ i → (column_of u.state c).block ≡ Some (record { 0 = k }) → ⊥
      block_at k n o =
          let p : Some room.number ≡ Some (record { 0 = k }) = ap (λ (x : Column). x.block) (sym (column-new v.state c source (Some room.number) y')) ∙ o in
          let q : room.number ≡ record { 0 = k } = cc in
          n (sym (ap (λ (x : BufferNumber). x.0) q))

      more : used_of books ≤ used_of marked
      more = rw (used_taken i mark o.roomy found.number.below) (more_used (used_of books) i)

      like : Like t marked b (c + 1) w
      like =
          record {
            run = fills.moves.along.goes.run;
            reads = fills.moves.along.goes.reads b (new.goes.reads b a.reads);
            set_up = rw state (same_refl t);
            place = ap (λ (x : BatchCoalescer). x.place) state;
            queued = ap (λ (x : BatchCoalescer). x.queued) state;
            alike = alike_trans a.set_up.numbers both fills.moves.alike;
            lists = λ slot d g x.
                fills.moves.lists slot d (omega (arith, a.set_up.columns)) (λ p q. omega (arith, x.here (p ∙ a.place)))
                ∙ same_list_length v u beside.set_up (rw a.set_up.numbers done.framed) slot d
                ∙ a.lists slot d g (record { later = x.later; around = x.around; here = x.here })
                ∙ sym (same_list_length (world s [] [] books) (world t [] [] marked) (same-column s c source (Some room.number)) tried.framed slot d);
            live = λ d k g o.
                let z = a.live d k g (was g o) in
                (omega (arith, z.0, more), rw (tried.other k (other g o)) z.1);
            filled = λ d k g o.
                let z = a.live d k g (was g o) in
                fills.moves.length k (omega (arith, z.0, more, both.used)) (block_at k (other g o))
                ∙ ap (λ (x : Entry). x.length.0) (done.other k (other g o))
                ∙ a.filled d k g (was g o)
                ∙ ap (λ (x : Entry). x.length.0) (sym (tried.other k (other g o)));
            apart = λ d f k g p o x. a.apart d f k g p (was g o) (was (omega arith) x);
          }

      reached : {q : Step} {books' : List ℕ} → Took s books c min room q books' → Reached (bind (block_opened v c min) (λ x. views_compacted x b (span c at from m))) q.state books' b (c + 1)
      reached {q} {books'} k =
          record {
            world = w;
            is = rw opens fills.is;
            state = state ∙ sym k.state;
            like = rw (k.state, k.books_are) like;
          }

  opened_not : (k : ℕ) → list_length v (filling v) c + 1 ≤ v.state.lists → block_room books s.numbers s.pool.0 size ≡ Err k → block_opened v c min ≡ refuse k
  unfolding block_opened opened opened_as
  opened_not k n e = rw (le-leb (list_length v (filling v) c + 1) v.state.lists n, same_room, e)

  -- ---- refused in both, or opened in both

  pub open_follows : {n : ℕ} {q : Step} {books' : List ℕ} → n ≡ list_length v (filling v) c → Buffers s books c n min q books' → Follows (bind (block_opened v c min) (λ x. views_compacted x b (span c at from m))) b (c + 1) q books'
  open_follows {n} {q} {books'} e t = go (dec_lt n s.lists)
    where
      stopped : (k : ℕ) → k ≢ 0 → q.number ≡ k → block_opened v c min ≡ refuse k → Follows (bind (block_opened v c min) (λ x. views_compacted x b (span c at from m))) b (c + 1) q books'
      stopped k z p o =
          record {
            done = λ x. absurd (z (sym p ∙ x));
            not = λ x. rw (o, p);
          }

      refused : (k : ℕ) → n < s.lists → block_room books s.numbers s.pool.0 size ≡ Err k → block_opened v c min ≡ refuse k
      refused k g o = opened_not k (omega (arith, e, a.set_up.lists)) o

      by : (x : Result Room ℕ) → n < s.lists → block_room books s.numbers s.pool.0 size ≡ x → Follows (bind (block_opened v c min) (λ x. views_compacted x b (span c at from m))) b (c + 1) q books'
      by (Err k) g o =
          stopped k (among_not 0 refl (block_among books s.numbers s.pool.0 size k o)) (t.refused g k o) (refused k g o)
      by (Ok room) g o =
          let k = t.opened g room o in
          record {
            done = λ x. reached room o (omega (arith, e, a.set_up.lists)) k;
            not = λ x. absurd (x k.number);
          }

      go : Dec (n < s.lists) → Follows (bind (block_opened v c min) (λ x. views_compacted x b (span c at from m))) b (c + 1) q books'
      go (yes g) = by (block_room books s.numbers s.pool.0 size) g refl
      go (no g) =
          stopped 10 (λ z. omega arith) (t.full (omega arith)) (opened_ten v c min (omega (arith, e, a.set_up.lists)))
