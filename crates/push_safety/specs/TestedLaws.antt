-- A state that passes the tests of a call, with books of bytes, may be pushed to.
use Rattle.std.specs.Prelude.{ℕ, ◌+◌, ◌≤◌, ◌<◌, ◌≡◌, refl, Bool, true, false, not, cond, List, length, ltb, leb}
use Rattle.std.proofs.Common.{sym, true≢false, arith, ltb-true, leb-true, eqb-true}
use Rattle.std.proofs.Math.Bool.{and-eq-true_iff}
use Rattle.search.specs.Every.{every, every-says}
use Rattle.words.specs.WordLaws.{Bytes}
use Rattle.books.specs.Entry.{used_of, entry_of, is_free, is_free_at}
use Rattle.pool.specs.Read.{in_range}
use Rattle.pool.specs.ReadLaws.{range_says}
use Rattle.counts.specs.declared.BufferNumber.{BufferNumber}
use Rattle.state.specs.declared.BatchCoalescer.{BatchCoalescer}
use Rattle.state.specs.World.{World, column_of}
use Rattle.state.specs.Layout.{is_views, slots_length, books_length, list_length, rows_in}
use Rattle.kinds.specs.Kind.{width_at}
use Rattle.rules.specs.Ranges.{is_kind, between, in_bounds, fits_set_up, has_open, block_in_range, column_in_range, list_in_range, slot_in_range, state_in_range, tested}
use Rattle.rules.specs.TestLaws.{TestedCase, not_set_up, out_of_range, passed, tested-case, range_counted}
use Rattle.push_safety.specs.Run.{Run}
use Rattle.std.specs.Prelude.{Option, Some}

-- ---- the bounds of set-up as facts

pub record Bounds (s : BatchCoalescer) : Type 0 where
  pub columns : s.columns ≤ 16
  pub kinds : every (λ c. is_kind (width_at (column_of s c).kind)) s.columns ≡ true
  pub queue : s.queue ≤ 1024
  pub lists_some : 1 ≤ s.lists
  pub lists : s.lists ≤ 1024
  pub numbers : s.numbers ≤ 65536
  pub pool : s.pool.0 ≤ 4294967295
  pub rows : s.rows.0 ≤ 65536
  pub target_some : 1 ≤ s.target.0
  pub target : s.target.0 ≤ s.rows.0

between-says : (lo x hi : ℕ) → between lo x hi ≡ true → (lo ≤ x) × (x ≤ hi)
between-says lo x hi e =
    let a = (and-eq-true_iff (leb lo x) (leb x hi)).0 e in (leb-true lo x a.0, leb-true x hi a.1)

pub bounds_say : (s : BatchCoalescer) → in_bounds s ≡ true → Bounds s
unfolding in_bounds
bounds_say s e =
    let a = (and-eq-true_iff _ _).0 e in
    let b = (and-eq-true_iff _ _).0 a.1 in
    let c = (and-eq-true_iff _ _).0 b.1 in
    let d = (and-eq-true_iff _ _).0 c.1 in
    let f = (and-eq-true_iff (every (λ c. is_kind (width_at (column_of s c).kind)) s.columns) _).0 d.1 in
    let g = (and-eq-true_iff _ _).0 f.1 in
    let h = (and-eq-true_iff _ _).0 g.1 in
    let t = between-says 1 s.target.0 65536 a.0 in
    let r = between-says s.target.0 s.rows.0 65536 b.0 in
    let q = between-says 1 s.queue 1024 c.0 in
    let l = between-says 1 s.lists 1024 g.0 in
    let n = between-says 1 s.numbers 65536 h.0 in
    record {
      columns = leb-true s.columns 16 d.0;
      kinds = f.0;
      queue = q.1;
      lists_some = l.0;
      lists = l.1;
      numbers = n.1;
      pool = leb-true s.pool.0 4294967295 h.1;
      rows = r.1;
      target_some = t.0;
      target = r.0;
    }

-- ---- the tests as facts

fits_say : (w : World) → fits_set_up w ≡ true → (in_bounds w.state ≡ true) × ((length w.slots ≡ slots_length w.state) × ((length w.pool ≡ w.state.pool.0) × (length w.books ≡ books_length w.state)))
unfolding fits_set_up
fits_say w e =
    let a = (and-eq-true_iff _ _).0 e in
    let b = (and-eq-true_iff _ _).0 a.1 in
    let c = (and-eq-true_iff _ _).0 b.1 in
    (a.0, (eqb-true _ _ b.0, (eqb-true _ _ c.0, eqb-true _ _ c.1)))

-- the parts of 14 that are of books, columns and slots
record InRange (w : World) : Type 0 where
  books : in_range w.books w.state.numbers w.state.pool.0 ≡ true
  columns : every (column_in_range w) w.state.columns ≡ true
  slots : every (slot_in_range w) (w.state.queue + 1) ≡ true

range_say : (w : World) → state_in_range w ≡ true → InRange w
unfolding state_in_range
range_say w e =
    let a = (and-eq-true_iff (ltb w.state.buffered.0 w.state.target.0) _).0 e in
    let b = (and-eq-true_iff (leb w.state.queued w.state.queue) _).0 a.1 in
    let c = (and-eq-true_iff (leb w.state.place w.state.queue) _).0 b.1 in
    let d = (and-eq-true_iff _ _).0 c.1 in
    let f = (and-eq-true_iff _ _).0 d.1 in
    record { books = d.0; columns = f.0; slots = f.1 }

-- a list of a slot
list_say : (w : World) (slot c : ℕ) → slot_in_range w slot ≡ true → c < w.state.columns → list_length w slot c ≤ cond (is_views w.state c) w.state.lists 0
unfolding slot_in_range list_in_range
list_say w slot c e h =
    let a = (and-eq-true_iff (leb (rows_in w slot) w.state.rows.0) (every (list_in_range w slot) w.state.columns)).0 e in
    let b = every-says (list_in_range w slot) w.state.columns a.1 c h in
    leb-true _ _ ((and-eq-true_iff _ _).0 b).0

-- a column of views
record ColumnRanged (w : World) (c : ℕ) : Type 0 where
  kept : 4096 ≤ (column_of w.state c).source.current.0
  block : block_in_range w.state w.books (list_length w w.state.place c) c (column_of w.state c).block ≡ true

column_say : (w : World) (c : ℕ) → column_in_range w c ≡ true → is_views w.state c ≡ true → ColumnRanged w c
unfolding column_in_range
column_say w c e v =
    let a = (and-eq-true_iff (between 4096 (column_of w.state c).source.current.0 1048576) (block_in_range w.state w.books (list_length w w.state.place c) c (column_of w.state c).block)).0 (rw v at e) in
    record { kept = (between-says _ _ _ a.0).0; block = a.1 }

-- its open block k: a number in use, with a place in the list, and open in no column before
pub record BlockRanged (w : World) (c k : ℕ) : Type 0 where
  pub used : k < used_of w.books
  pub live : is_free (entry_of w.books k) ≡ false
  pub room : list_length w w.state.place c < w.state.lists
  pub first : (d : ℕ) → d < c → has_open w.state k d ≡ false

not_free : (books : List ℕ) (k : ℕ) → not (is_free_at books k) ≡ true → (k < used_of books) × (is_free (entry_of books k) ≡ false)
unfolding is_free_at
not_free books k = go (ltb k (used_of books)) refl (is_free (entry_of books k)) refl
  where
    go : (b : Bool) → ltb k (used_of books) ≡ b → (f : Bool) → is_free (entry_of books k) ≡ f → not (cond b f true) ≡ true → (k < used_of books) × (is_free (entry_of books k) ≡ false)
    go true e false f h = (ltb-true _ _ e, f)
    go true e true f h = absurd (true≢false (sym h))
    go false e f g h = absurd (true≢false (sym h))

not-true : (b : Bool) → not b ≡ true → b ≡ false
not-true false e = refl
not-true true e = absurd (true≢false (sym e))

block_say : (w : World) (c : ℕ) (o : Option BufferNumber) (k : BufferNumber) → block_in_range w.state w.books (list_length w w.state.place c) c o ≡ true → o ≡ Some k → BlockRanged w c k.0
block_say w c o k e q =
    let a = (and-eq-true_iff (ltb k.0 w.state.numbers) _).0 (rw q at e) in
    let b = (and-eq-true_iff (not (is_free_at w.books k.0)) _).0 a.1 in
    let d = (and-eq-true_iff (ltb (list_length w w.state.place c) w.state.lists) _).0 b.1 in
    let f = not_free w.books k.0 b.0 in
    record {
      used = f.0;
      live = f.1;
      room = ltb-true _ _ d.0;
      first = λ i l. not-true _ (every-says (λ i. not (has_open w.state k.0 i)) c d.1 i l);
    }

-- ---- the law

pub tested-run : (w : World) → tested w ≡ 0 → Bytes w.books → Run w
tested-run w e bytes = go (tested-case w)
  where
    by_range : fits_set_up w ≡ true → state_in_range w ≡ true → Run w
    by_range p q =
        let f = fits_say w p in
        let r = range_say w q in
        let t = range_counted w q in
        let s = range_says w.books w.state.numbers w.state.pool.0 r.books in
        let column : (c : ℕ) → c < w.state.columns → is_views w.state c ≡ true → ColumnRanged w c = λ c h v. column_say w c (every-says (column_in_range w) w.state.columns r.columns c h) v in
        let list : (slot c : ℕ) → slot ≤ w.state.queue → c < w.state.columns → list_length w slot c ≤ cond (is_views w.state c) w.state.lists 0 = λ slot c l h. list_say w slot c (every-says (slot_in_range w) (w.state.queue + 1) r.slots slot (omega arith)) h in
        record {
          fit =
              record {
                bounds = f.0;
                slots_are = f.1.0;
                pool_is = f.1.1.0;
                books_are = f.1.1.1;
                place = t.place;
                queued = t.queued;
                bytes = bytes;
              };
          used = s.0;
          inside = λ k h. (s.1 k h).inside;
          filled = λ k h. (s.1 k h).filled;
          lists = λ slot c l h. at_most slot c (list slot c l h) (is_views w.state c) refl;
          none = λ slot c l h v. let z : list_length w slot c ≤ 0 = rw v at (list slot c l h) in omega arith;
          kept = λ c h v. omega (arith, (column c h v).kept);
          block = λ c k h v o. (block_say w c _ k (column c h v).block o).used;
          room = λ c k h v o. (block_say w c _ k (column c h v).block o).room;
        }
      where
        at_most : (slot c : ℕ) → list_length w slot c ≤ cond (is_views w.state c) w.state.lists 0 → (x : Bool) → is_views w.state c ≡ x → list_length w slot c ≤ w.state.lists
        at_most slot c l true v = rw v at l
        at_most slot c l false v = let z : list_length w slot c ≤ 0 = rw v at l in omega arith

    go : TestedCase w → Run w
    go (not_set_up p z) = absurd (omega arith)
    go (out_of_range p q z) = absurd (omega arith)
    go (passed p q z) = by_range p q

-- and each open block is in its range
pub tested_block : (w : World) → tested w ≡ 0 → (c k : ℕ) → c < w.state.columns → is_views w.state c ≡ true → (column_of w.state c).block ≡ Some (record { 0 = k }) → BlockRanged w c k
tested_block w e c k h v o = go (tested-case w)
  where
    go : TestedCase w → BlockRanged w c k
    go (not_set_up p z) = absurd (omega arith)
    go (out_of_range p q z) = absurd (omega arith)
    go (passed p q z) =
        block_say w c _ (record { 0 = k }) (column_say w c (every-says (column_in_range w) w.state.columns (range_say w q).columns c h) v).block o
