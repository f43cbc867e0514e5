-- A block that is opened: in the pool, empty, and with room for what was asked; and bytes that go into the open one.
use Rattle.std.specs.Prelude.{ℕ, ◌+◌, ◌*◌, ◌≤◌, ◌<◌, ◌^◌, ◌≡◌, refl, true, List, [], ◌∷◌, length, leb, ltb}
use Rattle.std.proofs.Common.{◌∙◌, mul-le-mul, leb-true}
use Rattle.std.proofs.Math.Path.{ap}
use native.Mathlib.Omega.{arith}
use Rattle.std.proofs.Math.Nat.{pow-le-pow_right}
use Rattle.search.specs.Cases.{by_cond}
use Rattle.counts.specs.declared.ByteSum.{ByteSum}
use Rattle.blocks.specs.declared.BufferSource.{BufferSource}
use Rattle.blocks.specs.Block.{top, doubled, doublings, grown, kept, asked}
use Rattle.books.specs.declared.Entry.{Entry}
use Rattle.books.specs.Entry.{used_of, entry_of}
use Rattle.listings.specs.Listing.{taken}
use Rattle.sound.specs.Change.{Changed}
use Rattle.room.specs.declared.Room.{Room}
use Rattle.room.specs.Room.{block_room, entry_at, taken_for, opened_as, opened}
use Rattle.room.specs.RoomLaws.{Found-room, room_says, block_says}
use Rattle.state.specs.declared.Column.{Column}
use Rattle.state.specs.World.{World, column_of}
use Rattle.state.specs.Layout.{is_views, list_length}
use Rattle.rules.specs.Batch.{Batch}
use Rattle.rules.specs.Copies.{starts_fit}
use Rattle.rules.specs.CopyLaws.{length-views_put, length-bytes_carried}
use Rattle.rules.specs.Steps.{ok, with_column, in_state, in_books}
use Rattle.rules.specs.Views.{span, filling, has_block, block_number, is_open, open_number, open_filled, open_rest, opening, block_opened, views_from, long_before, views_compacted}
use Rattle.rules.specs.Held.{Among, one_of, Holds, held, refused, holds_more, holds_cond, holds_ok, holds_among}
use Rattle.rules.specs.Stays.{same_refl}
use Rattle.rules.proofs.PartLaws.{block_among}
use Rattle.push_safety.specs.Run.{Run, Goes}
use Rattle.push_safety.specs.TestedLaws.{bounds_say}
use Rattle.push_safety.specs.BooksGo.{taken_at, taken_go, taken_in, length_at, length_go}
use Rattle.push_safety.specs.Firm.{run_firm, same_list_length, goes_trans, within_goes}
use Rattle.push_safety.specs.StepGoes.{column-new, with_column_goes}
use Rattle.push_safety.specs.BlockGoes.{open_used, open_capacity}
use Rattle.std.specs.Prelude.{Some, Result, Ok, Err}

-- ---- sizes

doubled-some : (size : ℕ) → 1 ≤ size → 1 ≤ doubled size
unfolding doubled
doubled-some size h = by_cond (λ (k : ℕ). 1 ≤ k) (ltb size top) (λ q. omega arith) (λ q. h)

grown-some : (size min : ℕ) → 1 ≤ size → 1 ≤ grown size min
unfolding grown
grown-some size min h =
    let p : 2 ^ 0 ≤ 2 ^ doublings size min = pow-le-pow_right (omega arith) {i = 0} {j = doublings size min} (omega arith) in
    let q : 1 * 2 ^ 0 ≤ size * 2 ^ doublings size min = mul-le-mul h p in
    omega arith

pub kept-some : (size min : ℕ) → 1 ≤ size → 1 ≤ kept size min
unfolding kept
kept-some size min h =
    by_cond (λ (k : ℕ). 1 ≤ k) (ltb (doubled size) min) (λ q. grown-some (doubled size) min (doubled-some size h)) (λ q. doubled-some size h)

-- what is asked keeps a size that is not 0, and gives the minimum at least
pub asked-some : (source : BufferSource) (min : ByteSum) → 1 ≤ source.current.0 → 1 ≤ (asked source min).source.current.0
unfolding asked
asked-some source min h = kept-some source.current.0 min.0 h

pub asked_most : (source : BufferSource) (min : ByteSum) → min.0 ≤ (asked source min).size.0
unfolding asked
asked_most source min = omega arith

-- ---- opening

-- a world with a new block in column c: it is open, empty, and has room for the minimum
pub record Opened (w : World) (c min : ℕ) (v : World) : Type 0 where
  pub goes : Goes w v
  pub is_open_lem : is_open v c ≡ true
  pub empty : open_filled v c ≡ 0
  pub rest : min ≤ open_rest v c

module _ (w : World) (c min : ℕ) (r : Run w) (h : c < w.state.columns) (y : is_views w.state c ≡ true) (l : list_length w (filling w) c + 1 ≤ w.state.lists) where
  abbrev source : BufferSource
  source = (asked (column_of w.state c).source (record { 0 = min })).source

  abbrev size : ℕ
  size = (asked (column_of w.state c).source (record { 0 = min })).size.0

  module _ (room : Room) (f : Found-room w.books w.state.numbers (length w.pool) size room) where
    abbrev k : ℕ
    k = room.number.0

    abbrev t : List ℕ
    t = taken w.books k (entry_at room.start size 0 0 1)

    fits : room.start + size ≤ w.state.pool.0
    fits = omega (arith, f.gap.fits, r.fit.pool_is)

    small : w.state.pool.0 < 2 ^ 32
    small = omega (arith, (bounds_say w.state r.fit.bounds).pool)

    changed : Changed w.books t w.state.numbers k (entry_at room.start size 0 0 1)
    changed = taken_at k room.start size (run_firm r).books f.number.below fits small

    booked : Goes w (in_books w t)
    booked = within_goes w (in_books w t) refl refl refl (taken_go k room.start size (run_firm r).books f.number fits small) changed.framed r

    abbrev v : World
    v = in_state (in_books w t) (with_column w.state c source (Some room.number))

    goes : Goes w v
    goes =
        goes_trans booked
        (with_column_goes c source (Some room.number) booked.run
        (λ p q. asked-some (column_of w.state c).source (record { 0 = min }) (r.kept c h y))
        (λ n q.
        let e : room.number ≡ n = cc in (
          rw (← e) (taken_in k _ (run_firm r).books f.number.below),
          omega (arith, same_list_length w (in_books w t) (same_refl w.state) changed.framed w.state.place c),
        )))

    block : (column_of v.state c).block ≡ Some room.number
    block = ap (λ (x : Column). x.block) (column-new w.state c source (Some room.number) y)

    number : open_number v c ≡ k
    unfolding open_number
    number = ap block_number block

    entry : entry_of v.books (open_number v c) ≡ entry_at room.start size 0 0 1
    entry = ap (entry_of t) number ∙ changed.same

    empty : open_filled v c ≡ 0
    unfolding open_filled
    empty = ap (λ (x : Entry). x.length.0) entry

    rest : min ≤ open_rest v c
    unfolding open_rest
    rest =
        omega (
          arith,
          empty,
          ap (λ (x : Entry). x.capacity.0) entry,
          asked_most (column_of w.state c).source (record { 0 = min }),
        )

    done : Opened w c min v
    done = record { goes = goes; is_open_lem = ap has_block block; empty = empty; rest = rest }

pub opened_anew : (w : World) (c min : ℕ) → Run w → c < w.state.columns → is_views w.state c ≡ true → Holds (Opened w c min) (Among (10 ∷ 11 ∷ 12 ∷ 14 ∷ [])) (block_opened w c min)
unfolding block_opened opened opened_as
opened_anew w c min r h y =
    holds_cond (leb (list_length w (filling w) c + 1) w.state.lists)
    (λ l. holds_among (10 ∷ 11 ∷ 12 ∷ 14 ∷ []) tt (go (leb-true _ _ l) (block_room w.books w.state.numbers (length w.pool) s) refl))
    (λ l. refused (one_of (10 ∷ 11 ∷ 12 ∷ 14 ∷ []) 10 tt))
  where
    s : ℕ
    s = (asked (column_of w.state c).source (record { 0 = min })).size.0

    go : list_length w (filling w) c + 1 ≤ w.state.lists → (a : Result Room ℕ) → block_room w.books w.state.numbers (length w.pool) s ≡ a → Holds (Opened w c min) (Among (11 ∷ 12 ∷ 14 ∷ [])) (opening w c min (taken_for w.books s 0 1 a))
    go l (Err n) e = refused (block_among w.books w.state.numbers (length w.pool) s n e)
    go l (Ok room) e = held (done w c min r h y l room (room_says w.books w.state.numbers (length w.pool) s room (block_says w.books w.state.numbers (length w.pool) s room e).chooses))

pub opened_goes : (w : World) (c min : ℕ) → Run w → c < w.state.columns → is_views w.state c ≡ true → Holds (Goes w) (Among (10 ∷ 11 ∷ 12 ∷ 14 ∷ [])) (block_opened w c min)
opened_goes w c min r h y = holds_more (opened_anew w c min r h y) (λ v e. e.goes) (λ n m. m)

-- of a result that is known
pub opened-rest : (w : World) (c min : ℕ) (v : World) → Run w → c < w.state.columns → is_views w.state c ≡ true → block_opened w c min ≡ ok v → Opened w c min v
opened-rest w c min v r h y e = holds_ok v (opened_anew w c min r h y) e

-- ---- bytes into the open block

pub compacted_goes : (w : World) (b : Batch) (c at from n : ℕ) → Run w → c < w.state.columns → is_views w.state c ≡ true → is_open w c ≡ true → long_before w b c from n ≤ open_rest w c → Holds (Goes w) (Among (8 ∷ [])) (views_compacted w b (span c at from n))
unfolding views_compacted
compacted_goes w b c at from n r h y o l =
    holds_cond (starts_fit (views_from w b c from) (open_filled w c) n)
    (λ f. held (within_goes w _ refl (length-views_put _ w.slots _ n) (length-bytes_carried _ _ w.pool _ n) (length_go k x (run_firm r).books u fits) (length_at k x (run_firm r).books u fits).framed r))
    (λ f. refused (one_of (8 ∷ []) 8 tt))
  where
    k : ℕ
    k = open_number w c

    x : ℕ
    x = open_filled w c + long_before w b c from n

    u : k < used_of w.books
    u = open_used c r h y o

    fits : x ≤ (entry_of w.books k).capacity.0
    fits = omega (arith, open_capacity c r h y o)
