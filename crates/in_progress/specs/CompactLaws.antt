-- A part compacted: the calls of the code, and its ways out.
use Rattle.std.specs.Prelude.{ℕ, ◌+◌, ◌*◌, ◌-◌, ◌≤◌, ◌<◌, ◌≡◌, ◌≢◌, true, List, length}
use Rattle.std.proofs.Math.Path.{sym, ap}
use Rattle.std.proofs.Common.{◌∙◌, arith}
use borrow.Author.Tests.{le-leb, lt-leb}
use Rattle.counts.specs.declared.BufferNumber.{BufferNumber}
use Rattle.books.specs.Entry.{entry_of}
use Rattle.primitive.specs.declared.Rows.{Rows}
use Rattle.byte_view.specs.declared.Walked.{Walked}
use Rattle.byte_view.specs.Copying.{walk_rows, walk_of}
use Rattle.byte_view.specs.RuleLaws.{walked_is}
use Rattle.rules.specs.declared.ColumnRecord.{ColumnRecord}
use Rattle.rules.specs.Batch.{Batch, batch, value_place, ideal}
use Rattle.rules.specs.Copies.{views_at, long_to}
use Rattle.rules.specs.Steps.{ok}
use Rattle.rules.specs.Views.{span, has_block, is_open, open_rest, closed, block_opened, part_compacted}
use Rattle.state.specs.declared.BatchCoalescer.{BatchCoalescer}
use Rattle.state.specs.declared.Column.{Column}
use Rattle.state.specs.World.{World, world, column_of}
use Rattle.state.proofs.LayoutLaws.{views_width}
use Rattle.rules.specs.declared.Step.{Step}
use Rattle.rules.specs.Leaves.{Steps, steps-done, steps_next, steps_stop}
use Rattle.columns.specs.SourceLaws.{rest-answer}
use Rattle.push_safety.specs.Along.{Along}
use Rattle.push_safety.specs.BlockGoes.{open_entry}
use Rattle.push_safety.specs.CallerLaws.{run_bounds, values_room}
use Rattle.push_safety.specs.SumLaws.{walked_most, walked-rest}
use Rattle.open_blocks.specs.Open.{Booked, FillingViews, ClosesBlock, OpensBlock}
use Rattle.in_progress.specs.Part.{ViewPart, RoomInOpen, Walks, first_rows, rows_behind, long_of, compacting, opened_for, walked_of, walked_on}
use Rattle.open_blocks.specs.AskLaws.{run-booked}
use Rattle.in_progress.specs.AlongLaws.{views_on, long_on, first_part, behind_part, long_both, long-ideal, closed_along, opened-fits, compacted_along}
use Rattle.std.specs.Prelude.{Option, Some, None}

-- ---- open_and_copy

module _ {s : BatchCoalescer} {slots pool books : List ℕ} {b : Batch} {r : ColumnRecord} {p : Rows} (x : ViewPart (world s slots pool books) b r p) where
  abbrev w : World
  w = world s slots pool books

  pub part_booked : (Booked s books) × (p.column < s.columns) × (Rattle.state.specs.Layout.is_views s p.column ≡ true)
  part_booked = (run-booked x.part.run, x.part.column, x.views)

  pub part_ready : FillingViews s slots books p.column
  part_ready =
      record { booked = run-booked x.part.run; slots_are = x.part.run.fit.slots_are; column = x.part.column; views = x.views }

  module _ {min : ℕ} (l : long_of w b p ≤ min) {q : Step} {books' : List ℕ} (o : OpensBlock s books p.column min q books') where
    step : Steps (block_opened w p.column min) q slots pool books'
    step = o.steps slots pool x.part.run.fit.pool_is

    pub next_fits : q.number ≡ 0 → RoomInOpen (world q.state slots pool books') b r p
    next_fits e = opened-fits x min (world q.state slots pool books') (step.done e) l

    pub next-copied : {slots' pool' books'' : List ℕ} → q.number ≡ 0 → compacting (world q.state slots pool books') b p ≡ ok (world q.state slots' pool' books'') → Steps (opened_for w b min p) (record { state = q.state; number = 0 }) slots' pool' books''
    unfolding opened_for
    next-copied e f = steps_next (λ v. compacting v b p) step e (steps-done f)

    pub next_stops : q.number ≢ 0 → Steps (opened_for w b min p) q slots pool books'
    unfolding opened_for
    next_stops n = steps_stop (λ v. compacting v b p) step n

-- ---- move_and_copy

module _ {s : BatchCoalescer} {slots pool books : List ℕ} {b : Batch} {r : ColumnRecord} {p : Rows} (x : ViewPart (world s slots pool books) b r p) {t : BatchCoalescer} {slots' books' : List ℕ} (c : ClosesBlock s slots books p.column t slots' books') where
  shut : Along (world s slots pool books) (world t slots' pool books')
  shut = rw (c.is pool) at (closed_along x)

  pub moved_part : ViewPart (world t slots' pool books') b r p
  moved_part = views_on shut x

  pub moved-long : {min : ℕ} → long_of (world s slots pool books) b p ≤ min → long_of (world t slots' pool books') b p ≤ min
  moved-long l = omega (arith, long_on b p shut)

  pub moved-steps : (min : ℕ) {q : Step} {slots'' pool'' books'' : List ℕ} → Steps (opened_for (world t slots' pool books') b min p) q slots'' pool'' books'' → Steps (opened_for (closed (world s slots pool books) p.column) b min p) q slots'' pool'' books''
  moved-steps min z = rw (c.is pool) z

-- ---- walk_on

module _ {s : BatchCoalescer} {slots pool books records body : List ℕ} {rows : ℕ} {r : ColumnRecord} {p : Rows} {ideal rest : ℕ} (x : Walks (world s slots pool books) (batch rows records body) r p ideal rest) where
  abbrev b : Batch
  b = batch rows records body

  abbrev v : World
  v = world s slots pool books

  value_at : value_place v b p.column p.from ≡ r.values + p.from * 16
  unfolding value_place
  value_at = rw (views_width s p.column x.part.views, x.part.part.recorded)

  pub walk_few : p.count.0 ≤ 65536
  walk_few = omega (arith, x.part.part.room, (run_bounds x.part.part.run).rows)

  pub walk_at : p.at + p.count.0 ≤ 65536
  walk_at = omega (arith, x.part.part.room, (run_bounds x.part.part.run).rows)

  pub walk_from : p.from + p.count.0 ≤ 65536
  walk_from = omega (arith, x.part.part.there, x.part.part.reads.rows_fit, (run_bounds x.part.part.run).rows)

  pub walk_read : r.values + p.from * 16 + p.count.0 * 16 ≤ length body
  walk_read =
      let l = values_room x.part.part.reads p.column p.from p.count.0 x.part.part.column x.part.part.there in
      rw (views_width s p.column x.part.views, value_at) at l

  module _ {k : Walked} (e : k ≡ walk_of (views_at body (r.values + p.from * 16)) p.count.0 rest) where
    unwalk : k.rows.0 ≡ walk_rows (views_at body (r.values + p.from * 16)) p.count.0 rest
    unfolding walk_of
    unwalk = ap (λ (z : Walked). z.rows.0) e

    walk_rows_lem : k.rows.0 ≡ walked_of v b rest p
    unfolding walked_of
    walk_rows_lem = unwalk ∙ ap (λ (n : ℕ). walk_rows (views_at body n) p.count.0 rest) (sym value_at) ∙ sym (walked_is v b p.column (views_width s p.column x.part.views) p.from p.count.0 rest)

    unbytes : k.bytes.0 ≡ long_to (views_at body (r.values + p.from * 16)) k.rows.0
    unfolding walk_of
    unbytes = ap (λ (z : Walked). z.bytes.0) e ∙ ap (long_to (views_at body (r.values + p.from * 16))) (sym unwalk)

    walk_bytes : k.bytes.0 ≡ long_of v b (first_rows p k.rows.0)
    unfolding long_of
    walk_bytes =
        unbytes
        ∙ ap (λ (n : ℕ). long_to (views_at body n) k.rows.0) (sym value_at)
        ∙ sym (Rattle.byte_view.specs.RuleLaws.long_before_is v b p.column (views_width s p.column x.part.views) p.from k.rows.0)

    most : k.rows.0 ≤ p.count.0
    unfolding walked_of
    most = omega (arith, walk_rows_lem, walked_most v b p.column p.from p.count.0 rest)

    fit : long_of v b (first_rows p k.rows.0) ≤ open_rest v p.column
    unfolding long_of walked_of
    fit = rw (walk_rows_lem) (omega (arith, walked-rest v b p.column p.from p.count.0 rest, x.rest_is))

    module _ {first behind : Rows} (f : first ≡ first_rows p k.rows.0) (g : behind ≡ rows_behind p k.rows.0) where
      pub walk_fits : RoomInOpen v b r first
      walk_fits = rw f (record { part = first_part x.part k.rows.0 most; is_open_lem = x.is_open_lem; rest = fit })

      module _ {slots' pool' books' : List ℕ} (o : compacting v b first ≡ ok (world s slots' pool' books')) where
        on : Along v (world s slots' pool' books')
        on = compacted_along (world s slots' pool' books') walk_fits o

        pub walk_behind : ViewPart (world s slots' pool' books') b r behind
        walk_behind = rw g (views_on on (behind_part x.part k.rows.0 most))

        left-long : long_of v b (rows_behind p k.rows.0) ≤ ideal - k.bytes.0
        left-long = omega (arith, long_both x.part k.rows.0 most, long-ideal x.part, x.ideal_is, walk_bytes)

        pub walk_left : long_of (world s slots' pool' books') b behind ≤ ideal - k.bytes.0
        walk_left = rw g (omega (arith, left-long, long_on b (rows_behind p k.rows.0) on))

        pub walk_steps : {q : Step} {slots'' pool'' books'' : List ℕ} → Steps (opened_for (closed (world s slots' pool' books') behind.column) b (ideal - k.bytes.0) behind) q slots'' pool'' books'' → Steps (walked_on v b ideal rest p) q slots'' pool'' books''
        unfolding walked_on
        walk_steps {q} {slots''} {pool''} {books''} z = rw (← walk_rows_lem, ← walk_bytes, ← f, o) (rw g at z)

-- ---- compact

module _ {s : BatchCoalescer} {slots pool books : List ℕ} {b : Batch} {r : ColumnRecord} {p : Rows} (x : ViewPart (world s slots pool books) b r p) {n : ℕ} (i : n ≡ ideal (world s slots pool books) b p.column) {block : Column} (e : block ≡ column_of s p.column) where
  abbrev u : World
  u = world s slots pool books

  open_is : {o : Option BufferNumber} → block.block ≡ o → is_open u p.column ≡ has_block o
  open_is q = ap has_block (sym (ap (λ (z : Column). z.block) e) ∙ q)

  pub compact_long : long_of u b p ≤ n
  compact_long = omega (arith, long-ideal x)

  none_open : block.block ≡ None → part_compacted u b (span p.column p.at p.from p.count.0) ≡ opened_for u b n p
  unfolding part_compacted opened_for compacting
  none_open q = rw (open_is q, i)

  pub compact_new : {q : Step} {slots' pool' books' : List ℕ} → block.block ≡ None → Steps (opened_for u b n p) q slots' pool' books' → Steps (part_compacted u b (span p.column p.at p.from p.count.0)) q slots' pool' books'
  compact_new q z = rw (none_open q) z

  module _ {k : BufferNumber} (q : block.block ≡ Some k) where
    pub compact_entry : 24 + 20 * k.0 ≤ length books
    compact_entry =
        let l = open_entry p.column x.part.run x.part.column x.views (open_is q) in
        rw (number) at l
      where
        number : Rattle.rules.specs.Views.open_number u p.column ≡ k.0
        number = Rattle.in_progress.specs.StringLaws.open_number_at s slots pool books p.column (sym (ap (λ (z : Column). z.block) e) ∙ q)

    module _ {rest : ℕ} (m : rest ≡ (entry_of books k.0).capacity.0 - (entry_of books k.0).length.0) where
      rest_at : rest ≡ open_rest u p.column
      rest_at = rest-answer s slots pool books p.column (sym (ap (λ (z : Column). z.block) e) ∙ q) m

      pub compact_fits : n ≤ rest → RoomInOpen u b r p
      compact_fits h = record { part = x; is_open_lem = open_is q; rest = omega (arith, compact_long, rest_at) }

      pub compact_walks : rest < n → Walks u b r p n rest
      compact_walks h = record { part = x; is_open_lem = open_is q; ideal_is = i; rest_is = rest_at; short = h }

      fits_open : n ≤ rest → part_compacted u b (span p.column p.at p.from p.count.0) ≡ compacting u b p
      unfolding part_compacted compacting
      fits_open h = rw (open_is q, ← i, ← rest_at, le-leb n rest h)

      splits : rest < n → part_compacted u b (span p.column p.at p.from p.count.0) ≡ walked_on u b n rest p
      unfolding part_compacted walked_on opened_for compacting walked_of long_of
      splits h = rw (open_is q, ← i, ← rest_at, lt-leb n rest h)

      pub compact_copied : {slots' pool' books' : List ℕ} → n ≤ rest → compacting u b p ≡ ok (world s slots' pool' books') → Steps (part_compacted u b (span p.column p.at p.from p.count.0)) (record { state = s; number = 0 }) slots' pool' books'
      compact_copied h z = steps-done (fits_open h ∙ z)

      pub compact_walked : {y : Step} {slots' pool' books' : List ℕ} → rest < n → Steps (walked_on u b n rest p) y slots' pool' books' → Steps (part_compacted u b (span p.column p.at p.from p.count.0)) y slots' pool' books'
      compact_walked h z = rw (splits h) z
