-- A part that may be copied still may when other steps of the push have been done.
use Rattle.std.specs.Prelude.{ℕ, ◌+◌, ◌*◌, ◌-◌, ◌≤◌, ◌≡◌, refl, List, length}
use Rattle.std.proofs.Common.{sym, ◌∙◌, ap}
use native.Mathlib.Omega.{arith}
use Rattle.words.specs.FrameLaws.{framed_refl}
use Rattle.primitive.specs.declared.Rows.{Rows}
use Rattle.rules.specs.declared.ColumnRecord.{ColumnRecord}
use Rattle.rules.specs.Batch.{Batch, ideal}
use Rattle.rules.specs.Steps.{ok}
use Rattle.rules.specs.Views.{closed, block_opened}
use Rattle.rules.specs.Held.{holds_ok}
use Rattle.rules.specs.Stays.{beside_state}
use Rattle.rules.specs.SameLaws.{same_values_place, same_long_before}
use Rattle.rules.proofs.PartLaws.{closed_beside, opened_holds, views_holds}
use Rattle.state.specs.declared.BatchCoalescer.{BatchCoalescer}
use Rattle.state.specs.World.{World, world}
use Rattle.state.specs.Layout.{values_place}
use Rattle.push_safety.specs.BooksGo.{go_refl}
use Rattle.push_safety.specs.Firm.{run_firm, within_goes}
use Rattle.push_safety.specs.BlockGoes.{closed_goes}
use Rattle.push_safety.specs.OpenGoes.{opened_anew, compacted_goes}
use Rattle.push_safety.specs.Along.{Along, along_in, along_views}
use Rattle.push_safety.specs.SumLaws.{before_more, part_ideal}
use Rattle.in_progress.specs.Part.{Part, ViewPart, AnyPart, RoomInOpen, first_rows, rows_behind, long_of, compacting}

-- ---- from one world to a later one

place_same : {w v : World} (p : Rows) → Along w v → values_place v.state v.state.place p.column ≡ values_place w.state w.state.place p.column
place_same {w} {v} p a =
    ap (λ (x : ℕ). values_place v.state x p.column) a.beside.place ∙ same_values_place a.beside.set_up w.state.place p.column

module _ {w v : World} {b : Batch} {r : ColumnRecord} {p : Rows} (a : Along w v) where
  pub part_on : Part w b r p → Part v b r p
  part_on x =
      record {
        run = a.goes.run;
        reads = a.goes.reads b x.reads;
        column = along_in a.beside p.column x.column;
        recorded = x.recorded;
        placed = x.placed ∙ sym (place_same p a);
        there = x.there;
        room = omega (arith, x.room, ap (λ y. y.0) a.beside.set_up.rows);
      }

  pub views_on : ViewPart w b r p → ViewPart v b r p
  views_on x = record { part = part_on x.part; views = along_views a.beside p.column x.views }

pub long_on : {w v : World} (b : Batch) (p : Rows) → Along w v → long_of v b p ≡ long_of w b p
unfolding long_of
long_on {w} {v} b p a = same_long_before w v b a.beside.set_up p.column p.from p.count.0

-- ---- other rows of the part

module _ {w : World} {b : Batch} {r : ColumnRecord} {p : Rows} (x : ViewPart w b r p) (k : ℕ) (h : k ≤ p.count.0) where
  pub first_part : ViewPart w b r (first_rows p k)
  first_part =
      record {
        part =
            record {
              run = x.part.run;
              reads = x.part.reads;
              column = x.part.column;
              recorded = x.part.recorded;
              placed = x.part.placed;
              there = omega (arith, x.part.there);
              room = omega (arith, x.part.room);
            };
        views = x.views;
      }

  pub behind_part : ViewPart w b r (rows_behind p k)
  behind_part =
      record {
        part =
            record {
              run = x.part.run;
              reads = x.part.reads;
              column = x.part.column;
              recorded = x.part.recorded;
              placed = x.part.placed;
              there = omega (arith, x.part.there);
              room = omega (arith, x.part.room);
            };
        views = x.views;
      }

  pub long_both : long_of w b p ≡ long_of w b (first_rows p k) + long_of w b (rows_behind p k)
  unfolding long_of
  long_both =
      let e : k + (p.count.0 - k) ≡ p.count.0 = omega arith in
      rw e at (before_more w b p.column p.from k (p.count.0 - k))

-- no more bytes than ideal
pub long-ideal : {w : World} {b : Batch} {r : ColumnRecord} {p : Rows} → ViewPart w b r p → long_of w b p ≤ ideal w b p.column
unfolding long_of
long-ideal {w} {b} {r} {p} x = part_ideal w b p.column p.from p.count.0 x.part.there

-- ---- the steps

module _ {w : World} {b : Batch} {r : ColumnRecord} {p : Rows} (x : ViewPart w b r p) where
  pub closed_along : Along w (closed w p.column)
  closed_along =
      record { goes = closed_goes w p.column x.part.run x.part.column x.views; beside = closed_beside w p.column }

  -- a new block has room for what it was opened for
  pub opened-fits : (min : ℕ) (v : World) → block_opened w p.column min ≡ ok v → long_of w b p ≤ min → RoomInOpen v b r p
  opened-fits min v e l =
      let o = holds_ok v (opened_anew w p.column min x.part.run x.part.column x.views) e in
      let a : Along w v = record { goes = o.goes; beside = holds_ok v (opened_holds w p.column min) e } in
      record { part = views_on a x; is_open_lem = o.is_open_lem; rest = omega (arith, o.rest, long_on b p a) }

pub compacted_along : {w : World} {b : Batch} {r : ColumnRecord} {p : Rows} (v : World) → RoomInOpen w b r p → compacting w b p ≡ ok v → Along w v
unfolding compacting long_of
compacted_along {w} {b} {r} {p} v x e =
    record {
      goes =
          holds_ok v
          (compacted_goes w b p.column p.at p.from p.count.0 x.part.part.run x.part.part.column x.part.views x.is_open_lem x.rest)
          e;
      beside = holds_ok v (views_holds w b p.column p.at p.from p.count.0) e;
    }

-- ---- any pool

pub any_part : {s : BatchCoalescer} {slots pool books : List ℕ} {b : Batch} {r : ColumnRecord} {p : Rows} → ViewPart (world s slots pool books) b r p → AnyPart s slots books b r p
any_part {s} {slots} {pool} {books} x =
    record { any = λ y e. views_on (along y (e ∙ sym x.part.run.fit.pool_is)) x }
  where
    along : (y : List ℕ) → length y ≡ length pool → Along (world s slots pool books) (world s slots y books)
    along y q =
        record {
          goes = within_goes (world s slots pool books) (world s slots y books) refl refl q (go_refl (run_firm x.part.run).books) (framed_refl 0 (4 + 20 * s.numbers) books) x.part.run;
          beside = beside_state (world s slots pool books) (world s slots y books) refl refl q refl;
        }
