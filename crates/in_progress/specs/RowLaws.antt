-- A part of a column copied, the way that was decided: the calls of the code, and its ways out.
use Rattle.std.specs.Prelude.{ℕ, ◌+◌, ◌*◌, ◌-◌, ◌≡◌, refl, Bool, true, false, List, length}
use Rattle.std.proofs.Common.{sym, ◌∙◌, arith, mul-le-mul_right}
use Rattle.std.proofs.Math.Path.{ap}
use Rattle.words.specs.Run.{read, lay}
use Rattle.bits.specs.Bits.{appended}
use Rattle.byte_view.specs.declared.Source.{Source}
use Rattle.primitive.specs.declared.Rows.{Rows}
use Rattle.primitive.specs.Fits.{bits_of, rows_laid}
use Rattle.primitive.specs.LaidLaws.{bits-copied}
use Rattle.primitive.specs.Placed.{Placed}
use Rattle.primitive.specs.PlacedLaws.{begin_at, placed_copied}
use Rattle.rules.specs.declared.ColumnRecord.{ColumnRecord}
use Rattle.rules.specs.declared.Way.{Way}
use Rattle.rules.specs.Batch.{Batch, batch, record_of, has_bitmap, ideal}
use Rattle.rules.specs.Views.{span, bits_copied, by_way, part_compacted}
use Rattle.rules.specs.SameLaws.{same-ideal}
use Rattle.rules.proofs.PartLaws.{bits_beside}
use Rattle.state.specs.declared.BatchCoalescer.{BatchCoalescer}
use Rattle.state.specs.World.{World, world}
use Rattle.state.specs.Layout.{width_of, is_views, bitmap_bytes}
use Rattle.rules.specs.declared.Step.{Step}
use Rattle.rules.specs.Steps.{ok}
use Rattle.rules.specs.Leaves.{Steps, steps-done}
use Rattle.push_safety.specs.StepGoes.{bits_goes}
use Rattle.push_safety.specs.Along.{Along}
use Rattle.in_progress.specs.Part.{Part, ViewPart, AnyPart, Decided, AttachesPart, copied_by}
use Rattle.in_progress.specs.AskLaws.{part_few, part_slot}
use Rattle.in_progress.specs.AlongLaws.{part_on, any_part}

module _ {s : BatchCoalescer} {slots pool books records body : List ℕ} {rows : ℕ} {r : ColumnRecord} {p : Rows} (x : Part (world s slots pool books) (batch rows records body) r p) where
  abbrev w : World
  w = world s slots pool books

  abbrev b : Batch
  b = batch rows records body

  -- what copying bits and values asks
  pub part_placed : Placed s s.place (length slots) r (length body) p
  part_placed =
      record {
        few = part_few x;
        in_slots_lem = part_slot x;
        in_columns = x.column;
        slots_are = x.run.fit.slots_are;
        placed = x.placed;
        room = x.room;
        bits = λ t.
            let y : has_bitmap (record_of b p.column) ≡ true = rw x.recorded at t in
            rw x.recorded (omega (arith, (x.reads.columns p.column x.column).bits y, x.there));
        values =
            rw x.recorded
            (omega (arith, (x.reads.columns p.column x.column).values, mul-le-mul_right {m = p.from + p.count.0} {n = rows} (width_of s p.column) x.there));
      }

  module _ {width : ℕ} (we : width ≡ width_of s p.column) {size : ℕ} (e : size ≡ bitmap_bytes s) where
    -- copied as they stand: where no state is handed back, and where one is
    pub rows_plain : {slots'' : List ℕ} → slots'' ≡ rows_laid (p.place + s.rows.0 * width) size r body width p slots → copied_by w b p Way.Copied ≡ ok (world s slots'' pool books)
    unfolding copied_by bits_copied
    rows_plain z = ap ok (placed_copied part_placed we e slots pool books rows records body x.recorded z)

    pub rows-copied : {y : Way} {slots'' : List ℕ} → y ≡ Way.Copied → slots'' ≡ rows_laid (p.place + s.rows.0 * width) size r body width p slots → Steps (copied_by w b p y) (record { state = s; number = 0 }) slots'' pool books
    rows-copied f z = steps-done (ap (copied_by w b p) f ∙ rows_plain z)

    module _ {slots' : List ℕ} (q : slots' ≡ lay (p.place + s.rows.0 * width) (appended (read (p.place + s.rows.0 * width) size slots) p.at (bits_of r body p.from) p.count.0) slots) where
      v : world s slots' pool books ≡ bits_copied w b s.place (span p.column p.at p.from p.count.0)
      v = bits-copied s slots pool books rows records body p.column s.place p.at p.from p.count.0 x.recorded (begin_at part_placed we) e q

      on : Along w (world s slots' pool books)
      on =
          rw v
          (record {
            goes = bits_goes b p.column s.place p.at p.from p.count.0 x.run;
            beside = bits_beside w b p.column s.place p.at p.from p.count.0;
          })

      bits_part : Part (world s slots' pool books) b r p
      bits_part = part_on on x

      copied_by_lem : (y : Way) → copied_by w b p y ≡ by_way (world s slots' pool books) b (span p.column p.at p.from p.count.0) y
      unfolding copied_by
      copied_by_lem y = rw v

      module _ {source : Source} (d : Decided w b p.column source) where
        views_so : (source.way ≡ Way.Copied → ⊥) → is_views s p.column ≡ true
        views_so h = go (is_views s p.column) refl
          where
            go : (z : Bool) → is_views s p.column ≡ z → is_views s p.column ≡ true
            go true e = e
            go false e = absurd (h (d.plain e))

        -- attached
        module _ (f : source.way ≡ Way.Attached) where
          not_copied : source.way ≡ Way.Copied → ⊥
          not_copied z = let g : Way.Attached ≡ Way.Copied = sym f ∙ z in let a : ◌≡◌ {A = ℕ} 0 1 = cc in omega arith

          pub rows_any : AnyPart s slots' books b r p
          rows_any = any_part (record { part = bits_part; views = views_so not_copied })

          pub rows_attached : {t : Step} {slots'' books'' : List ℕ} → AttachesPart s slots' books b p t slots'' books'' → Steps (copied_by w b p source.way) t slots'' pool books''
          rows_attached a = rw (copied_by_lem source.way, f) (a.steps pool x.run.fit.pool_is)

        -- compacted
        module _ (f : source.way ≡ Way.Compacted) where
          not_copied' : source.way ≡ Way.Copied → ⊥
          not_copied' z = let g : Way.Compacted ≡ Way.Copied = sym f ∙ z in let a : ◌≡◌ {A = ℕ} 0 1 = cc in omega arith

          pub rows_views : ViewPart (world s slots' pool books) b r p
          rows_views = record { part = bits_part; views = views_so not_copied' }

          pub rows-ideal : source.ideal.0 ≡ ideal (world s slots' pool books) b p.column
          rows-ideal = d.ideal_is (views_so not_copied') ∙ sym (same-ideal w (world s slots' pool books) b on.beside.set_up p.column)

          pub rows_compacted : {t : Step} {slots'' pool'' books'' : List ℕ} → Steps (part_compacted (world s slots' pool books) b (span p.column p.at p.from p.count.0)) t slots'' pool'' books'' → Steps (copied_by w b p source.way) t slots'' pool'' books''
          rows_compacted a = rw (copied_by_lem source.way, f) a
