-- A part of every column, one after another, the way that was decided of each; and what may stand behind it.
use Rattle.std.specs.Prelude.{ℕ, zero, suc, ◌+◌, ◌*◌, ◌≤◌, ◌<◌, ◌≡◌, refl, List, [], length, get_or}
use Rattle.std.proofs.Math.Path.{sym, ap}
use Rattle.std.proofs.Common.{◌∙◌, arith}
use Rattle.std.proofs.Math.Decide.{dec_lt}
use Rattle.state.specs.declared.BatchCoalescer.{BatchCoalescer}
use Rattle.state.specs.World.{World, world, column_of, no_column}
use Rattle.kinds.specs.Kind.{width_at}
use Rattle.state.specs.Layout.{bytes_in, width_of, values_place}
use Rattle.layout.specs.Few.{Few}
use Rattle.primitive.specs.declared.Rows.{Rows}
use Rattle.primitive.specs.LaidLaws.{record_any}
use Rattle.rules.specs.declared.ColumnRecord.{ColumnRecord}
use Rattle.rules.specs.declared.Way.{Way}
use Rattle.rules.specs.Batch.{Batch, batch, record_of}
use Rattle.rules.specs.Steps.{Res, ok, refuse, bind, for_each, with_counts, buffering}
use Rattle.rules.specs.Views.{column_copied, part_copied}
use Rattle.rules.specs.Push.{part_taken, if_full}
use Rattle.rules.specs.Held.{holds_ok}
use Rattle.rules.specs.Stays.{SameSetUp, same_trans}
use Rattle.rules.specs.SameLaws.{same_values_place}
use Rattle.rules.proofs.PartLaws.{column_holds}
use Rattle.push_safety.specs.Run.{Run}
use Rattle.push_safety.specs.CallerLaws.{record_room}
use Rattle.push_safety.specs.Along.{Along, along_refl, along_trans, along_in}
use Rattle.push_safety.specs.PartGoes.{column_goes, taken_goes}
use Rattle.rules.specs.declared.Step.{Step}
use Rattle.columns.specs.Column.{source_for}
use Rattle.rules.specs.Leaves.{Steps, steps-done, steps_next, steps_stop}
use Rattle.columns.specs.SourceLaws.{run_few}
use Rattle.routes.specs.declared.Sources.{Sources}
use Rattle.routes.specs.Sourced.{no_source, Sourced}
use Rattle.in_progress.specs.Part.{Part, Decided, copied_by}
use Rattle.open_blocks.specs.AskLaws.{run-booked}
use Rattle.in_progress.specs.CallerLaws.{part_of, decided_at, copied_is}
use Rattle.finishing.specs.Finish.{Closable, Finishes}
use Rattle.finishing.specs.AnswerLaws.{full_steps}
use Rattle.steps.specs.Taking.{Taking, Takes, TakesThen}

-- ---- folds that may refuse

for_more : (n : ℕ) (f : World → ℕ → Res) (w : World) → for_each (n + 1) f w ≡ bind (for_each n f w) (λ v. f v n)
unfolding for_each
for_more n f w = let p : n + 1 ≡ suc n = omega arith in ap (λ (m : ℕ). for_each m f w) p

-- what refuses there refuses at the end
for_next : (n : ℕ) (f : World → ℕ → Res) (w : World) {m : ℕ} → for_each n f w ≡ refuse m → for_each (suc n) f w ≡ refuse m
unfolding for_each
for_next n f w e = rw e

for_refuses : (n : ℕ) {c : ℕ} (f : World → ℕ → Res) (w : World) {m : ℕ} → c ≤ n → for_each c f w ≡ refuse m → for_each n f w ≡ refuse m
for_refuses zero {c} f w l e = let p : 0 ≡ c = omega arith in ap (λ (i : ℕ). for_each i f w) p ∙ e
for_refuses (suc n) {c} f w {m} l e = go (λ h. for_refuses n f w h e) (dec_lt n c)
  where
    go : (c ≤ n → for_each n f w ≡ refuse m) → Dec (n < c) → for_each (suc n) f w ≡ refuse m
    go r (yes d) = let p : suc n ≡ c = omega arith in ap (λ (i : ℕ). for_each i f w) p ∙ e
    go r (no d) = for_next n f w (r (omega arith))

-- ---- copy_column

module _ {s : BatchCoalescer} {slots pool books : List ℕ} {rows : ℕ} {records body : List ℕ} {p : Rows}
    (x : Part (world s slots pool books) (batch rows records body) (record_of (batch rows records body) p.column) p) where
  pub column_record : (p.column < 16) × (32 * p.column + 32 ≤ length records)
  column_record = (omega (arith, (run_few x.run).columns, x.column), record_room x.reads p.column x.column)

  pub column_part : {r : ColumnRecord} → r ≡ record_of (batch 0 records []) p.column → Part (world s slots pool books) (batch rows records body) r p
  column_part e =
      part_of x.run x.reads x.column (record_any rows records body p.column e) x.placed x.there x.room

  -- the width by the kind
  pub column-width : {kind width : ℕ} → kind ≡ (column_of s p.column).kind → width ≡ bytes_in (width_at kind) → width ≡ width_of s p.column
  unfolding width_of
  column-width e q = q ∙ ap (λ (i : ℕ). bytes_in (width_at i)) e

-- ---- copy_part

taken_is : (w₀ w : World) (b : Batch) (from n : ℕ) → part_taken w₀ w b from n ≡ bind (for_each w.state.columns (λ u i. column_copied w₀ u b i from n) w) (λ u. ok (buffering u (u.state.buffered.0 + n)))
unfolding part_taken part_copied
taken_is w₀ w b from n = refl

-- the first c columns are copied
pub record ColumnsCopied (w : World) (b : Batch) (x : Sources) (from n c : ℕ) (v : World) : Type 0 where
  pub copied : (w₀ : World) → SameSetUp w₀.state w.state → Sourced x w₀ b → for_each c (λ u i. column_copied w₀ u b i from n) w ≡ ok v
  pub along : Along w v

module _ {w : World} {b : Batch} {x : Sources} {from n : ℕ} (a : Taking w b x from n) where
  pub part_few : Few w.state
  part_few = run_few a.run

  pub part_columns : w.state.columns ≤ 16
  part_columns = part_few.columns

  pub part_slot : w.state.place ≤ 1024
  part_slot = omega (arith, part_few.queue, a.run.fit.place)

  pub part_fits : w.state.buffered.0 + n ≤ 65536
  part_fits = omega (arith, a.room, part_few.rows)

  pub copied_none : ColumnsCopied w b x from n 0 w
  unfolding for_each
  copied_none = record { copied = λ w₀ e s. refl; along = along_refl a.run }

  module _ {c : ℕ} {v : World} (k : ColumnsCopied w b x from n c v) (h : c < w.state.columns) where
    abbrev rows_at : ℕ → Rows
    rows_at place = record { column = c; place = place; at = w.state.buffered.0; from = from; count = record { 0 = n } }

    same : (w₀ : World) → SameSetUp w₀.state w.state → SameSetUp w₀.state v.state
    same w₀ e = same_trans e k.along.beside.set_up

    own : (w₀ : World) → SameSetUp w₀.state w.state → Sourced x w₀ b → get_or x.column c no_source ≡ source_for w₀ b c
    own w₀ e s = s.each c (omega (arith, h, e.columns))

    inside : c < v.state.columns
    inside = along_in k.along.beside c h

    at_is : w.state.buffered.0 ≡ v.state.buffered.0
    at_is = ap (λ z. z.0) (sym k.along.beside.buffered)

    -- what copy_column asks
    pub copied_asks : {place : ℕ} → place ≡ values_place w.state w.state.place c → (Part v b (record_of b c) (rows_at place)) × (Decided v b c (get_or x.column c no_source))
    copied_asks {place} e = (
      part_of k.along.goes.run (k.along.goes.reads b a.reads) inside refl
          (e
          ∙ sym (same_values_place k.along.beside.set_up w.state.place c)
          ∙ ap (λ (i : ℕ). values_place v.state i c) (sym k.along.beside.place))
          a.there
          (omega (arith, a.room, ap (λ z. z.0) k.along.beside.set_up.rows)),
      decided_at a.origin v b c (same a.origin a.same) (own a.origin a.same a.sourced),
    )

    module _ (place : ℕ) {q : Step} {slots' pool' books' : List ℕ} (z : Steps (copied_by v b (rows_at place) (get_or x.column c no_source).way) q slots' pool' books') where
      column_is : (w₀ : World) → SameSetUp w₀.state w.state → Sourced x w₀ b → copied_by v b (rows_at place) (get_or x.column c no_source).way ≡ column_copied w₀ v b c from n
      column_is w₀ e s = copied_is w₀ v b c (same w₀ e) (own w₀ e s) (rows_at place) refl at_is

      next_is : (w₀ : World) → SameSetUp w₀.state w.state → Sourced x w₀ b → for_each (c + 1) (λ u i. column_copied w₀ u b i from n) w ≡ column_copied w₀ v b c from n
      next_is w₀ e s =
          for_more c (λ u i. column_copied w₀ u b i from n) w
          ∙ ap (λ (r : Res). bind r (λ u. column_copied w₀ u b c from n)) (k.copied w₀ e s)

      pub copied_more : q.number ≡ 0 → ColumnsCopied w b x from n (c + 1) (world q.state slots' pool' books')
      copied_more o =
          record {
            copied = λ w₀ e s. next_is w₀ e s ∙ sym (column_is w₀ e s) ∙ z.done o;
            along =
                along_trans k.along
                (record {
                  goes =
                      holds_ok (world q.state slots' pool' books')
                      (column_goes a.origin v b c from n k.along.goes.run (k.along.goes.reads b a.reads) inside a.there)
                      (sym (column_is a.origin a.same a.sourced) ∙ z.done o);
                  beside =
                      holds_ok (world q.state slots' pool' books') (column_holds a.origin v b c from n)
                      (sym (column_is a.origin a.same a.sourced) ∙ z.done o);
                });
          }

      pub copied_stop : (q.number ≡ 0 → ⊥) → Takes w b x from n q slots' pool' books'
      copied_stop o =
          record {
            steps = λ w₀ e s. record {
              done = λ d. absurd (o d);
              not = λ d. taken_stop w₀ (stops w₀ e s);
            };
          }
        where
          stops : (w₀ : World) → SameSetUp w₀.state w.state → Sourced x w₀ b → for_each w.state.columns (λ u i. column_copied w₀ u b i from n) w ≡ refuse q.number
          stops w₀ e s = for_refuses w.state.columns (λ u i. column_copied w₀ u b i from n) w (omega (arith, h)) (next_is w₀ e s ∙ sym (column_is w₀ e s) ∙ z.not o)

          taken_stop : (w₀ : World) {m : ℕ} → for_each w.state.columns (λ u i. column_copied w₀ u b i from n) w ≡ refuse m → part_taken w₀ w b from n ≡ refuse m
          taken_stop w₀ e = taken_is w₀ w b from n ∙ ap (λ (r : Res). bind r (λ u. ok (buffering u (u.state.buffered.0 + n)))) e

  module _ {c : ℕ} {v : World} (k : ColumnsCopied w b x from n c v) (h : c < w.state.columns) where
    -- what copy_as_is asks, and what it leaves
    pub as_is_asks : {place : ℕ} → place ≡ values_place w.state w.state.place c → (Part v b (record_of b c) (rows_at k h place)) × ((get_or w.state.column c no_column).kind ≡ (column_of v.state c).kind)
    unfolding column_of
    as_is_asks e = ((copied_asks k h e).0, sym (k.along.beside.set_up.kind c))

    pub copied_as_is : (place : ℕ) {slots' : List ℕ} → (get_or x.column c no_source).way ≡ Way.Copied → copied_by v b (rows_at k h place) Way.Copied ≡ ok (world v.state slots' v.pool v.books) → ColumnsCopied w b x from n (c + 1) (world v.state slots' v.pool v.books)
    copied_as_is place y e =
        copied_more k h place {q = record { state = v.state; number = 0 }} (steps-done (ap (λ (i : Way). copied_by v b (rows_at k h place) i) y ∙ e)) refl

  pub copied_all : {c : ℕ} {t : BatchCoalescer} {slots pool books : List ℕ} → ColumnsCopied w b x from n c (world t slots pool books) → c ≤ w.state.columns → w.state.columns ≤ c → Takes w b x from n (record { state = with_counts t t.place t.queued (w.state.buffered.0 + n); number = 0 }) slots pool books
  copied_all {c} {t} {slots} {pool} {books} k l m =
      record {
        steps = λ w₀ e s. steps-done
            (taken_is w₀ w b from n
            ∙ ap (λ (r : Res). bind r (λ u. ok (buffering u (u.state.buffered.0 + n)))) (all w₀ (k.copied w₀ e s))
            ∙ ap (λ (i : ℕ). ok (buffering (world t slots pool books) (i + n))) (ap (λ z. z.0) k.along.beside.buffered));
      }
    where
      all : (w₀ : World) → for_each c (λ u i. column_copied w₀ u b i from n) w ≡ ok (world t slots pool books) → for_each w.state.columns (λ u i. column_copied w₀ u b i from n) w ≡ ok (world t slots pool books)
      all w₀ e = let q : w.state.columns ≡ c = omega arith in ap (λ (i : ℕ). for_each i (λ u j. column_copied w₀ u b j from n) w) q ∙ e

-- ---- copy_and_finish

module _ {w : World} {b : Batch} {x : Sources} {from n : ℕ} {q : Step} {slots pool books : List ℕ} (k : Takes w b x from n q slots pool books) where
  pub taken_stop : (q.number ≡ 0 → ⊥) → TakesThen w b x from n q slots pool books
  taken_stop o = record { steps = λ w₀ e s. steps_stop if_full (k.steps w₀ e s) o }

  module _ (o : q.number ≡ 0) where
    pub taken_full : {r : Step} {slots' books' : List ℕ} → Finishes if_full q.state slots books r slots' books' → TakesThen w b x from n r slots' pool books'
    taken_full {r} {slots'} {books'} f = record { steps = λ w₀ e s. steps_next if_full (k.steps w₀ e s) o (full_steps pool f) }

    module _ (a : Taking w b x from n) where
      is : part_taken a.origin w b from n ≡ ok (world q.state slots pool books)
      is = (k.steps a.origin a.same a.sourced).done o

      taken-run : Run (world q.state slots pool books)
      taken-run =
          (holds_ok (world q.state slots pool books) (taken_goes a.origin w b from n a.run a.reads a.there) is).run

      -- what finish_slot asks
      pub taken_closable : Closable q.state slots books
      taken_closable = record { booked = run-booked taken-run; slots_are = taken-run.fit.slots_are }
