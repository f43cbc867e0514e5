-- Parts of a push on trial, one after another, and what each asks of the batch.
use Rattle.std.specs.Prelude.{ℕ, ◌+◌, ◌*◌, ◌-◌, ◌≤◌, ◌<◌, ◌≡◌, refl, true, List, [], length, get_or}
use Rattle.std.proofs.Common.{sym, ◌∙◌, ap, arith}
use Rattle.room.specs.Back.{Tried}
use Rattle.state.specs.declared.BatchCoalescer.{BatchCoalescer}
use Rattle.state.specs.Layout.{is_views, books_length}
use Rattle.layout.specs.Few.{Few}
use Rattle.rules.specs.declared.ColumnRecord.{ColumnRecord}
use Rattle.rules.specs.declared.Way.{Way}
use Rattle.rules.specs.Batch.{Batch, batch, record_of}
use Rattle.rules.specs.Steps.{with_counts}
use Rattle.rules.specs.Stays.{SameSetUp, same_counts}
use Rattle.rules.specs.SameLaws.{same_views}
use Rattle.byte_view.specs.declared.Source.{Source}
use Rattle.rules.specs.declared.Step.{Step}
use Rattle.records.specs.RecordLaws.{record_same}
use Rattle.push_safety.specs.StepGoes.{buffering_goes}
use Rattle.routes.specs.declared.Sources.{Sources}
use Rattle.routes.specs.Sourced.{no_source}
use Rattle.trial_column.specs.Trying.{Trying, Tries, TriesColumn, Compactable}
use Rattle.trial.specs.Tried.{TriesPart, TriesThen, TriesFinish, Triable}
use Rattle.trial_column.specs.TryingLaws.{trying_bounds, trying_few, trying_place, trying_length, tries_none, tries_trans}

-- ---- the batch

records_only : (records body : List ℕ) (m rows c : ℕ) → record_of (batch m records body) c ≡ record_of (batch rows records body) c
records_only records body m rows c = sym (record_same records body m c) ∙ record_same records body rows c

-- another state of the set-up; fewer rows
pub triable_same : {s t : BatchCoalescer} {x : Sources} {b : Batch} → SameSetUp s t → Triable s x b → Triable t x b
triable_same e r =
    record {
      records_are = r.records_are ∙ ap (λ (c : ℕ). 32 * c) (sym e.columns);
      rows_fit = r.rows_fit;
      values = λ c h y. r.values c (rw e.columns at h) (rw (same_views e c) at y);
      viewed = λ c h y. same_views e c ∙ r.viewed c (rw e.columns at h) y;
    }

pub triable_less : {s : BatchCoalescer} {x : Sources} {rows : ℕ} {records body : List ℕ} (m : ℕ) → m ≤ rows → Triable s x (batch rows records body) → Triable s x (batch m records body)
triable_less {s} {x} {rows} {records} {body} m l r =
    record {
      records_are = r.records_are;
      rows_fit = omega (arith, r.rows_fit);
      values = λ c h y. rw (records_only records body m rows c) (omega (arith, r.values c h y));
      viewed = r.viewed;
    }

-- a part of the rows of a state later in the trial: a full one, and the last
module _ {s t : BatchCoalescer} {x : Sources} {rows : ℕ} {records body : List ℕ} {a b : List ℕ} (o : Tries s a t b) (r : Triable s x (batch rows records body)) where
  pub triable_full : (from : ℕ) {n : ℕ} → n < rows - from → Triable t x (batch (from + n) records body)
  triable_full from {n} l = triable_same o.set_up (triable_less (from + n) (omega arith) r)

  pub triable_last : {from : ℕ} → from ≤ rows → Triable t x (batch (from + (rows - from)) records body)
  triable_last {from} l = triable_same o.set_up (triable_less (from + (rows - from)) (omega arith) r)

-- what record_at asks, and try_column
module _ {s : BatchCoalescer} {x : Sources} (from n : ℕ) {records body : List ℕ} (r : Triable s x (batch (from + n) records body)) {t : BatchCoalescer} {a b : List ℕ} (o : TriesColumn s a t b) {c : ℕ} (h : c < s.columns) where
  pub record_asks : (c < 16) × (32 * c + 32 ≤ length records)
  record_asks =
      (omega (arith, (trying_bounds o.tries.trying).columns, o.tries.set_up.columns), omega (arith, r.records_are))

  pub column_in_lem : c < t.columns
  column_in_lem = omega (arith, o.tries.set_up.columns)

  pub column_asks : {k : ColumnRecord} {y : Source} → k ≡ record_of (batch 0 records []) c → y ≡ get_or x.column c no_source → Compactable t body k y.way c from n
  column_asks {k} {y} p q =
      record {
        few = r.rows_fit;
        views = λ z. same_views o.tries.set_up c ∙ view z;
        values = λ z. rw (p ∙ record_same records body (from + n) c) (r.values c h (view z));
      }
    where
      view : y.way ≡ Way.Compacted → is_views s c ≡ true
      view z = r.viewed c h (sym (ap (λ (v : Source). v.way) q) ∙ z)

-- ---- the ways out of try_part

pub part_refused : {s t : BatchCoalescer} {a b d : List ℕ} (n : ℕ) {r : Step} → TriesColumn s a t b → TriesColumn t b r.state d → (r.number ≡ 0 → ⊥) → TriesPart s a n r d
part_refused n x y z = record { tries = tries_trans x.tries y.tries; buffered = λ e. absurd (z e) }

-- its rows are buffered
pub part_done : {s t : BatchCoalescer} {a b : List ℕ} (n : ℕ) → TriesColumn s a t b → TriesPart s a n (record { state = with_counts t t.place t.queued (s.buffered.0 + n); number = 0 }) b
part_done {s} {t} {a} {b} n x =
    record {
      tries =
          tries_trans x.tries
          (record {
            set_up = same_counts t t.place t.queued (s.buffered.0 + n);
            marks = (tries_none x.tries.trying).marks;
            trying =
                record {
                  slots = x.tries.trying.slots;
                  pool = x.tries.trying.pool;
                  run = (buffering_goes (s.buffered.0 + n) x.tries.trying.run).run;
                };
          });
      buffered = λ e. refl;
    }

-- ---- a part and then finishing where the slot is full

module _ {s : BatchCoalescer} {a b : List ℕ} {n : ℕ} {r : Step} (x : TriesPart s a n r b) where
  pub then_done : {q : Step} → TriesFinish r.state q → TriesThen s a n q b
  then_done f = record { tries = tries_trans x.tries (f.tries b x.tries.trying); empty = λ e. f.empty }

  pub then_room : (r.state.buffered.0 ≡ s.target.0 → ⊥) → TriesThen s a n r b
  then_room h = record { tries = x.tries; empty = λ e z. absurd (h (x.buffered z ∙ e)) }

  pub then_refused : (r.number ≡ 0 → ⊥) → TriesThen s a n r b
  then_refused h = record { tries = x.tries; empty = λ e z. absurd (h z) }

-- ---- turns of try_rows

module _ {s t : BatchCoalescer} {a b d : List ℕ} {n : ℕ} {r : Step} (x : Tries s a t b) (y : TriesThen t b n r d) where
  pub turn-done : Tries s a r.state d
  turn-done = tries_trans x y.tries

  pub turn_marks : Tried a d s.numbers
  turn_marks = turn-done.marks

-- behind a part that fills the slot nothing is buffered, which is below the target
pub turn_below : {t : BatchCoalescer} {b d : List ℕ} {r : Step} → t.buffered.0 < t.target.0 → TriesThen t b (t.target.0 - t.buffered.0) r d → r.number ≡ 0 → r.state.buffered.0 < r.state.target.0
turn_below h y z = omega (arith, y.empty (omega (arith, h)) z, (trying_bounds y.tries.trying).target_some)

-- ---- queueing whole

-- what try_whole asks: at once, and behind finishing
pub whole_asks : {s : BatchCoalescer} {books : List ℕ} (records : List ℕ) → Trying s books → length records ≡ 32 * s.columns → (Few s) × (s.place ≤ s.queue) × (length books ≡ books_length s) × (length records ≡ 32 * s.columns)
whole_asks records x e = (trying_few x, trying_place x, trying_length x, e)

pub first_asks : {s : BatchCoalescer} {books : List ℕ} (records : List ℕ) {r : Step} → TriesFinish s r → Trying s books → length records ≡ 32 * s.columns → (Few r.state) × (r.state.place ≤ r.state.queue) × (length books ≡ books_length r.state) × (length records ≡ 32 * r.state.columns)
first_asks {books = books} records f x e =
    let t = f.tries books x in
    whole_asks records t.trying (e ∙ ap (λ (c : ℕ). 32 * c) (sym t.set_up.columns))
