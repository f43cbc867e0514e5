-- What callers have of a column while a push goes on: it may be decided, and the length of its list once the open block has joined it.
use Rattle.std.specs.Prelude.{ℕ, ◌+◌, ◌-◌, ◌≤◌, ◌<◌, ◌≡◌, Bool, true, false, cond, List, []}
use Rattle.std.proofs.Math.Path.{refl, sym, ap}
use Rattle.std.proofs.Common.{◌∙◌, arith}
use Rattle.tallies.specs.TallyLaws.{tally-same}
use Rattle.counts.specs.declared.BufferNumber.{BufferNumber}
use Rattle.books.specs.Entry.{entry_of}
use Rattle.state.specs.declared.BatchCoalescer.{BatchCoalescer}
use Rattle.state.specs.World.{World, world, column_of}
use Rattle.state.specs.Layout.{is_views, list_length, tally}
use Rattle.state.proofs.LayoutLaws.{views_width}
use Rattle.layout.specs.Few.{Few}
use Rattle.rules.specs.declared.Way.{Way}
use Rattle.rules.specs.Batch.{Batch, record_of, listed_number, value_place, row_view, ideal, actual, way}
use Rattle.rules.specs.Steps.{counting, listing}
use Rattle.rules.specs.Views.{filling, block_number, is_open, open_number, open_filled, open_rest, closed}
use Rattle.byte_view.specs.declared.Source.{Source}
use Rattle.byte_view.specs.Copying.{Entered}
use Rattle.push_safety.specs.Run.{Run, Readable}
use Rattle.push_safety.specs.CallerLaws.{run_bounds, count_room, record_room, listed-entry}
use Rattle.push_safety.specs.BlockGoes.{open_room}
use Rattle.columns.specs.Column.{source_for, closed_length, Sourceable}
use Rattle.std.specs.Prelude.{Option, Some}

-- the bounds of set-up, as the formulas ask them
pub run_few : {w : World} → Run w → Few w.state
run_few r =
    record {
      rows = (run_bounds r).rows;
      queue = (run_bounds r).queue;
      columns = (run_bounds r).columns;
      lists = (run_bounds r).lists;
      numbers = (run_bounds r).numbers;
    }

-- what set_source asks
module _ {w : World} {b : Batch} (r : Run w) (x : Readable w b) (c : ℕ) (h : c < w.state.columns) where
  list_entered : Entered w.books b.body (record_of b c).list (record_of b c).count
  unfolding listed_number
  list_entered = record { listed = (x.columns c h).listed; entries = λ i l. listed-entry x r c i h l }

  pub sourceable : Sourceable w.state w.books b c
  sourceable =
      record {
        record_room = record_room x c h;
        values = λ y. rw (views_width w.state c y) at (x.columns c h).values;
        entered = λ y. list_entered;
      }

-- two conditions on one test
by_both : {A B : Type 0} (P : A → B → Type 0) (b : Bool) {x y : A} {u v : B} → (b ≡ true → P x u) → (b ≡ false → P y v) → P (cond b x y) (cond b u v)
by_both P true f g = f refl
by_both P false f g = g refl

-- what list_closed answers: the list of the slot being filled, when its block is closed
module _ {w : World} (r : Run w) (c : ℕ) (h : c < w.state.columns) (y : is_views w.state c ≡ true) where
  pub closed-length : closed_length w c ≡ list_length (closed w c) (filling w) c
  unfolding closed_length closed listing counting list_length
  closed-length =
      by_both (λ (n : ℕ) (v : World). n ≡ list_length v (filling w) c) (is_open w c)
      (λ o. sym
      (tally-same w.books (tally w.state (filling w) (c + 1)) (list_length w (filling w) c + 1)
      (count_room r (filling w) (c + 1) r.fit.place (omega arith))
      (omega (arith, open_room c r h y o, (run_bounds r).lists))))
      (λ o. refl)

-- ---- slots and pool do not matter, and what the parts of an answer are

module _ (s : BatchCoalescer) (slots pool books : List ℕ) (c : ℕ) where
  pub list_same : (slot : ℕ) → list_length (world s [] [] books) slot c ≡ list_length (world s slots pool books) slot c
  unfolding list_length
  list_same slot = refl

  pub closed_same : closed_length (world s [] [] books) c ≡ closed_length (world s slots pool books) c
  unfolding closed_length list_length
  closed_same = refl

  pub source-same : (b : Batch) → source_for (world s [] [] books) b c ≡ source_for (world s slots pool books) b c
  unfolding source_for way ideal actual row_view value_place
  source-same b = refl

  -- list_closed's answer, for a push that goes on
  pub closed-answer : {n : ℕ} → Run (world s slots pool books) → c < s.columns → is_views s c ≡ true → n ≡ closed_length (world s [] [] books) c → n ≡ list_length (closed (world s slots pool books) c) s.place c
  closed-answer r h y e = e ∙ closed_same ∙ closed-length r c h y

  -- what list_closed asks of the list
  pub list-within : Run (world s slots pool books) → c < s.columns → list_length (world s [] [] books) s.place c ≤ s.lists
  list-within r h = omega (arith, list_same s.place, r.lists s.place c r.fit.place h)

  -- rest_of's answer, for column c's open block
  pub rest-answer : {k : BufferNumber} {n : ℕ} → (column_of s c).block ≡ Some k → n ≡ (entry_of books k.0).capacity.0 - (entry_of books k.0).length.0 → n ≡ open_rest (world s slots pool books) c
  unfolding open_rest open_filled open_number
  rest-answer e p =
      p ∙ ap (λ (o : Option BufferNumber). (entry_of books (block_number o)).capacity.0 - (entry_of books (block_number o)).length.0) (sym e)

module _ (w : World) (b : Batch) (c : ℕ) where
  pub source-way : (source_for w b c).way ≡ cond (is_views w.state c) (way w b c) Way.Copied
  unfolding source_for
  source-way =
      by_both (λ (r : Source) (x : Way). r.way ≡ x) (is_views w.state c) (λ y. refl) (λ y. refl)

  pub source-ideal : is_views w.state c ≡ true → (source_for w b c).ideal.0 ≡ ideal w b c
  unfolding source_for
  source-ideal y = rw y
