-- The ways out of a column's trial, as the code has them.
use Rattle.std.specs.Prelude.{ℕ, ◌+◌, ◌*◌, ◌-◌, ◌≤◌, ◌<◌, ◌≡◌, refl, Bool, true, false, List, []}
use Rattle.std.proofs.Math.Path.{sym, ap}
use Rattle.std.proofs.Common.{◌∙◌, arith}
use Rattle.counts.specs.declared.BufferNumber.{BufferNumber}
use Rattle.books.specs.Entry.{entry_of}
use Rattle.sound.specs.Change.{Roomy}
use Rattle.byte_view.specs.declared.Source.{Source}
use Rattle.byte_view.specs.declared.Walked.{Walked}
use Rattle.byte_view.specs.Copying.{walk_rows, walk_of}
use Rattle.byte_view.specs.RuleLaws.{walked_is, long_before_is}
use Rattle.state.specs.declared.BatchCoalescer.{BatchCoalescer}
use Rattle.state.specs.declared.Column.{Column}
use Rattle.state.specs.World.{World, world, column_of}
use Rattle.state.specs.Layout.{is_views}
use Rattle.state.proofs.LayoutLaws.{views_width}
use Rattle.rules.specs.declared.ColumnRecord.{ColumnRecord}
use Rattle.rules.specs.declared.Way.{Way}
use Rattle.rules.specs.Batch.{Batch, batch, record_of, value_place, ideal}
use Rattle.rules.specs.Copies.{views_at, long_to}
use Rattle.rules.specs.Steps.{with_column}
use Rattle.rules.specs.Views.{span, filling, long_before, walked, values_copied}
use Rattle.rules.specs.declared.Step.{Step}
use Rattle.columns.specs.Column.{closed_length}
use Rattle.push_safety.specs.StepGoes.{values_goes}
use Rattle.trial_truth.specs.Like.{Buffers, TellsAttached, TellsCompacted, TellsColumn}
use Rattle.trial_truth.specs.LikeLaws.{like_more, like_slots}
use Rattle.trial_truth.specs.ColumnLaws.{views_in, attached_follows, attached_full}
use Rattle.trial_truth.specs.CompactLaws.{new_follows, fits_follows, walk_follows}
use Rattle.std.specs.Prelude.{Option, Some, None}

-- ---- attached

module _ {s : BatchCoalescer} {books : List ℕ} {r : ColumnRecord} {c : ℕ} (h : c < s.columns) {n : ℕ} (p : n ≡ closed_length (world s [] [] books) c) where
  pub tells_attached : {k : Column} {t : BatchCoalescer} → n + r.count ≤ s.lists → k ≡ column_of s c → t ≡ with_column s c k.source None → TellsAttached s books r c (record { state = t; number = 0 })
  tells_attached l x z = record { tells = λ b v at from m q y e a. attached_follows a e h y q p at from m l x z }

  pub tells_full : s.lists < n + r.count → TellsAttached s books r c (record { state = s; number = 10 })
  tells_full l = record { tells = λ b v at from m q y e a. attached_full a e h y q p at from m l }

-- ---- compacted

-- what the walk took, as the rules say it
module _ (v : World) (rows : ℕ) (records body : List ℕ) (r : ColumnRecord) (c from n rest : ℕ) (y : is_views v.state c ≡ true) (p : r ≡ record_of (batch rows records body) c) where
  abbrev b : Batch
  b = batch rows records body

  value_at : value_place v b c from ≡ r.values + from * 16
  unfolding value_place
  value_at = rw (views_width v.state c y, p)

  module _ {w : Walked} (e : w ≡ walk_of (views_at body (r.values + from * 16)) n rest) where
    rows_at : w.rows.0 ≡ walked v b c from n rest
    unfolding walk_of
    rows_at =
        ap (λ (z : Walked). z.rows.0) e
        ∙ ap (λ (k : ℕ). walk_rows (views_at body k) n rest) (sym value_at)
        ∙ sym (walked_is v b c (views_width v.state c y) from n rest)

    bytes_own : w.bytes.0 ≡ long_to (views_at body (r.values + from * 16)) w.rows.0
    unfolding walk_of
    bytes_own = ap (λ (z : Walked). z.bytes.0) e ∙ ap (λ (z : Walked). long_to (views_at body (r.values + from * 16)) z.rows.0) (sym e)

    bytes-at : w.bytes.0 ≡ long_before v b c from (walked v b c from n rest)
    bytes-at =
        bytes_own
        ∙ ap (λ (k : ℕ). long_to (views_at body k) w.rows.0) (sym value_at)
        ∙ sym (long_before_is v b c (views_width v.state c y) from w.rows.0)
        ∙ ap (long_before v b c from) rows_at

block_at : (s : BatchCoalescer) (c : ℕ) {k : Column} {o : Option BufferNumber} → k ≡ column_of s c → k.block ≡ o → (column_of s c).block ≡ o
block_at s c x z = ap (λ (d : Column). d.block) (sym x) ∙ z

module _ {s : BatchCoalescer} {books body : List ℕ} {r : ColumnRecord} {size c from n : ℕ} (roomy : Roomy books s.numbers) (h : c < s.columns) (y : is_views s c ≡ true) {k : Column} (x : k ≡ column_of s c) where
  pub tells_new : {list : ℕ} {q : Step} {books' : List ℕ} → list ≡ closed_length (world s [] [] books) c → k.block ≡ None → Buffers s books c list size q books' → TellsCompacted s books body r size c from n q books'
  tells_new p z t = record { tells = λ rows records v at g l i e a. new_follows a e h y roomy at from n l (block_at s c x z) p (rw i at t) }

  module _ {j : BufferNumber} (z : k.block ≡ Some j) {rest : ℕ} (g : rest ≡ (entry_of books j.0).capacity.0 - (entry_of books j.0).length.0) where
    pub tells_fits : size ≤ rest → TellsCompacted s books body r size c from n (record { state = s; number = 0 }) books
    tells_fits f = record { tells = λ rows records v at p l i e a. fits_follows a e h y roomy at from n l (block_at s c x z) g (rw i at f) }

    pub tells_walked : {list : ℕ} {w : Walked} {q : Step} {books' : List ℕ} → list ≡ closed_length (world s [] [] books) c → rest < size → w ≡ walk_of (views_at body (r.values + from * 16)) n rest → Buffers s books c list (size - w.bytes.0) q books' → TellsCompacted s books body r size c from n q books'
    tells_walked {list} {w} {q} {books'} p f u t =
        record {
          tells = λ rows records v at d l i e a.
              walk_follows a e h y roomy at from n l (block_at s c x z) g (rw i at f) p
              (rw (i, bytes-at v rows records body r c from n rest (views_in a e h y) d u) at t);
        }

-- ---- one of the three ways

copied_state : (v : World) (b : Batch) (c at from n : ℕ) → (values_copied v b (filling v) (span c at from n)).state ≡ v.state
unfolding values_copied
copied_state v b c at from n = refl

copied_books : (v : World) (b : Batch) (c at from n : ℕ) → (values_copied v b (filling v) (span c at from n)).books ≡ v.books
unfolding values_copied
copied_books v b c at from n = refl

by_views : (s : BatchCoalescer) (c : ℕ) (x : Source) (o : Way) (b : Bool) → is_views s c ≡ b → (o ≡ Way.Copied → ⊥) → x.way ≡ o → (is_views s c ≡ false → x.way ≡ Way.Copied) → is_views s c ≡ true
by_views s c x o true e m z d = e
by_views s c x o false e m z d = absurd (m (sym z ∙ d e))

module _ {s : BatchCoalescer} {books body : List ℕ} {r : ColumnRecord} {x : Source} {c from n : ℕ} where
  pub tells_copied : x.way ≡ Way.Copied → TellsColumn s books body r x c from n (record { state = s; number = 0 }) books
  tells_copied z =
      record {
        tells = λ rows records v at l g.
            rw z
            (record {
              done = λ o.
                  record {
                    world = values_copied v (batch rows records body) (filling v) (span c at from n);
                    is = refl;
                    state = copied_state v (batch rows records body) c at from n ∙ g.state;
                    like =
                        like_more (c + 1) (omega arith)
                        (like_slots g.like (values_goes (batch rows records body) c (filling v) at from n g.like.run) (copied_state v (batch rows records body) c at from n) (copied_books v (batch rows records body) c at from n));
                  };
              not = λ o. absurd (o refl);
            });
      }

  pub tells_attaches : {q : Step} → x.way ≡ Way.Attached → TellsAttached s books r c q → TellsColumn s books body r x c from n q books
  tells_attaches z t =
      record {
        tells = λ rows records v at l g.
            rw z (t.tells (batch rows records body) v at from n g.recorded (by_views s c x Way.Attached (is_views s c) refl not_attached z g.plain) g.state g.like);
      }
    where
      not_attached : Way.Attached ≡ Way.Copied → ⊥
      not_attached q = let o : ◌≡◌ {A = ℕ} 0 1 = cc in omega arith

  pub tells_compacts : {q : Step} {books' : List ℕ} → x.way ≡ Way.Compacted → TellsCompacted s books body r x.ideal.0 c from n q books' → TellsColumn s books body r x c from n q books'
  tells_compacts z t =
      record {
        tells = λ rows records v at l g.
            rw z (t.tells rows records v at g.recorded l (g.ideal_is (by_views s c x Way.Compacted (is_views s c) refl not_compacted z g.plain)) g.state g.like);
      }
    where
      not_compacted : Way.Compacted ≡ Way.Copied → ⊥
      not_compacted q = let o : ◌≡◌ {A = ℕ} 0 1 = cc in omega arith
