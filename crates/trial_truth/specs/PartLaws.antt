-- A part of every column, in a push and in its trial: column by column, and the rows buffered.
use Rattle.std.specs.Prelude.{ℕ, zero, suc, ◌+◌, ◌≤◌, ◌<◌, ◌≡◌, refl, ◌≢◌, Bool, true, false, cond, List, [], get_or}
use Rattle.std.proofs.Math.Path.{sym, ap}
use Rattle.std.proofs.Common.{◌∙◌, arith, add-one}
use Rattle.std.proofs.Math.Decide.{dec_lt}
use Rattle.byte_view.specs.declared.Source.{Source}
use Rattle.state.specs.declared.BatchCoalescer.{BatchCoalescer}
use Rattle.state.specs.World.{World, column_of}
use Rattle.state.specs.Layout.{is_views, list_length}
use Rattle.rules.specs.declared.ColumnRecord.{ColumnRecord}
use Rattle.rules.specs.declared.Way.{Way}
use Rattle.rules.specs.Batch.{Batch, batch, record_of, ideal, way}
use Rattle.rules.specs.Steps.{Res, ok, refuse, bind, for_each, with_counts, buffering}
use Rattle.rules.specs.Views.{span, filling, bits_copied, by_way, column_copied, part_copied}
use Rattle.rules.specs.Push.{part_taken}
use Rattle.rules.specs.Stays.{SameSetUp, same_trans, same_counts}
use Rattle.rules.specs.SameLaws.{same_views, same-ideal}
use Rattle.rules.specs.declared.Step.{Step}
use Rattle.columns.specs.Column.{source_for}
use Rattle.records.specs.RecordLaws.{record_same}
use Rattle.columns.specs.SourceLaws.{source-way, source-ideal}
use Rattle.routes.specs.declared.Sources.{Sources}
use Rattle.routes.specs.Sourced.{no_source}
use Rattle.push_safety.specs.StepGoes.{bits_goes, buffering_goes}
use Rattle.trial_truth.specs.Like.{Like, Reached, Follows, TellsColumn}
use Rattle.trial_truth.specs.LikeLaws.{like_state, like_slots}
use Rattle.trial_truth.specs.Tells.{BeginsSlot, TellsTo, TellsPart}

-- ---- a step for each column

each_more : (c : ℕ) (f : World → ℕ → Res) (w : World) → for_each (c + 1) f w ≡ bind (for_each c f w) (λ v. f v c)
unfolding for_each
each_more c f w = rw add-one

-- one that is refused is the last
each_stops : (n c : ℕ) (f : World → ℕ → Res) (w : World) (k : ℕ) → c ≤ n → for_each c f w ≡ refuse k → for_each n f w ≡ refuse k
unfolding for_each
each_stops zero c f w k l e = let q : c ≡ 0 = omega arith in rw q at e
each_stops (suc n) c f w k l e = go (λ m. each_stops n c f w k m e) (dec_lt n c)
  where
    go : (c ≤ n → for_each n f w ≡ refuse k) → Dec (n < c) → bind (for_each n f w) (λ v. f v n) ≡ refuse k
    go r (yes d) = let q : c ≡ suc n = omega arith in rw q at e
    go r (no d) = rw (r (omega arith))

-- ---- one column more

bits_state : (v : World) (b : Batch) (c at from n : ℕ) → (bits_copied v b (filling v) (span c at from n)).state ≡ v.state
unfolding bits_copied
bits_state v b c at from n = refl

bits_books : (v : World) (b : Batch) (c at from n : ℕ) → (bits_copied v b (filling v) (span c at from n)).books ≡ v.books
unfolding bits_copied
bits_books v b c at from n = refl

plain_copied : (w : World) (b : Batch) (c : ℕ) → is_views w.state c ≡ false → (source_for w b c).way ≡ Way.Copied
plain_copied w b c y = source-way w b c ∙ rw y

module _ {s : BatchCoalescer} {books : List ℕ} {x : Sources} {records body : List ℕ} {from n : ℕ} where
  pub to_none : TellsTo s books x records body from n 0 s books
  unfolding for_each
  to_none = record { tells = λ rows l w₀ v a. record { world = v; is = refl; state = a.state; like = a.like } }

  module _ {c : ℕ} {t : BatchCoalescer} {books' : List ℕ} (k : TellsTo s books x records body from n c t books') (e : SameSetUp s t) (h : c < s.columns) {r : ColumnRecord} (p : r ≡ record_of (batch 0 records []) c) {q : Step} {books'' : List ℕ} (o : TellsColumn t books' body r (get_or x.column c no_source) c from n q books'') where
    module _ (rows : ℕ) (l : from + n ≤ rows) (w₀ v : World) (a : BeginsSlot s books x (batch rows records body) w₀ v) where
      abbrev b : Batch
      b = batch rows records body

      z : Reached (for_each c (λ u d. column_copied w₀ u b d from n) v) t books' b c
      z = k.tells rows l w₀ v a

      abbrev u : World
      u = z.world

      abbrev bits : World
      bits = bits_copied u b (filling u) (span c u.state.buffered.0 from n)

      same_back : SameSetUp w₀.state u.state
      same_back = same_trans a.same (same_trans e z.like.set_up)

      source-at : get_or x.column c no_source ≡ source_for w₀ b c
      source-at = a.sourced.each c (omega (arith, a.same.columns))

      way_at : (get_or x.column c no_source).way ≡ cond (is_views u.state c) (way w₀ b c) Way.Copied
      way_at = ap (λ (y : Source). y.way) source-at ∙ source-way w₀ b c ∙ rw (same_views same_back c)

      views_back : {y : Bool} → is_views t c ≡ y → is_views w₀.state c ≡ y
      views_back g = sym (same_views same_back c) ∙ same_views z.like.set_up c ∙ g

      ideal-at : is_views t c ≡ true → (get_or x.column c no_source).ideal.0 ≡ ideal bits b c
      ideal-at g =
          ap (λ (y : Source). y.ideal.0) source-at
          ∙ source-ideal w₀ b c (views_back g)
          ∙ sym (same-ideal w₀ bits b (rw (bits_state u b c u.state.buffered.0 from n) same_back) c)

      plain_at_lem : is_views t c ≡ false → (get_or x.column c no_source).way ≡ Way.Copied
      plain_at_lem g = ap (λ (y : Source). y.way) source-at ∙ plain_copied w₀ b c (views_back g)

      bits_like : Like t books' b c bits
      bits_like =
          like_slots z.like (bits_goes b c (filling u) u.state.buffered.0 from n z.like.run)
          (bits_state u b c u.state.buffered.0 from n)
          (bits_books u b c u.state.buffered.0 from n)

      follows : Follows (by_way bits b (span c u.state.buffered.0 from n) (get_or x.column c no_source).way) b (c + 1) q books''
      follows =
          o.tells rows records bits u.state.buffered.0 l
          (record {
            recorded = p ∙ record_same records body rows c;
            ideal_is = ideal-at;
            plain = plain_at_lem;
            state = bits_state u b c u.state.buffered.0 from n ∙ z.state;
            like = bits_like;
          })

      copied : column_copied w₀ u b c from n ≡ by_way bits b (span c u.state.buffered.0 from n) (get_or x.column c no_source).way
      unfolding column_copied
      copied = rw way_at

      next : for_each (c + 1) (λ u d. column_copied w₀ u b d from n) v ≡ by_way bits b (span c u.state.buffered.0 from n) (get_or x.column c no_source).way
      next =
          each_more c (λ u d. column_copied w₀ u b d from n) v
          ∙ ap (λ (y : Res). bind y (λ u. column_copied w₀ u b c from n)) z.is
          ∙ copied

      reached : q.number ≡ 0 → Reached (for_each (c + 1) (λ u d. column_copied w₀ u b d from n) v) q.state books'' b (c + 1)
      reached m =
          let g = follows.done m in
          record { world = g.world; is = next ∙ g.is; state = g.state; like = g.like }

      stops : q.number ≢ 0 → part_taken w₀ v b from n ≡ refuse q.number
      unfolding part_taken part_copied
      stops m =
          rw (each_stops v.state.columns (c + 1) (λ u d. column_copied w₀ u b d from n) v q.number few (next ∙ follows.not m))
        where
          few : c + 1 ≤ v.state.columns
          few = omega (arith, a.like.set_up.columns)

    pub to-more : q.number ≡ 0 → TellsTo s books x records body from n (c + 1) q.state books''
    to-more m = record { tells = λ rows l w₀ v a. reached rows l w₀ v a m }

    pub part_stops : (q.number ≡ 0 → ⊥) → TellsPart s books x records body from n q books''
    part_stops m =
        record { tells = λ rows l w₀ v a. record { done = λ g. absurd (m g); not = λ g. stops rows l w₀ v a g } }

-- ---- the rows buffered

counts_column : (s : BatchCoalescer) (place queued buffered d : ℕ) → column_of (with_counts s place queued buffered) d ≡ column_of s d
unfolding column_of
counts_column s place queued buffered d = refl

pub like_buffered : {s : BatchCoalescer} {books : List ℕ} {b : Batch} {m : ℕ} {v : World} (k : ℕ) → Like s books b m v → Like (with_counts s s.place s.queued k) books b m (buffering v k)
unfolding list_length
like_buffered {s} {books} {b} {m} {v} k a =
    like_state
    (record {
      run = (buffering_goes k a.run).run;
      reads = (buffering_goes k a.run).reads b a.reads;
      set_up = same_trans a.set_up (same_counts v.state v.state.place v.state.queued k);
      place = a.place;
      queued = a.queued;
      alike = a.alike;
      lists = a.lists;
      live = a.live;
      filled = a.filled;
      apart = a.apart;
    })
    (same_counts s s.place s.queued k)
    refl
    refl
    (λ d l. counts_column s s.place s.queued k d)

buffered_like : {t : BatchCoalescer} {books : List ℕ} {b : Batch} {c : ℕ} (u : World) (k j m : ℕ) → k ≡ j → c ≡ m → Like t books b c u → Like (with_counts t t.place t.queued j) books b m (buffering u k)
buffered_like u k j m p q a = rw (p, ← q) (like_buffered j a)

buffered_state : {t : BatchCoalescer} (u : World) (k j : ℕ) → k ≡ j → u.state ≡ t → (buffering u k).state ≡ with_counts t t.place t.queued j
buffered_state u k j p e = rw p (ap (λ (y : BatchCoalescer). with_counts y y.place y.queued j) e)

module _ {s : BatchCoalescer} {books : List ℕ} {x : Sources} {records body : List ℕ} {from n : ℕ} {c : ℕ} {t : BatchCoalescer} {books' : List ℕ} (k : TellsTo s books x records body from n c t books') (h : c ≡ s.columns) (e : t.buffered.0 ≡ s.buffered.0) where
  module _ (rows : ℕ) (l : from + n ≤ rows) (w₀ v : World) (a : BeginsSlot s books x (batch rows records body) w₀ v) where
    abbrev pushed : Batch
    pushed = batch rows records body

    last : Reached (for_each c (λ u d. column_copied w₀ u pushed d from n) v) t books' pushed c
    last = k.tells rows l w₀ v a

    abbrev v' : World
    v' = last.world

    every : part_copied w₀ v pushed from n ≡ ok v'
    unfolding part_copied
    every =
        ap (λ (m : ℕ). for_each m (λ u d. column_copied w₀ u pushed d from n) v) (a.like.set_up.columns ∙ sym h) ∙ last.is

    taken : part_taken w₀ v pushed from n ≡ ok (buffering v' (v'.state.buffered.0 + n))
    unfolding part_taken
    taken = rw every

    rows_at : v'.state.buffered.0 + n ≡ s.buffered.0 + n
    rows_at = ap (λ (y : BatchCoalescer). y.buffered.0 + n) last.state ∙ ap (λ (y : ℕ). y + n) e

    buffered : Reached (part_taken w₀ v pushed from n) (with_counts t t.place t.queued (s.buffered.0 + n)) books' pushed s.columns
    buffered =
        record {
          world = buffering v' (v'.state.buffered.0 + n);
          is = taken;
          state = buffered_state v' (v'.state.buffered.0 + n) (s.buffered.0 + n) rows_at last.state;
          like = buffered_like v' (v'.state.buffered.0 + n) (s.buffered.0 + n) s.columns rows_at h last.like;
        }

  pub part_tells : TellsPart s books x records body from n (record { state = with_counts t t.place t.queued (s.buffered.0 + n); number = 0 }) books'
  part_tells =
      record { tells = λ rows l w₀ v a. record { done = λ g. buffered rows l w₀ v a; not = λ g. absurd (g refl) } }
