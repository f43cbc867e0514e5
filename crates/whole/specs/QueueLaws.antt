-- The columns of a batch queued whole, and the ways out of queue_whole and finish_first.
use Rattle.std.specs.Prelude.{ℕ, ◌+◌, ◌*◌, ◌≤◌, ◌<◌, ◌≡◌, ◌≢◌, List, [], length}
use Rattle.std.proofs.Math.Path.{refl}
use Rattle.std.proofs.Common.{sym, ◌∙◌, ap, arith}
use Rattle.state.specs.declared.BatchCoalescer.{BatchCoalescer}
use Rattle.state.specs.World.{World, world}
use Rattle.state.specs.Layout.{values_place, books_length, list_length}
use Rattle.layout.specs.Few.{Few}
use Rattle.rules.specs.Batch.{Batch, batch, record_of}
use Rattle.rules.specs.Steps.{ok, each, queueing}
use Rattle.rules.specs.Views.{filling, bits_copied, values_copied, list_attached}
use Rattle.rules.specs.Push.{finished, column_whole, columns_whole, queued_whole}
use Rattle.rules.specs.Held.{holds_ok}
use Rattle.rules.specs.Stays.{same_refl}
use Rattle.rules.proofs.PushLaws.{whole_beside, Ends, finished_holds}
use Rattle.push_safety.specs.Run.{Run, Readable, Goes}
use Rattle.push_safety.specs.CallerLaws.{run_bounds}
use Rattle.push_safety.specs.BooksGo.{go_refl}
use Rattle.push_safety.specs.Firm.{Firm, FirmGoes, run_firm, firm_refl, firm_trans, reads_go}
use Rattle.push_safety.specs.AttachGoes.{attached_firm, attached_other}
use Rattle.push_safety.specs.FinishGoes.{rows_small, finished_goes}
use Rattle.rules.specs.declared.Step.{Step}
use Rattle.rules.specs.Leaves.{steps-done, steps-refused, steps_next, steps_stop}
use Rattle.columns.specs.SourceLaws.{list_same}
use Rattle.open_blocks.specs.AskLaws.{zeros, length-zeros, run-booked, booked_few, booked-place, booked_books}
use Rattle.finishing.specs.Finish.{Closable, Finishes, QueuesSlot}
use Rattle.finishing.specs.AnswerLaws.{finished-steps}
use Rattle.finishing.specs.FinishLaws.{each_more, queued_is}
use Rattle.routes.specs.Route.{whole_refusal}
use Rattle.whole.specs.Whole.{rows_whole, Columned, LaysColumn, Asks, Wholly, LaysColumns, QueuesWhole, QueuesFirst}
use Rattle.whole.specs.RefusalLaws.{whole_same, whole_refuses, whole_goes, whole_says}
use Rattle.whole.specs.WholeLaws.{rows_firm, whole_is, moved}

-- ---- one column, in a world

module _ (v : World) (b : Batch) (c : ℕ) (f : Firm v) (x : Readable v b) (h : c < v.state.columns) (l : list_length v (filling v) c + (record_of b c).count ≤ v.state.lists) where
  g : FirmGoes v (rows_whole v b c)
  g = rows_firm v b c f

  column_attached : FirmGoes v (list_attached (rows_whole v b c) b c)
  unfolding bits_copied values_copied list_length
  column_attached = firm_trans g (attached_firm (rows_whole v b c) b c h ((g.reads b x).columns c h) l g.firm)

  column_firm : FirmGoes v (column_whole v b c)
  column_firm = moved (sym (whole_is v b c)) column_attached

  other_attached : (d : ℕ) → d < v.state.columns → d ≢ c → list_length (list_attached (rows_whole v b c) b c) (filling v) d ≡ list_length v (filling v) d
  unfolding bits_copied values_copied list_length
  other_attached d m n = attached_other (rows_whole v b c) b c h ((g.reads b x).columns c h) l g.firm (filling v) d m n

  column_other : (d : ℕ) → d < v.state.columns → d ≢ c → list_length (column_whole v b c) (filling v) d ≡ list_length v (filling v) d
  column_other d m n = ap (λ (u : World). list_length u (filling v) d) (whole_is v b c) ∙ other_attached d m n

-- ---- copy_columns

module _ (s : BatchCoalescer) (slots books : List ℕ) (b : Batch) where
  -- the first c columns are laid, and the lists of the others are as they were
  pub record LaidTo (c : ℕ) (slots' books' : List ℕ) : Type 0 where
    pub laid : LaysColumns s slots books b c slots' books'
    pub goes : FirmGoes (world s slots (zeros s.pool.0) books) (world s slots' (zeros s.pool.0) books')
    pub lists : (d : ℕ) → c ≤ d → d < s.columns → list_length (world s [] [] books') s.place d ≡ list_length (world s [] [] books) s.place d

asks_run : {s : BatchCoalescer} {slots books : List ℕ} {b : Batch} → Asks s slots books b → Run (world s slots (zeros s.pool.0) books)
asks_run {s} {slots} x = x.booked.run slots (zeros s.pool.0) x.slots_are (length-zeros s.pool.0)

asks_reads : {s : BatchCoalescer} {slots books : List ℕ} {b : Batch} → Asks s slots books b → Readable (world s slots (zeros s.pool.0) books) b
asks_reads {s} {slots} {books} {b} x =
    reads_go {w = world s [] [] books} {v = world s slots (zeros s.pool.0) books} (same_refl s) (go_refl (run_firm (asks_run x)).books) b x.reads

module _ {s : BatchCoalescer} {slots books : List ℕ} {b : Batch} (x : Asks s slots books b) where
  pub asks_few : Few s
  asks_few = booked_few x.booked

  pub asks_columns : s.columns ≤ 16
  asks_columns = asks_few.columns

  pub asks_place : s.place ≤ s.queue
  asks_place = booked-place x.booked

  pub asks_slot : s.place ≤ 1024
  asks_slot = omega (arith, asks_place, asks_few.queue)

  pub asks_whole : (Few s) × (s.place ≤ s.queue) × (length books ≡ books_length s) × (length b.records ≡ 32 * s.columns)
  asks_whole = (asks_few, asks_place, booked_books x.booked, x.reads.records_are)

  pub asks_closable : Closable s slots books
  asks_closable = record { booked = x.booked; slots_are = x.slots_are }

module _ {s : BatchCoalescer} {slots books : List ℕ} {b : Batch} (x : Wholly s slots books b) where
  pub laid_none : LaidTo s slots books b 0 slots books
  unfolding each
  laid_none = record { laid = record { is = λ pool. refl }; goes = firm_refl (run_firm (asks_run x.asks)); lists = λ d l m. refl }

  module _ {c : ℕ} {slots' books' : List ℕ} (k : LaidTo s slots books b c slots' books') (h : c < s.columns) where
    reads : Readable (world s slots' (zeros s.pool.0) books') b
    reads = k.goes.reads b (asks_reads x.asks)

    room : list_length (world s [] [] books') s.place c + (record_of b c).count ≤ s.lists
    room = omega (arith, k.lists c (omega arith) h, x.room c h)

    pub laid_asks : {place : ℕ} → place ≡ values_place s s.place c → Columned s slots' books' b c place
    laid_asks e =
        record { pool = zeros s.pool.0; firm = k.goes.firm; reads = reads; column = h; placed = e; room = room }

    joint : list_length (world s slots' (zeros s.pool.0) books') s.place c + (record_of b c).count ≤ s.lists
    joint = omega (arith, room, list_same s slots' (zeros s.pool.0) books' c s.place)

    pub laid_more : {slots'' books'' : List ℕ} → LaysColumn s slots' books' b c slots'' books'' → LaidTo s slots books b (c + 1) slots'' books''
    laid_more {slots''} {books''} o =
        record {
          laid =
              record {
                is = λ pool. each_more c (λ u i. column_whole u b i) (world s slots pool books) ∙ ap (λ (u : World). column_whole u b c) (k.laid.is pool) ∙ o.is pool;
              };
          goes = firm_trans k.goes (moved (o.is (zeros s.pool.0)) (column_firm (world s slots' (zeros s.pool.0) books') b c k.goes.firm reads h joint));
          lists = λ d l m.
              list_same s slots'' (zeros s.pool.0) books'' d s.place
              ∙ ap (λ (u : World). list_length u s.place d) (sym (o.is (zeros s.pool.0)))
              ∙ column_other (world s slots' (zeros s.pool.0) books') b c k.goes.firm reads h joint d m (λ q. omega arith)
              ∙ sym (list_same s slots' (zeros s.pool.0) books' d s.place)
              ∙ k.lists d (omega arith) m;
        }

  pub laid-all : {c : ℕ} {slots' books' : List ℕ} → LaidTo s slots books b c slots' books' → c ≤ s.columns → s.columns ≤ c → LaysColumns s slots books b s.columns slots' books'
  laid-all {c} k l m = let q : s.columns ≡ c = omega arith in laid-at q k.laid
    where
      laid-at : {n i : ℕ} {slots' books' : List ℕ} → n ≡ i → LaysColumns s slots books b i slots' books' → LaysColumns s slots books b n slots' books'
      laid-at e z = rw e z

-- ---- queue_whole

count_any : (rows : ℕ) (records body : List ℕ) (c : ℕ) → (record_of (batch 0 records []) c).count ≡ (record_of (batch rows records body) c).count
unfolding record_of
count_any rows records body c = refl

columns_is : (s : BatchCoalescer) (slots pool books : List ℕ) (b : Batch) → columns_whole (world s slots pool books) b ≡ each s.columns (λ u i. column_whole u b i) (world s slots pool books)
unfolding columns_whole
columns_is s slots pool books b = refl

-- what queue_slot asks
pub whole_queued : (s : BatchCoalescer) (books records : List ℕ) {number : ℕ} → number ≡ whole_refusal (world s [] [] books) (batch 0 records []) → number ≡ 0 → s.queued < s.queue
whole_queued s books records e z = (whole_says (world s [] [] books) (batch 0 records []) (sym e ∙ z)).0

pub whole_length : {s : BatchCoalescer} {slots books slots' books' : List ℕ} {b : Batch} → Asks s slots books b → LaysColumns s slots books b s.columns slots' books' → length books' ≡ books_length s
whole_length {s} {slots} {books} {slots'} {books'} {b} x k =
    ap (λ (u : World). length u.books) (sym (columns_is s slots [] books b ∙ k.is []))
    ∙ (whole_beside (world s slots [] books) b).books
    ∙ booked_books x.booked

module _ (s : BatchCoalescer) (slots books : List ℕ) (rows : ℕ) (records body : List ℕ) {number : ℕ} (e : number ≡ whole_refusal (world s [] [] books) (batch 0 records [])) where
  any : (pool : List ℕ) → number ≡ whole_refusal (world s slots pool books) (batch rows records body)
  any pool = e ∙ whole_same s books records slots pool body rows

  pub whole_stop : (number ≡ 0 → ⊥) → QueuesWhole s slots books (batch rows records body) (record { state = s; number = number }) slots books
  whole_stop o = record { steps = λ pool. steps-refused o (whole_refuses (world s slots pool books) (batch rows records body) (any pool) o) }

  module _ (z : number ≡ 0) where
    told : (s.queued < s.queue) × ((c : ℕ) → c < s.columns → list_length (world s [] [] books) s.place c + (record_of (batch 0 records []) c).count ≤ s.lists)
    told = whole_says (world s [] [] books) (batch 0 records []) (sym e ∙ z)

    module _ (x : Asks s slots books (batch rows records body)) where
      pub whole-fits : Wholly s slots books (batch rows records body)
      whole-fits = record { asks = x; room = λ c h. omega (arith, told.1 c h, count_any rows records body c) }

    pub whole-done : {slots' books' books'' : List ℕ} {u : BatchCoalescer} → LaysColumns s slots books (batch rows records body) s.columns slots' books' → QueuesSlot s books' rows u books'' → QueuesWhole s slots books (batch rows records body) (record { state = u; number = 0 }) slots' books''
    whole-done {slots'} {books'} {books''} {u} k q =
        record {
          steps = λ pool. steps-done
              (whole_goes (world s slots pool books) (batch rows records body) (any pool) z
              ∙ ap ok
              (ap (λ (v : World). queueing v rows) (columns_is s slots pool books (batch rows records body) ∙ k.is pool)
              ∙ queued_is slots' pool q));
        }

-- ---- finish_first

module _ {s : BatchCoalescer} {slots books : List ℕ} {b : Batch} {q : Step} {slots' books' : List ℕ} (f : Finishes finished s slots books q slots' books') where
  pub first_stop : (q.number ≡ 0 → ⊥) → QueuesFirst s slots books b q slots' books'
  first_stop o = record { steps = λ pool. steps_stop (λ v. queued_whole v b) (finished-steps pool f) o }

  module _ (o : q.number ≡ 0) where
    pub first_done : {r : Step} {slots'' books'' : List ℕ} → QueuesWhole q.state slots' books' b r slots'' books'' → QueuesFirst s slots books b r slots'' books''
    first_done k = record { steps = λ pool. steps_next (λ v. queued_whole v b) (finished-steps pool f) o (k.steps pool) }

    pub first_asks : Asks s slots books b → Asks q.state slots' books' b
    first_asks x =
        let w : World = world s slots (zeros s.pool.0) books in
        let v : World = world q.state slots' (zeros s.pool.0) books' in
        let e : finished (world s slots (zeros s.pool.0) books) ≡ ok (world q.state slots' (zeros s.pool.0) books') = (finished-steps (zeros s.pool.0) f).done o in
        let g : Goes (world s slots (zeros s.pool.0) books) (world q.state slots' (zeros s.pool.0) books') =
        holds_ok v (finished_goes w (asks_run x) (rows_small (asks_run x) (omega (arith, x.below)))) e in
        let i : Ends (world s slots (zeros s.pool.0) books) 0 (world q.state slots' (zeros s.pool.0) books') = holds_ok v (finished_holds w) e in
        record {
          booked = run-booked g.run;
          slots_are = g.run.fit.slots_are;
          reads = reads_go {w = world q.state slots' (zeros s.pool.0) books'} {v = world q.state [] [] books'} (same_refl q.state) (go_refl (run_firm g.run).books) b (g.reads b (asks_reads x));
          below = omega (arith, i.buffered, (run_bounds g.run).target_some);
        }
