-- Finishing: every block joins its list, one column after another, and the slot is queued.
use Rattle.std.specs.Prelude.{ℕ, suc, ◌+◌, ◌≤◌, ◌<◌, ◌≡◌, refl, ◌≢◌, Bool, true, false, List, length, get_or}
use Rattle.std.proofs.Common.{sym, ◌∙◌, arith}
use Rattle.std.proofs.Math.Path.{ap}
use Rattle.kinds.specs.Kind.{is_view}
use Rattle.search.specs.Cases.{by_cond}
use Rattle.state.specs.declared.BatchCoalescer.{BatchCoalescer}
use Rattle.state.specs.World.{World, world, column_of, no_column}
use Rattle.state.specs.Layout.{is_views, slots_length, books_length}
use Rattle.layout.specs.Few.{Few}
use Rattle.rules.specs.Steps.{ok, each, counting, queueing}
use Rattle.rules.specs.Views.{closed}
use Rattle.rules.specs.Calls.{or_old}
use Rattle.rules.specs.Push.{all_closed, finished, if_full}
use Rattle.rules.proofs.StepLaws.{finished-none, finished_nine, finished_queues, full_finishes, full_not}
use Rattle.rules.proofs.PartLaws.{closed_beside}
use Rattle.push_safety.specs.Run.{Run}
use Rattle.push_safety.specs.BlockGoes.{closed_goes}
use Rattle.push_safety.specs.Along.{Along, along_refl, along_trans, along_in}
use Rattle.rules.specs.declared.Step.{Step}
use Rattle.columns.specs.Pushing.{Running}
use Rattle.open_blocks.specs.Open.{FillingViews, ClosesBlock}
use Rattle.open_blocks.specs.AskLaws.{zeros, length-zeros, run-booked, booked_few, booked-place, booked_books}
use Rattle.open_blocks.specs.AskLaws.{running_booked, ready_at}
use Rattle.finishing.specs.Finish.{Closable, close, ClosesOne, ClosesAll, Finishes, QueuesSlot}
use Rattle.finishing.specs.AnswerLaws.{finishes_done, finishes_refused}

-- one more of a fold
pub each_more : (n : ℕ) (f : World → ℕ → World) (w : World) → each (n + 1) f w ≡ f (each n f w) n
unfolding each
each_more n f w = let p : n + 1 ≡ suc n = omega arith in ap (λ (m : ℕ). each m f w) p

pub running_closable : {s : BatchCoalescer} {slots books : List ℕ} → Running s books → length slots ≡ slots_length s → Closable s slots books
running_closable r e = record { booked = running_booked r; slots_are = e }

-- ---- one column

module _ {s : BatchCoalescer} {slots books : List ℕ} {c : ℕ} where
  pub one_inside : Closable s slots books → c < s.columns → c < 16
  one_inside x h = omega (arith, (booked_few x.booked).columns)

  pub one_ready : {v : Bool} → Closable s slots books → c < s.columns → v ≡ is_views s c → v ≡ true → FillingViews s slots books c
  one_ready x h e y = ready_at x.booked x.slots_are h (sym e ∙ y)

  pub one_views : {v : Bool} {t : BatchCoalescer} {slots' books' : List ℕ} → v ≡ is_views s c → v ≡ true → ClosesBlock s slots books c t slots' books' → ClosesOne s slots books c t slots' books'
  one_views {v} e y k = record { is = λ pool. go pool ∙ k.is pool }
    where
      go : (pool : List ℕ) → close (world s slots pool books) c ≡ closed (world s slots pool books) c
      go pool = rw (sym e ∙ y)

  pub one_other : {v : Bool} → v ≡ is_views s c → v ≡ false → ClosesOne s slots books c s slots books
  one_other {v} e y = record { is = go }
    where
      go : (pool : List ℕ) → close (world s slots pool books) c ≡ world s slots pool books
      go pool = rw (sym e ∙ y)

-- ---- close_all

close_along : (v : World) (c : ℕ) → Run v → c < v.state.columns → Along v (close v c)
close_along v c r h =
    by_cond (Along v) (is_views v.state c) (λ y. record { goes = closed_goes v c r h y; beside = closed_beside v c }) (λ y. along_refl r)

closes_at : {s t : BatchCoalescer} {slots books slots' books' : List ℕ} {n c : ℕ} → n ≡ c → ClosesAll s slots books c t slots' books' → ClosesAll s slots books n t slots' books'
closes_at e k = rw e k

moved : {p q r : World} → p ≡ q → Along r p → Along r q
moved e z = rw (← e) z

module _ {s : BatchCoalescer} {slots books : List ℕ} (x : Closable s slots books) where
  pub closes_none : ClosesAll s slots books 0 s slots books
  unfolding each
  closes_none =
      record { is = λ pool. refl; along = λ pool e. along_refl (x.booked.run slots pool x.slots_are e) }

  pub closable_few : Few s
  closable_few = booked_few x.booked

  pub closable_columns : s.columns ≤ 16
  closable_columns = closable_few.columns

  module _ {c : ℕ} {t : BatchCoalescer} {slots' books' : List ℕ} (k : ClosesAll s slots books c t slots' books') where
    a : Along (world s slots (zeros s.pool.0) books) (world t slots' (zeros s.pool.0) books')
    a = k.along (zeros s.pool.0) (length-zeros s.pool.0)

    pub closable_after : Closable t slots' books'
    closable_after = record { booked = run-booked a.goes.run; slots_are = a.goes.run.fit.slots_are }

    -- what is known of a column that is not closed yet
    pub closes_asks : c < s.columns → (Closable t slots' books') × (c < t.columns)
    closes_asks h = (closable_after, along_in a.beside c h)

    pub closes_more : {u : BatchCoalescer} {slots'' books'' : List ℕ} → c < s.columns → ClosesOne t slots' books' c u slots'' books'' → ClosesAll s slots books (c + 1) u slots'' books''
    closes_more {u} {slots''} {books''} h o =
        record {
          is = λ pool. each_more c close (world s slots pool books) ∙ ap (λ (v : World). close v c) (k.is pool) ∙ o.is pool;
          along = λ pool e. along_trans (k.along pool e) (next pool (k.along pool e));
        }
      where
        next : (pool : List ℕ) → Along (world s slots pool books) (world t slots' pool books') → Along (world t slots' pool books') (world u slots'' pool books'')
        next pool b = moved (o.is pool) (close_along (world t slots' pool books') c b.goes.run (along_in b.beside c h))

    -- what the loop looks at is the kind that set-up fixed
    looked : {v : Bool} → v ≡ is_view (get_or s.column c no_column).kind → v ≡ is_views t c
    unfolding is_views column_of
    looked p = p ∙ ap is_view (sym (a.beside.set_up.kind c))

    -- a column of views: what finish_current asks, and what it leaves; and one that is not
    pub closes_ready : {v : Bool} → c < s.columns → v ≡ is_view (get_or s.column c no_column).kind → v ≡ true → FillingViews t slots' books' c
    closes_ready h p y = one_ready closable_after (along_in a.beside c h) (looked p) y

    pub closes_views : {v : Bool} {u : BatchCoalescer} {slots'' books'' : List ℕ} → c < s.columns → v ≡ is_view (get_or s.column c no_column).kind → v ≡ true → ClosesBlock t slots' books' c u slots'' books'' → ClosesAll s slots books (c + 1) u slots'' books''
    closes_views h p y k = closes_more h (one_views (looked p) y k)

    pub closes_plain : {v : Bool} → c < s.columns → v ≡ is_view (get_or s.column c no_column).kind → v ≡ false → ClosesAll s slots books (c + 1) t slots' books'
    closes_plain h p y = closes_more h (one_other (looked p) y)

    -- what queue_slot asks
    pub finish_asks : s.queued < s.queue → (Few t) × (t.place ≤ t.queue) × (t.queued < t.queue) × (length books' ≡ books_length t)
    finish_asks l = (
      booked_few closable_after.booked,
      booked-place closable_after.booked,
      omega (arith, a.beside.queued, a.beside.set_up.queue),
      booked_books closable_after.booked,
    )

  -- all of them
  pub closes_end : {c : ℕ} {t : BatchCoalescer} {slots' books' : List ℕ} → ClosesAll s slots books c t slots' books' → c ≤ s.columns → s.columns ≤ c → ClosesAll s slots books s.columns t slots' books'
  closes_end {c} k l m = let q : s.columns ≡ c = omega arith in closes_at q k

-- ---- queue_slot and finish_slot

pub queued_is : {s : BatchCoalescer} {books : List ℕ} {rows : ℕ} {u : BatchCoalescer} {books' : List ℕ} (slots pool : List ℕ) → QueuesSlot s books rows u books' → queueing (world s slots pool books) rows ≡ world u slots pool books'
unfolding queueing counting
queued_is slots pool q = rw (q.state_is, q.books_are)

all_is : (s : BatchCoalescer) (slots pool books : List ℕ) → all_closed (world s slots pool books) ≡ each s.columns close (world s slots pool books)
unfolding all_closed
all_is s slots pool books = refl

module _ {s : BatchCoalescer} {slots books : List ℕ} where
  pub finish_none : s.buffered.0 ≡ 0 → Finishes finished s slots books (record { state = s; number = 0 }) slots books
  finish_none h = finishes_done (λ pool. finished-none (world s slots pool books) h)

  pub finish_nine : s.buffered.0 ≢ 0 → s.queue ≤ s.queued → Finishes finished s slots books (record { state = s; number = 9 }) slots books
  finish_nine h l = finishes_refused (λ pool. finished_nine (world s slots pool books) h l)

  pub finish_queues : {t u : BatchCoalescer} {slots' books' books'' : List ℕ} → s.buffered.0 ≢ 0 → s.queued < s.queue → ClosesAll s slots books s.columns t slots' books' → QueuesSlot t books' s.buffered.0 u books'' → Finishes finished s slots books (record { state = u; number = 0 }) slots' books''
  finish_queues {t} {u} {slots'} {books'} {books''} h l k q =
      finishes_done (λ pool.
      finished_queues (world s slots pool books) h l
      ∙ ap ok (ap (λ (v : World). queueing v s.buffered.0) (all pool) ∙ queued_is slots' pool q))
    where
      all : (pool : List ℕ) → all_closed (world s slots pool books) ≡ world t slots' pool books'
      all pool = all_is s slots pool books ∙ k.is pool

  -- finish_full
  pub full_done : {q : Step} {slots' books' : List ℕ} → s.buffered.0 ≡ s.target.0 → Finishes finished s slots books q slots' books' → Finishes if_full s slots books q slots' books'
  full_done {q} {slots'} {books'} h f =
      record { is = λ pool. f.is pool ∙ ap (or_old (world s slots pool books)) (sym (full_finishes (world s slots pool books) h)) }

  pub full_none : (s.buffered.0 ≡ s.target.0 → ⊥) → Finishes if_full s slots books (record { state = s; number = 0 }) slots books
  full_none h = finishes_done (λ pool. full_not (world s slots pool books) h)
