-- Finishing, in a push and in its trial: every block closed, the slot queued, and the next one begun, whose lists are not touched yet.
use Rattle.std.specs.Prelude.{ℕ, zero, suc, ◌+◌, ◌≤◌, ◌<◌, ◌^◌, ◌≡◌, refl, ◌≢◌, Bool, true, false, cond, List}
use Rattle.std.proofs.Common.{sym, ◌∙◌, ap, arith, add-one, le-leb}
use Rattle.std.proofs.Math.Decide.{dec_le}
use Rattle.std.proofs.lemmas.Bool.{lt-leb}
use Rattle.books.specs.Entry.{used_of}
use Rattle.counts.specs.declared.BufferNumber.{BufferNumber}
use Rattle.state.specs.declared.BatchCoalescer.{BatchCoalescer}
use Rattle.state.specs.World.{World, column_of}
use Rattle.state.specs.Layout.{is_views, tally, list_length, next_slot}
use Rattle.rules.specs.Batch.{Batch}
use Rattle.rules.specs.Steps.{ok, refuse, each, with_counts, counting, queueing}
use Rattle.rules.specs.Views.{closed}
use Rattle.rules.specs.Push.{all_closed, finished}
use Rattle.rules.specs.Stays.{SameSetUp, same_refl, same_trans, same_counts}
use Rattle.rules.specs.SameLaws.{same_next}
use Rattle.rules.specs.Held.{holds_ok}
use Rattle.rules.proofs.StepLaws.{finished_nine, finished_queues}
use Rattle.push_safety.specs.Run.{Run}
use Rattle.push_safety.specs.Firm.{run_firm}
use Rattle.push_safety.specs.StepGoes.{list_cases}
use Rattle.push_safety.specs.FinishGoes.{FinishLeaves, finished-shut}
use Rattle.push_safety.specs.Along.{Along, along_refl, along_trans, along_in}
use Rattle.trial_truth.specs.Alike.{Alike}
use Rattle.trial_truth.specs.AlikeLaws.{alike_refl, alike_trans, tally_alike}
use Rattle.trial_truth.specs.Like.{ColumnOpens, Untouched, Like, ColumnMoves}
use Rattle.trial_truth.specs.LikeLaws.{closed_state, lists_of}
use Rattle.trial_truth.specs.MoveLaws.{closed_moves}
use Rattle.trial_truth.specs.Tells.{closed_at, closed_to, TellsFinished}
use Rattle.std.specs.Prelude.{Some, None}

-- ---- every block closed

-- the state, as close_all has it
pub closed_none : (s : BatchCoalescer) → s ≡ closed_to s 0
unfolding closed_to
closed_none s = refl

pub closed-more : (s : BatchCoalescer) (c : ℕ) {t u : BatchCoalescer} → t ≡ closed_to s c → u ≡ closed_at t c → u ≡ closed_to s (c + 1)
unfolding closed_to
closed-more s c p q = rw (add-one) (q ∙ ap (λ (x : BatchCoalescer). closed_at x c) p)

pub closed_all : (s : BatchCoalescer) (c : ℕ) {t : BatchCoalescer} → t ≡ closed_to s c → c ≤ s.columns → s.columns ≤ c → t ≡ closed_to s s.columns
closed_all s c p l h = p ∙ ap (closed_to s) (omega arith)

abbrev close : World → ℕ → World
close v c = cond (is_views v.state c) (closed v c) v

-- the world with those of the first n columns closed: only lists of the slot being filled are longer
record ClosesTo (v : World) (n : ℕ) (w : World) : Type 0 where
  along : Along v w
  alike : Alike v.books w.books v.state.numbers
  lists : (slot d : ℕ) → d < v.state.columns → slot ≢ v.state.place → list_length w slot d ≡ list_length v slot d
  state : w.state ≡ closed_to v.state n

closes_one : (v w : World) (n : ℕ) → n < v.state.columns → ClosesTo v n w → ClosesTo v (suc n) (close w n)
unfolding closed_to closed_at
closes_one v w n h a = go (is_views w.state n) refl
  where
    go : (y : Bool) → is_views w.state n ≡ y → ClosesTo v (suc n) (cond y (closed w n) w)
    go true y =
        let m : ColumnMoves n w (closed w n) = closed_moves w n a.along.goes.run (along_in a.along.beside n h) y in
        record {
          along = along_trans a.along m.along;
          alike = alike_trans a.along.beside.set_up.numbers a.alike m.alike;
          lists = λ slot d g o. m.lists slot d (along_in a.along.beside d g) (λ e. absurd (o (e ∙ a.along.beside.place))) ∙ a.lists slot d g o;
          state = closed_state w n ∙ sym (rw (← a.state, y));
        }
    go false y =
        record { along = a.along; alike = a.alike; lists = a.lists; state = rw (← a.state, y) }

closes_to : (v : World) (n : ℕ) → Run v → n ≤ v.state.columns → ClosesTo v n (each n close v)
unfolding each closed_to
closes_to v zero r h = record { along = along_refl r; alike = alike_refl v.books v.state.numbers; lists = λ slot d g o. refl; state = refl }
closes_to v (suc n) r h = closes_one v (each n close v) n h (closes_to v n r (omega arith))

all_closes : (v : World) → Run v → ClosesTo v v.state.columns (all_closed v)
unfolding all_closed
all_closes v r = closes_to v v.state.columns r (omega arith)

-- ---- the slot queued

queued_alike : (w : World) (rows : ℕ) → used_of w.books ≤ w.state.numbers → Alike w.books (queueing w rows).books w.state.numbers
unfolding queueing counting
queued_alike w rows u = tally_alike (tally w.state w.state.place 0) rows u

queued_lists : (w : World) (rows : ℕ) → Run w → rows < 2 ^ 32 → (slot d : ℕ) → d < w.state.columns → list_length (queueing w rows) slot d ≡ list_length w slot d
unfolding queueing list_length counting
queued_lists w rows r f slot d h =
    list_cases {w = w} w.state.place 0 rows (run_firm r) r.fit.place (omega arith) f slot d h (λ (n : ℕ). n ≡ list_length w slot d) (λ a b. absurd (omega arith)) refl

queued_state : (w : World) (rows : ℕ) → (queueing w rows).state ≡ with_counts w.state (next_slot w.state w.state.place) (w.state.queued + 1) 0
unfolding queueing
queued_state w rows = refl

-- a slot that is ahead of the next one is ahead of this one, and is not this one
data Next (s : BatchCoalescer) : Type 0 where
  first : s.place ≡ s.queue → next_slot s s.place ≡ 0 → Next s
  one : s.place < s.queue → next_slot s s.place ≡ s.place + 1 → Next s

next_of : (s : BatchCoalescer) → s.place ≤ s.queue → Next s
unfolding next_slot
next_of s h = go (dec_le s.queue s.place)
  where
    go : Dec (s.queue ≤ s.place) → Next s
    go (yes d) = first (omega arith) (rw (le-leb s.queue s.place d))
    go (no d) = one (omega arith) (rw (lt-leb s.queue s.place (omega arith)))

record Further (s : BatchCoalescer) (m slot c : ℕ) : Type 0 where
  other : slot ≢ s.place
  untouched : Untouched s m slot c

further : (s t : BatchCoalescer) (m slot c : ℕ) → s.place ≤ s.queue → s.queued < s.queue → t.place ≡ next_slot s s.place → t.queued ≡ s.queued + 1 → t.queue ≡ s.queue → Untouched t 0 slot c → Further s m slot c
further s t m slot c h l p q z u = go (next_of s h) (dec_le t.place slot)
  where
    made : slot ≢ s.place → (s.place ≤ slot → slot + s.queued ≤ s.place + s.queue) → (slot < s.place → slot + s.queued < s.place) → Further s m slot c
    made o f g = record { other = o; untouched = record { later = f; around = g; here = λ e. absurd (o e) } }

    go : Next s → Dec (t.place ≤ slot) → Further s m slot c
    go (first e n) (yes d) =
        let f = u.later d in
        made (λ x. omega (arith, f, p, n)) (λ x. omega (arith, f, p, n)) (λ x. omega (arith, f, p, n))
    go (first e n) (no d) = absurd (omega (arith, p, n))
    go (one e n) (yes d) =
        let f = u.later d in
        made (λ x. omega (arith, f, p, n)) (λ x. omega (arith, f, p, n)) (λ x. omega (arith, f, p, n))
    go (one e n) (no d) =
        let f = u.around (omega arith) in
        made (λ x. omega (arith, f, p, n)) (λ x. omega (arith, f, p, n)) (λ x. omega (arith, f, p, n))

-- ---- the ways out of try_finish

module _ {s : BatchCoalescer} {books : List ℕ} {b : Batch} {m : ℕ} {v : World} (a : Like s books b m v) (e : v.state ≡ s) (some : s.buffered.0 ≢ 0) (few : s.buffered.0 ≤ 65536) where
  some' : v.state.buffered.0 ≢ 0
  some' z = some (ap (λ (x : BatchCoalescer). x.buffered.0) (sym e) ∙ z)

  small : v.state.buffered.0 < 2 ^ 32
  small = omega (arith, ap (λ (x : BatchCoalescer). x.buffered.0) e)

  finish_full : s.queue ≤ s.queued → finished v ≡ refuse 9
  finish_full l = finished_nine v some' (omega (arith, a.queued, a.set_up.queue))

  module _ (l : s.queued < s.queue) where
    shut : ClosesTo v v.state.columns (all_closed v)
    shut = all_closes v a.run

    abbrev w : World
    w = all_closed v

    abbrev rows : ℕ
    rows = v.state.buffered.0

    abbrev u : World
    u = queueing w rows

    queues : finished v ≡ ok u
    queues = finished_queues v some' (omega (arith, a.queued, a.set_up.queue))

    ends : FinishLeaves v u
    ends = holds_ok u (finished-shut v a.run small) queues

    abbrev t : BatchCoalescer
    t = with_counts (closed_to s s.columns) (next_slot (closed_to s s.columns) (closed_to s s.columns).place) ((closed_to s s.columns).queued + 1) 0

    closed_is : w.state ≡ closed_to s s.columns
    closed_is = shut.state ∙ ap (λ (x : BatchCoalescer). closed_to x x.columns) e

    state : u.state ≡ t
    state =
        queued_state w rows
        ∙ ap (λ (x : BatchCoalescer). with_counts x (next_slot x x.place) (x.queued + 1) 0) closed_is

    beside : SameSetUp s w.state
    beside = same_trans a.set_up shut.along.beside.set_up

    same : SameSetUp s t
    same = rw closed_is at (same_trans beside (same_counts w.state (next_slot w.state w.state.place) (w.state.queued + 1) 0))

    place_at : t.place ≡ next_slot s s.place
    place_at =
        ap (λ (x : BatchCoalescer). next_slot x x.place) (sym closed_is)
        ∙ same_next beside w.state.place
        ∙ ap (next_slot s) (shut.along.beside.place ∙ a.place)

    queued_at : t.queued ≡ s.queued + 1
    queued_at =
        ap (λ (x : BatchCoalescer). x.queued + 1) (sym closed_is)
        ∙ ap (λ (n : ℕ). n + 1) (shut.along.beside.queued ∙ a.queued)

    not_number : (k : BufferNumber) → None ≡ Some k → ⊥
    not_number k q = let z : ◌≡◌ {A = ℕ} 0 1 = cc in omega arith

    none_open : (c k : ℕ) → ColumnOpens t c k → ⊥
    none_open c k o =
        let g : (column_of u.state c).block ≡ None = (ends.shut some').shut c (rw state o.column) (rw state o.views) in
        not_number (record { 0 = k }) (sym (rw state at g) ∙ o.block)

    like : Like t books b 0 u
    like =
        record {
          run = ends.goes.run;
          reads = ends.goes.reads b a.reads;
          set_up = rw state (same_refl t);
          place = ap (λ (x : BatchCoalescer). x.place) state;
          queued = ap (λ (x : BatchCoalescer). x.queued) state;
          alike =
              rw same.numbers
              (alike_trans a.set_up.numbers a.alike
              (alike_trans shut.along.beside.set_up.numbers shut.alike (queued_alike w rows shut.along.goes.run.used)));
          lists = λ slot c h x.
              let g : c < s.columns = omega (arith, same.columns) in
              let f : Further s m slot c = further s t m slot c (omega (arith, a.run.fit.place, a.place, a.set_up.queue)) l place_at queued_at same.queue x in
              queued_lists w rows shut.along.goes.run small slot c (omega (arith, beside.columns))
              ∙ shut.lists slot c (omega (arith, a.set_up.columns)) (λ z. f.other (z ∙ a.place))
              ∙ a.lists slot c g f.untouched
              ∙ sym (lists_of books same slot c);
          live = λ c k h o. absurd (none_open c k o);
          filled = λ c k h o. absurd (none_open c k o);
          apart = λ c d k h g o x. none_open c k o;
        }

-- the code has closed every block, and begun the next slot
pub tells_queued : {s t u : BatchCoalescer} → (s.buffered.0 ≡ 0 → ⊥) → s.queued < s.queue → t ≡ closed_to s s.columns → u ≡ with_counts t (next_slot t t.place) (t.queued + 1) 0 → TellsFinished s (record { state = u; number = 0 })
tells_queued {s} {t} {u} n l p q =
    record {
      tells = λ some few books b m v e a.
          record {
            done = λ z.
                record {
                  world = queueing (all_closed v) v.state.buffered.0;
                  is = queues a e some few l;
                  state = state a e some few l ∙ sym (rw (← p) q);
                  like = rw (q, p) (like a e some few l);
                };
            not = λ z. absurd (z refl);
          };
      idle = λ z. absurd (n z);
    }

pub tells_nine : (s : BatchCoalescer) → (s.buffered.0 ≡ 0 → ⊥) → s.queue ≤ s.queued → TellsFinished s (record { state = s; number = 9 })
tells_nine s n l =
    record {
      tells = λ some few books b m v e a.
          record { done = λ z. absurd (omega arith); not = λ z. finish_full a e some few l };
      idle = λ z. absurd (n z);
    }

pub tells_idle : (s : BatchCoalescer) → s.buffered.0 ≡ 0 → TellsFinished s (record { state = s; number = 0 })
tells_idle s z = record { tells = λ some few books b m v e a. absurd (some z); idle = λ o. (refl, refl) }
