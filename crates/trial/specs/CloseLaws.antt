-- Finishing on trial: the blocks closed one after another, and the next slot begun.
use Rattle.std.specs.Prelude.{ℕ, ◌+◌, ◌*◌, ◌≤◌, ◌<◌, ◌≡◌, Bool, true, false, List, get_or}
use Rattle.std.proofs.Math.Path.{refl}
use Rattle.std.proofs.Common.{sym, ◌∙◌, ap, true≢false, arith}
use Rattle.std.proofs.Math.Decide.{dec_lt}
use Rattle.search.specs.Cases.{by_cond}
use Rattle.kinds.specs.Kind.{is_view}
use Rattle.words.specs.FrameLaws.{framed_refl}
use Rattle.state.specs.declared.BatchCoalescer.{BatchCoalescer}
use Rattle.state.specs.declared.Column.{Column}
use Rattle.state.specs.World.{World, world, column_of, no_column}
use Rattle.state.specs.Layout.{is_views, next_slot, list_length}
use Rattle.rules.specs.Stays.{SameSetUp, same_refl, same_trans, same_counts, same-column, Kept}
use Rattle.rules.specs.SameLaws.{same_views}
use Rattle.state.proofs.SlotLaws.{next_in}
use Rattle.layout.specs.Few.{Few}
use Rattle.rules.specs.Steps.{with_counts, with_column}
use Rattle.push_safety.specs.BooksGo.{go_refl}
use Rattle.push_safety.specs.Firm.{FirmGoes, run_firm, firm_run, firm_goes, same_list_length}
use Rattle.push_safety.specs.StepGoes.{column_cases, column-new}
use Rattle.push_safety.specs.FinishGoes.{Shut, shut_spare}
use Rattle.trial_truth.specs.Tells.{closed_at}
use Rattle.room.proofs.BackLaws.{tried-none}
use Rattle.trial_column.specs.ShutLaws.{not_number}
use Rattle.trial_column.specs.Trying.{Trying, Tries}
use Rattle.trial.specs.Tried.{TriesFinish, ClosesFirst}
use Rattle.trial_column.specs.TryingLaws.{trying_roomy, tries_none}
use Rattle.std.specs.Prelude.{None}

-- ---- close_one and close_all

pub close_views : (s : BatchCoalescer) (c : ℕ) {v : Bool} {k : Column} {t : BatchCoalescer} → v ≡ is_views s c → v ≡ true → k ≡ column_of s c → t ≡ with_column s c k.source None → t ≡ closed_at s c
unfolding closed_at
close_views s c p y e q = rw (← p, y, q, e)

pub close_other : (s : BatchCoalescer) (c : ℕ) {v : Bool} → v ≡ is_views s c → v ≡ false → s ≡ closed_at s c
unfolding closed_at
close_other s c p y = rw (← p, y)

-- a column that is not of views: what the loop looks at is the kind that set-up fixed
pub close_plain : {s t : BatchCoalescer} (c : ℕ) {v : Bool} → ClosesFirst s t c → v ≡ is_view (get_or s.column c no_column).kind → v ≡ false → t ≡ closed_at t c
unfolding is_views column_of
close_plain {s} {t} c a p y = close_other t c (p ∙ ap is_view (sym (a.set_up.kind c))) y

pub closes_none : (s : BatchCoalescer) → ClosesFirst s s 0
closes_none s =
    record {
      set_up = same_refl s;
      place = refl;
      queued = refl;
      buffered = refl;
      source = λ c. refl;
      shut = λ c l y. absurd (omega arith);
    }

pub closes_more : {s t : BatchCoalescer} (c : ℕ) {u : BatchCoalescer} → ClosesFirst s t c → u ≡ closed_at t c → ClosesFirst s u (c + 1)
unfolding closed_at
closes_more {s} {t} c {u} a e = rw e (by_cond (λ (v : BatchCoalescer). ClosesFirst s v (c + 1)) (is_views t c) views other)
  where
    v : BatchCoalescer
    v = with_column t c (column_of t c).source None

    views : is_views t c ≡ true → ClosesFirst s v (c + 1)
    views y =
        record {
          set_up = same_trans a.set_up (same-column t c (column_of t c).source None);
          place = a.place;
          queued = a.queued;
          buffered = a.buffered;
          source = λ d.
              column_cases t c (column_of t c).source None d (λ (x : Column). x.source ≡ (column_of s d).source)
              (λ q. rw q (a.source c))
              (a.source d);
          shut = λ d l z. at d l z (dec_lt d c);
        }
      where
        at : (d : ℕ) → d < c + 1 → is_views s d ≡ true → Dec (d < c) → (column_of v d).block ≡ None
        at d l z (yes m) =
            column_cases t c (column_of t c).source None d (λ (x : Column). x.block ≡ None) (λ q. refl)
            (a.shut d m z)
        at d l z (no m) =
            let q : d ≡ c = omega arith in
            rw q (ap (λ (x : Column). x.block) (column-new t c (column_of t c).source None y))

    other : is_views t c ≡ false → ClosesFirst s t (c + 1)
    other y =
        record {
          set_up = a.set_up;
          place = a.place;
          queued = a.queued;
          buffered = a.buffered;
          source = a.source;
          shut = λ d l z. at d l z (dec_lt d c);
        }
      where
        at : (d : ℕ) → d < c + 1 → is_views s d ≡ true → Dec (d < c) → (column_of t d).block ≡ None
        at d l z (yes m) = a.shut d m z
        at d l z (no m) =
            let q : d ≡ c = omega arith in
            absurd (true≢false (sym (rw q at z) ∙ sym (same_views a.set_up c) ∙ y))

pub closes_all : {s t : BatchCoalescer} {c : ℕ} → ClosesFirst s t c → s.columns ≤ c → ClosesFirst s t s.columns
closes_all a h =
    record {
      set_up = a.set_up;
      place = a.place;
      queued = a.queued;
      buffered = a.buffered;
      source = a.source;
      shut = λ d l z. a.shut d (omega arith) z;
    }

-- ---- the next slot

module _ {s t : BatchCoalescer} {books : List ℕ} (x : Trying s books) (a : ClosesFirst s t s.columns) (l : t.queued < t.queue) where
  abbrev u : BatchCoalescer
  u = with_counts t (next_slot t t.place) (t.queued + 1) 0

  abbrev w : World
  w = world s x.slots x.pool books

  abbrev v : World
  v = world u x.slots x.pool books

  same : SameSetUp s u
  same = same_trans a.set_up (same_counts t (next_slot t t.place) (t.queued + 1) 0)

  column : (c : ℕ) → column_of u c ≡ column_of t c
  unfolding column_of
  column c = refl

  shut_at : (c : ℕ) → c < s.columns → is_views s c ≡ true → (column_of u c).block ≡ None
  shut_at c h y = ap (λ (k : Column). k.block) (column c) ∙ a.shut c h y

  list : (slot c : ℕ) → list_length v slot c ≡ list_length w slot c
  list = same_list_length w v same (framed_refl 0 (4 + 20 * s.numbers) books)

  kept : Kept w v
  kept =
      record {
        set_up = same;
        slots = refl;
        pool = refl;
        books = refl;
        queued = λ h. omega arith;
        place = λ h. next_in t t.place;
      }

  firm : FirmGoes w v
  firm =
      firm_goes (run_firm x.run) kept (go_refl (run_firm x.run).books)
      (record {
        lists = λ slot c p q. omega (arith, list slot c, x.run.lists slot c p q);
        none = λ slot c p q y. list slot c ∙ x.run.none slot c p q y;
        kept = λ c h y. rw (column c, a.source c) (x.run.kept c h y);
        block = λ c k h y o. absurd (not_number k (sym (shut_at c h y) ∙ o));
      })

  shut : Shut v
  shut = record { shut = λ c h y. shut_at c (omega (arith, same.columns)) (sym (same_views same c) ∙ y) }

  next_tries : Tries s books u books
  next_tries =
      record {
        set_up = same;
        marks = tried-none (trying_roomy x) x.run.used;
        trying = record { slots = x.slots; pool = x.pool; run = firm_run firm.firm (shut_spare shut) };
      }

-- ---- the ways out of try_finish

pub finish_none : {s : BatchCoalescer} → s.buffered.0 ≡ 0 → TriesFinish s (record { state = s; number = 0 })
finish_none e = record { tries = λ books x. tries_none x; empty = λ z. e }

pub finish_nine : (s : BatchCoalescer) → TriesFinish s (record { state = s; number = 9 })
finish_nine s = record { tries = λ books x. tries_none x; empty = λ z. absurd (omega arith) }

pub finish_queues : {s t u : BatchCoalescer} → s.queued < s.queue → ClosesFirst s t s.columns → u ≡ with_counts t (next_slot t t.place) (t.queued + 1) 0 → TriesFinish s (record { state = u; number = 0 })
finish_queues {s} {t} {u} l a e =
    record {
      tries = λ books x. rw e (next_tries x a (omega (arith, a.queued, a.set_up.queue)));
      empty = λ z. ap (λ (r : BatchCoalescer). r.buffered.0) e;
    }

-- what next_to_fill asks
pub closes_place : {s t : BatchCoalescer} {n : ℕ} → ClosesFirst s t n → s.place ≤ s.queue → t.place ≤ t.queue
closes_place a h = omega (arith, a.place, a.set_up.queue)

pub closes_queued : {s t : BatchCoalescer} {n : ℕ} → ClosesFirst s t n → s.queued < s.queue → t.queued < t.queue
closes_queued a h = omega (arith, a.queued, a.set_up.queue)

pub closes_few : {s t : BatchCoalescer} {n : ℕ} → ClosesFirst s t n → Few s → Few t
closes_few a f =
    record {
      rows = rw a.set_up.rows f.rows;
      queue = rw a.set_up.queue f.queue;
      columns = rw a.set_up.columns f.columns;
      lists = rw a.set_up.lists f.lists;
      numbers = rw a.set_up.numbers f.numbers;
    }
