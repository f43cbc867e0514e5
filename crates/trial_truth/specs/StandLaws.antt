-- The whole push, in the world and in its trial: where they begin alike, which way they go, and the number.
use Rattle.std.specs.Prelude.{ℕ, ◌+◌, ◌*◌, ◌≤◌, ◌<◌, ◌≡◌, refl, Bool, true, false, cond, List, [], ltb, leb}
use Rattle.std.proofs.Common.{sym, ◌∙◌, ap, arith}
use Rattle.std.proofs.Math.Decide.{ℕ_discrete}
use Rattle.search.specs.Every.{every}
use Rattle.state.specs.declared.BatchCoalescer.{BatchCoalescer}
use Rattle.state.specs.World.{World, world}
use Rattle.state.specs.Layout.{list_length}
use Rattle.rules.specs.Batch.{Batch, batch, record_of}
use Rattle.rules.specs.Steps.{Res, ok, refuse, bind, queueing}
use Rattle.rules.specs.Views.{filling}
use Rattle.rules.specs.Push.{finished, columns_whole, queued_whole}
use Rattle.rules.specs.Stays.{same_refl}
use Rattle.rules.proofs.StepLaws.{finished-none}
use Rattle.rules.specs.declared.Step.{Step}
use Rattle.records.specs.RecordLaws.{record_same}
use Rattle.routes.specs.declared.Route.{Route}
use Rattle.routes.specs.declared.Sources.{Sources}
use Rattle.routes.specs.Route.{route_of, whole_refusal}
use Rattle.routes.specs.RouteLaws.{route_says_whole, route_says_first, route_says_on}
use Rattle.push_safety.specs.Run.{Run, Readable}
use Rattle.push_safety.specs.Firm.{same_list_length}
use Rattle.trial_truth.specs.AlikeLaws.{alike_refl, every-below}
use Rattle.trial_truth.specs.Like.{number_of, ColumnOpens, OwnBlocks, Untouched, Like}
use Rattle.trial_truth.specs.Tells.{TellsFinished, TellsRows, TellsWhole, TellsFirst, Tells}

-- ---- where they begin alike

-- on the same state and books
pub like_begins : (s : BatchCoalescer) (slots pool books : List ℕ) (b : Batch) → Run (world s slots pool books) → Readable (world s slots pool books) b → OwnBlocks s books → Like s books b 0 (world s slots pool books)
unfolding list_length
like_begins s slots pool books b r x p =
    record {
      run = r;
      reads = x;
      set_up = same_refl s;
      place = refl;
      queued = refl;
      alike = alike_refl books s.numbers;
      lists = λ slot c h u. refl;
      live = λ c k h o. (r.block c (record { 0 = k }) o.column o.views o.block, p.live c k o);
      filled = λ c k h o. refl;
      apart = λ c d k h l o q. omega (arith, p.apart c d k o q);
    }

-- ---- queueing whole

whole-number : (v : World) (b : Batch) → number_of (queued_whole v b) ≡ whole_refusal v b
unfolding queued_whole whole_refusal
whole-number v b = go (ltb v.state.queued v.state.queue) (every (λ c. leb (list_length v (filling v) c + (record_of b c).count) v.state.lists) v.state.columns)
  where
    go : (p q : Bool) → number_of (cond p (cond q (ok (queueing (columns_whole v b) b.rows)) (refuse 10)) (refuse 9)) ≡ cond p (cond q 0 10) 9
    go true true = refl
    go true false = refl
    go false q = refl

first_untouched : {s : BatchCoalescer} {books : List ℕ} {b : Batch} {v : World} → Like s books b 0 v → (c : ℕ) → Untouched s 0 s.place c
first_untouched a c =
    record {
      later = λ l. omega (arith, a.run.fit.queued, a.queued, a.set_up.queue);
      around = λ l. absurd (omega arith);
      here = λ e. omega arith;
    }

answers : {p p' q q' : Bool} → p ≡ p' → q ≡ q' → ◌≡◌ {A = ℕ} (cond p (cond q 0 10) 9) (cond p' (cond q' 0 10) 9)
answers p q = rw (p, q)

whole_as : (w v : World) (b b' : Batch) → v.state ≡ w.state → ((c : ℕ) → c < w.state.columns → list_length v w.state.place c + (record_of b c).count ≡ list_length w w.state.place c + (record_of b' c).count) → whole_refusal v b ≡ whole_refusal w b'
unfolding whole_refusal
whole_as w v b b' e h =
    answers (ap (λ (s : BatchCoalescer). ltb s.queued s.queue) e)
    (ap (λ (s : BatchCoalescer). every (λ c. leb (list_length v s.place c + (record_of b c).count) s.lists) s.columns) e
    ∙ every-below _ _ w.state.columns (λ c l. ap (λ (n : ℕ). leb n w.state.lists) (h c l)))

pub whole_tells : (s : BatchCoalescer) (books records : List ℕ) {n : ℕ} → n ≡ whole_refusal (world s [] [] books) (batch 0 records []) → TellsWhole s books records n
whole_tells s books records e =
    record {
      tells = λ rows body v p a.
          whole-number v (batch rows records body)
          ∙ whole_as (world s [] [] books) v (batch rows records body) (batch 0 records []) p
          (λ c h. rw (a.lists s.place c h (first_untouched a c), record_same records body rows c))
          ∙ sym e;
    }

-- finishing before it: with nothing buffered it does nothing
module _ {s : BatchCoalescer} {books records : List ℕ} {r : Step} (f : TellsFinished s r) where
  pub first_stops : (r.number ≡ 0 → ⊥) → TellsFirst s books records r.number
  first_stops z = record { tells = λ few rows body v e a. go few rows body v e a (ℕ_discrete s.buffered.0 0) }
    where
      go : s.buffered.0 ≤ 65536 → (rows : ℕ) (body : List ℕ) (v : World) → v.state ≡ s → Like s books (batch rows records body) 0 v → Dec (s.buffered.0 ≡ 0) → number_of (bind (finished v) (λ u. queued_whole u (batch rows records body))) ≡ r.number
      go few rows body v e a (yes d) = absurd (z (f.idle d).0)
      go few rows body v e a (no d) =
          ap (λ (y : Res). number_of (bind y (λ u. queued_whole u (batch rows records body)))) ((f.tells d few books (batch rows records body) 0 v e a).not z)

  pub first_follows : {n : ℕ} → r.number ≡ 0 → TellsWhole r.state books records n → TellsFirst s books records n
  first_follows {n} z t = record { tells = λ few rows body v e a. go few rows body v e a (ℕ_discrete s.buffered.0 0) }
    where
      go : s.buffered.0 ≤ 65536 → (rows : ℕ) (body : List ℕ) (v : World) → v.state ≡ s → Like s books (batch rows records body) 0 v → Dec (s.buffered.0 ≡ 0) → number_of (bind (finished v) (λ u. queued_whole u (batch rows records body))) ≡ n
      go few rows body v e a (yes d) =
          let i : r.state ≡ s = (f.idle d).1 in
          let o : TellsWhole s books records n = rw i at t in
          ap (λ (y : Res). number_of (bind y (λ u. queued_whole u (batch rows records body)))) (finished-none v (ap (λ (x : BatchCoalescer). x.buffered.0) e ∙ d))
          ∙ o.tells rows body v e a
      go few rows body v e a (no d) =
          let g = (f.tells d few books (batch rows records body) 0 v e a).done z in
          ap (λ (y : Res). number_of (bind y (λ u. queued_whole u (batch rows records body)))) g.is
          ∙ t.tells rows body g.world g.state g.like

-- ---- which way

route_at : (s : BatchCoalescer) (rows : ℕ) {y : Route} (v : World) → y ≡ route_of s rows → v.state ≡ s → y ≡ route_of v.state rows
route_at s rows v e p = e ∙ ap (λ (t : BatchCoalescer). route_of t rows) (sym p)

module _ {s : BatchCoalescer} {books : List ℕ} {x : Sources} {rows : ℕ} {records body : List ℕ} {y : Route} (e : y ≡ route_of s rows) where
  pub push_coalesces : {n : ℕ} → y ≡ Route.Coalesce → TellsRows s books x (batch rows records body) n → Tells s books x (batch rows records body) n
  push_coalesces q t =
      record {
        tells = λ v a. ap number_of (route_says_on v (batch rows records body) (route_at s rows v e a.state) q) ∙ t.tells v v a;
      }

  pub push_whole : {n : ℕ} → y ≡ Route.Whole → TellsWhole s books records n → Tells s books x (batch rows records body) n
  push_whole q t =
      record {
        tells = λ v a. ap number_of (route_says_whole v (batch rows records body) (route_at s rows v e a.state) q) ∙ t.tells rows body v a.state a.like;
      }

  pub push_first : {n : ℕ} → s.buffered.0 ≤ 65536 → y ≡ Route.FinishFirst → TellsFirst s books records n → Tells s books x (batch rows records body) n
  push_first few q t =
      record {
        tells = λ v a. ap number_of (route_says_first v (batch rows records body) (route_at s rows v e a.state) q) ∙ t.tells few rows body v a.state a.like;
      }
