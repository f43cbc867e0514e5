-- What push_rows asks of its ways, and its ways out.
use Rattle.std.specs.Prelude.{ℕ, ◌≡◌, List, [], length}
use Rattle.std.proofs.Common.{◌∙◌}
use Rattle.state.specs.declared.BatchCoalescer.{BatchCoalescer}
use Rattle.state.specs.World.{world}
use Rattle.state.specs.Layout.{slots_length}
use Rattle.rules.specs.Batch.{Batch, batch}
use Rattle.rules.specs.Steps.{Res}
use Rattle.rules.specs.Push.{stepped}
use Rattle.rules.specs.Turns.{coalesced}
use Rattle.rules.specs.Stays.{same_refl}
use Rattle.rules.specs.declared.Step.{Step}
use Rattle.rules.specs.Leaves.{Steps}
use Rattle.push_safety.specs.Run.{Run}
use Rattle.push_safety.specs.BooksGo.{go_refl}
use Rattle.push_safety.specs.Firm.{run_firm, reads_go}
use Rattle.columns.specs.Pushing.{Pushing}
use Rattle.columns.specs.SourceLaws.{source-same}
use Rattle.routes.specs.declared.Route.{Route}
use Rattle.routes.specs.declared.Sources.{Sources}
use Rattle.routes.specs.Sourced.{Sourced}
use Rattle.routes.specs.Route.{route_of}
use Rattle.routes.specs.RouteLaws.{route_says_whole, route_says_first, route_says_on}
use Rattle.open_blocks.specs.AskLaws.{running_booked}
use Rattle.whole.specs.Whole.{Asks, QueuesWhole, QueuesFirst}
use Rattle.steps.specs.Taking.{Cutting}

module _ {s : BatchCoalescer} {books : List ℕ} {b : Batch} (p : Pushing s books b) where
  pub push_asks : {slots : List ℕ} → length slots ≡ slots_length s → Asks s slots books b
  push_asks l = record { booked = running_booked p.running; slots_are = l; reads = p.reads; below = p.running.below }

  pub push_cutting : {x : Sources} {slots pool : List ℕ} → Sourced x (world s [] [] books) b → length slots ≡ slots_length s → length pool ≡ s.pool.0 → Cutting (world s slots pool books) b x
  push_cutting {x} {slots} {pool} d l m =
      let r : Run (world s slots pool books) = p.running.run slots pool l m in
      record {
        run = r;
        reads = reads_go {w = world s [] [] books} {v = world s slots pool books} (same_refl s) (go_refl (run_firm r).books) b p.reads;
        sourced = record { each = λ c h. d.each c h ∙ source-same s slots pool books c b };
        below = p.running.below;
      }

told-steps : {x y : Res} {q : Step} {slots pool books : List ℕ} → x ≡ y → Steps y q slots pool books → Steps x q slots pool books
told-steps e z = record { done = λ d. e ∙ z.done d; not = λ d. e ∙ z.not d }

module _ (s : BatchCoalescer) (slots pool books : List ℕ) (rows : ℕ) (records body : List ℕ) {r : Route} (e : r ≡ route_of s rows) {q : Step} {slots' books' : List ℕ} where
  pub push_on : {pool' : List ℕ} → r ≡ Route.Coalesce → Steps (coalesced rows (world s slots pool books) (world s slots pool books) (batch rows records body) 0) q slots' pool' books' → Steps (stepped (world s slots pool books) (batch rows records body)) q slots' pool' books'
  push_on o z = told-steps (route_says_on (world s slots pool books) (batch rows records body) e o) z

  pub push_whole : r ≡ Route.Whole → QueuesWhole s slots books (batch rows records body) q slots' books' → Steps (stepped (world s slots pool books) (batch rows records body)) q slots' pool books'
  push_whole o z = told-steps (route_says_whole (world s slots pool books) (batch rows records body) e o) (z.steps pool)

  pub push_first : r ≡ Route.FinishFirst → QueuesFirst s slots books (batch rows records body) q slots' books' → Steps (stepped (world s slots pool books) (batch rows records body)) q slots' pool books'
  push_first o z = told-steps (route_says_first (world s slots pool books) (batch rows records body) e o) (z.steps pool)
