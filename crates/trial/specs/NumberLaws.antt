-- What the answer of a trial says of the steps of its push.
use Rattle.std.specs.Prelude.{ℕ, ◌≡◌, refl, ◌≢◌, List, [], length}
use Rattle.std.proofs.Common.{sym, ◌∙◌, ap}
use Rattle.state.specs.declared.BatchCoalescer.{BatchCoalescer}
use Rattle.state.specs.World.{world}
use Rattle.state.specs.Layout.{slots_length}
use Rattle.rules.specs.Batch.{Batch}
use Rattle.rules.specs.Steps.{Res, ok, refuse}
use Rattle.rules.specs.Push.{stepped}
use Rattle.rules.specs.Held.{holds_not}
use Rattle.rules.proofs.PushLaws.{stepped_holds}
use Rattle.rules.specs.Stays.{same_refl}
use Rattle.columns.specs.Pushing.{Pushing}
use Rattle.columns.specs.SourceLaws.{source-same}
use Rattle.push_safety.specs.Run.{Readable}
use Rattle.push_safety.specs.BooksGo.{go_refl}
use Rattle.push_safety.specs.Firm.{run_firm, reads_go}
use Rattle.routes.specs.declared.Sources.{Sources}
use Rattle.routes.specs.Sourced.{Sourced}
use Rattle.trial_truth.specs.Like.{number_of, OwnBlocks}
use Rattle.trial_truth.specs.Tells.{BeginsSlot, Tells}
use Rattle.trial_truth.specs.StandLaws.{like_begins}
use Rattle.trial.specs.Trial.{Answers}

module _ {s : BatchCoalescer} {books : List ℕ} {b : Batch} {x : Sources} (p : Pushing s books b) (d : Sourced x (world s [] [] books) b) (a : OwnBlocks s books) where
  module _ (slots pool : List ℕ) (e : length slots ≡ slots_length s) (f : length pool ≡ s.pool.0) where
    source_beside : Sourced x (world s slots pool books) b
    source_beside = record { each = λ c h. d.each c h ∙ source-same s slots pool books c b }

    reads_beside : Readable (world s slots pool books) b
    reads_beside =
        reads_go {w = world s [] [] books} {v = world s slots pool books} (same_refl s) (go_refl (run_firm (p.running.run slots pool e f)).books) b p.reads

    stands : BeginsSlot s books x b (world s slots pool books) (world s slots pool books)
    stands =
        record {
          same = same_refl s;
          sourced = source_beside;
          state = refl;
          like = like_begins s slots pool books b (p.running.run slots pool e f) reads_beside a;
        }

  -- THE NUMBER of a trial, as its steps tell it
  pub room_answers : {n : ℕ} → Tells s books x b n → Answers s books b n
  room_answers t = record { number_is = λ slots pool e f. t.tells (world s slots pool books) (stands slots pool e f) }

-- what it says: 0 where the steps are not refused, another where they refuse with it
module _ {s : BatchCoalescer} {books : List ℕ} {b : Batch} {n : ℕ} (t : Answers s books b n) (slots pool : List ℕ) (e : length slots ≡ slots_length s) (f : length pool ≡ s.pool.0) where
  pub answers_number : number_of (stepped (world s slots pool books) b) ≡ n
  answers_number = t.number_is slots pool e f

  pub answers-none : n ≡ 0 → (k : ℕ) → stepped (world s slots pool books) b ≡ refuse k → ⊥
  answers-none z k q =
      holds_not 0 refl (stepped_holds (world s slots pool books) b) q (sym (ap number_of q) ∙ answers_number ∙ z)

  pub answers_refuses : n ≢ 0 → stepped (world s slots pool books) b ≡ refuse n
  answers_refuses m = go (stepped (world s slots pool books) b) answers_number
    where
      go : (y : Res) → number_of y ≡ n → y ≡ refuse n
      go (ok w) q = absurd (m (sym q))
      go (refuse k) q = ap refuse q
