-- Books that passed the tests of a call bear no mark of a trial.
use Rattle.std.specs.Prelude.{◌≡◌, true, ltb, leb}
use Rattle.std.proofs.Math.Bool.{and-eq-true_iff}
use Rattle.std.proofs.Common.{arith}
use Rattle.pool.specs.Read.{in_range}
use Rattle.pool.specs.ReadLaws.{range_says}
use Rattle.state.specs.World.{World}
use Rattle.rules.specs.Ranges.{state_in_range, tested}
use Rattle.rules.specs.TestLaws.{TestedCase, not_set_up, out_of_range, passed, tested-case}
use Rattle.room.specs.Back.{Unmarked}

books_range : (w : World) → state_in_range w ≡ true → in_range w.books w.state.numbers w.state.pool.0 ≡ true
unfolding state_in_range
books_range w e =
    let a = (and-eq-true_iff (ltb w.state.buffered.0 w.state.target.0) _).0 e in
    let b = (and-eq-true_iff (leb w.state.queued w.state.queue) _).0 a.1 in
    let c = (and-eq-true_iff (leb w.state.place w.state.queue) _).0 b.1 in
    ((and-eq-true_iff _ _).0 c.1).0

pub tested_unmarked : (w : World) → tested w ≡ 0 → Unmarked w.books
tested_unmarked w e = go (tested-case w)
  where
    go : TestedCase w → Unmarked w.books
    go (not_set_up p z) = absurd (omega arith)
    go (out_of_range p q z) = absurd (omega arith)
    go (passed p q z) =
        record {
          holds = λ k h. ((range_says w.books w.state.numbers w.state.pool.0 (books_range w q)).1 k h).held;
        }
