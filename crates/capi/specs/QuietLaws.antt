-- A refusal changes nothing, on bytes too. 01: "Each returns its number .. and changes nothing."
use Rattle.std.specs.Prelude.{ℕ, ◌≡◌, refl, ◌≢◌, cond, List, eqb}
use Rattle.std.proofs.Math.Decide.{ℕ_discrete}
use Rattle.std.proofs.Common.{eq-eqb, ne_eqb}
use Rattle.state.specs.World.{World}
use Rattle.rules.specs.Batch.{Batch}
use Rattle.rules.proofs.CallLaws.{push_refused, finish_refused, drop-refused}
use Rattle.rules.proofs.RegisterLaws.{register_refused, let_go_refused}
use Rattle.codes.specs.Code.{decoded}
use Rattle.crossing.specs.Cross.{pair}
use Rattle.capi.specs.Api.{Memory, Form, number, both, Given, pushing, finishing, dropping, registering, letting_go, world_in, coded, uncoded, called}

-- the number of the refusal, or 0, and the value beside it
unfoldable pub number_of : (World → Given) → Memory → ℕ
number_of f m = cond (eqb (decoded m.state).number 0) (f (world_in m)).number (uncoded m)

unfoldable pub value_of : (World → Given) → Memory → ℕ
value_of f m = cond (eqb (decoded m.state).number 0) (f (world_in m)).value 0

-- a call that changes nothing where it refuses
pub record Quiet (f : World → Given) : Type 0 where
  pub same : (w : World) → (f w).number ≢ 0 → (f w).world ≡ w

module _ (f : World → Given) (m : Memory) where
  -- what the answers are made of
  pub answer-number : (called number f m).answer ≡ number_of f m
  unfolding called coded number_of
  answer-number = go (ℕ_discrete (decoded m.state).number 0)
    where
      go : Dec ((decoded m.state).number ≡ 0) → (called number f m).answer ≡ number_of f m
      go (yes z) = rw (eq-eqb (decoded m.state).number 0 z)
      go (no z) = rw (ne_eqb (decoded m.state).number 0 z)

  pub answer_both : (called both f m).answer ≡ pair (number_of f m) (value_of f m)
  unfolding called coded number_of value_of
  answer_both = go (ℕ_discrete (decoded m.state).number 0)
    where
      go : Dec ((decoded m.state).number ≡ 0) → (called both f m).answer ≡ pair (number_of f m) (value_of f m)
      go (yes z) = rw (eq-eqb (decoded m.state).number 0 z)
      go (no z) = rw (ne_eqb (decoded m.state).number 0 z)

  coded_quiet : (form : Form) (w : World) → Quiet f → (f w).number ≢ 0 → w ≡ world_in m → (coded form m.state (f w)).memory ≡ m
  unfolding coded
  coded_quiet form w q h e =
      rw (ne_eqb (f w).number 0 h, q.same w h, e)

  pub refused-nothing : (form : Form) → Quiet f → number_of f m ≢ 0 → (called form f m).memory ≡ m
  unfolding called number_of
  refused-nothing form q h = go (ℕ_discrete (decoded m.state).number 0)
    where
      go : Dec ((decoded m.state).number ≡ 0) → (called form f m).memory ≡ m
      go (yes z) =
          rw (eq-eqb (decoded m.state).number 0 z)
          (coded_quiet form (world_in m) q (rw (eq-eqb (decoded m.state).number 0 z) at h) refl)
      go (no z) = rw (ne_eqb (decoded m.state).number 0 z)

-- and every call is such
pub pushing_quiet : (b : Batch) → Quiet (pushing b)
unfolding pushing
pushing_quiet b = record { same = λ w h. push_refused w b h }

pub finishing_quiet : Quiet finishing
unfolding finishing
finishing_quiet = record { same = λ w h. finish_refused w h }

pub dropping_quiet : Quiet dropping
unfolding dropping
dropping_quiet = record { same = λ w h. (drop-refused w h).0 }

pub registering_quiet : (bytes : List ℕ) (capacity : ℕ) → Quiet (registering bytes capacity)
unfolding registering
registering_quiet bytes capacity = record { same = λ w h. register_refused w bytes capacity h }

pub letting_go_quiet : (i : ℕ) → Quiet (letting_go i)
unfolding letting_go
letting_go_quiet i = record { same = λ w h. let_go_refused w i h }
