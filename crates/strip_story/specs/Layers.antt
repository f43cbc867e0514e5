-- The two layers that calls are made on: the code, on a state and three memories; and the C layer, on bytes.
use Rattle.std.specs.Prelude.{ℕ, ◌≡◌, List}
use Rattle.state.specs.World.{World}
use Rattle.state.specs.Rows.{Row}
use Rattle.capi.specs.Api.{Memory}
use Rattle.history.specs.Call.{Call, Did}
use Rattle.promise.specs.Code.{Made}
use Rattle.promise.specs.OnBytes.{HoldsWorld, Sent, accepted_by, taken_by, refused_by}
use Rattle.strip_story.specs.Play.{Layer}

-- what a call did, in its parts
abbrev pub done : World → List Row → List (List Row) → Did
done v accepted taken = record { world = v; accepted = accepted; taken = taken }

-- a call of the code: promise/Code's `Made`
abbrev pub code : Layer
code =
    record {
      Memory = World;
      Calls = λ w c n v accepted taken. Made w c n (done v accepted taken);
      Holds = λ m w. m ≡ w;
    }

-- a call of the C layer, `answer` what it answered: promise/OnBytes's `Sent`
pub record Answers (m : Memory) (c : Call) (n : ℕ) (m' : Memory) (accepted : List Row) (taken : List (List Row)) : Type 0 where
  pub answer : ℕ
  pub sent : Sent m c answer m'
  pub number_is : n ≡ refused_by c answer
  pub accepted_are : accepted ≡ accepted_by m c answer
  pub taken_are : taken ≡ taken_by m c answer

abbrev pub bytes : Layer
bytes = record { Memory = Memory; Calls = Answers; Holds = HoldsWorld }
