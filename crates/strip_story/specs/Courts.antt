-- THE STRIP'S BYTES AFTER EVERY HISTORY, 02, K6: of the code's calls, and of the C layer's. A court is the coalescer's memories and the strip's bytes. Its history
-- (Play.antt) begins with a set-up and a new strip; each batch is read into the strip before it is dropped, or taken by one call; refused calls are among them.
use Rattle.std.specs.Prelude.{ℕ, ◌≡◌, false, List}
use Rattle.state.specs.World.{world}
use Rattle.rules.specs.declared.Step.{Step}
use Rattle.rules.specs.Calls.{Wanted, set_up_call}
use Rattle.set_up.specs.SetUp.{SetsUp}
use Rattle.capi.specs.Api.{Memory}
use Rattle.history.specs.Call.{Call}
use Rattle.promise.specs.Code as made
use Rattle.promise.specs.OnBytes.{SentNew}
use Rattle.promise.specs.OnBytes as sent
use Rattle.outs.specs.Coding.{new_fault, new_leaves}
use Rattle.strip_story.specs.Play.{court, Played, Strips}
use Rattle.strip_story.specs.SentStrip.{SentStrip}
use Rattle.strip_story.specs.Layers.{code, bytes}

-- new_coalescer answered 0, new_strip had its 972 bytes, and y is what the calls after them did
pub record CodeCourt (y : Played code) : Type 0 where
  pub asked : Wanted
  pub slots : List ℕ
  pub pool : List ℕ
  pub books : List ℕ
  pub new : Step
  pub books' : List ℕ
  pub set_up : SetsUp (set_up_call asked slots pool books) books' new
  pub zero : new.number ≡ 0
  pub blank : List ℕ
  pub room : new_fault blank ≡ 0
  pub calls : List Call
  pub strips : Strips code (court code (world new.state slots pool books') (new_leaves blank)) false calls y

-- pw_new and pw_strip_new answered 0, and y is what the calls after them answered and left
pub record BytesCourt (y : Played bytes) : Type 0 where
  pub asked : Wanted
  pub kinds : List ℕ
  pub lent : Memory
  pub answer : ℕ
  pub first : Memory
  pub new : SentNew asked kinds lent answer first
  pub zero : answer ≡ 0
  pub blank : List ℕ
  pub told : ℕ
  pub strip : List ℕ
  pub made : SentStrip blank told strip
  pub none : told ≡ 0
  pub calls : List Call
  pub strips : Strips bytes (court bytes first strip) false calls y
