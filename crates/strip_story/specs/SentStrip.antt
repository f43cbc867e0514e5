-- The C layer's calls of the strip, each as its contract says it. The crate `strip_sent` has a function for each, that makes the call and whose contract this is.
use Rattle.std.specs.Prelude.{ℕ, ◌≡◌, List}
use Rattle.std.proofs.Common.{sym, ◌∙◌, ap}
use Rattle.words.specs.WordLaws.{Bytes}
use Rattle.capi.specs.Api.{Memory, Told, told}
use Rattle.outs.specs.Coding.{new_fault, new_leaves}
use Rattle.capi_strip.specs.StripApi.{strip_said, strip_read, taken_said, strip_taken}

-- pw_strip_new: what it answers, and the bytes after it
pub record SentStrip (blank : List ℕ) (r : ℕ) (b : List ℕ) : Type 0 where
  pub is : told r b ≡ told (new_fault blank) (new_leaves blank)

-- pw_strip_read: the strip's bytes and those for the answers, what it answers, and both after it; the strip's are bytes, as every slice of the machine is
pub record SentRead (m : Memory) (b room : List ℕ) (r : ℕ) (b' room' : List ℕ) : Type 0 where
  pub is : strip_said r b' room' ≡ strip_read m b room
  pub bytes : Bytes b'

-- pw_strip_take: the memories besides
pub record SentTake (m : Memory) (b room : List ℕ) (r : ℕ) (m' : Memory) (b' room' : List ℕ) : Type 0 where
  pub is : taken_said r m' b' room' ≡ strip_taken m b room
  pub state : Bytes m'.state
  pub bytes : Bytes b'

-- ---- laws that the proofs of `strip_sent` cite

pub strip_sent : {blank : List ℕ} {r : ℕ} {b : List ℕ} → told r b ≡ told (new_fault blank) (new_leaves blank) → SentStrip blank r b
strip_sent p = record { is = p }

pub read_sent : {m : Memory} {b room : List ℕ} {r : ℕ} {b' room' : List ℕ} → strip_said r b' room' ≡ strip_read m b room → Bytes b' → SentRead m b room r b' room'
read_sent p is = record { is = p; bytes = is }

pub take_sent : {m : Memory} {b room : List ℕ} {r : ℕ} {m' : Memory} {b' room' : List ℕ} → taken_said r m' b' room' ≡ strip_taken m b room → Bytes m'.state → Bytes b' → SentTake m b room r m' b' room'
take_sent p s is = record { is = p; state = s; bytes = is }

-- a strip that is made new, the answer being 0
module _ {blank : List ℕ} {r : ℕ} {b : List ℕ} (p : SentStrip blank r b) where
  pub new_room : r ≡ 0 → new_fault blank ≡ 0
  new_room z = sym (ap (λ (t : Told). t.answer) p.is) ∙ z

  pub new-leaves : b ≡ new_leaves blank
  new-leaves = ap (λ (t : Told). t.bytes) p.is
