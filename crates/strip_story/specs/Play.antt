-- A history with a strip: calls of the coalescer one behind another, and among them reads of the front batch into the strip's bytes.
use Rattle.std.specs.Prelude.{ℕ, ◌≡◌, ◌≢◌, Bool, true, false, List, [], ◌∷◌, ◌++◌}
use Rattle.words.specs.WordLaws.{Bytes}
use Rattle.state.specs.World.{World}
use Rattle.state.specs.Rows.{Row, taken_rows}
use Rattle.history.specs.Call.{Call, drop}
use Rattle.outs.specs.Coding.{code_of, strip_of}
use Rattle.match_rows.specs.MatchRow.{after_rows, row_numbers}
use Rattle.player_strip.specs.StripCall.{front_batch}

-- ---- the calls of the coalescer, and where they are made

-- a layer: its memories; what a call is there, with the number that it was refused with or 0, the memories after it, the rows that it accepted and the
-- batches that it took; and which memories hold a world. Layers.antt has two: the code, and the C layer
pub record Layer : Type 1 where
  pub Memory : Type 0
  pub Calls : Memory → Call → ℕ → Memory → List Row → List (List Row) → Type 0
  pub Holds : Memory → World → Type 0

-- ---- the calls of the strip

-- a read of the front batch that is not refused, on a world and the strip's bytes: a number for each row, and the bytes after it. They are bytes, as every
-- slice of the machine is
pub record Reads (w : World) (b : List ℕ) (numbers b' : List ℕ) : Type 0 where
  pub numbers_are : numbers ≡ row_numbers (strip_of b) (front_batch w)
  pub strip_is : b' ≡ code_of (after_rows (strip_of b) (front_batch w))
  pub bytes : Bytes b'

-- ---- a history

-- the coalescer's memories and the strip's bytes
pub record Court (L : Layer) : Type 0 where
  pub memory : L.Memory
  pub strip : List ℕ

abbrev pub court : (L : Layer) → L.Memory → List ℕ → Court L
court L m b = record { memory = m; strip = b }

-- the rows of the front batch, where it is in the strip already: read, and not yet dropped
unfoldable pub read_ahead : Bool → World → List Row
read_ahead true w = taken_rows w
read_ahead false w = []

-- what was done: the court after it; whether its front batch is in the strip already; the rows that pushes accepted, the batches
-- taken, and the numbers that reads of the strip answered
pub record Played (L : Layer) : Type 0 where
  pub court : Court L
  pub ahead : Bool
  pub accepted : List Row
  pub taken : List (List Row)
  pub numbers : List ℕ

abbrev pub behind : (L : Layer) → List Row → List (List Row) → List ℕ → Played L → Played L
behind L accepted taken numbers y =
    record {
      court = y.court;
      ahead = y.ahead;
      accepted = accepted ++ y.accepted;
      taken = taken ++ y.taken;
      numbers = numbers ++ y.numbers;
    }

-- a read that answered a row read a batch
abbrev pub is_some : List ℕ → Bool
is_some [] = false
is_some (n ∷ numbers) = true

-- calls one behind another, each on the court that the one before it left. No batch is dropped that the strip did not read, and none is read twice: that is
-- the user's premise, and `take` keeps it by itself
pub data Strips (L : Layer) : Court L → Bool → List Call → Played L → Type 0 where
  none : {u : Court L} {f : Bool} → Strips L u f [] (record { court = u; ahead = f; accepted = []; taken = []; numbers = [] })
  -- a call of the coalescer that takes no batch, refused or not
  call : {u : Court L} {m : L.Memory} {f : Bool} {c : Call} {cs : List Call} {n : ℕ} {accepted : List Row} {taken : List (List Row)} {y : Played L} → L.Calls u.memory c n m accepted taken → taken ≡ [] → Strips L (court L m u.strip) f cs y → Strips L u f (c ∷ cs) (behind L accepted taken [] y)
  -- the strip's read of the front batch, which is not yet in the strip
  read : {u : Court L} {b numbers : List ℕ} {cs : List Call} {y : Played L} → ((w : World) → L.Holds u.memory w → Reads w u.strip numbers b) → Strips L (court L u.memory b) (is_some numbers) cs y → Strips L u false cs (behind L [] [] numbers y)
  -- the drop of a front batch that is in the strip
  dropped : {u : Court L} {m : L.Memory} {cs : List Call} {n : ℕ} {accepted : List Row} {taken : List (List Row)} {y : Played L} → L.Calls u.memory drop n m accepted taken → Strips L (court L m u.strip) false cs y → Strips L u true (drop ∷ cs) (behind L accepted taken [] y)
  -- both in one call
  take : {u : Court L} {m : L.Memory} {b numbers : List ℕ} {cs : List Call} {n : ℕ} {accepted : List Row} {taken : List (List Row)} {y : Played L} → ((w : World) → L.Holds u.memory w → Reads w u.strip numbers b) → L.Calls u.memory drop n m accepted taken → Strips L (court L m b) false cs y → Strips L u false (drop ∷ cs) (behind L accepted taken numbers y)
  -- a call of the coalescer that was refused and was handed any other memories, lent any part of the court: `live` makes up the court from what was lent
  astray : {u : Court L} {l m : L.Memory} {f : Bool} {c : Call} {cs : List Call} {n : ℕ} {accepted : List Row} {taken : List (List Row)} {y : Played L} (live : L.Memory → Court L) → live l ≡ u → L.Calls l c n m accepted taken → n ≢ 0 → Strips L (live m) f cs y → Strips L u f cs (behind L accepted taken [] y)
  -- a read or a take that was refused, on the court or on any other: it leaves all that it was lent as it was
  refused : {u v v' : Court L} {f : Bool} {cs : List Call} {y : Played L} (live : Court L → Court L) → live v ≡ u → v' ≡ v → Strips L (live v') f cs y → Strips L u f cs y
