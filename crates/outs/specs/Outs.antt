-- The player strip of 02, K6: what an event does to the players that are out, and which number refuses it.
use Rattle.std.specs.Prelude.{ℕ, ◌+◌, Bool, true, false, ◌&&◌, ◌||◌, cond, length, drop, ltb, leb, eqb}
use mathlib.Core.List.{List, [], ◌∷◌, ◌++◌, foldl}
use Rattle.std.specs.Prelude.{Option, None, Some}
use Rattle.search.specs.Table.{same}

-- ---- the strip, and an event

-- 02, K6: "side 1 or 2"
pub data Side : Type 0 where
  one two : Side

-- 02, K6: "event 1 out, 2 revive"; "player name (.. not compared on a revive)". A name is its bytes
pub data What : Type 0 where
  out : List ℕ → What
  revive : What

-- a row: its number, its side, what happened
pub record Event : Type 0 where
  pub number : ℕ
  pub side : Side
  pub what : What

-- 02, K6: "For each side it keeps the out players, up to seven, in the order they went out": the one out longest first; and the
-- number of "the last accepted row", where there is one
pub record Strip : Type 0 where
  pub last : Option ℕ
  pub first : List (List ℕ)
  pub second : List (List ℕ)

-- before any row
abbrev pub empty : Strip
empty = record { last = None; first = []; second = [] }

-- the players that are out on a side
abbrev pub out_on : Strip → Side → List (List ℕ)
out_on s one = s.first
out_on s two = s.second

-- ---- which number refuses an event

-- the name stands among the names: the same bytes, all of them
unfoldable pub among : List ℕ → List (List ℕ) → Bool
among n [] = false
among n (m ∷ ms) = cond (same n m) true (among n ms)

-- 32's "not above the last accepted row's", said the other way round
abbrev pub is_above : Option ℕ → ℕ → Bool
is_above None n = true
is_above (Some k) n = ltb k n

-- 02, K6: "33 an eighth out; 34 revive with nobody out; 35 a name already out on that side", "lowest number first"
abbrev pub refusal_on : List (List ℕ) → What → ℕ
refusal_on l (out name) = cond (ltb (length l) 7) (cond (among name l) 35 0) 33
refusal_on l revive = cond (eqb (length l) 0) 34 0

-- 02, K6: "32 row number not above the last accepted row's" comes before them; 0 where the row is accepted
unfoldable pub refusal_for : Strip → Event → ℕ
refusal_for s e = cond (is_above s.last e.number) (refusal_on (out_on s e.side) e.what) 32

-- ---- what an accepted event does

-- 02, K6: "in the order they went out; a revive takes the one who has been out longest"
abbrev pub changed : List (List ℕ) → What → List (List ℕ)
changed l (out name) = l ++ (name ∷ [])
changed l revive = drop 1 l

-- the strip with other players out on a side, and the number of the row that did it
abbrev pub with_side : Strip → Side → List (List ℕ) → ℕ → Strip
with_side s one l n = record { last = Some n; first = l; second = s.second }
with_side s two l n = record { last = Some n; first = s.first; second = l }

-- the strip after an event that is accepted
unfoldable pub accepted : Strip → Event → Strip
accepted s e = with_side s e.side (changed (out_on s e.side) e.what) e.number

-- the strip after an event. 02, K6, of a refused one: "the row changing nothing"
unfoldable pub took : Strip → Event → Strip
took s e = cond (eqb (refusal_for s e) 0) (accepted s e) s

-- ---- events in order

-- 02, K6: "the queue worked out from the rows in order"
unfoldable pub after : Strip → List Event → Strip
after s es = foldl took s es

-- the same, batch by batch
unfoldable pub after_batches : Strip → List (List Event) → Strip
after_batches s bs = foldl after s bs

-- the number of each event, 0 where it is accepted
unfoldable pub numbers_of : Strip → List Event → List ℕ
numbers_of s [] = []
numbers_of s (e ∷ es) = refusal_for s e ∷ numbers_of (took s e) es

-- ---- a row's four values as they are given

-- 02, K6: "player name (Utf8View, 1 to 64 bytes ..)"
unfoldable pub is_name : List ℕ → Bool
is_name name = leb 1 (length name) && leb (length name) 64

-- 02, K6: "side 1 or 2 (UInt8), event 1 out, 2 revive (UInt8)". Every number of 64 bits is in range
unfoldable pub in_range : ℕ → ℕ → List ℕ → Bool
in_range d e name = ((eqb d 1 || eqb d 2) && (eqb e 1 || eqb e 2)) && is_name name

-- 02, K6: "side 1 or 2"
unfoldable pub side_of : ℕ → Side
side_of d = cond (eqb d 1) one two

-- 02, K6: "event 1 out, 2 revive"
unfoldable pub what_of : ℕ → List ℕ → What
what_of e name = cond (eqb e 1) (out name) revive

-- the event of four values that are in range
abbrev pub event_of : ℕ → ℕ → ℕ → List ℕ → Event
event_of n d e name = record { number = n; side = side_of d; what = what_of e name }

-- 02, K6: "31 side, event, number or name null or out of range", before the others. Null is the caller's to tell
unfoldable pub given_number : Strip → ℕ → ℕ → ℕ → List ℕ → ℕ
given_number s n d e name = cond (in_range d e name) (refusal_for s (event_of n d e name)) 31

-- the strip after them
unfoldable pub given_took : Strip → ℕ → ℕ → ℕ → List ℕ → Strip
given_took s n d e name = cond (in_range d e name) (took s (event_of n d e name)) s

-- ---- first in, first out, said apart from the fold: which rows were accepted, who went out on a side, how many came back

-- the events that are accepted
unfoldable pub accepted_of : Strip → List Event → List Event
accepted_of s [] = []
accepted_of s (e ∷ es) = let r = accepted_of (took s e) es in cond (eqb (refusal_for s e) 0) (e ∷ r) r

-- the two are the same side
abbrev pub is_same : Side → Side → Bool
is_same one one = true
is_same one two = false
is_same two one = false
is_same two two = true

-- who goes out
abbrev pub goes_out : What → List (List ℕ)
goes_out (out name) = name ∷ []
goes_out revive = []

-- how many come back
abbrev pub comes_back : What → ℕ
comes_back (out name) = 0
comes_back revive = 1

-- the names that went out on a side, in order
unfoldable pub outs : Side → List Event → List (List ℕ)
outs d [] = []
outs d (e ∷ es) = cond (is_same d e.side) (goes_out e.what) [] ++ outs d es

-- how many were revived there
unfoldable pub revives : Side → List Event → ℕ
revives d [] = 0
revives d (e ∷ es) = cond (is_same d e.side) (comes_back e.what) 0 + revives d es
