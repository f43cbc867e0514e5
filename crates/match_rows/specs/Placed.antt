-- A match's batch through its places in a slot: what the code reads, row by row, in place of the state. `PlacedLaws` says that it is the batch.
use Rattle.std.specs.Prelude.{ℕ, ◌+◌, ◌*◌, ◌/◌, ◌≤◌, ◌<◌, Bool, true, false, ◌&&◌, not, cond, List, [], ◌∷◌, length, eqb, ltb}
use Rattle.words.specs.Word.{word32}
use Rattle.bits.specs.Bits.{bits_from}
use Rattle.views.specs.View.{view_of, shows}
use Rattle.sound.specs.Sound.{filled_bytes}
use Rattle.state.specs.World.{World}
use Rattle.state.specs.Layout.{list_length}
use Rattle.state.specs.Rows.{Row, Cell, up_to, cell_of}
use Rattle.match_rows.specs.declared.Places.{Places}

-- the places in slot `slot`, of n rows and room for `lists` numbers in a list: four columns one behind the other, of 8, 1, 1 and 16 bytes a row, each
-- with its bitmap; then the list of the names
unfoldable pub places_in : ℕ → ℕ → ℕ → ℕ → Places
places_in slot n lists count =
    let numbers = slot * (26 * n + 4 * ((n + 7) / 8) + 4 * lists) in
    let sides = numbers + 8 * n + (n + 7) / 8 in
    let events = sides + n + (n + 7) / 8 in
    let names = events + n + (n + 7) / 8 in
    record {
      rows = n;
      numbers = numbers;
      sides = sides;
      events = events;
      names = names;
      list = names + 16 * n + (n + 7) / 8;
      count = count;
    }

-- of a slot of a world
unfoldable pub places_of : World → ℕ → Places
places_of w slot = places_in slot w.state.rows.0 w.state.lists (list_length w slot 3)

-- a number of 8 bytes, the lowest first
unfoldable pub long_at : List ℕ → ℕ → ℕ
long_at slots at = word32 slots at + word32 slots (at + 4) * 4294967296

-- row i has its four values: no bit of it is 0
unfoldable pub whole_at : List ℕ → Places → ℕ → Bool
whole_at slots p i =
    (not (eqb (bits_from slots (p.numbers + 8 * p.rows) 0 i) 0) && not (eqb (bits_from slots (p.sides + p.rows) 0 i) 0))
    && (not (eqb (bits_from slots (p.events + p.rows) 0 i) 0) && not (eqb (bits_from slots (p.names + 16 * p.rows) 0 i) 0))

-- the bytes of the buffer with a number
abbrev pub buffer_in : List ℕ → List ℕ → ℕ → List ℕ
buffer_in pool books k = filled_bytes books pool k

-- the bytes of the buffer at index j of the list
unfoldable pub buffer_of : List ℕ → List ℕ → List ℕ → Places → ℕ → List ℕ
buffer_of slots pool books p j = cond (ltb j p.count) (buffer_in pool books (word32 slots (p.list + 4 * j))) []

-- the name of row i
unfoldable pub name_at : List ℕ → List ℕ → List ℕ → Places → ℕ → List ℕ
name_at slots pool books p i = shows (view_of slots (p.names + 16 * i)) (buffer_of slots pool books p)

-- a cell that is no view: its bit, and its bytes
abbrev pub plain_at : List ℕ → ℕ → ℕ → ℕ → ℕ → Cell
plain_at slots bitmap i at width = cell_of false (bits_from slots bitmap 0 i) slots at width (λ j. [])

-- row i
unfoldable pub placed_row : List ℕ → List ℕ → List ℕ → Places → ℕ → Row
placed_row slots pool books p i =
    plain_at slots (p.numbers + 8 * p.rows) i (p.numbers + 8 * i) 8
    ∷ plain_at slots (p.sides + p.rows) i (p.sides + i) 1
    ∷ plain_at slots (p.events + p.rows) i (p.events + i) 1
    ∷ cell_of true (bits_from slots (p.names + 16 * p.rows) 0 i) slots (p.names + 16 * i) 16 (buffer_of slots pool books p)
    ∷ []

-- the first n rows
unfoldable pub placed_rows : List ℕ → List ℕ → List ℕ → Places → ℕ → List Row
placed_rows slots pool books p n = up_to n (placed_row slots pool books p)

-- the places lie in the slots, and every number of the list has an entry in the books
pub record Placed (slots books : List ℕ) (p : Places) : Type 0 where
  pub few : p.rows ≤ 65536
  pub numbers_in : p.numbers + 8 * p.rows + (p.rows + 7) / 8 ≤ length slots
  pub sides_in : p.sides + p.rows + (p.rows + 7) / 8 ≤ length slots
  pub events_in : p.events + p.rows + (p.rows + 7) / 8 ≤ length slots
  pub names_in_lem : p.names + 16 * p.rows + (p.rows + 7) / 8 ≤ length slots
  pub list_in : p.list + 4 * p.count ≤ length slots
  pub listed : (j : ℕ) → j < p.count → 24 + 20 * word32 slots (p.list + 4 * j) ≤ length books
