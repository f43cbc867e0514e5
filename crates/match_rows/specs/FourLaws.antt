-- What the strip makes of a row that is read through its places: 31 where a bit is 0, else what its four values give.
use Rattle.std.specs.Prelude.{ℕ, ◌+◌, ◌*◌, ◌≤◌, ◌<◌, ◌≡◌, Bool, true, false, ◌&&◌, not, cond, List, [], ◌∷◌, get_or, eqb}
use Rattle.std.proofs.Math.Path.{refl, sym, ap}
use Rattle.std.proofs.Common.{◌∙◌, arith, add-zero}
use Rattle.words.specs.Word.{word32}
use Rattle.words.specs.Run.{read}
use Rattle.words.specs.FrameLaws.{get_d_read, word_read}
use Rattle.words.specs.WordLaws.{Bytes}
use Rattle.bits.specs.Bits.{bits_from}
use Rattle.views.specs.declared.View.{View}
use Rattle.views.specs.View.{view_of}
use Rattle.views.specs.ShowLaws.{shows-long, inline_read}
use Rattle.state.specs.Rows.{Row, null, value, cell_of}
use Rattle.outs.specs.Outs.{Strip, given_number, given_took}
use Rattle.match_rows.specs.declared.Places.{Places}
use Rattle.match_rows.specs.MatchRow.{is_whole, cell_bytes, number_in, side_in, event_in, player_in, row_number, row_took}
use Rattle.match_rows.specs.Placed.{long_at, whole_at, buffer_of, name_at, placed_row, Placed}

-- four cells, each null or a value
abbrev four : Bool → Bool → Bool → Bool → List ℕ → List ℕ → List ℕ → List ℕ → Row
four a b c d x y z n =
    cond a null (value x) ∷ cond b null (value y) ∷ cond c null (value z) ∷ cond d null (value n) ∷ []

four-number : (s : Strip) (a b c d : Bool) (x y z n : List ℕ) → row_number s (four a b c d x y z n) ≡ cond ((not a && not b) && (not c && not d)) (given_number s (word32 x 0 + word32 x 4 * 4294967296) (get_or y 0 0) (get_or z 0 0) n) 31
unfolding row_number is_whole cell_bytes number_in side_in event_in player_in
four-number s true b c d x y z n = refl
four-number s false true c d x y z n = refl
four-number s false false true d x y z n = refl
four-number s false false false true x y z n = refl
four-number s false false false false x y z n = refl

four-took : (s : Strip) (a b c d : Bool) (x y z n : List ℕ) → row_took s (four a b c d x y z n) ≡ cond ((not a && not b) && (not c && not d)) (given_took s (word32 x 0 + word32 x 4 * 4294967296) (get_or y 0 0) (get_or z 0 0) n) s
unfolding row_took is_whole cell_bytes number_in side_in event_in player_in
four-took s true b c d x y z n = refl
four-took s false true c d x y z n = refl
four-took s false false true d x y z n = refl
four-took s false false false true x y z n = refl
four-took s false false false false x y z n = refl

-- the values, read in place
long-read : (slots : List ℕ) (at : ℕ) → word32 (read at 8 slots) 0 + word32 (read at 8 slots) 4 * 4294967296 ≡ long_at slots at
unfolding long_at
long-read slots at = rw (word_read at 8 slots 0 (omega arith), word_read at 8 slots 4 (omega arith), add-zero at)

byte-read : (slots : List ℕ) (at : ℕ) → get_or (read at 1 slots) 0 0 ≡ get_or slots at 0
byte-read slots at = get_d_read at 1 slots 0 (omega arith) ∙ ap (λ (k : ℕ). get_or slots k 0) (add-zero at)

module _ (s : Strip) (slots pool books : List ℕ) (p : Places) (i : ℕ) where
  -- whether a cell's bit is 0
  abbrev is_null : ℕ → Bool
  is_null bitmap = eqb (bits_from slots bitmap 0 i) 0

  is_four : placed_row slots pool books p i ≡ four (is_null (p.numbers + 8 * p.rows)) (is_null (p.sides + p.rows)) (is_null (p.events + p.rows)) (is_null (p.names + 16 * p.rows)) (read (p.numbers + 8 * i) 8 slots) (read (p.sides + i) 1 slots) (read (p.events + i) 1 slots) (name_at slots pool books p i)
  unfolding placed_row cell_of name_at
  is_four = refl

  pub placed_number : row_number s (placed_row slots pool books p i) ≡ cond (whole_at slots p i) (given_number s (long_at slots (p.numbers + 8 * i)) (get_or slots (p.sides + i) 0) (get_or slots (p.events + i) 0) (name_at slots pool books p i)) 31
  unfolding whole_at
  placed_number =
      rw (← long-read slots (p.numbers + 8 * i), ← byte-read slots (p.sides + i), ← byte-read slots (p.events + i))
      (ap (row_number s) is_four ∙ four-number s (is_null (p.numbers + 8 * p.rows)) (is_null (p.sides + p.rows)) (is_null (p.events + p.rows)) (is_null (p.names + 16 * p.rows)) (read (p.numbers + 8 * i) 8 slots) (read (p.sides + i) 1 slots) (read (p.events + i) 1 slots) (name_at slots pool books p i))

  pub placed_took : row_took s (placed_row slots pool books p i) ≡ cond (whole_at slots p i) (given_took s (long_at slots (p.numbers + 8 * i)) (get_or slots (p.sides + i) 0) (get_or slots (p.events + i) 0) (name_at slots pool books p i)) s
  unfolding whole_at
  placed_took =
      rw (← long-read slots (p.numbers + 8 * i), ← byte-read slots (p.sides + i), ← byte-read slots (p.events + i))
      (ap (row_took s) is_four ∙ four-took s (is_null (p.numbers + 8 * p.rows)) (is_null (p.sides + p.rows)) (is_null (p.events + p.rows)) (is_null (p.names + 16 * p.rows)) (read (p.numbers + 8 * i) 8 slots) (read (p.sides + i) 1 slots) (read (p.events + i) 1 slots) (name_at slots pool books p i))

-- ---- the name of row i, v its view

module _ (slots pool books : List ℕ) (p : Places) (i : ℕ) {v : View} (e : v ≡ view_of slots (p.names + 16 * i)) where
  -- it stands in the view
  pub name_short : Bytes slots → Placed slots books p → i < p.rows → v.length ≤ 12 → read (p.names + 16 * i + 4) v.length slots ≡ name_at slots pool books p i
  unfolding name_at
  name_short b h l m =
      ap (λ (x : View). read (p.names + 16 * i + 4) x.length slots) e
      ∙ sym (inline_read slots (p.names + 16 * i) (buffer_of slots pool books p) b (omega (arith, h.names_in_lem)) (rw e at m))

  -- or in a buffer
  pub name_long : 12 < v.length → read v.offset v.length (buffer_of slots pool books p v.index) ≡ name_at slots pool books p i
  unfolding name_at
  name_long m = sym (rw (← e) (shows-long v (buffer_of slots pool books p) m))
