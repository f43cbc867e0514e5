-- One law for each exit of a row taken, and for a turn of the loop over rows.
use Rattle.std.specs.Prelude.{ℕ, ◌+◌, ◌-◌, ◌*◌, ◌≤◌, ◌<◌, ◌≡◌, Bool, true, false, cond, List, length, get_or, take, drop, eqb, ltb}
use Rattle.std.proofs.Common.{sym, ◌∙◌, ap, arith}
use Rattle.words.specs.Run.{read}
use Rattle.words.specs.RunLaws.{part_read}
use Rattle.words.specs.WordLaws.{Bytes}
use Rattle.views.specs.declared.View.{View}
use Rattle.views.specs.View.{view_of}
use Rattle.outs.specs.Outs.{Strip, Event, What, out, revive, out_on, is_above, refusal_on, refusal_for, in_range, among, event_of, given_number, given_took}
use Rattle.outs.specs.Coding.{code_of, strip_of, is_strip}
use Rattle.outs.specs.CodingLaws.{strip-code}
use Rattle.match_rows.specs.declared.Places.{Places}
use Rattle.match_rows.specs.MatchRow.{row_number, row_took}
use Rattle.match_rows.specs.Placed.{long_at, whole_at, buffer_of, name_at, placed_row, Placed}
use Rattle.match_rows.specs.FourLaws.{placed_number, placed_took, name_short, name_long}

-- ---- a number of a row fits a byte

number_on : (l : List (List ℕ)) (w : What) → refusal_on l w ≤ 35
number_on l (out name) = go (ltb (length l) 7) (among name l)
  where
    go : (a b : Bool) → cond a (cond b 35 0) 33 ≤ 35
    go true true = omega arith
    go true false = omega arith
    go false b = omega arith
number_on l revive = go (eqb (length l) 0)
  where
    go : (a : Bool) → cond a 34 0 ≤ 35
    go true = omega arith
    go false = omega arith

number_for : (s : Strip) (e : Event) → refusal_for s e ≤ 35
unfolding refusal_for
number_for s e = go (is_above s.last e.number) (number_on (out_on s e.side) e.what)
  where
    go : (a : Bool) {n : ℕ} → n ≤ 35 → cond a n 32 ≤ 35
    go true h = h
    go false h = omega arith

pub number_small : (s : Strip) (n d e : ℕ) (name : List ℕ) → given_number s n d e name ≤ 35
unfolding given_number
number_small s n d e name = go (in_range d e name) (number_for s (event_of n d e name))
  where
    go : (a : Bool) {m : ℕ} → m ≤ 35 → cond a m 31 ≤ 35
    go true h = h
    go false h = omega arith

-- ---- take_row

module _ (strip slots pool books : List ℕ) (p : Places) (i : ℕ) {b : Bool} (w : b ≡ whole_at slots p i) where
  -- the strip before the row
  abbrev s : Strip
  s = strip_of strip

  pub null_number : b ≡ false → 31 ≡ row_number (strip_of strip) (placed_row slots pool books p i)
  null_number z = sym (placed_number s slots pool books p i ∙ rw (sym w ∙ z))

  pub null_took : b ≡ false → is_strip strip ≡ true → strip ≡ code_of (row_took (strip_of strip) (placed_row slots pool books p i))
  null_took z h = strip-code strip h ∙ ap code_of (sym (placed_took s slots pool books p i ∙ rw (sym w ∙ z)))

  -- a name that is the row's
  module _ (z : b ≡ true) {name : List ℕ} (e : name ≡ name_at slots pool books p i) where
    whole-number : {r : ℕ} → r ≡ given_number s (long_at slots (p.numbers + 8 * i)) (get_or slots (p.sides + i) 0) (get_or slots (p.events + i) 0) name → r ≡ row_number s (placed_row slots pool books p i)
    whole-number q = q ∙ sym (placed_number s slots pool books p i ∙ rw (sym w ∙ z, ← e))

    whole-took : {t : List ℕ} → t ≡ code_of (given_took s (long_at slots (p.numbers + 8 * i)) (get_or slots (p.sides + i) 0) (get_or slots (p.events + i) 0) name) → t ≡ code_of (row_took s (placed_row slots pool books p i))
    whole-took q = q ∙ ap code_of (sym (placed_took s slots pool books p i ∙ rw (sym w ∙ z, ← e)))

  -- its view v
  module _ (z : b ≡ true) {v : View} (e : v ≡ view_of slots (p.names + 16 * i)) where
    -- where the bytes of a short name begin
    abbrev from : ℕ
    from = p.names + 16 * i + 4

    -- the name stands in it
    module _ (bytes : Bytes slots) (h : Placed slots books p) (l : i < p.rows) (m : v.length ≤ 12) where
      short : take (p.names + 16 * i + 4 + v.length - (p.names + 16 * i + 4)) (drop (p.names + 16 * i + 4) slots) ≡ name_at slots pool books p i
      short = part_read from v.length slots ∙ name_short slots pool books p i e bytes h l m

      pub short_number : {r : ℕ} → r ≡ given_number (strip_of strip) (long_at slots (p.numbers + 8 * i)) (get_or slots (p.sides + i) 0) (get_or slots (p.events + i) 0) (take (p.names + 16 * i + 4 + v.length - (p.names + 16 * i + 4)) (drop (p.names + 16 * i + 4) slots)) → r ≡ row_number (strip_of strip) (placed_row slots pool books p i)
      short_number q = whole-number z short q

      pub short_took : {t : List ℕ} → t ≡ code_of (given_took (strip_of strip) (long_at slots (p.numbers + 8 * i)) (get_or slots (p.sides + i) 0) (get_or slots (p.events + i) 0) (take (p.names + 16 * i + 4 + v.length - (p.names + 16 * i + 4)) (drop (p.names + 16 * i + 4) slots))) → t ≡ code_of (row_took (strip_of strip) (placed_row slots pool books p i))
      short_took q = whole-took z short q

    -- or it shows the name in a buffer
    module _ (m : 12 < v.length) {name : List ℕ} (f : name ≡ read v.offset v.length (buffer_of slots pool books p v.index)) where
      pub long-number : {r : ℕ} → r ≡ given_number (strip_of strip) (long_at slots (p.numbers + 8 * i)) (get_or slots (p.sides + i) 0) (get_or slots (p.events + i) 0) name → r ≡ row_number (strip_of strip) (placed_row slots pool books p i)
      long-number q = whole-number z (f ∙ name_long slots pool books p i e m) q

      pub long-took : {t : List ℕ} → t ≡ code_of (given_took (strip_of strip) (long_at slots (p.numbers + 8 * i)) (get_or slots (p.sides + i) 0) (get_or slots (p.events + i) 0) name) → t ≡ code_of (row_took (strip_of strip) (placed_row slots pool books p i))
      long-took q = whole-took z (f ∙ name_long slots pool books p i e m) q

-- ---- take_named

module _ (s : Strip) (slots : List ℕ) (at d e : ℕ) (name : List ℕ) {n : ℕ} (h : n ≡ long_at slots at) where
  pub named_number : {r : ℕ} → r ≡ given_number s n d e name → r ≡ given_number s (long_at slots at) d e name
  named_number q = rw (← h) q

  pub named_took : {t : List ℕ} → t ≡ code_of (given_took s n d e name) → t ≡ code_of (given_took s (long_at slots at) d e name)
  named_took q = rw (← h) q
