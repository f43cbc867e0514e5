-- One law for each exit of a function here: what the code has learnt there, and its contract.
use Rattle.std.specs.Prelude.{ℕ, ◌+◌, ◌*◌, ◌/◌, ◌-◌, ◌≤◌, ◌<◌, ◌≡◌, refl, ◌&&◌, not, List, [], length, get_or, take, drop, eqb}
use Rattle.std.proofs.Common.{sym, ◌∙◌, arith, mul-le-mul, length-drop, drop_of_length-le, take_all, lt-ltb, le-ltb}
use Rattle.std.proofs.Math.Seq.{take-nil, drop-nil}
use Rattle.words.specs.Word.{word32}
use Rattle.words.specs.Run.{read}
use Rattle.bits.specs.Bits.{bits_from}
use Rattle.views.specs.declared.View.{View}
use Rattle.books.specs.declared.Entry.{Entry}
use Rattle.books.specs.Entry.{entry_of}
use Rattle.sound.specs.Sound.{filled_bytes}
use Rattle.state.specs.declared.BatchCoalescer.{BatchCoalescer}
use Rattle.state.specs.World.{no_column, column_of}
use Rattle.match_rows.specs.declared.Places.{Places}
use Rattle.match_rows.specs.MatchRow.{is_match}
use Rattle.match_rows.specs.Placed.{places_in, long_at, whole_at, buffer_of, Placed}

-- ---- is_match

pub match_is : (s : BatchCoalescer) → (eqb s.columns 4 && (eqb (get_or s.column 0 no_column).kind 8 && (eqb (get_or s.column 1 no_column).kind 5 && (eqb (get_or s.column 2 no_column).kind 5 && eqb (get_or s.column 3 no_column).kind 18)))) ≡ is_match s
unfolding is_match column_of
match_is s = refl

-- ---- places_in

pub numbers_small : (slot n lists : ℕ) → slot ≤ 1024 → n ≤ 65536 → lists ≤ 1024 → slot * (26 * n + 4 * ((n + 7) / 8) + 4 * lists) ≤ 1782579200
numbers_small slot n lists p q r =
    let h : 26 * n + 4 * ((n + 7) / 8) + 4 * lists ≤ 1740800 = omega arith in
    mul-le-mul p h

pub places_are : (slot n lists count : ℕ) → ◌≡◌ {A = Places} (record { rows = n; numbers = slot * (26 * n + 4 * ((n + 7) / 8) + 4 * lists); sides = slot * (26 * n + 4 * ((n + 7) / 8) + 4 * lists) + 8 * n + (n + 7) / 8; events = slot * (26 * n + 4 * ((n + 7) / 8) + 4 * lists) + 8 * n + (n + 7) / 8 + n + (n + 7) / 8; names = slot * (26 * n + 4 * ((n + 7) / 8) + 4 * lists) + 8 * n + (n + 7) / 8 + n + (n + 7) / 8 + n + (n + 7) / 8; list = slot * (26 * n + 4 * ((n + 7) / 8) + 4 * lists) + 8 * n + (n + 7) / 8 + n + (n + 7) / 8 + n + (n + 7) / 8 + 16 * n + (n + 7) / 8; count = count }) (places_in slot n lists count)
unfolding places_in
places_are slot n lists count = refl

-- ---- is_whole_at

-- a bitmap behind n rows of values, of which row i is one
pub bit_room : (at n i L : ℕ) → at + (n + 7) / 8 ≤ L → i < n → 8 * at + 0 + i < 8 * L
bit_room at n i L h l = omega arith

pub whole_is : (slots : List ℕ) (p : Places) (i : ℕ) {a b c d : ℕ} → a ≡ bits_from slots (p.numbers + 8 * p.rows) 0 i → b ≡ bits_from slots (p.sides + p.rows) 0 i → c ≡ bits_from slots (p.events + p.rows) 0 i → d ≡ bits_from slots (p.names + 16 * p.rows) 0 i → ((not (eqb a 0) && not (eqb b 0)) && (not (eqb c 0) && not (eqb d 0))) ≡ whole_at slots p i
unfolding whole_at
whole_is slots p i e f g h = rw (e, f, g, h)

-- ---- long_at

pub long_is : (slots : List ℕ) (at : ℕ) {low high : ℕ} → low ≡ word32 slots at → high ≡ word32 slots (at + 4) → low + high * 4294967296 ≡ long_at slots at
unfolding long_at
long_is slots at p q = rw (p, q)

-- ---- part

-- as far as there are bytes
pub part_rest : (a n : ℕ) (s : List ℕ) → a ≤ length s → length s - a < n → take (length s - a) (drop a s) ≡ read a n s
unfolding read
part_rest a n s h l =
    let e : length (drop a s) ≡ length s - a = length-drop a s in
    take_all (length s - a) (drop a s) (omega arith) ∙ sym (take_all n (drop a s) (omega arith))

pub part_none : (a n : ℕ) (s : List ℕ) → length s < a → [] ≡ read a n s
unfolding read
part_none a n s h = let e : drop a s ≡ [] = drop_of_length-le s {i = a} (omega arith) in rw (e, take-nil n)

-- ---- buffer_name

pub buffer_name_is : (pool books : List ℕ) (k offset n : ℕ) {e : Entry} {f r : List ℕ} → e ≡ entry_of books k → f ≡ read e.start e.length.0 pool → r ≡ read offset n f → r ≡ read offset n (filled_bytes books pool k)
unfolding filled_bytes
buffer_name_is pool books k offset n p q t = rw (t, q, p)

-- ---- long_name: a number of the list, or an index past it

-- the entry of a listed number lies in the books
pub listed_room : (slots books : List ℕ) (p : Places) (j : ℕ) {k : ℕ} → Placed slots books p → j < p.count → k ≡ word32 slots (p.list + 4 * j) → 24 + 20 * k ≤ length books
listed_room slots books p j h l q = rw q (h.listed j l)

pub name_listed : (slots pool books : List ℕ) (p : Places) (v : View) {k : ℕ} {r : List ℕ} → v.index < p.count → k ≡ word32 slots (p.list + 4 * v.index) → r ≡ read v.offset v.length (filled_bytes books pool k) → r ≡ read v.offset v.length (buffer_of slots pool books p v.index)
unfolding buffer_of
name_listed slots pool books p v l q t = rw (lt-ltb v.index p.count l, ← q) t

read-nothing : (a n : ℕ) → [] ≡ read a n []
unfolding read
read-nothing a n = rw (drop-nil a, take-nil n)

pub name_nowhere : (slots pool books : List ℕ) (p : Places) (v : View) → p.count ≤ v.index → [] ≡ read v.offset v.length (buffer_of slots pool books p v.index)
unfolding buffer_of
name_nowhere slots pool books p v l = rw (le-ltb v.index p.count l) (read-nothing v.offset v.length)
