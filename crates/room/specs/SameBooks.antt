-- Books are their words: two with the same number in use, the same entries and the same bytes behind those are the same.
use Rattle.std.specs.Prelude.{ℕ, ◌+◌, ◌*◌, ◌-◌, ◌/◌, ◌≤◌, ◌<◌, ◌≡◌, List, length, get_or}
use Rattle.std.proofs.Common.{ap, arith, ext_get_or}
use Rattle.std.proofs.Math.Decide.{dec_lt}
use Rattle.words.specs.Word.{word_of, word32}
use Rattle.words.specs.WordLaws.{Bytes}
use Rattle.books.specs.declared.Entry.{Entry}
use Rattle.books.specs.Entry.{used_of, place, entry_of}

-- the same word has the same four bytes
pub word_byte : {p q : List ℕ} (at x : ℕ) → Bytes p → Bytes q → word32 p at ≡ word32 q at → at ≤ x → x < at + 4 → get_or p x 0 ≡ get_or q x 0
unfolding word32 word_of
word_byte {p} {q} at x b c e h l = go (dec_lt x (at + 1)) (dec_lt x (at + 2)) (dec_lt x (at + 3))
  where
    -- the byte x is the one at y
    byte : (y : ℕ) → x ≡ y → get_or p y 0 ≡ get_or q y 0 → get_or p x 0 ≡ get_or q x 0
    byte y z d = rw z d

    go : Dec (x < at + 1) → Dec (x < at + 2) → Dec (x < at + 3) → get_or p x 0 ≡ get_or q x 0
    go (yes i) j k = byte at (omega arith) (omega (arith, b.byte at, c.byte at))
    go (no i) (yes j) k = byte (at + 1) (omega arith) (omega (arith, b.byte at, c.byte at, b.byte (at + 1), c.byte (at + 1)))
    go (no i) (no j) (yes k) =
        byte (at + 2) (omega arith)
        (omega (arith, b.byte at, c.byte at, b.byte (at + 1), c.byte (at + 1), b.byte (at + 2), c.byte (at + 2)))
    go (no i) (no j) (no k) =
        byte (at + 3) (omega arith)
        (omega (arith, b.byte at, c.byte at, b.byte (at + 1), c.byte (at + 1), b.byte (at + 2), c.byte (at + 2)))

-- the same entry has the same twenty bytes
pub entry-byte : {p q : List ℕ} (i x : ℕ) → Bytes p → Bytes q → entry_of p i ≡ entry_of q i → place i ≤ x → x < place i + 20 → get_or p x 0 ≡ get_or q x 0
unfolding entry_of
entry-byte {p} {q} i x b c e h l = go (dec_lt x (place i + 4)) (dec_lt x (place i + 8)) (dec_lt x (place i + 12)) (dec_lt x (place i + 16))
  where
    go : Dec (x < place i + 4) → Dec (x < place i + 8) → Dec (x < place i + 12) → Dec (x < place i + 16) → get_or p x 0 ≡ get_or q x 0
    go (yes j) k m o = word_byte (place i) x b c (ap (λ (r : Entry). r.start) e) h j
    go (no j) (yes k) m o = word_byte (place i + 4) x b c (ap (λ (r : Entry). r.capacity.0) e) (omega arith) (omega arith)
    go (no j) (no k) (yes m) o = word_byte (place i + 8) x b c (ap (λ (r : Entry). r.length.0) e) (omega arith) (omega arith)
    go (no j) (no k) (no m) (yes o) = word_byte (place i + 12) x b c (ap (λ (r : Entry). r.hold) e) (omega arith) (omega arith)
    go (no j) (no k) (no m) (no o) = word_byte (place i + 16) x b c (ap (λ (r : Entry). r.listings) e) (omega arith) (omega arith)

-- every byte is one of the number in use, one of an entry, or behind the entries
pub books_ext : {p q : List ℕ} (n : ℕ) → Bytes p → Bytes q → length p ≡ length q → used_of p ≡ used_of q → ((i : ℕ) → i < n → entry_of p i ≡ entry_of q i) → ((x : ℕ) → 4 + 20 * n ≤ x → get_or p x 0 ≡ get_or q x 0) → p ≡ q
unfolding used_of
books_ext {p} {q} n b c len used each behind = ext_get_or 0 p q len (λ x l. go x (dec_lt x 4) (dec_lt x (4 + 20 * n)))
  where
    go : (x : ℕ) → Dec (x < 4) → Dec (x < 4 + 20 * n) → get_or p x 0 ≡ get_or q x 0
    go x (yes h) k = word_byte 0 x b c used (omega arith) (omega arith)
    go x (no h) (yes k) = entry-byte ((x - 4) / 20) x b c (each ((x - 4) / 20) (omega arith)) (omega arith) (omega arith)
    go x (no h) (no k) = behind x (omega arith)
