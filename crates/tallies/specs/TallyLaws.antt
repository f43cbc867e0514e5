-- The laws of counts: same place, other place, and what they leave of the entries.
use Rattle.std.specs.Prelude.{ℕ, suc, ◌+◌, ◌*◌, ◌-◌, ◌≤◌, ◌<◌, ◌^◌, ◌≡◌, List, length}
use Rattle.std.proofs.Common.{arith, mul-le-mul_left}
use Rattle.words.specs.Word.{word32, with_word32}
use Rattle.words.specs.WordLaws.{word32-same, word32_other, length-with_word32}
use Rattle.words.specs.Frame.{Framed, under, over}
use Rattle.words.specs.FrameLaws.{word_framed, framed_word}
use Rattle.books.specs.Entry.{used_of, entry_of}
use Rattle.books.specs.EntryLaws.{framed_entry, framed_used}
use Rattle.tallies.specs.declared.Tally.{Tally}
use Rattle.tallies.specs.Tally.{tally_place, tally_of, with_tally}

-- for the code: the words of a slot are few
pub words_few : (c slot : ℕ) → c ≤ 16 → slot ≤ 1024 → (1 + c) * slot ≤ 17408
words_few c slot a b =
    let p : (1 + c) * slot ≤ (1 + c) * 1024 = mul-le-mul_left (1 + c) b in
    omega arith

pub place_is : (t : Tally) {w : ℕ} → w ≡ (1 + t.columns) * t.slot → 4 + 20 * t.numbers + 4 * (w + t.word) ≡ tally_place t
unfolding tally_place
place_is t p = rw p

pub tally_is : (s : List ℕ) (t : Tally) {at r : ℕ} → at ≡ tally_place t → r ≡ word32 s at → r ≡ tally_of s t
unfolding tally_of
tally_is s t p q = rw (← p) q

pub with_is : (s : List ℕ) (t : Tally) (v : ℕ) {at : ℕ} {r : List ℕ} → at ≡ tally_place t → r ≡ with_word32 s at v → r ≡ with_tally s t v
unfolding with_tally
with_is s t v p q = rw (← p) q

pub length-with_tally : (s : List ℕ) (t : Tally) (v : ℕ) → length (with_tally s t v) ≡ length s
unfolding with_tally
length-with_tally s t v = length-with_word32 s (tally_place t) v

-- a count read where it was put
pub tally-same : (s : List ℕ) (t : Tally) (v : ℕ) → tally_place t + 4 ≤ length s → v < 2 ^ 32 → tally_of (with_tally s t v) t ≡ v
unfolding tally_of with_tally
tally-same s t v h f = word32-same s (tally_place t) v h f

-- a count read elsewhere, of the same set-up: another slot, or another word of it
ahead : (c a b k l : ℕ) → k ≤ c → a < b → (1 + c) * a + k < (1 + c) * b + l
ahead c a b k l h d =
    let p : (1 + c) * suc a ≤ (1 + c) * b = mul-le-mul_left (1 + c) d in
    omega arith

pub data OtherTally (a b : Tally) : Type 0 where
  slots : (a.slot < b.slot) → OtherTally a b
  slots' : (b.slot < a.slot) → OtherTally a b
  words : (a.slot ≡ b.slot) → 1 ≤ (a.word - b.word) + (b.word - a.word) → OtherTally a b

pub tally_other : (s : List ℕ) (t u : Tally) (v : ℕ) → t.numbers ≡ u.numbers → t.columns ≡ u.columns → t.word ≤ t.columns → u.word ≤ u.columns → OtherTally t u → tally_of (with_tally s t v) u ≡ tally_of s u
unfolding tally_of with_tally tally_place
tally_other s t u v n c p q (slots d) =
    word32_other s (4 + 20 * t.numbers + 4 * ((1 + t.columns) * t.slot + t.word)) v (4 + 20 * u.numbers + 4 * ((1 + u.columns) * u.slot + u.word))
    (rw (← c, ← n) (omega (arith, ahead t.columns t.slot u.slot t.word u.word p d)))
tally_other s t u v n c p q (slots' d) =
    word32_other s (4 + 20 * t.numbers + 4 * ((1 + t.columns) * t.slot + t.word)) v (4 + 20 * u.numbers + 4 * ((1 + u.columns) * u.slot + u.word))
    (rw (c, n) (omega (arith, ahead u.columns u.slot t.slot u.word t.word q d)))
tally_other s t u v n c p q (words e d) =
    word32_other s (4 + 20 * t.numbers + 4 * ((1 + t.columns) * t.slot + t.word)) v (4 + 20 * u.numbers + 4 * ((1 + u.columns) * u.slot + u.word))
    (rw (← c, ← n, ← e) (omega arith))

-- a count changes its four bytes, which lie behind every entry
pub tally_framed : (s : List ℕ) (t : Tally) (v : ℕ) → Framed (tally_place t) (tally_place t + 4) s (with_tally s t v)
unfolding with_tally
tally_framed s t v = word_framed s (tally_place t) v

behind : (t : Tally) → 4 + 20 * t.numbers ≤ tally_place t
unfolding tally_place
behind t = omega arith

pub entry-with_tally : (s : List ℕ) (t : Tally) (v i : ℕ) → i < t.numbers → entry_of (with_tally s t v) i ≡ entry_of s i
entry-with_tally s t v i h = framed_entry i (tally_framed s t v) (under (omega (arith, behind t)))

pub used_with_tally : (s : List ℕ) (t : Tally) (v : ℕ) → used_of (with_tally s t v) ≡ used_of s
used_with_tally s t v = framed_used (tally_framed s t v) (omega (arith, behind t))

-- and an entry changes no count; more, nothing that stays within the entries does
pub framed_tally : {lo : ℕ} {p q : List ℕ} (t : Tally) → Framed lo (4 + 20 * t.numbers) p q → tally_of q t ≡ tally_of p t
unfolding tally_of
framed_tally t f = framed_word (tally_place t) f (over (behind t))
