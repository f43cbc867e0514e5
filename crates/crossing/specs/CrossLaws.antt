-- Answers as numbers and words: a law for each exit, and for each turn of the loop.
use Rattle.std.specs.Prelude.{Option, Some, None, Result, Ok, Err}
use Rattle.std.specs.Prelude.{ℕ, zero, suc, ◌+◌, ◌*◌, ◌≤◌, ◌<◌, min, ◌≡◌, refl, List, ◌++◌, length, get_or, set, take, drop, replicate}
use Rattle.std.proofs.Common.{sym, ◌∙◌, ap, append-nil, arith, add-one, length-set, drop_of_length-le, take_all, length-take-le, get_or-set_same, get_or-set_other}
use Rattle.std.proofs.Math.Decide.{dec_lt, ℕ_discrete}
use Rattle.std.proofs.lemmas.List.{take-append-le}
use Rattle.counts.specs.declared.BufferNumber.{BufferNumber}
use Rattle.counts.specs.declared.RowCount.{RowCount}
use Rattle.pool.specs.Register.{refusal_of}
use Rattle.words.specs.Word.{word32}
use Rattle.words.specs.Run.{read, put, lay}
use Rattle.words.specs.RunLaws.{lay-put}
use Rattle.crossing.specs.Cross.{pair, number_in, limit_pair, kinds_to}

-- ---- pairs

pub registered-number : (a : Result BufferNumber ℕ) {k : BufferNumber} {r : ℕ} → a ≡ Ok k → r ≡ pair 0 k.0 → r ≡ pair (refusal_of a) (number_in a)
registered-number a e q = rw e q

pub registered-refused : (a : Result BufferNumber ℕ) {n r : ℕ} → a ≡ Err n → r ≡ pair n 0 → r ≡ pair (refusal_of a) (number_in a)
registered-refused a e q = rw e q

pub limit_rows : (l : Option RowCount) {k : RowCount} {r : ℕ} → l ≡ Some k → r ≡ pair 1 k.0 → r ≡ limit_pair l
limit_rows l e q = rw e q

pub limit_unset : (l : Option RowCount) → l ≡ None → 0 ≡ limit_pair l
limit_unset l e = rw e

-- ---- copy_front

whole : (part s : List ℕ) → length part ≤ length s → put 0 (read 0 (length part) part) s ≡ lay 0 part s
unfolding read
whole part s h =
    ap (λ (l : List ℕ). put 0 l s) (take_all (length part) part (omega arith)) ∙ sym (lay-put 0 part s (omega arith))

cut : (part s : List ℕ) → length s ≤ length part → put 0 (read 0 (length s) part) s ≡ lay 0 part s
unfolding lay put read
cut part s h =
    ap (λ (l : List ℕ). take (length s) part ++ l) (drop_of_length-le s {i = 0 + length (take (length s) part)} (omega (arith, length-take-le (length s) part h)))
    ∙ append-nil (take (length s) part) ∙ sym (take-append-le (length s) part (drop (0 + length part) s) h)

front_put : (part s : List ℕ) (n : ℕ) → n ≤ length part → take n part ++ drop n s ≡ put 0 (read 0 n part) s
unfolding put read
front_put part s n h = let k : 0 + length (take n part) ≡ n = omega (arith, length-take-le n part h) in rw k refl

pub front-laid : (part s : List ℕ) {n : ℕ} {t : List ℕ} → n ≡ min (length s) (length part) → t ≡ take n part → t ++ drop n s ≡ lay 0 part s
front-laid part s {n} e q = rw q (front_put part s n (omega arith) ∙ go (dec_lt (length s) (length part)))
  where
    go : Dec (length s < length part) → put 0 (read 0 n part) s ≡ lay 0 part s
    go (yes h) = let p : n ≡ length s = omega arith in rw p (cut part s (omega arith))
    go (no h) = let p : n ≡ length part = omega arith in rw p (whole part s (omega arith))

-- ---- kinds_of

pub kinds-none : (b : List ℕ) → replicate 16 0 ≡ kinds_to b 0
unfolding kinds_to
kinds-none b = refl

pub kinds-more : (b : List ℕ) (c : ℕ) {t : List ℕ} {k : ℕ} → t ≡ kinds_to b c → k ≡ word32 b (4 * c) → set t c k ≡ kinds_to b (c + 1)
unfolding kinds_to
kinds-more b c p q = rw (add-one, p, q)

length-kinds : (b : List ℕ) (n : ℕ) → length (kinds_to b n) ≡ 16
unfolding kinds_to
length-kinds b zero = refl
length-kinds b (suc n) = length-set (kinds_to b n) n (word32 b (4 * n)) ∙ length-kinds b n

-- the words one by one
pub kinds-at : (b : List ℕ) (n i : ℕ) → n ≤ 16 → i < n → get_or (kinds_to b n) i 0 ≡ word32 b (4 * i)
unfolding kinds_to
kinds-at b zero i m h = absurd (omega arith)
kinds-at b (suc n) i m h = go (ℕ_discrete i n) (λ j. kinds-at b n i (omega arith) j)
  where
    go : Dec (i ≡ n) → (i < n → get_or (kinds_to b n) i 0 ≡ word32 b (4 * i)) → get_or (set (kinds_to b n) n (word32 b (4 * n))) i 0 ≡ word32 b (4 * i)
    go (yes e) before = rw e (get_or-set_same (kinds_to b n) n (word32 b (4 * n)) 0 (omega (arith, length-kinds b n)))
    go (no e) before = get_or-set_other (kinds_to b n) n i (word32 b (4 * n)) 0 e ∙ before (omega arith)
