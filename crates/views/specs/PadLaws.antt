-- Padding: the bytes of a view behind its own, a word at a time, as the code looks at them.
use Rattle.std.specs.Prelude.{ℕ, zero, suc, ◌+◌, ◌-◌, ◌*◌, ◌/◌, ◌%◌, ◌≤◌, ◌<◌, ◌^◌, ◌≡◌, Bool, true, false, ◌&&◌, cond, List, ◌++◌, get_or, ltb, eqb}
use Rattle.std.proofs.Common.{sym, ◌∙◌, arith, get_or-append-add, eqb-true, lt-ltb, le-ltb, eq-eqb}
use Rattle.std.proofs.Math.Bool.{and-eq-true_iff}
use Rattle.std.proofs.Math.Decide.{dec_lt}
use Rattle.std.proofs.Math.ListN.{get_or-append}
use Rattle.search.specs.Cases.{same_test, both, both_fails}
use Rattle.search.specs.Every.{every-says, every_is}
use Rattle.views.specs.declared.View.{View}
use Rattle.views.specs.View.{bytes_of, inline_bytes, zero_from, is_padded}

-- the test of zeros says what it means, and means what it says
pub record Zeros (l : List ℕ) (k n : ℕ) : Type 0 where
  pub each : (j : ℕ) → k ≤ j → j < n → get_or l j 0 ≡ 0

pub zeros-says : (l : List ℕ) (k n : ℕ) → zero_from l k n ≡ true → Zeros l k n
unfolding zero_from
zeros-says l k n e = record { each = each }
  where
    each : (j : ℕ) → k ≤ j → j < n → get_or l j 0 ≡ 0
    each j a b =
        let t : eqb (get_or l (k + (j - k)) 0) 0 ≡ true = every-says (λ i. eqb (get_or l (k + i) 0) 0) (n - k) e (j - k) (omega arith) in
        let q : k + (j - k) ≡ j = omega arith in
        rw q at (eqb-true (get_or l (k + (j - k)) 0) 0 t)

pub zeros_is : (l : List ℕ) (k n : ℕ) → Zeros l k n → zero_from l k n ≡ true
unfolding zero_from
zeros_is l k n z = every_is (λ i. eqb (get_or l (k + i) 0) 0) (n - k) (λ i h. eq-eqb (get_or l (k + i) 0) 0 (z.each (k + i) (omega arith) (omega arith)))

-- a word whose bytes from k on are zero
abbrev pub clear_from : ℕ → ℕ → Bool
clear_from w k = zero_from (bytes_of w) k 4

abbrev Clear : ℕ → ℕ → Type 0
Clear w k = (j : ℕ) → k ≤ j → j < 4 → get_or (bytes_of w) j 0 ≡ 0

clear_says : (w k : ℕ) → clear_from w k ≡ true → Clear w k
clear_says w k e = (zeros-says (bytes_of w) k 4 e).each

clear_is : (w k : ℕ) → Clear w k → clear_from w k ≡ true
clear_is w k c = zeros_is (bytes_of w) k 4 (record { each = c })

-- the bytes of a word from the highest down: what is zero bounds the word
small : (q : ℕ) → q < 256 → q % 256 ≡ 0 → q ≡ 0
small q h e = omega arith

top3 : (w : ℕ) → Clear w 3 → w < 16777216
top3 w c = omega (arith, c 3 (omega arith) (omega arith))

top2 : (w : ℕ) → Clear w 2 → w < 65536
top2 w c =
    let h : w < 16777216 = top3 w (λ j a b. c j (omega arith) b) in
    omega (arith, small (w / 65536) (omega arith) (c 2 (omega arith) (omega arith)))

top1 : (w : ℕ) → Clear w 1 → w < 256
top1 w c =
    let h : w < 65536 = top2 w (λ j a b. c j (omega arith) b) in
    omega (arith, small (w / 256) (omega arith) (c 1 (omega arith) (omega arith)))

top0 : (w : ℕ) → Clear w 0 → w ≡ 0
top0 w c =
    let h : w < 256 = top1 w (λ j a b. c j (omega arith) b) in
    small w h (c 0 (omega arith) (omega arith))

-- and a small word has its high bytes zero
high_zero : (w m : ℕ) → w / m ≡ 0 → w / m % 256 ≡ 0
high_zero w m e = rw e

low3 : (w : ℕ) → w < 16777216 → Clear w 3
low3 w h zero a b = absurd (omega arith)
low3 w h (suc zero) a b = absurd (omega arith)
low3 w h (suc (suc zero)) a b = absurd (omega arith)
low3 w h (suc (suc (suc zero))) a b = omega arith
low3 w h (suc (suc (suc (suc j)))) a b = absurd (omega arith)

low2 : (w : ℕ) → w < 65536 → Clear w 2
low2 w h zero a b = absurd (omega arith)
low2 w h (suc zero) a b = absurd (omega arith)
low2 w h (suc (suc zero)) a b = high_zero w 65536 (omega arith)
low2 w h (suc (suc (suc j))) a b = low3 w (omega arith) (suc (suc (suc j))) (omega arith) b

low1 : (w : ℕ) → w < 256 → Clear w 1
low1 w h zero a b = absurd (omega arith)
low1 w h (suc zero) a b = high_zero w 256 (omega arith)
low1 w h (suc (suc j)) a b = low2 w (omega arith) (suc (suc j)) (omega arith) b

low0 : (w : ℕ) → w ≡ 0 → Clear w 0
low0 w e zero a b = rw e
low0 w e (suc j) a b = low1 w (omega arith) (suc j) (omega arith) b

-- clear_from: k, at most 4
abbrev pub at_most_four : ℕ → ℕ
at_most_four k = cond (ltb k 4) k 4

pub four_low : (k : ℕ) → k < 4 → k ≡ at_most_four k
four_low k h = rw (lt-ltb k 4 h)

pub four_high : (k : ℕ) → 4 ≤ k → 4 ≡ at_most_four k
four_high k h = rw (le-ltb k 4 h)

-- a word has nothing above its k lowest bytes exactly where its bytes from k on are zero
abbrev Above : ℕ → ℕ → Type 0
Above w k = eqb (w / 2 ^ (8 * at_most_four k)) 0 ≡ clear_from w k

above_more : (w k : ℕ) → w < 4294967296 → 4 ≤ k → Above w k
above_more w k f h = rw (le-ltb k 4 h, eq-eqb (w / 4294967296) 0 (omega arith)) (sym (clear_is w k (λ j p q. absurd (omega arith))))

above_is : (w k : ℕ) → w < 4294967296 → Above w k
above_is w zero f =
    same_test _ _ (λ t. clear_is w 0 (low0 w (omega (arith, eqb-true (w / 1) 0 t)))) (λ t. eq-eqb (w / 1) 0 (omega (arith, top0 w (clear_says w 0 t))))
above_is w (suc zero) f =
    same_test _ _ (λ t. clear_is w 1 (low1 w (omega (arith, eqb-true (w / 256) 0 t)))) (λ t. eq-eqb (w / 256) 0 (omega (arith, top1 w (clear_says w 1 t))))
above_is w (suc (suc zero)) f =
    same_test _ _ (λ t. clear_is w 2 (low2 w (omega (arith, eqb-true (w / 65536) 0 t)))) (λ t. eq-eqb (w / 65536) 0 (omega (arith, top2 w (clear_says w 2 t))))
above_is w (suc (suc (suc zero))) f =
    same_test _ _ (λ t. clear_is w 3 (low3 w (omega (arith, eqb-true (w / 16777216) 0 t)))) (λ t. eq-eqb (w / 16777216) 0 (omega (arith, top3 w (clear_says w 3 t))))
above_is w (suc (suc (suc (suc k)))) f = above_more w (suc (suc (suc (suc k)))) f (omega arith)

pub clear_above : (w k : ℕ) {p : ℕ} → w < 4294967296 → p ≡ at_most_four k → eqb (w / 2 ^ (8 * p)) 0 ≡ clear_from w k
clear_above w k f e = rw e (above_is w k f)

-- the 12 bytes by words
pub inline_prefix : (v : View) (j : ℕ) → j < 4 → get_or (inline_bytes v) j 0 ≡ get_or (bytes_of v.prefix) j 0
unfolding inline_bytes
inline_prefix v j h = get_or-append (bytes_of v.prefix) (bytes_of v.index ++ bytes_of v.offset) 0 j h

pub inline_index : (v : View) (j : ℕ) → j < 4 → get_or (inline_bytes v) (4 + j) 0 ≡ get_or (bytes_of v.index) j 0
unfolding inline_bytes
inline_index v j h =
    get_or-append-add (bytes_of v.prefix) (bytes_of v.index ++ bytes_of v.offset) j 0 ∙ get_or-append (bytes_of v.index) (bytes_of v.offset) 0 j h

pub inline_offset : (v : View) (j : ℕ) → get_or (inline_bytes v) (4 + (4 + j)) 0 ≡ get_or (bytes_of v.offset) j 0
unfolding inline_bytes
inline_offset v j =
    get_or-append-add (bytes_of v.prefix) (bytes_of v.index ++ bytes_of v.offset) (4 + j) 0
    ∙ get_or-append-add (bytes_of v.index) (bytes_of v.offset) j 0

-- padded: every byte from the length on is zero
abbrev Padded : View → Type 0
Padded v = (j : ℕ) → v.length ≤ j → j < 12 → get_or (inline_bytes v) j 0 ≡ 0

padded-says : (v : View) → is_padded v ≡ true → Padded v
unfolding is_padded
padded-says v e = (zeros-says (inline_bytes v) v.length 12 e).each

padded_is : (v : View) → Padded v → is_padded v ≡ true
unfolding is_padded
padded_is v c = zeros_is (inline_bytes v) v.length 12 (record { each = c })

module _ (v : View) where
  words→padded : Clear v.prefix v.length → Clear v.index (v.length - 4) → Clear v.offset (v.length - 8) → Padded v
  words→padded p q r j a b = go (dec_lt j 4) (dec_lt j 8)
    where
      go : Dec (j < 4) → Dec (j < 8) → get_or (inline_bytes v) j 0 ≡ 0
      go (yes d) e = inline_prefix v j d ∙ p j a d
      go (no d) (yes e) =
          let z : 4 + (j - 4) ≡ j = omega arith in
          rw z at (inline_index v (j - 4) (omega arith) ∙ q (j - 4) (omega arith) (omega arith))
      go (no d) (no e) =
          let z : 4 + (4 + (j - 8)) ≡ j = omega arith in
          rw z at (inline_offset v (j - 8) ∙ r (j - 8) (omega arith) (omega arith))

  padded→prefix : Padded v → Clear v.prefix v.length
  padded→prefix c j a b = sym (inline_prefix v j b) ∙ c j a (omega arith)

  padded→index : Padded v → Clear v.index (v.length - 4)
  padded→index c j a b = sym (inline_index v j b) ∙ c (4 + j) (omega arith) (omega arith)

  padded→offset : Padded v → Clear v.offset (v.length - 8)
  padded→offset c j a b = sym (inline_offset v j) ∙ c (4 + (4 + j)) (omega arith) (omega arith)

  padded_words : is_padded v ≡ (clear_from v.prefix v.length && (clear_from v.index (v.length - 4) && clear_from v.offset (v.length - 8)))
  padded_words =
      same_test _ _
      (λ t.
      let c : Padded v = padded-says v t in
      both (clear_is _ _ (padded→prefix c)) (both (clear_is _ _ (padded→index c)) (clear_is _ _ (padded→offset c))))
      (λ t.
      let h = (and-eq-true_iff _ _).0 t in
      let k = (and-eq-true_iff _ _).0 h.1 in
      padded_is v (words→padded (clear_says _ _ h.0) (clear_says _ _ k.0) (clear_says _ _ k.1)))

  -- the ways out of is_padded
  pub padded-first : {a : Bool} → a ≡ clear_from v.prefix v.length → a ≡ false → false ≡ is_padded v
  padded-first p e = rw padded_words (both_fails _ (sym p ∙ e))

  pub padded_second : {a b : Bool} {n : ℕ} → a ≡ clear_from v.prefix v.length → a ≡ true → n ≡ v.length - 4 → b ≡ clear_from v.index n → b ≡ false → false ≡ is_padded v
  padded_second p e m q f = rw (padded_words, ← p, e, ← m) (both_fails _ (sym q ∙ f))

  pub padded_third : {a b c : Bool} {n m : ℕ} → a ≡ clear_from v.prefix v.length → a ≡ true → n ≡ v.length - 4 → b ≡ clear_from v.index n → b ≡ true → m ≡ v.length - 8 → c ≡ clear_from v.offset m → c ≡ is_padded v
  padded_third p e m q f o r = rw (padded_words, ← p, e, ← m, ← q, f, ← o) r
