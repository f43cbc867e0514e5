-- The laws of block sizes: the loop a turn at a time, and the sizes that a history of asks keeps.
use Rattle.std.specs.Prelude.{ℕ, zero, suc, ◌+◌, ◌*◌, ◌^◌, ◌≤◌, ◌<◌, max, ◌≡◌, refl, Bool, true, false, cond, List, [], ◌∷◌, ltb, leb}
use Rattle.std.proofs.Common.{sym, ap, ◌∙◌, arith, pow-suc, pow-add, ltb-true, ltb-false, leb-false, le-ltb, lt-ltb, le-leb}
use Rattle.std.specs.Prelude.{Option, None, Some}
use Rattle.std.proofs.Math.Decide.{dec_lt}
use Rattle.std.proofs.Math.Nat.{pow-le-pow_right}
use Rattle.std.proofs.lemmas.Bool.{lt-leb}
use Rattle.search.specs.Cases.{by_cond}
use Rattle.search.specs.First.{first, Lowest}
use Rattle.search.specs.FirstLaws.{at_is, at-says, nothing-says}
use Rattle.counts.specs.declared.ByteCount.{ByteCount}
use Rattle.counts.specs.declared.ByteSum.{ByteSum}
use Rattle.blocks.specs.declared.BufferSource.{BufferSource}
use Rattle.blocks.specs.declared.NextSize.{NextSize}
use Rattle.blocks.specs.Block.{top, next, fresh, doubled, enough, or_none, doublings, grown, kept, asked, after_asks}

-- enough, as an order; and not enough
enough_above : (size min j : ℕ) → min < size * 2 ^ j → enough size min j ≡ true
unfolding enough
enough_above size min j h = rw (lt-ltb min (size * 2 ^ j) h)

enough-top : (size min j : ℕ) → top ≤ size * 2 ^ j → enough size min j ≡ true
unfolding enough
enough-top size min j h = by_cond (λ (b : Bool). b ≡ true) (ltb min (size * 2 ^ j)) (λ q. refl) (λ q. le-leb top (size * 2 ^ j) h)

enough_not : (size min j : ℕ) → size * 2 ^ j ≤ min → size * 2 ^ j < top → enough size min j ≡ false
unfolding enough
enough_not size min j h k = rw (le-ltb min (size * 2 ^ j) h, lt-leb top (size * 2 ^ j) k)

not_enough : (size min j : ℕ) → enough size min j ≡ false → (size * 2 ^ j ≤ min) × (size * 2 ^ j < top)
unfolding enough
not_enough size min j e = go (ltb min (size * 2 ^ j)) refl e
  where
    go : (b : Bool) → ltb min (size * 2 ^ j) ≡ b → cond b true (leb top (size * 2 ^ j)) ≡ false → (size * 2 ^ j ≤ min) × (size * 2 ^ j < top)
    go true q z = let w : ◌≡◌ {A = ℕ} 0 1 = cc in absurd (omega arith)
    go false q z = (ltb-false min (size * 2 ^ j) q, leb-false top (size * 2 ^ j) z)

-- the doublings are the fewest that are enough
pub doublings_lowest : (size min : ℕ) → 1 ≤ size → Lowest (enough size min) 21 (doublings size min)
unfolding doublings
doublings_lowest size min h = go (first (enough size min) 21) refl
  where
    go : (o : Option ℕ) → first (enough size min) 21 ≡ o → Lowest (enough size min) 21 (or_none (first (enough size min) 21))
    go None q =
        let e : enough size min 20 ≡ true = enough-top size min 20 (omega arith) in
        let n : enough size min 20 ≡ false = nothing-says (enough size min) 21 q 20 (omega arith) in
        let w : ◌≡◌ {A = ℕ} 0 1 = cc in absurd (omega arith)
    go (Some j) q = rw q (at-says (enough size min) 21 j q)

doublings_is : (size min j : ℕ) → Lowest (enough size min) 21 j → doublings size min ≡ j
unfolding doublings
doublings_is size min j l = rw (at_is (enough size min) 21 j l)

-- no turn: the size is above the minimum, or no longer below the top
stop : (size min : ℕ) → enough size min 0 ≡ true → grown size min ≡ size
unfolding grown
stop size min e =
    rw (doublings_is size min 0 (record { below = omega arith; accepted = e; others = λ u h. absurd (omega arith) })) (omega arith)

pub stop_min : (size min : ℕ) → min < size → grown size min ≡ size
stop_min size min h = stop size min (enough_above size min 0 (omega arith))

pub stop_top : (size min : ℕ) → top ≤ size → grown size min ≡ size
stop_top size min h = stop size min (enough-top size min 0 (omega arith))

-- one turn
double_pow : (size j : ℕ) → size * 2 ^ suc j ≡ size * 2 * 2 ^ j
double_pow size j = rw (pow-suc 2 j) (omega arith)

enough_suc : (size min j : ℕ) → enough size min (suc j) ≡ enough (size * 2) min j
unfolding enough
enough_suc size min j = rw (double_pow size j)

pub turn : (size min : ℕ) → 1 ≤ size → size ≤ min → size < top → grown size min ≡ grown (size * 2) min
unfolding grown
turn size min h a b = rw (doublings_is size min (suc j) low) (double_pow size j)
  where
    j : ℕ
    j = doublings (size * 2) min

    l : Lowest (enough (size * 2) min) 21 j
    l = doublings_lowest (size * 2) min (omega arith)

    few : j < 20
    few = go (dec_lt 19 j)
      where
        go : Dec (19 < j) → j < 20
        go (yes d) = let w : ◌≡◌ {A = ℕ} 0 1 = cc (l.others 19 d, enough-top (size * 2) min 19 (omega arith)) in absurd (omega arith)
        go (no d) = omega arith

    none_before : (u : ℕ) → u < suc j → enough size min u ≡ false
    none_before zero k = enough_not size min 0 (omega arith) (omega arith)
    none_before (suc u) k = enough_suc size min u ∙ l.others u (omega arith)

    low : Lowest (enough size min) 21 (suc j)
    low = record { below = omega (arith, few); accepted = enough_suc size min j ∙ l.accepted; others = none_before }

-- the ways out of double, grow, keep and next_size
pub doubled-below : (size : ℕ) → size < top → size * 2 ≡ doubled size
unfolding doubled
doubled-below size h = rw (lt-ltb size top h)

pub doubled-top : (size : ℕ) → top ≤ size → size ≡ doubled size
unfolding doubled
doubled-top size h = rw (le-ltb size top h)

pub doubled_low : (size : ℕ) {once : ℕ} → once ≡ doubled size → 1 ≤ size → 1 ≤ once
unfolding doubled
doubled_low size e h = rw e (by_cond (λ (k : ℕ). 1 ≤ k) (ltb size top) (λ q. omega arith) (λ q. h))

pub grown-turn : (size min s : ℕ) → grown size min ≡ grown s min → 1 ≤ s → s ≤ min → s < top → grown size min ≡ grown (s * 2) min
grown-turn size min s e h a b = e ∙ turn s min h a b

pub grown_min : (size min s : ℕ) → grown size min ≡ grown s min → min < s → s ≡ grown size min
grown_min size min s e h = sym (e ∙ stop_min s min h)

pub grown-top : (size min s : ℕ) → grown size min ≡ grown s min → top ≤ s → s ≡ grown size min
grown-top size min s e h = sym (e ∙ stop_top s min h)

pub kept_grows : (size min : ℕ) {once r : ℕ} → once ≡ doubled size → once < min → r ≡ grown once min → r ≡ kept size min
unfolding kept
kept_grows size min e h g = rw (← e, lt-ltb _ min h) g

pub kept_stays : (size min : ℕ) {once : ℕ} → once ≡ doubled size → min ≤ once → once ≡ kept size min
unfolding kept
kept_stays size min e h = rw (← e, le-ltb _ min h)

pub asked_is : (source : BufferSource) (min : ByteSum) {size : ByteCount} {answer : ℕ} → size.0 ≡ kept source.current.0 min.0 → answer ≡ max size.0 min.0
    → ◌≡◌ {A = NextSize} (record { source = record { current = size }; size = record { 0 = answer } }) (asked source min)
unfolding asked
asked_is source min {size} {answer} e f =
    ap (λ (k : ℕ). next k answer) e ∙ ap (next (kept source.current.0 min.0)) (f ∙ ap (λ (k : ℕ). max k min.0) e)

-- a size that a history of asks keeps: 4,096 doubled at most 8 times
pub record Power (size : ℕ) : Type 0 where
  pub times : ℕ
  pub few : times ≤ 8
  pub is : size ≡ 4096 * 2 ^ times

pub fresh_power : Power fresh.current.0
fresh_power = record { times = 0; few = omega arith; is = refl }

-- below the top, it was doubled less than 8 times
below_eight : (i : ℕ) → 4096 * 2 ^ i < top → i < 8
below_eight i h = go (dec_lt i 8)
  where
    go : Dec (i < 8) → i < 8
    go (yes d) = d
    go (no d) = let m : 2 ^ 8 ≤ 2 ^ i = pow-le-pow_right (omega arith) {i = 8} {j = i} (omega arith) in absurd (omega arith)

doubled_power : (size : ℕ) → Power size → Power (doubled size)
unfolding doubled
doubled_power size p =
    by_cond Power (ltb size top)
    (λ q.
    let l : p.times < 8 = below_eight p.times (omega (arith, p.is, ltb-true size top q)) in
    record { times = suc p.times; few = l; is = rw (pow-suc 2 p.times) (omega (arith, p.is)) })
    (λ q. p)

grown_power : (size min : ℕ) → Power size → Power (grown size min)
unfolding grown
grown_power size min p = go (doublings size min) (doublings_lowest size min (omega (arith, p.is, pos)))
  where
    pos : 1 ≤ 2 ^ p.times
    pos = pow-le-pow_right (omega arith) {i = 0} {j = p.times} (omega arith)

    is : (j : ℕ) → size * 2 ^ j ≡ 4096 * 2 ^ (p.times + j)
    is j = rw (p.is, pow-add 2 p.times j) (omega arith)

    go : (j : ℕ) → Lowest (enough size min) 21 j → Power (size * 2 ^ j)
    go zero l = record { times = p.times; few = p.few; is = omega (arith, p.is) }
    go (suc j) l =
        let n = not_enough size min j (l.others j (omega arith)) in
        let f : p.times + j < 8 = below_eight (p.times + j) (omega (arith, is j, n)) in
        record { times = p.times + suc j; few = omega arith; is = is (suc j) }

pub kept_power : (size min : ℕ) → Power size → Power (kept size min)
unfolding kept
kept_power size min p =
    by_cond Power (ltb (doubled size) min) (λ q. grown_power (doubled size) min (doubled_power size p)) (λ q. doubled_power size p)

-- every history of asks keeps 4,096 x 2 ^ j, which lies within 14's range: 4,096 to 1,048,576
pub asks_power : (source : BufferSource) (mins : List ByteSum) → Power source.current.0 → Power (after_asks source mins).current.0
unfolding after_asks asked
asks_power source [] p = p
asks_power source (min ∷ mins) p = asks_power (asked source min).source mins (kept_power source.current.0 min.0 p)

pub power_range : (size : ℕ) → Power size → (4096 ≤ size) × (size ≤ top)
power_range size p =
    let low : 2 ^ 0 ≤ 2 ^ p.times = pow-le-pow_right (omega arith) {i = 0} {j = p.times} (omega arith) in
    let high : 2 ^ p.times ≤ 2 ^ 8 = pow-le-pow_right (omega arith) {i = p.times} {j = 8} p.few in
    omega (arith, p.is)

pub history_range : (mins : List ByteSum) → (4096 ≤ (after_asks fresh mins).current.0) × ((after_asks fresh mins).current.0 ≤ top)
history_range mins = power_range (after_asks fresh mins).current.0 (asks_power fresh mins fresh_power)
