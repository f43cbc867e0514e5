-- Sums, and the counts of listings: a listed number is counted, so that it is live; and what a change of one list makes of the counts.
use Prim.Native.Nat.{ℕ, zero, suc, ◌+◌, ◌*◌, ◌≤◌, ◌<◌}
use Rattle.std.proofs.Math.Path.{◌≡◌, ap}
use Rattle.std.specs.Prelude.{refl, ◌≢◌, Bool, eqb}
use Rattle.std.proofs.Common.{sym, ◌∙◌, add-mul, eq-eqb}
use Rattle.std.proofs.Math.Bool.{true, false, cond}
use native.Mathlib.Omega.{arith}
use Rattle.std.proofs.Math.Decide.{dec_lt, ℕ_discrete}
use Rattle.std.proofs.Math.Nat.{mul-le-mul}
use Rattle.books.specs.Entry.{used_of, entry_of, is_free}
use Rattle.sound.specs.Live.{live_is}
use Rattle.sound.specs.SoundLaws.{sound_top}
use Rattle.sound.specs.Top.{live_used}
use Rattle.state.specs.World.{World}
use Rattle.state.specs.Layout.{is_views, list_length}
use Rattle.rules.specs.Batch.{sum_to}
use Rattle.push_safety.specs.Run.{Run}
use Rattle.push_safety.specs.TestedLaws.{bounds_say}
use Rattle.push_safety.specs.BlockGoes.{open_block}
use Rattle.rules.specs.Views.{is_open, open_number}
use Rattle.invariant.specs.Holding.{reach, number_at, times_in, listings, Holding}
use Rattle.invariant.proofs.Rests.{reach_plain, reach_open, reach_other, reach-shut, reach-behind, number-listed, number_open}

-- ---- sums

-- the numbers below n are all that counts
pub sum_ext : (n : ℕ) (f g : ℕ → ℕ) → ((i : ℕ) → i < n → f i ≡ g i) → sum_to n f ≡ sum_to n g
unfolding sum_to
sum_ext zero f g h = refl
sum_ext (suc n) f g h = rw (sum_ext n f g (λ i l. h i (omega arith)), h n (omega arith))

pub sum_zero : (n : ℕ) (f : ℕ → ℕ) → ((i : ℕ) → i < n → f i ≡ 0) → sum_to n f ≡ 0
unfolding sum_to
sum_zero zero f h = refl
sum_zero (suc n) f h = omega (arith, sum_zero n f (λ i l. h i (omega arith)), h n (omega arith))

-- one of them is at most the sum
pub sum_least : (n : ℕ) (f : ℕ → ℕ) (i : ℕ) → i < n → f i ≤ sum_to n f
unfolding sum_to
sum_least zero f i h = absurd (omega arith)
sum_least (suc n) f i h = go (dec_lt i n) (sum_least n f i)
  where
    go : Dec (i < n) → (i < n → f i ≤ sum_to n f) → f i ≤ sum_to n f + f n
    go (yes l) r = omega (arith, r l)
    go (no l) r = let e : i ≡ n = omega arith in rw e (omega arith)

-- and the sum at most n times the most of them
pub sum_most : (n most : ℕ) (f : ℕ → ℕ) → ((i : ℕ) → i < n → f i ≤ most) → sum_to n f ≤ n * most
unfolding sum_to
sum_most zero most f h = omega arith
sum_most (suc n) most f h =
    omega (arith, sum_most n most f (λ i l. h i (omega arith)), h n (omega arith), add-mul n 1 most)

-- more of them
pub sum_grows : (n m : ℕ) (f : ℕ → ℕ) → n ≤ m → sum_to n f ≤ sum_to m f
unfolding sum_to
sum_grows n zero f h = let e : n ≡ 0 = omega arith in rw e (omega arith)
sum_grows n (suc m) f h = go (dec_lt m n) (λ l. sum_grows n m f l)
  where
    go : Dec (m < n) → (n ≤ m → sum_to n f ≤ sum_to m f) → sum_to n f ≤ sum_to m f + f m
    go (yes l) r = let e : n ≡ suc m = omega arith in rw e (omega arith)
    go (no l) r = omega (arith, r (omega arith))

-- one of them changed
pub sum_change : (n : ℕ) (f g : ℕ → ℕ) (j : ℕ) → j < n → ((i : ℕ) → i < n → i ≢ j → g i ≡ f i) → sum_to n g + f j ≡ sum_to n f + g j
unfolding sum_to
sum_change zero f g j h e = absurd (omega arith)
sum_change (suc n) f g j h e = go (ℕ_discrete j n) (λ l. sum_change n f g j l (λ i k d. e i (omega arith) d))
  where
    go : Dec (j ≡ n) → (j < n → sum_to n g + f j ≡ sum_to n f + g j) → sum_to n g + g n + f j ≡ sum_to n f + f n + g j
    go (yes q) r =
        let s : sum_to n g ≡ sum_to n f = sum_ext n g f (λ i l. e i (omega arith) (λ z. omega arith)) in
        rw q (omega arith)
    go (no q) r = omega (arith, r (omega arith), e n (omega arith) (λ z. q (sym z)))

-- ---- what is listed is counted

module _ (w : World) where
  pub listed_counted : (slot c i : ℕ) → slot ≤ w.state.queue → c < w.state.columns → i < reach w slot c → 1 ≤ listings w (number_at w slot c i)
  unfolding listings times_in
  listed_counted slot c i p q h =
      let k : ℕ = number_at w slot c i in
      let one : ◌≡◌ {A = ℕ} (cond (eqb k (number_at w slot c i)) 1 0) 1 = rw (eq-eqb k k refl) in
      omega (
        arith,
        one,
        sum_least (reach w slot c) (λ i. cond (eqb k (number_at w slot c i)) 1 0) i h,
        sum_least w.state.columns (λ c. times_in w slot c k) c q,
        sum_least (w.state.queue + 1) (λ slot. sum_to w.state.columns (λ c. times_in w slot c k)) slot (omega arith),
      )

  -- no number is listed more often than a word counts
  times_most : (slot c k : ℕ) → times_in w slot c k ≤ reach w slot c
  unfolding times_in
  times_most slot c k =
      omega (arith, sum_most (reach w slot c) 1 (λ i. cond (eqb k (number_at w slot c i)) 1 0) (λ i h. one (eqb k (number_at w slot c i))))
    where
      one : (b : Bool) → cond b 1 0 ≤ 1
      one true = omega arith
      one false = omega arith

  pub reach_most : (slot c : ℕ) → Run w → slot ≤ w.state.queue → c < w.state.columns → reach w slot c ≤ w.state.lists
  reach_most slot c r p q = go (is_views w.state c) refl (ℕ_discrete slot w.state.place) (is_open w c) refl
    where
      go : (x : Bool) → is_views w.state c ≡ x → Dec (slot ≡ w.state.place) → (z : Bool) → is_open w c ≡ z → reach w slot c ≤ w.state.lists
      go false y d z o = omega (arith, reach_plain w slot c y)
      go true y (no d) z o = omega (arith, reach_other w slot c y d, r.lists slot c p q)
      go true y (yes d) true o =
          let room : list_length w w.state.place c < w.state.lists = r.room c (record { 0 = open_number w c }) q y (open_block w c o) in
          omega (arith, reach_open w slot c y d o, ap (λ (s : ℕ). list_length w s c) d)
      go true y (yes d) false o = omega (arith, reach-shut w slot c y o, r.lists slot c p q)

  pub listings_most : (k : ℕ) → Run w → listings w k ≤ 16793600
  unfolding listings
  listings_most k r =
      let b = bounds_say w.state r.fit.bounds in
      let one : (slot : ℕ) → slot < w.state.queue + 1 → sum_to w.state.columns (λ c. times_in w slot c k) ≤ 16384 = λ slot p. omega (arith, sum_most w.state.columns 1024 (λ c. times_in w slot c k) (λ c q. omega (arith, times_most slot c k, reach_most slot c r (omega arith) q, b.lists)), mul-le-mul b.columns (le_refl_at 1024)) in
      omega (arith, sum_most (w.state.queue + 1) 16384 _ one, mul-le-mul (queue_most b.queue) (le_refl_at 16384))
    where
      le_refl_at : (n : ℕ) → n ≤ n
      le_refl_at n = omega arith

      queue_most : {q : ℕ} → q ≤ 1024 → q + 1 ≤ 1025
      queue_most h = omega arith

-- ---- what is listed is live

module _ {w : World} {ext : ℕ → ℕ} (a : Holding w ext) (slot c i : ℕ) (p : slot ≤ w.state.queue) (q : c < w.state.columns) (h : i < reach w slot c) where
  pub number-below : number_at w slot c i < w.state.numbers
  number-below = go (dec_lt i (list_length w slot c))
    where
      go : Dec (i < list_length w slot c) → number_at w slot c i < w.state.numbers
      go (yes l) = rw (number-listed w slot c i l) (a.listed slot c i p q l)
      go (no l) =
          let b = reach-behind w slot c i h (omega arith) in
          rw (number_open w slot c i (omega arith)) (opened (is_views w.state c) refl b.1)
        where
          opened : (x : Bool) → is_views w.state c ≡ x → is_open w c ≡ true → open_number w c < w.state.numbers
          opened true y o = omega (arith, a.run.block c (record { 0 = open_number w c }) q y (open_block w c o), a.run.used)
          opened false y o = absurd (omega (arith, reach_plain w slot c y))

  pub number_counted : 1 ≤ (entry_of w.books (number_at w slot c i)).listings
  number_counted = omega (arith, a.sound.counted (number_at w slot c i) number-below, listed_counted w slot c i p q h)

  pub number_live : is_free (entry_of w.books (number_at w slot c i)) ≡ false
  number_live = live_is (entry_of w.books (number_at w slot c i)) (omega (arith, number_counted))

  pub number_used : number_at w slot c i < used_of w.books
  number_used = live_used (number_at w slot c i) (sound_top a.sound) number-below number_live

-- ---- the counts of two worlds

-- the same list is the same count
pub times_same : (w v : World) (slot c k : ℕ) → reach v slot c ≡ reach w slot c → ((i : ℕ) → i < reach w slot c → number_at v slot c i ≡ number_at w slot c i) → times_in v slot c k ≡ times_in w slot c k
unfolding times_in
times_same w v slot c k e h =
    ap (λ (n : ℕ). sum_to n (λ i. cond (eqb k (number_at v slot c i)) 1 0)) e
    ∙ sum_ext (reach w slot c) _ _ (λ i l. ap (λ (x : ℕ). cond (eqb k x) 1 0) (h i l))

module _ (w v : World) (queue : v.state.queue ≡ w.state.queue) (columns : v.state.columns ≡ w.state.columns) (k : ℕ) where
  counts_are : listings v k ≡ sum_to (w.state.queue + 1) (λ slot. sum_to w.state.columns (λ c. times_in v slot c k))
  unfolding listings
  counts_are =
      ap (λ (n : ℕ). sum_to (n + 1) (λ slot. sum_to v.state.columns (λ c. times_in v slot c k))) queue
      ∙ sum_ext (w.state.queue + 1) _ _ (λ slot l. ap (λ (n : ℕ). sum_to n (λ c. times_in v slot c k)) columns)

  -- the same lists
  pub listings-same : ((slot c : ℕ) → slot ≤ w.state.queue → c < w.state.columns → times_in v slot c k ≡ times_in w slot c k) → listings v k ≡ listings w k
  unfolding listings
  listings-same h =
      counts_are ∙ sum_ext (w.state.queue + 1) _ _ (λ slot p. sum_ext w.state.columns _ _ (λ c q. h slot c (omega arith) q))

  -- one list changed
  pub listings_change : (slot c : ℕ) → slot ≤ w.state.queue → c < w.state.columns → ((slot' d : ℕ) → slot' ≤ w.state.queue → d < w.state.columns → slot' ≢ slot → times_in v slot' d k ≡ times_in w slot' d k) → ((d : ℕ) → d < w.state.columns → d ≢ c → times_in v slot d k ≡ times_in w slot d k) → listings v k + times_in w slot c k ≡ listings w k + times_in v slot c k
  unfolding listings
  listings_change slot c p q others here =
      omega (
        arith,
        counts_are,
        sum_change (w.state.queue + 1) (λ slot. sum_to w.state.columns (λ c. times_in w slot c k)) (λ slot. sum_to w.state.columns (λ c. times_in v slot c k)) slot (omega arith)
            (λ slot' l d. sum_ext w.state.columns _ _ (λ c m. others slot' c (omega arith) m d)),
        sum_change w.state.columns (λ c. times_in w slot c k) (λ c. times_in v slot c k) c q here,
      )

  -- the lists of one slot changed
  pub listings_slot : (slot : ℕ) → slot ≤ w.state.queue → ((slot' c : ℕ) → slot' ≤ w.state.queue → c < w.state.columns → slot' ≢ slot → times_in v slot' c k ≡ times_in w slot' c k) → listings v k + sum_to w.state.columns (λ c. times_in w slot c k) ≡ listings w k + sum_to w.state.columns (λ c. times_in v slot c k)
  unfolding listings
  listings_slot slot p others =
      omega (
        arith,
        counts_are,
        sum_change (w.state.queue + 1) (λ slot. sum_to w.state.columns (λ c. times_in w slot c k)) (λ slot. sum_to w.state.columns (λ c. times_in v slot c k)) slot (omega arith)
            (λ slot' l d. sum_ext w.state.columns _ _ (λ c m. others slot' c (omega arith) m d)),
      )
