-- What holds of a result: one thing of its world, another of the number that it refuses with.
use Prim.Native.Nat.{ℕ, zero, suc, ◌<◌}
use Rattle.std.specs.Prelude.{◌≡◌, refl, ◌≢◌, Bool, true, false, ◌&&◌, cond, List, [], ◌∷◌, T, eqb}
use Rattle.std.proofs.Common.{sym, ◌∙◌, true≢false, arith, eqb-true}
use Rattle.search.specs.Cases.{and_left, and_right}
use Rattle.state.specs.World.{World}
use Rattle.rules.specs.Steps.{Res, ok, refuse, bind, for_each}

-- ---- numbers

-- n stands in a list of numbers
abbrev pub among : ℕ → List ℕ → Bool
among n [] = false
among n (m ∷ ms) = cond (eqb n m) true (among n ms)

-- every number of one list stands in another
abbrev pub within : List ℕ → List ℕ → Bool
within [] ns = true
within (m ∷ ms) ns = among m ns && within ms ns

pub record Among (ns : List ℕ) (n : ℕ) : Type 0 where
  pub stands : among n ns ≡ true

is_true : (b : Bool) → T b → b ≡ true
is_true true t = refl
is_true false t = absurd t

-- a number of the list
pub one_of : (ns : List ℕ) (n : ℕ) → T (among n ns) → Among ns n
one_of ns n t = record { stands = is_true (among n ns) t }

found : (ms ns : List ℕ) (n : ℕ) → T (within ms ns) → among n ms ≡ true → among n ns ≡ true
found [] ns n t e = absurd (true≢false (sym e))
found (m ∷ ms) ns n t e = go (found ms ns n (and_right (among m ns) (within ms ns) t)) (eqb n m) refl
  where
    go : (among n ms ≡ true → among n ns ≡ true) → (x : Bool) → eqb n m ≡ x → among n ns ≡ true
    go r true q = rw (eqb-true n m q) (is_true (among m ns) (and_left (among m ns) (within ms ns) t))
    go r false q = r (rw q at e)

-- a longer list has it too
pub among-more : {ms : List ℕ} (ns : List ℕ) {n : ℕ} → T (within ms ns) → Among ms n → Among ns n
among-more {ms} ns {n} t a = record { stands = found ms ns n t a.stands }

-- and it is not a number that does not stand there
pub among_not : {ns : List ℕ} {n : ℕ} (m : ℕ) → among m ns ≡ false → Among ns n → n ≢ m
among_not {ns} {n} m f a e = true≢false (sym (rw e at a.stands) ∙ f)

-- ---- results

-- P holds of the world, or N of the number of the refusal
pub data Holds (P : World → Type 0) (N : ℕ → Type 0) : Res → Type 0 where
  held : {w : World} → P w → Holds P N (ok w)
  refused : {n : ℕ} → N n → Holds P N (refuse n)

-- what it says of a result that is known
abbrev pub Says : (World → Type 0) → (ℕ → Type 0) → Res → Type 0
Says P N (ok w) = P w
Says P N (refuse n) = N n

module _ {P : World → Type 0} {N : ℕ → Type 0} where
  pub says : {r : Res} → Holds P N r → Says P N r
  says (held p) = p
  says (refused n) = n

  pub holds_ok : {r : Res} (v : World) → Holds P N r → r ≡ ok v → P v
  holds_ok v h e = says (rw e at h)

  pub holds_refuse : {r : Res} (n : ℕ) → Holds P N r → r ≡ refuse n → N n
  holds_refuse n h e = says (rw e at h)

  -- a step behind another
  pub holds_bind : {Q : World → Type 0} {r : Res} (f : World → Res) → Holds P N r → ((v : World) → P v → Holds Q N (f v)) → Holds Q N (bind r f)
  holds_bind f (held {w} p) g = g w p
  holds_bind f (refused n) g = refused n

  -- less said of either
  pub holds_more : {Q : World → Type 0} {M : ℕ → Type 0} {r : Res} → Holds P N r → ((v : World) → P v → Q v) → ((n : ℕ) → N n → M n) → Holds Q M r
  holds_more (held {w} p) f g = held (f w p)
  holds_more (refused {n} p) f g = refused (g n p)

  -- one of two results
  pub holds_cond : (b : Bool) {x y : Res} → (b ≡ true → Holds P N x) → (b ≡ false → Holds P N y) → Holds P N (cond b x y)
  holds_cond true f g = f refl
  holds_cond false f g = g refl

  -- a step for each number: what holds at the beginning and is kept by each holds at the end
  pub holds_each : (n : ℕ) (f : World → ℕ → Res) (w : World) → P w → ((v : World) (i : ℕ) → i < n → P v → Holds P N (f v i)) → Holds P N (for_each n f w)
  unfolding for_each
  holds_each zero f w p g = held p
  holds_each (suc n) f w p g =
      holds_bind (λ v. f v n) (holds_each n f w p (λ v i l. g v i (omega arith))) (λ v q. g v n (omega arith) q)

-- the numbers of a longer list
pub holds_among : {P : World → Type 0} {ms : List ℕ} (ns : List ℕ) {r : Res} → T (within ms ns) → Holds P (Among ms) r → Holds P (Among ns) r
holds_among ns t h = holds_more h (λ v p. p) (λ n a. among-more ns t a)

-- a refusal's number is not one that does not stand in the list, as 0
pub holds_not : {P : World → Type 0} {ns : List ℕ} {r : Res} (m : ℕ) → among m ns ≡ false → Holds P (Among ns) r → {n : ℕ} → r ≡ refuse n → n ≢ m
holds_not m f h {n} e = among_not m f (holds_refuse n h e)
