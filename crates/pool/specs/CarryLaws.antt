-- The laws of copying within the pool.
use Rattle.std.specs.Prelude.{ℕ, zero, suc, ◌+◌, ◌-◌, ◌≤◌, ◌<◌, ◌≡◌, refl, List, length, get_or, set, take, drop}
use Rattle.std.proofs.Common.{sym, ◌∙◌, ap, arith, add-one, length-set, length-take, length-drop, get_or-set_same, get_or-set_other}
use Rattle.std.proofs.Math.Decide.{ℕ_discrete}
use borrow.Rule.Slice.PartMut.{put_mid, set_mid_at}
use Rattle.words.specs.WordLaws.{Bytes, bytes-set}
use Rattle.words.specs.Frame.{Agrees, Framed, Apart, under, over}
use Rattle.words.specs.FrameLaws.{framed_refl, framed_agrees, apart_part}
use Rattle.pool.specs.Carry.{carried}

-- a turn of carry, and the part that it lends
pub carried_none : (pool : List ℕ) (from to : ℕ) → pool ≡ carried pool from to 0
unfolding carried
carried_none pool from to = refl

pub put_part : (s : List ℕ) (to i b : ℕ) {t : List ℕ} → t ≡ set (take (length s - to) (drop to s)) i b → to + i < length s → put_mid to (length s - to) s t ≡ set s (to + i) b
put_part s to i b h l =
    let m : i < length (take (length s - to) (drop to s)) = simp (length-take, length-drop) (omega arith) in
    rw h (set_mid_at to (length s - to) i s b m)

pub carried-more : (pool : List ℕ) (from to i : ℕ) {p q : List ℕ} → p ≡ carried pool from to i → q ≡ set p (to + i) (get_or p (from + i) 0) → q ≡ carried pool from to (i + 1)
unfolding carried
carried-more pool from to i e h = rw add-one (cc)

pub carried-all : (pool : List ℕ) (from to i n : ℕ) {p : List ℕ} → p ≡ carried pool from to i → i ≤ n → n ≤ i → p ≡ carried pool from to n
carried-all pool from to i n p a b = let e : i ≡ n = omega arith in rw (← e) p

-- no length changes
pub length-carried : (pool : List ℕ) (from to n : ℕ) → length (carried pool from to n) ≡ length pool
unfolding carried
length-carried pool from to zero = refl
length-carried pool from to (suc n) = simp (length-set, length-carried pool from to n)

-- carried: nothing else is written
pub carried_framed : (pool : List ℕ) (from to n : ℕ) → Framed to (to + n) pool (carried pool from to n)
unfolding carried
carried_framed pool from to zero = framed_refl to (to + 0) pool
carried_framed pool from to (suc n) =
    let f : Framed to (to + n) pool (carried pool from to n) = carried_framed pool from to n in
    let v : ℕ = get_or (carried pool from to n) (from + n) 0 in
    record {
      len = length-set (carried pool from to n) (to + n) v ∙ f.len;
      before = λ x h. get_or-set_other (carried pool from to n) (to + n) x v 0 (omega arith) ∙ f.before x h;
      after = λ x h. get_or-set_other (carried pool from to n) (to + n) x v 0 (omega arith) ∙ f.after x (omega arith);
    }

-- carried: the bytes stand there, where they lie apart from where they go
pub carried_agrees : (pool : List ℕ) (from to n : ℕ) → Apart to (to + n) from n → to + n ≤ length pool → Agrees pool from (carried pool from to n) to n
unfolding carried
carried_agrees pool from to zero d h = record { byte = λ x y k l e. absurd (omega arith) }
carried_agrees pool from to (suc n) d h =
    let r : Agrees pool from (carried pool from to n) to n = carried_agrees pool from to n (apart_part to (to + n) from n d (omega arith) (omega arith) (omega arith) (omega arith)) (omega arith) in
    record { byte = λ x y k l e. go r x y k l e (ℕ_discrete x (to + n)) }
  where
    here : Apart to (to + n) (from + n) 1
    here = apart_part to (to + n) (from + n) 1 d (omega arith) (omega arith) (omega arith) (omega arith)

    go : Agrees pool from (carried pool from to n) to n → (x y : ℕ) → to ≤ x → x < to + suc n → x + from ≡ y + to → Dec (x ≡ to + n) → get_or (set (carried pool from to n) (to + n) (get_or (carried pool from to n) (from + n) 0)) x 0 ≡ get_or pool y 0
    go r x y k l e (yes z) =
        let m : y ≡ from + n = omega arith in
        rw (z, m)
        (get_or-set_same (carried pool from to n) (to + n) (get_or (carried pool from to n) (from + n) 0) 0 (omega (arith, length-carried pool from to n))
        ∙ (framed_agrees (from + n) 1 (carried_framed pool from to n) here).byte (from + n) (from + n) (omega arith) (omega arith) (omega arith))
    go r x y k l e (no z) =
        get_or-set_other (carried pool from to n) (to + n) x (get_or (carried pool from to n) (from + n) 0) 0 z ∙ r.byte x y k (omega arith) e

-- bytes stay bytes
pub bytes-carried : (pool : List ℕ) (from to n : ℕ) → Bytes pool → Bytes (carried pool from to n)
unfolding carried
bytes-carried pool from to zero b = b
bytes-carried pool from to (suc n) b =
    let r : Bytes (carried pool from to n) = bytes-carried pool from to n b in
    bytes-set (to + n) (get_or (carried pool from to n) (from + n) 0) r (r.byte (from + n))
