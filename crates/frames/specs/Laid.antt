-- A text laid into lent bytes: what each writer promises, and texts laid one behind the other.
use Rattle.std.specs.Prelude.{ℕ, ◌+◌, ◌-◌, ◌≤◌, ◌≡◌, List, [], ◌++◌, length, take, drop}
use Rattle.std.proofs.Common.{sym, ◌∙◌, ap, append_assoc, arith, add-zero, length-append, take-append-drop, drop-drop, take_at, drop_at, length-take-le}
use borrow.Rule.Slice.PartMut.{put_mid}
use Rattle.words.specs.Run.{put}
use Rattle.words.specs.RunLaws.{put_part}

-- the text t stands at `at`, every other byte is as it was; r is the place behind it; it has `most` bytes at most
pub record Laid (most at : ℕ) (t s s' : List ℕ) (r : ℕ) : Type 0 where
  pub bytes : s' ≡ put at t s
  pub place : r ≡ at + length t
  pub room : length t ≤ most

-- two puts, one behind the other
put-behind : (at : ℕ) (a b s : List ℕ) → at ≤ length s → put (at + length a) b (put at a s) ≡ put at (a ++ b) s
unfolding put
put-behind at a b s h =
    let f : length (take at s) ≡ at = length-take-le at s h in
    let n : length (take at s ++ a) ≡ at + length a = omega (arith, length-append (take at s) a) in
    let e : take at s ++ (a ++ drop (at + length a) s) ≡ (take at s ++ a) ++ drop (at + length a) s = simp append_assoc in
    let x : take (at + length a) (take at s ++ (a ++ drop (at + length a) s)) ≡ take at s ++ a =
    ap (take (at + length a)) e ∙ take_at (take at s ++ a) (drop (at + length a) s) (at + length a) n in
    let y : drop (at + length a) (take at s ++ (a ++ drop (at + length a) s)) ≡ drop (at + length a) s =
    ap (drop (at + length a)) e ∙ drop_at (take at s ++ a) (drop (at + length a) s) (at + length a) n in
    let w : at + length a + length b ≡ at + length (a ++ b) = omega (arith, length-append a b) in
    let z : drop (at + length a + length b) (take at s ++ (a ++ drop (at + length a) s)) ≡ drop (at + length (a ++ b)) s =
    sym (drop-drop (length b) (at + length a) (take at s ++ (a ++ drop (at + length a) s))) ∙ ap (drop (length b)) y ∙ drop-drop (length b) (at + length a) s ∙ ap (λ (k : ℕ). drop k s) w in
    rw (x, z) (simp append_assoc)

-- nothing laid
pub laid_none : (at : ℕ) (s : List ℕ) → at ≤ length s → Laid 0 at [] s s at
unfolding put
laid_none at s h =
    record { bytes = sym (ap (λ (k : ℕ). take at s ++ drop k s) (add-zero at) ∙ take-append-drop at s); place = sym (add-zero at); room = omega arith }

-- a text behind another
pub laid_then : {j k at p q : ℕ} {a b s t u : List ℕ} → Laid j at a s t p → Laid k p b t u q → at ≤ length s → Laid (j + k) at (a ++ b) s u q
laid_then {j} {k} {at} {p} {q} {a} {b} {s} {t} {u} l m h =
    record {
      bytes = m.bytes ∙ ap (λ (x : List ℕ). put p b x) l.bytes ∙ ap (λ (x : ℕ). put x b (put at a s)) l.place ∙ put-behind at a b s h;
      place = omega (arith, length-append a b, l.place, m.place);
      room = omega (arith, length-append a b, l.room, m.room);
    }

-- the same text in more room
pub laid_more : {j k at p : ℕ} {a s t : List ℕ} → Laid j at a s t p → j ≤ k → Laid k at a s t p
laid_more l h = record { bytes = l.bytes; place = l.place; room = omega (arith, l.room) }

-- three texts, four, five
pub laid_three : {i j k at p q r : ℕ} {a b c s t u v : List ℕ} → Laid i at a s t p → Laid j p b t u q → Laid k q c u v r → at ≤ length s → Laid (i + j + k) at (a ++ (b ++ c)) s v r
laid_three {a = a} {b = b} {c = c} l m n h = rw (append_assoc a b c) at (laid_then (laid_then l m h) n h)

pub laid-four : {i j k l at p q r o : ℕ} {a b c d s t u v w : List ℕ} → Laid i at a s t p → Laid j p b t u q → Laid k q c u v r → Laid l r d v w o → at ≤ length s → Laid (i + j + k + l) at (a ++ (b ++ (c ++ d))) s w o
laid-four {a = a} {b = b} {c = c} {d = d} x y z w h = simp append_assoc at (laid_then (laid_three x y z h) w h)

pub laid_five : {i j k l m at p q r o z : ℕ} {a b c d e s t u v w x : List ℕ} → Laid i at a s t p → Laid j p b t u q → Laid k q c u v r → Laid l r d v w o → Laid m o e w x z → at ≤ length s → Laid (i + j + k + l + m) at (a ++ (b ++ (c ++ (d ++ e)))) s x z
laid_five {a = a} {b = b} {c = c} {d = d} {e = e} f g h i j n = simp append_assoc at (laid_then (laid-four f g h i n) j n)

-- a text that is laid in the part from `at` on is laid in the whole
pub laid_part : (at : ℕ) (a s : List ℕ) {n k : ℕ} {t : List ℕ} → t ≡ put 0 a (take (length s - at) (drop at s)) → length a ≡ n → n ≤ k → at + k ≤ length s → Laid k at a s (put_mid at (length s - at) s t) (at + n)
laid_part at a s e l m h = record { bytes = put_part s a at e (omega arith); place = omega arith; room = omega arith }
