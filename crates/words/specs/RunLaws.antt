-- The laws of runs: what a put leaves, and what is read of it.
use Prim.Native.Nat.{ℕ, ◌+◌, ◌-◌, ◌≤◌, ◌<◌}
use Rattle.std.specs.Prelude.{◌≡◌, refl, take, set, get_or}
use Rattle.std.proofs.Math.Path.{sym, ap}
use Rattle.std.proofs.Common.{◌∙◌, arith, zero-add, add-one, length-take, length-append, drop_of_length-le, take-append-drop, take_all, drop_at, length-take-le}
use mathlib.Core.List.{List, [], ◌++◌, append-nil, append_assoc}
use Rattle.std.proofs.Math.Nat.{add-sub_cancel_left}
use Rattle.std.proofs.Math.ListN.{length, drop, length-drop}
use Rattle.std.proofs.Math.Seq.{paste-suc, take-length, drop-drop, take-append-le, take-append_seam}
use Rattle.std.proofs.lemmas.List.{drop-append-le, take-take, drop-take}
use borrow.Rule.Slice.PartMut.{put_mid}
use Rattle.words.specs.Run.{read, put, lay}

-- d with its first i bytes from s, as copy_into leaves it after i turns
unfoldable pub copied : List ℕ → List ℕ → ℕ → List ℕ
copied d s i = take i s ++ drop i d

-- the loop of copy_into: nothing yet, one byte more, all
pub copied_none : (d s : List ℕ) → d ≡ copied d s 0
unfolding copied
copied_none d s = refl

pub copied_more : (d s : List ℕ) {t : List ℕ} (i : ℕ) → t ≡ copied d s i → i < length s → length s ≤ length d → set t i (get_or s i 0) ≡ copied d s (i + 1)
unfolding copied
copied_more d s i e h l = rw (e, add-one) (simp zero-add at (paste-suc d 0 s i 0 (omega arith) h))

pub copied_all : (d s : List ℕ) {t : List ℕ} (i : ℕ) → t ≡ copied d s i → i ≤ length s → length s ≤ i → t ≡ put 0 s d
unfolding copied put
copied_all d s i e a b = let q : i ≡ length s = omega arith in rw (e, q, take-length, zero-add)

-- what is written in the part from `at` on is written in the whole
pub put_part : (s src : List ℕ) (at : ℕ) {t : List ℕ} → t ≡ put 0 src (take (length s - at) (drop at s)) → at + length src ≤ length s → put_mid at (length s - at) s t ≡ put at src s
unfolding put
put_part s src at e h =
    let a : take (length s - at) (drop at s) ≡ drop at s = take_all (length s - at) (drop at s) (simp length-drop (omega arith)) in
    let b : drop (length s - at) (drop at s) ≡ [] = drop_of_length-le (drop at s) {i = length s - at} (simp length-drop (omega arith)) in
    rw (e, a, b, append-nil, zero-add, drop-drop)

-- a run that lies in the memory has its length
pub length-read : (a n : ℕ) (s : List ℕ) → a + n ≤ length s → length (read a n s) ≡ n
unfolding read
length-read a n s h = simp (length-take, length-drop) (omega arith)

-- the part of src that the code lends
pub part_read : (a n : ℕ) (s : List ℕ) → take (a + n - a) (drop a s) ≡ read a n s
unfolding read
part_read a n s = rw (add-sub_cancel_left a n)

pub put-read : (s src : List ℕ) (at from n : ℕ) {t : List ℕ} → t ≡ put at (take (from + n - from) (drop from src)) s → t ≡ put at (read from n src) s
put-read s src at from n e = rw (part_read from n src) at e

-- a part of a part
pub read-read : (x m a n : ℕ) (s : List ℕ) → x + m ≤ n → a + n ≤ length s → read x m (read a n s) ≡ read (a + x) m s
unfolding read
read-read x m a n s h k =
    let e : n ≡ x + (n - x) = omega arith in
    ap (λ (k : ℕ). take m (drop x (take k (drop a s)))) e ∙ ap (take m) (drop-take x (n - x) (drop a s)) ∙ take-take m (n - x) (drop x (drop a s)) (omega arith)
    ∙ rw drop-drop

-- what a put leaves: its length, its own run, the runs before and behind it, a part of its run
module _ (at : ℕ) (bs pool : List ℕ) (h : at + length bs ≤ length pool) where
  front : length (take at pool) ≡ at
  front = length-take-le at pool (omega arith)

  pub length-put : length (put at bs pool) ≡ length pool
  unfolding put
  length-put = simp (length-append, length-drop) (omega (arith, front))

  pub read_put_same : read at (length bs) (put at bs pool) ≡ bs
  unfolding put read
  read_put_same = rw (drop_at (take at pool) (bs ++ drop (at + length bs) pool) at front, take-append_seam)

  pub read_put_before : (a n : ℕ) → a + n ≤ at → read a n (put at bs pool) ≡ read a n pool
  unfolding put read
  read_put_before a n k = left (bs ++ drop (at + length bs) pool) ∙ sym (left (drop at pool)) ∙ ap (read a n) (take-append-drop at pool)
    where
      left : (r : List ℕ) → read a n (take at pool ++ r) ≡ read a n (take at pool)
      left r =
          let room : n ≤ length (drop a (take at pool)) = simp length-drop (omega (arith, front)) in
          ap (take n) (drop-append-le a (take at pool) r (omega (arith, front))) ∙ take-append-le n (drop a (take at pool)) r room

  pub read_put_after : (a n : ℕ) → at + length bs ≤ a → read a n (put at bs pool) ≡ read a n pool
  unfolding put read
  read_put_after a n k = ap (take n) (ap (λ (x : ℕ). drop x (put at bs pool)) split ∙ sym (drop-drop d e (put at bs pool)) ∙ ap (drop d) behind ∙ drop-drop d e pool ∙ ap (λ (x : ℕ). drop x pool) (sym split))
    where
      e : ℕ
      e = at + length bs

      d : ℕ
      d = a - e

      split : a ≡ e + d
      split = omega arith

      behind : drop e (put at bs pool) ≡ drop e pool
      behind = ap (drop e) (sym (append_assoc (take at pool) bs (drop e pool))) ∙ drop_at (take at pool ++ bs) (drop e pool) e (omega (arith, length-append (take at pool) bs, front))

  -- a part of what was put
  pub read_put_inside : (x m : ℕ) → x + m ≤ length bs → read (at + x) m (put at bs pool) ≡ read x m bs
  read_put_inside x m k =
      sym (read-read x m at (length bs) (put at bs pool) k (omega (arith, length-put))) ∙ ap (read x m) read_put_same

-- laying bytes: no length changes, and where they fit it is a put
put_reaches : (at : ℕ) (bs s : List ℕ) → length s ≤ length (put at bs s)
unfolding put
put_reaches at bs s = simp (length-append, length-take, length-drop) (omega arith)

pub length-lay : (at : ℕ) (bs s : List ℕ) → length (lay at bs s) ≡ length s
unfolding lay
length-lay at bs s = length-take (length s) (put at bs s) ∙ omega (arith, put_reaches at bs s)

pub lay-put : (at : ℕ) (bs s : List ℕ) → at + length bs ≤ length s → lay at bs s ≡ put at bs s
unfolding lay
lay-put at bs s h = take_all (length s) (put at bs s) (omega (arith, length-put at bs s h))
