-- Bytes carried one run behind the other: what they read as, and what they leave.
use Prim.Native.Nat.{ℕ, zero, suc, ◌+◌, ◌*◌, ◌≤◌, ◌<◌}
use Rattle.std.specs.Prelude.{◌≡◌, refl, length}
use Rattle.std.proofs.Common.{◌∙◌, arith}
use mathlib.Core.List.{List}
use Rattle.std.proofs.Math.Decide.{dec_lt}
use Rattle.words.specs.Frame.{Agrees, Framed, Apart, under}
use Rattle.words.specs.FrameLaws.{framed_refl, framed_trans, framed_wider, framed_agrees, agrees_trans, apart_part}
use Rattle.views.specs.declared.View.{View}
use Rattle.views.specs.View.{long_length}
use Rattle.pool.specs.Carry.{carried}
use Rattle.pool.specs.CarryLaws.{carried_framed, carried_agrees}
use Rattle.rules.specs.Batch.{sum_to}
use Rattle.rules.specs.Copies.{long_to, bytes_carried}
use Rattle.rules.specs.CopyLaws.{length-bytes_carried}

pub long-next : (f : ℕ → View) (n : ℕ) → long_to f (suc n) ≡ long_to f n + long_length (f n)
unfolding long_to sum_to
long-next f n = refl

-- the bytes of the first, and of more
pub long_grows : (f : ℕ → View) (j n : ℕ) → j < n → long_to f j + long_length (f j) ≤ long_to f n
long_grows f j zero h = absurd (omega arith)
long_grows f j (suc n) h = go (dec_lt j n) (long_grows f j n)
  where
    go : Dec (j < n) → (j < n → long_to f j + long_length (f j) ≤ long_to f n) → long_to f j + long_length (f j) ≤ long_to f (suc n)
    go (yes d) r = omega (arith, r d, long-next f n)
    go (no d) r = let e : j ≡ n = omega arith in rw e (omega (arith, long-next f n))

module _ (f : ℕ → View) (source : View → ℕ) (pool : List ℕ) (to : ℕ) where
  pub bytes_framed : (n : ℕ) → Framed to (to + long_to f n) pool (bytes_carried f source pool to n)
  unfolding bytes_carried
  bytes_framed zero = framed_refl to (to + long_to f 0) pool
  bytes_framed (suc n) =
      framed_trans (framed_wider to (to + long_to f (suc n)) (bytes_framed n) (omega arith) (omega (arith, long-next f n)))
      (framed_wider to (to + long_to f (suc n)) (carried_framed (bytes_carried f source pool to n) (source (f n)) (to + long_to f n) (long_length (f n))) (omega arith) (omega (arith, long-next f n)))

  -- each run where it was put, if all sources lie apart of what is written
  pub bytes-agree : (n : ℕ) → to + long_to f n ≤ length pool → ((j : ℕ) → j < n → 0 < long_length (f j) → Apart to (to + long_to f n) (source (f j)) (long_length (f j))) → (j : ℕ) → j < n → 0 < long_length (f j) → Agrees pool (source (f j)) (bytes_carried f source pool to n) (to + long_to f j) (long_length (f j))
  unfolding bytes_carried
  bytes-agree zero h d j l s = absurd (omega arith)
  bytes-agree (suc n) h d j l s =
      go (dec_lt j n) (λ k. bytes-agree n (omega (arith, long-next f n)) (λ i m p. narrow i (omega arith) p) j k s)
    where
      before : List ℕ
      before = bytes_carried f source pool to n

      narrow : (i : ℕ) → i < suc n → 0 < long_length (f i) → Apart to (to + long_to f n) (source (f i)) (long_length (f i))
      narrow i m p = apart_part to (to + long_to f n) (source (f i)) (long_length (f i)) (d i m p) (omega arith) (omega (arith, long-next f n)) (omega arith) (omega arith)

      go : Dec (j < n) → (j < n → Agrees pool (source (f j)) before (to + long_to f j) (long_length (f j))) → Agrees pool (source (f j)) (carried before (source (f n)) (to + long_to f n) (long_length (f n))) (to + long_to f j) (long_length (f j))
      go (yes k) r =
          agrees_trans (r k)
          (framed_agrees (to + long_to f j) (long_length (f j)) (carried_framed before (source (f n)) (to + long_to f n) (long_length (f n))) (under (omega (arith, long_grows f j n k))))
      go (no k) r =
          let e : j ≡ n = omega arith in
          let p : 0 < long_length (f n) = rw e at s in
          rw e
          (agrees_trans (framed_agrees (source (f n)) (long_length (f n)) (bytes_framed n) (narrow n (omega arith) p))
          (carried_agrees before (source (f n)) (to + long_to f n) (long_length (f n))
          (apart_part (to + long_to f n) (to + long_to f n + long_length (f n)) (source (f n)) (long_length (f n)) (d n (omega arith) p) (omega arith) (omega (arith, long-next f n)) (omega arith) (omega arith))
          (omega (arith, long-next f n, length-bytes_carried f source pool to n))))
