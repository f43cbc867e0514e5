-- No byte of the pool is in two buffers, and what is written in a gap or in the free part of a block leaves the filled bytes.
use Rattle.std.specs.Prelude.{ℕ, ◌+◌, ◌≤◌, ◌<◌, ◌≡◌, refl, Bool, true, false, List, length, get_or}
use Rattle.std.proofs.Common.{◌∙◌, ap, arith}
use Rattle.std.proofs.Math.Decide.{dec_lt, ℕ_discrete}
use Rattle.words.specs.Run.{read}
use Rattle.words.specs.Frame.{Framed}
use Rattle.words.specs.FrameLaws.{agrees_read}
use Rattle.books.specs.declared.Entry.{Entry}
use Rattle.books.specs.Entry.{used_of, entry_of, is_free}
use Rattle.books.specs.EntryLaws.{Occupies}
use Rattle.sound.specs.Sound.{Sound, filled_bytes}
use Rattle.sound.specs.Top.{live_used}
use Rattle.sound.specs.SoundLaws.{no_share_says, sound_top}

-- a run none of whose bytes is in the frame is as it was
pub framed_elsewhere : {lo hi : ℕ} {p q : List ℕ} (a n : ℕ) → Framed lo hi p q → ((x : ℕ) → a ≤ x → x < a + n → lo ≤ x → x < hi → ⊥) → a + n ≤ length p → read a n q ≡ read a n p
framed_elsewhere {lo} {hi} {p} {q} a n f none h =
    agrees_read a a n
    (record { byte = λ x y k l e. let z : x ≡ y = omega arith in go x k l (dec_lt x lo) (dec_lt x hi) ∙ ap (λ (i : ℕ). get_or p i 0) z })
    (omega arith)
    (omega arith)
    refl
    (omega (arith, f.len))
    h
  where
    go : (x : ℕ) → a ≤ x → x < a + n → Dec (x < lo) → Dec (x < hi) → get_or q x 0 ≡ get_or p x 0
    go x k l (yes u) v = f.before x u
    go x k l (no u) (yes v) = absurd (none x k l (omega arith) v)
    go x k l (no u) (no v) = f.after x (omega arith)

module _ {s : List ℕ} {n p : ℕ} {count : ℕ → ℕ} (w : Sound s n p count) where
  -- a byte that number i occupies and number j occupies: they are one number, so two live buffers share no byte
  pub occupied_once : (i j x : ℕ) → i < n → j < n → (entry_of s i).start ≤ x → x < (entry_of s i).start + (entry_of s i).capacity.0 → (entry_of s j).start ≤ x → x < (entry_of s j).start + (entry_of s j).capacity.0 → i ≡ j
  occupied_once i j x h g a b c d = go (ℕ_discrete i j)
    where
      go : Dec (i ≡ j) → i ≡ j
      go (yes e) = e
      go (no e) =
          absurd
          (no_share_says (entry_of s i).start (entry_of s i).capacity.0 (entry_of s j).start (entry_of s j).capacity.0 (w.apart i j h g e)
          (record { some = omega arith; other = omega arith; below = omega arith; above = omega arith }))

  -- a number with room is in use, and live
  pub room_live : (k : ℕ) → k < n → 0 < (entry_of s k).capacity.0 → is_free (entry_of s k) ≡ false
  room_live k h a = go (is_free (entry_of s k)) refl
    where
      go : (b : Bool) → is_free (entry_of s k) ≡ b → is_free (entry_of s k) ≡ false
      go true q = absurd (omega (arith, ap (λ (y : Entry). y.capacity.0) (w.zero k h q)))
      go false q = q

  -- bytes written where number k fills none
  pub elsewhere_filled : {lo hi : ℕ} {pool after : List ℕ} → p ≤ length pool → Framed lo hi pool after → (k : ℕ) → k < n → ((x : ℕ) → (entry_of s k).start ≤ x → x < (entry_of s k).start + (entry_of s k).length.0 → lo ≤ x → x < hi → ⊥) → filled_bytes s after k ≡ filled_bytes s pool k
  unfolding filled_bytes
  elsewhere_filled l f k h none =
      framed_elsewhere (entry_of s k).start (entry_of s k).length.0 f none (omega (arith, w.inside k h, w.filled k h))

  -- bytes written where no buffer in use occupies one
  pub clear_filled : (t size : ℕ) {pool after : List ℕ} → p ≤ length pool → Framed t (t + size) pool after → ((k : ℕ) → k < used_of s → Occupies (entry_of s k) t size → ⊥) → (k : ℕ) → k < n → filled_bytes s after k ≡ filled_bytes s pool k
  clear_filled t size l f clear k h = elsewhere_filled l f k h none
    where
      none : (x : ℕ) → (entry_of s k).start ≤ x → x < (entry_of s k).start + (entry_of s k).length.0 → t ≤ x → x < t + size → ⊥
      none x a b c d =
          let e : (entry_of s k).length.0 ≤ (entry_of s k).capacity.0 = w.filled k h in
          let live : is_free (entry_of s k) ≡ false = room_live k h (omega arith) in
          clear k (live_used k (sound_top w) h live)
          (record { live = live; shares = record { some = omega arith; other = omega arith; below = omega arith; above = omega arith } })

  -- bytes written in the free part of block i, which may be k itself
  pub block_filled : (i : ℕ) {pool after : List ℕ} → p ≤ length pool → i < n → Framed ((entry_of s i).start + (entry_of s i).length.0) ((entry_of s i).start + (entry_of s i).capacity.0) pool after → (k : ℕ) → k < n → filled_bytes s after k ≡ filled_bytes s pool k
  block_filled i l h f k g = elsewhere_filled l f k g (λ x a b c d. go x a b c d (ℕ_discrete k i))
    where
      go : (x : ℕ) → (entry_of s k).start ≤ x → x < (entry_of s k).start + (entry_of s k).length.0 → (entry_of s i).start + (entry_of s i).length.0 ≤ x → x < (entry_of s i).start + (entry_of s i).capacity.0 → Dec (k ≡ i) → ⊥
      go x a b c d (yes e) = let q : x < (entry_of s i).start + (entry_of s i).length.0 = rw e at b in omega arith
      go x a b c d (no e) = e (occupied_once k i x g h a (omega (arith, w.filled k g)) (omega arith) d)
