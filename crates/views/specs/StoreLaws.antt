-- A stored view: what it reads as, and every other byte.
use Rattle.std.specs.Prelude.{ℕ, ◌+◌, ◌≤◌, ◌<◌, ◌^◌, ◌≡◌, refl, List, length}
use Rattle.std.proofs.Common.{arith}
use Rattle.words.specs.Word.{word32, with_word32}
use Rattle.words.specs.WordLaws.{Bytes, word32_lt, word32-same, word32_other, length-with_word32, bytes-with_word32}
use Rattle.words.specs.Frame.{Agrees, Framed, Apart}
use Rattle.words.specs.FrameLaws.{word_framed, framed_trans, framed_wider, framed_agrees, agrees_word}
use Rattle.views.specs.declared.View.{View}
use Rattle.views.specs.View.{view_of, with_view}

-- a view made of words
pub record ViewWords (v : View) : Type 0 where
  pub length-fits : v.length < 2 ^ 32
  pub prefix_fits : v.prefix < 2 ^ 32
  pub index-fits : v.index < 2 ^ 32
  pub offset_fits : v.offset < 2 ^ 32

pub view-fits : (s : List ℕ) (at : ℕ) → Bytes s → ViewWords (view_of s at)
unfolding view_of
view-fits s at b =
    record {
      length-fits = word32_lt s at b;
      prefix_fits = word32_lt s (at + 4) b;
      index-fits = word32_lt s (at + 8) b;
      offset_fits = word32_lt s (at + 12) b;
    }

-- what view_at returns
pub view_is : (s : List ℕ) (at : ℕ) {a b c d : ℕ} → a ≡ word32 s at → b ≡ word32 s (at + 4) → c ≡ word32 s (at + 8) → d ≡ word32 s (at + 12) → ◌≡◌ {A = View} (record { length = a; prefix = b; index = c; offset = d }) (view_of s at)
unfolding view_of
view_is s at p q r t = rw (p, q, r, t)

-- what put_view leaves
pub put_is : (s : List ℕ) (at : ℕ) (v : View) {a b c d : List ℕ} → a ≡ with_word32 s at v.length → b ≡ with_word32 a (at + 4) v.prefix → c ≡ with_word32 b (at + 8) v.index → d ≡ with_word32 c (at + 12) v.offset → d ≡ with_view s at v
unfolding with_view
put_is s at v p q r t = rw (t, r, q, p)

pub length-with_view : (s : List ℕ) (at : ℕ) (v : View) → length (with_view s at v) ≡ length s
unfolding with_view
length-with_view s at v = simp length-with_word32

-- every other byte
pub view_framed : (s : List ℕ) (at : ℕ) (v : View) → Framed at (at + 16) s (with_view s at v)
unfolding with_view
view_framed s at v =
    framed_trans (wide at v.length s (omega arith) (omega arith))
    (framed_trans (wide (at + 4) v.prefix _ (omega arith) (omega arith))
    (framed_trans (wide (at + 8) v.index _ (omega arith) (omega arith))
    (wide (at + 12) v.offset _ (omega arith) (omega arith))))
  where
    wide : (k w : ℕ) (t : List ℕ) → at ≤ k → k + 4 ≤ at + 16 → Framed at (at + 16) t (with_word32 t k w)
    wide k w t a b = framed_wider at (at + 16) (word_framed t k w) a b

-- a view read where it was put
module _ (s : List ℕ) (at : ℕ) (v : View) (h : at + 16 ≤ length s) (f : ViewWords v) where
  length-same : word32 (with_view s at v) at ≡ v.length
  unfolding with_view
  length-same =
      rw (word32_other _ (at + 12) _ at (omega arith), word32_other _ (at + 8) _ at (omega arith), word32_other _ (at + 4) _ at (omega arith))
      (word32-same _ at _ (omega arith) f.length-fits)

  prefix_same : word32 (with_view s at v) (at + 4) ≡ v.prefix
  unfolding with_view
  prefix_same =
      rw (word32_other _ (at + 12) _ (at + 4) (omega arith), word32_other _ (at + 8) _ (at + 4) (omega arith))
      (word32-same _ (at + 4) _ (simp length-with_word32 (omega arith)) f.prefix_fits)

  index_same : word32 (with_view s at v) (at + 8) ≡ v.index
  unfolding with_view
  index_same =
      rw (word32_other _ (at + 12) _ (at + 8) (omega arith))
      (word32-same _ (at + 8) _ (simp length-with_word32 (omega arith)) f.index-fits)

  offset_same : word32 (with_view s at v) (at + 12) ≡ v.offset
  unfolding with_view
  offset_same = word32-same _ (at + 12) _ (simp length-with_word32 (omega arith)) f.offset_fits

  pub view-same : view_of (with_view s at v) at ≡ v
  unfolding view_of
  view-same = rw (length-same, prefix_same, index_same, offset_same)

-- a view whose 16 bytes agree, and one that lies apart of a change
pub agrees_view : {s : List ℕ} {a : ℕ} {t : List ℕ} {b n : ℕ} (x y : ℕ) → Agrees s a t b n → b ≤ x → x + 16 ≤ b + n → x + a ≡ y + b → view_of t x ≡ view_of s y
unfolding view_of
agrees_view x y g h k e =
    rw (
      agrees_word x y g h (omega arith) e,
      agrees_word (x + 4) (y + 4) g (omega arith) (omega arith) (omega arith),
      agrees_word (x + 8) (y + 8) g (omega arith) (omega arith) (omega arith),
      agrees_word (x + 12) (y + 12) g (omega arith) (omega arith) (omega arith),
    )

pub framed_view : {lo hi : ℕ} {p q : List ℕ} (a : ℕ) → Framed lo hi p q → Apart lo hi a 16 → view_of q a ≡ view_of p a
framed_view a f d = agrees_view a a (framed_agrees a 16 f d) (omega arith) (omega arith) refl

pub view_other : (s : List ℕ) (at : ℕ) (v : View) (k : ℕ) → Apart at (at + 16) k 16 → view_of (with_view s at v) k ≡ view_of s k
view_other s at v k d = framed_view k (view_framed s at v) d

-- bytes stay bytes
pub bytes-with_view : (s : List ℕ) (at : ℕ) (v : View) → Bytes s → ViewWords v → Bytes (with_view s at v)
unfolding with_view
bytes-with_view s at v b f =
    bytes-with_word32 _ (at + 12) v.offset
    (bytes-with_word32 _ (at + 8) v.index
    (bytes-with_word32 _ (at + 4) v.prefix (bytes-with_word32 s at v.length b f.length-fits) f.prefix_fits)
    f.index-fits)
    f.offset_fits
