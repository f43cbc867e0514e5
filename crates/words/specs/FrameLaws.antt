-- The laws of frames and agreement, and the frames of a put word and a put run.
use Rattle.std.specs.Prelude.{ℕ, ◌+◌, ◌-◌, ◌≤◌, ◌<◌, ◌≡◌, refl, List, length, get_or, drop}
use Rattle.std.proofs.Common.{sym, ◌∙◌, ap, arith, get_or-take, get_or-drop, ext_get_or}
use Rattle.std.proofs.Math.Decide.{dec_lt}
use Rattle.std.proofs.Math.ListN.{get_or-eq_default}
use Rattle.words.specs.Word.{word32, with_word32}
use Rattle.words.specs.WordLaws.{Bytes, byte_other, length-with_word32}
use Rattle.words.specs.Run.{read, put}
use Rattle.words.specs.RunLaws.{length-put, length-read, read_put_before, read_put_after, read_put_same}
use Rattle.words.specs.Frame.{Agrees, Framed, Apart, under, over}

-- nothing changed
pub framed_refl : (lo hi : ℕ) (p : List ℕ) → Framed lo hi p p
framed_refl lo hi p = record { len = refl; before = λ x h. refl; after = λ x h. refl }

-- two changes, both within lo and hi
pub framed_trans : {lo hi : ℕ} {p q r : List ℕ} → Framed lo hi p q → Framed lo hi q r → Framed lo hi p r
framed_trans f g =
    record { len = g.len ∙ f.len; before = λ x h. g.before x h ∙ f.before x h; after = λ x h. g.after x h ∙ f.after x h }

-- a narrower frame says more
pub framed_wider : {lo hi : ℕ} (lo' hi' : ℕ) {p q : List ℕ} → Framed lo hi p q → lo' ≤ lo → hi ≤ hi' → Framed lo' hi' p q
framed_wider lo' hi' f a b =
    record { len = f.len; before = λ x h. f.before x (omega arith); after = λ x h. f.after x (omega arith) }

-- what lies apart of a range lies apart of a narrower one, and so does a part of it
pub apart_part : {lo hi a n : ℕ} (lo' hi' a' n' : ℕ) → Apart lo hi a n → lo ≤ lo' → hi' ≤ hi → a ≤ a' → a' + n' ≤ a + n → Apart lo' hi' a' n'
apart_part lo' hi' a' n' (under h) p q r s = under (omega arith)
apart_part lo' hi' a' n' (over h) p q r s = over (omega arith)

-- what lies apart of the frame is as it was
pub framed_agrees : {lo hi : ℕ} {p q : List ℕ} (a n : ℕ) → Framed lo hi p q → Apart lo hi a n → Agrees p a q a n
framed_agrees {lo} {hi} {p} {q} a n f (under h) =
    record { byte = λ x y k l e. let z : x ≡ y = omega arith in f.before x (omega arith) ∙ ap (λ (i : ℕ). get_or p i 0) z }
framed_agrees {lo} {hi} {p} {q} a n f (over h) =
    record { byte = λ x y k l e. let z : x ≡ y = omega arith in f.after x (omega arith) ∙ ap (λ (i : ℕ). get_or p i 0) z }

pub agrees_trans : {s : List ℕ} {a : ℕ} {t : List ℕ} {b : ℕ} {u : List ℕ} {c n : ℕ} → Agrees s a t b n → Agrees t b u c n → Agrees s a u c n
agrees_trans {a = a} {b = b} {c = c} f g =
    record { byte = λ x y k l e. g.byte x (x + b - c) k l (omega arith) ∙ f.byte (x + b - c) y (omega arith) (omega arith) (omega arith) }

-- words and runs of places that correspond are the same
pub agrees_word : {s : List ℕ} {a : ℕ} {t : List ℕ} {b n : ℕ} (x y : ℕ) → Agrees s a t b n → b ≤ x → x + 4 ≤ b + n → x + a ≡ y + b → word32 t x ≡ word32 s y
unfolding word32
agrees_word x y g h k e =
    rw (
      g.byte x y h (omega arith) e,
      g.byte (x + 1) (y + 1) (omega arith) (omega arith) (omega arith),
      g.byte (x + 2) (y + 2) (omega arith) (omega arith) (omega arith),
      g.byte (x + 3) (y + 3) (omega arith) (omega arith) (omega arith),
    )

-- a byte of a run
pub get_d_read : (a n : ℕ) (s : List ℕ) (i : ℕ) → i < n → get_or (read a n s) i 0 ≡ get_or s (a + i) 0
unfolding read
get_d_read a n s i h = get_or-take n (drop a s) i 0 h ∙ get_or-drop a s i 0

-- a word of a run
pub word_read : (a n : ℕ) (s : List ℕ) (k : ℕ) → k + 4 ≤ n → word32 (read a n s) k ≡ word32 s (a + k)
unfolding word32
word_read a n s k h =
    rw (get_d_read a n s k (omega arith), byte 1 (omega arith), byte 2 (omega arith), byte 3 (omega arith))
  where
    byte : (j : ℕ) → k + j < n → get_or (read a n s) (k + j) 0 ≡ get_or s (a + k + j) 0
    byte j l = get_d_read a n s (k + j) l ∙ ap (λ (i : ℕ). get_or s i 0) (omega arith)

pub agrees_read : {s : List ℕ} {a : ℕ} {t : List ℕ} {b n : ℕ} (x y m : ℕ) → Agrees s a t b n → b ≤ x → x + m ≤ b + n → x + a ≡ y + b → x + m ≤ length t → y + m ≤ length s → read x m t ≡ read y m s
agrees_read {s} {a} {t} {b} {n} x y m g h k e p q =
    let lt : length (read x m t) ≡ m = length-read x m t p in
    let ls : length (read y m s) ≡ m = length-read y m s q in
    ext_get_or 0 (read x m t) (read y m s) (lt ∙ sym ls) (λ i l.
    let i< : i < m = omega arith in
    get_d_read x m t i i< ∙ g.byte (x + i) (y + i) (omega arith) (omega arith) (omega arith) ∙ sym (get_d_read y m s i i<))

-- a run, as it was outside of the frame
pub framed_read : {lo hi : ℕ} {p q : List ℕ} (a n : ℕ) → Framed lo hi p q → Apart lo hi a n → a + n ≤ length p → read a n q ≡ read a n p
framed_read a n f d h = agrees_read a a n (framed_agrees a n f d) (omega arith) (omega arith) refl (omega (arith, f.len)) h

-- a word, as it was outside of the frame
pub framed_word : {lo hi : ℕ} {p q : List ℕ} (a : ℕ) → Framed lo hi p q → Apart lo hi a 4 → word32 q a ≡ word32 p a
framed_word a f d = agrees_word a a (framed_agrees a 4 f d) (omega arith) (omega arith) refl

-- a put word changes its four bytes and no other
pub word_framed : (s : List ℕ) (at v : ℕ) → Framed at (at + 4) s (with_word32 s at v)
word_framed s at v =
    record {
      len = length-with_word32 s at v;
      before = λ x h. byte_other s at v x (omega arith) (omega arith) (omega arith) (omega arith);
      after = λ x h. byte_other s at v x (omega arith) (omega arith) (omega arith) (omega arith);
    }

-- one byte as a run of one
one_byte : (x : ℕ) (s : List ℕ) → get_or (read x 1 s) 0 0 ≡ get_or s x 0
one_byte x s = get_d_read x 1 s 0 (omega arith) ∙ ap (λ (i : ℕ). get_or s i 0) (omega arith)

-- a put run changes its bytes and no other
pub put_framed : (at : ℕ) (bs s : List ℕ) → at + length bs ≤ length s → Framed at (at + length bs) s (put at bs s)
put_framed at bs s h =
    record {
      len = length-put at bs s h;
      before =
          λ x l. sym (one_byte x (put at bs s)) ∙ ap (λ (r : List ℕ). get_or r 0 0) (read_put_before at bs s h x 1 (omega arith)) ∙ one_byte x s;
      after =
          λ x l. sym (one_byte x (put at bs s)) ∙ ap (λ (r : List ℕ). get_or r 0 0) (read_put_after at bs s h x 1 l) ∙ one_byte x s;
    }

-- and its bytes are those that were put
pub put_agrees : (at : ℕ) (bs s : List ℕ) → at + length bs ≤ length s → Agrees bs 0 (put at bs s) at (length bs)
put_agrees at bs s h =
    record {
      byte = λ x y k l e.
          let z : x ≡ at + y = omega arith in
          ap (λ (i : ℕ). get_or (put at bs s) i 0) z
          ∙ sym (get_d_read at (length bs) (put at bs s) y (omega arith))
          ∙ ap (λ (r : List ℕ). get_or r y 0) (read_put_same at bs s h);
    }

-- bytes stay bytes
pub bytes_read : (a n : ℕ) {s : List ℕ} → Bytes s → a + n ≤ length s → Bytes (read a n s)
bytes_read a n {s} b h = record { byte = λ i. go i (dec_lt i n) }
  where
    go : (i : ℕ) → Dec (i < n) → get_or (read a n s) i 0 < 256
    go i (yes l) = rw (get_d_read a n s i l) (b.byte (a + i))
    go i (no l) = rw (get_or-eq_default (read a n s) 0 {n = i} (omega (arith, length-read a n s h))) (omega arith)

pub bytes-put : (at : ℕ) {bs s : List ℕ} → Bytes bs → Bytes s → at + length bs ≤ length s → Bytes (put at bs s)
bytes-put at {bs} {s} p q h = record { byte = λ i. go i (dec_lt i at) (dec_lt i (at + length bs)) }
  where
    go : (i : ℕ) → Dec (i < at) → Dec (i < at + length bs) → get_or (put at bs s) i 0 < 256
    go i (yes a) d = rw ((put_framed at bs s h).before i a) (q.byte i)
    go i (no a) (yes d) = rw ((put_agrees at bs s h).byte i (i - at) (omega arith) d (omega arith)) (p.byte (i - at))
    go i (no a) (no d) = rw ((put_framed at bs s h).after i (omega arith)) (q.byte i)
