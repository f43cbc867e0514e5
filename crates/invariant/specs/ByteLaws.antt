-- Bytes stay bytes: in parts of lists, in lists one behind the other, and where bytes are laid or views are put.
use Rattle.std.specs.Prelude.{ℕ, zero, suc, ◌+◌, ◌*◌, ◌-◌, ◌<◌, ◌≡◌, List, ◌++◌, length, get_or, take, drop}
use Rattle.std.proofs.Common.{sym, ◌∙◌, ap, arith, length-take, get_or-take, get_or-drop, get_or-append-add}
use Rattle.std.proofs.Math.Decide.{dec_lt}
use Rattle.std.proofs.Math.ListN.{get_or-append, get_or-eq_default}
use Rattle.words.specs.WordLaws.{Bytes}
use Rattle.words.specs.Run.{read, put, lay}
use Rattle.views.specs.declared.View.{View}
use Rattle.views.specs.StoreLaws.{ViewWords, bytes-with_view}
use Rattle.rules.specs.Copies.{views_put}

bytes_take : (n : ℕ) {l : List ℕ} → Bytes l → Bytes (take n l)
bytes_take n {l} b = record { byte = λ i. go i (dec_lt i n) }
  where
    go : (i : ℕ) → Dec (i < n) → get_or (take n l) i 0 < 256
    go i (yes h) = rw (get_or-take n l i 0 h) (b.byte i)
    go i (no h) = rw (get_or-eq_default (take n l) 0 {n = i} (omega (arith, length-take n l))) (omega arith)

bytes_drop : (n : ℕ) {l : List ℕ} → Bytes l → Bytes (drop n l)
bytes_drop n {l} b = record { byte = λ i. rw (get_or-drop n l i 0) (b.byte (n + i)) }

bytes-append : {l m : List ℕ} → Bytes l → Bytes m → Bytes (l ++ m)
bytes-append {l} {m} a b = record { byte = λ i. go i (dec_lt i (length l)) }
  where
    go : (i : ℕ) → Dec (i < length l) → get_or (l ++ m) i 0 < 256
    go i (yes h) = rw (get_or-append l m 0 i h) (a.byte i)
    go i (no h) =
        let e : length l + (i - length l) ≡ i = omega arith in
        rw (ap (λ (k : ℕ). get_or (l ++ m) k 0) (sym e) ∙ get_or-append-add l m (i - length l) 0) (b.byte (i - length l))

pub bytes_read : (a n : ℕ) {s : List ℕ} → Bytes s → Bytes (read a n s)
unfolding read
bytes_read a n b = bytes_take n (bytes_drop a b)

pub bytes-lay : (at : ℕ) {bs s : List ℕ} → Bytes bs → Bytes s → Bytes (lay at bs s)
unfolding lay put
bytes-lay at {bs} {s} a b = bytes_take (length s) (bytes-append (bytes_take at b) (bytes-append a (bytes_drop (at + length bs) b)))

pub bytes_views : (f : ℕ → View) (slots : List ℕ) (to n : ℕ) → ((j : ℕ) → j < n → ViewWords (f j)) → Bytes slots → Bytes (views_put f slots to n)
unfolding views_put
bytes_views f slots to zero g b = b
bytes_views f slots to (suc n) g b =
    bytes-with_view (views_put f slots to n) (to + n * 16) (f n) (bytes_views f slots to n (λ j l. g j (omega arith)) b) (g n (omega arith))
