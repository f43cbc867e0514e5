-- Sums and folds over views: none yet, one more, all; and the bounds of sums.
use Rattle.std.specs.Prelude.{ℕ, zero, suc, ◌+◌, ◌*◌, ◌≤◌, ◌<◌, ◌^◌, ◌≡◌, refl, List, length, get_or}
use Rattle.std.proofs.Common.{sym, ap, arith, add-one, Fits}
use Rattle.std.proofs.Math.Decide.{dec_lt}
use Rattle.std.specs.Int.{w8}
use Rattle.words.specs.Word.{word32}
use Rattle.words.specs.WordLaws.{Bytes}
use Rattle.books.specs.declared.Entry.{Entry}
use Rattle.books.specs.Entry.{entry_of}
use Rattle.views.specs.declared.View.{View}
use Rattle.views.specs.View.{view_of, long_length, raised_by, with_view}
use Rattle.views.specs.StoreLaws.{view-fits}
use Rattle.views.specs.ShowLaws.{long-none, long-some}
use Rattle.views.specs.Raise.{Raises}
use Rattle.rules.specs.Batch.{sum_to}
use Rattle.rules.specs.Copies.{views_at, long_to, views_put}
use Rattle.byte_view.specs.Copying.{capacities, Entered, Raisable}

-- what a view adds is at most its length
pub long_le : (v : View) → long_length v ≤ v.length
long_le v = go (dec_lt 12 v.length)
  where
    go : Dec (12 < v.length) → long_length v ≤ v.length
    go (yes h) = omega (arith, long-some v h)
    go (no h) = omega (arith, long-none v (omega arith))

-- the bytes of the long ones among the first views
pub long_zero : (f : ℕ → View) → long_to f 0 ≡ 0
unfolding long_to sum_to
long_zero f = refl

pub long-next : (f : ℕ → View) (i : ℕ) → long_to f (i + 1) ≡ long_to f i + long_length (f i)
unfolding long_to sum_to
long-next f i = rw add-one

pub long_suc : (f : ℕ → View) (n : ℕ) → long_to f (suc n) ≡ long_to f n + long_length (f n)
unfolding long_to sum_to
long_suc f n = refl

-- more views, no fewer bytes
pub long_mono : (f : ℕ → View) (m n : ℕ) → m ≤ n → long_to f m ≤ long_to f n
long_mono f m zero h = let e : m ≡ 0 = omega arith in rw e (omega arith)
long_mono f m (suc n) h = go (long_mono f m n) (dec_lt n m)
  where
    go : (m ≤ n → long_to f m ≤ long_to f n) → Dec (n < m) → long_to f m ≤ long_to f (suc n)
    go r (yes d) = let e : m ≡ suc n = omega arith in rw e (omega arith)
    go r (no d) = omega (arith, r (omega arith), long_suc f n)

-- ideal_of: none yet, one more, all
pub ideal-none : (body : List ℕ) (at : ℕ) → 0 ≡ long_to (views_at body at) 0
ideal-none body at = sym (long_zero (views_at body at))

pub ideal-more : (body : List ℕ) (at i : ℕ) {v : View} {x sum : ℕ} → sum ≡ long_to (views_at body at) i → v ≡ view_of body (at + i * 16) → x ≡ long_length v → sum + x ≡ long_to (views_at body at) (i + 1)
ideal-more body at i {v} {x} {sum} p q r =
    let e : long_to (views_at body at) (i + 1) ≡ long_to (views_at body at) i + long_length (view_of body (at + i * 16)) = long-next (views_at body at) i in
    let g : long_length v ≡ long_length (view_of body (at + i * 16)) = ap long_length q in
    omega arith

pub ideal-all : (body : List ℕ) (at i n : ℕ) {sum : ℕ} → sum ≡ long_to (views_at body at) i → i ≤ n → n ≤ i → sum ≡ long_to (views_at body at) n
ideal-all body at i n p a b = let e : i ≡ n = omega arith in rw (← e) p

-- what a view in bytes adds is a word, so the sum fits
pub bytes-known : {s : List ℕ} → ((k : ℕ) → Fits w8 (get_or s k 0)) → Bytes s
bytes-known h = record { byte = λ k. (h k).fits }

adds_word : (body : List ℕ) (at : ℕ) {v : View} {x : ℕ} → Bytes body → v ≡ view_of body at → x ≡ long_length v → x < 2 ^ 32
adds_word body at {v} {x} b q e =
    let m : v.length ≡ (view_of body at).length = ap (λ (y : View). y.length) q in
    omega (arith, long_le v, (view-fits body at b).length-fits)

pub ideal-fits : (body : List ℕ) (at i n : ℕ) {v : View} {x sum : ℕ} → Bytes body → v ≡ view_of body (at + i * 16) → x ≡ long_length v → sum ≤ i * 4294967295 → i < n → n ≤ 65536 → sum + x < 2 ^ 64
ideal-fits body at i n b q e h a l = omega (arith, adds_word body (at + i * 16) b q e)

pub ideal_bound : (body : List ℕ) (at i : ℕ) {v : View} {x sum : ℕ} → Bytes body → v ≡ view_of body (at + i * 16) → x ≡ long_length v → sum ≤ i * 4294967295 → sum + x ≤ (i + 1) * 4294967295
ideal_bound body at i b q e h = omega (arith, adds_word body (at + i * 16) b q e)

-- actual_of: none yet, one more, all
pub actual-none : (books body : List ℕ) (list : ℕ) → 0 ≡ capacities books body list 0
unfolding capacities sum_to
actual-none books body list = refl

pub actual-more : (books body : List ℕ) (list i : ℕ) {k : ℕ} {e : Entry} {sum : ℕ} → sum ≡ capacities books body list i → k ≡ word32 body (list + 4 * i) → e ≡ entry_of books k → sum + e.capacity.0 ≡ capacities books body list (i + 1)
unfolding capacities sum_to
actual-more books body list i p q r = rw (add-one, p, r, q)

pub actual-all : (books body : List ℕ) (list i n : ℕ) {sum : ℕ} → sum ≡ capacities books body list i → i ≤ n → n ≤ i → sum ≡ capacities books body list n
actual-all books body list i n p a b = let e : i ≡ n = omega arith in rw (← e) p

-- a listed number has its entry
pub entered_room : {books body : List ℕ} {list count : ℕ} (i : ℕ) {k : ℕ} → Entered books body list count → i < count → k ≡ word32 body (list + 4 * i) → 24 + 20 * k ≤ length books
entered_room i h a e = omega (arith, h.entries i a)

pub entered_listed : {books body : List ℕ} {list count : ℕ} (i : ℕ) → Entered books body list count → i < count → list + 4 * i + 4 ≤ length body
entered_listed i h a = omega (arith, h.listed)

-- append_views_and_update_buffer_index: none yet, one more, all
pub put-none : (f : ℕ → View) (slots : List ℕ) (to : ℕ) → slots ≡ views_put f slots to 0
unfolding views_put
put-none f slots to = refl

pub put_next : (f : ℕ → View) (slots : List ℕ) (to i : ℕ) → views_put f slots to (i + 1) ≡ with_view (views_put f slots to i) (to + i * 16) (f i)
unfolding views_put
put_next f slots to i = rw add-one

pub put_all : (f : ℕ → View) (slots : List ℕ) (to i n : ℕ) {t : List ℕ} → t ≡ views_put f slots to i → i ≤ n → n ≤ i → t ≡ views_put f slots to n
put_all f slots to i n p a b = let e : i ≡ n = omega arith in rw (← e) p

pub record Raising (slots body : List ℕ) (to from k i : ℕ) (t : List ℕ) : Type 0 where
  pub are : t ≡ views_put (λ u. raised_by k (views_at body from u)) slots to i

pub raising_none : (slots body : List ℕ) (to from k : ℕ) → Raising slots body to from k 0 slots
raising_none slots body to from k = record { are = put-none _ slots to }

pub raising_more : {slots body : List ℕ} {to from k i : ℕ} {t t' : List ℕ} {v v' : View} → Raising slots body to from k i t → v ≡ view_of body (from + i * 16) → v' ≡ raised_by k v → t' ≡ with_view t (to + i * 16) v' → Raising slots body to from k (i + 1) t'
raising_more {slots} {body} {to} {from} {k} {i} p q r w =
    record { are = rw (w, p.are, r, q) (sym (put_next (λ u. raised_by k (views_at body from u)) slots to i)) }

pub raises_at : {body : List ℕ} {from n k : ℕ} (i : ℕ) {v : View} → Raisable body from n k → i < n → v ≡ view_of body (from + i * 16) → Raises v k
raises_at i h a e = rw e (record { fits = h.fits i a })
