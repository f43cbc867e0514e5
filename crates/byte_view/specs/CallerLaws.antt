-- What a caller has of a part, so many rows from row m on, where it has it of the whole: places, indices, sums, room.
use Rattle.std.specs.Prelude.{ℕ, zero, suc, ◌+◌, ◌*◌, ◌≤◌, ◌<◌, ◌^◌, ◌≡◌, List, length}
use Rattle.std.proofs.Common.{ap, arith, add-suc}
use Rattle.words.specs.Word.{word32}
use Rattle.books.specs.Entry.{entry_of}
use Rattle.views.specs.declared.View.{View}
use Rattle.views.specs.View.{view_of, long_length}
use Rattle.rules.specs.Copies.{views_at, long_to}
use Rattle.rules.specs.SameLaws.{sum_same}
use Rattle.byte_view.specs.declared.Copying.{Copying}
use Rattle.byte_view.specs.Copying.{source_in, Entered, Spanned, Raisable, Carriable}
use Rattle.byte_view.specs.FoldLaws.{long_zero, long_mono, long_suc}

-- ---- views and sums

-- the views of a part
pub views_part : (body : List ℕ) (from m i : ℕ) → views_at body (from + m * 16) i ≡ views_at body from (m + i)
views_part body from m i = let e : from + m * 16 + i * 16 ≡ from + (m + i) * 16 = omega arith in ap (view_of body) e

pub long_same : (n : ℕ) (f g : ℕ → View) → ((i : ℕ) → f i ≡ g i) → long_to f n ≡ long_to g n
unfolding long_to
long_same n f g h = sum_same n (λ i. long_length (f i)) (λ i. long_length (g i)) (λ i. ap long_length (h i))

-- the bytes of the long ones, in two parts
pub long-parts : (f : ℕ → View) (m l : ℕ) → long_to f (m + l) ≡ long_to f m + long_to (λ i. f (m + i)) l
long-parts f m zero = let e : m + 0 ≡ m = omega arith in rw (e, long_zero) (omega arith)
long-parts f m (suc l) =
    rw (add-suc, long_suc, long_suc) (omega (arith, long-parts f m l))

pub long_part : (body : List ℕ) (from m l : ℕ) → long_to (views_at body from) (m + l) ≡ long_to (views_at body from) m + long_to (views_at body (from + m * 16)) l
long_part body from m l =
    let e : long_to (views_at body (from + m * 16)) l ≡ long_to (λ i. views_at body from (m + i)) l =
    long_same l (views_at body (from + m * 16)) (λ i. views_at body from (m + i)) (views_part body from m) in
    omega (arith, long-parts (views_at body from) m l)

-- a part has no more of them than the whole
pub long-within : (body : List ℕ) (from m l n : ℕ) → m + l ≤ n → long_to (views_at body from) m + long_to (views_at body (from + m * 16)) l ≤ long_to (views_at body from) n
long-within body from m l n h =
    omega (arith, long_part body from m l, long_mono (views_at body from) (m + l) n h)

-- ---- what the functions ask, of a part

pub spanned_part : {body : List ℕ} {from slots to n : ℕ} (m l : ℕ) → Spanned body from slots to n → m + l ≤ n → Spanned body (from + m * 16) slots (to + m * 16) l
spanned_part m l s h =
    record { few = omega (arith, s.few); read = omega (arith, s.read); put = omega (arith, s.put) }

pub spanned_first : {body : List ℕ} {from slots to n : ℕ} (l : ℕ) → Spanned body from slots to n → l ≤ n → Spanned body from slots to l
spanned_first l s h =
    record { few = omega (arith, s.few); read = omega (arith, s.read); put = omega (arith, s.put) }

pub raisable_part : {body : List ℕ} {from n k : ℕ} (m l : ℕ) → Raisable body from n k → m + l ≤ n → Raisable body (from + m * 16) l k
raisable_part {body} {from} {n} {k} m l r h =
    record { fits = λ i a b. rw (views_part body from m i) (r.fits (m + i) (omega arith) (rw (views_part body from m i) at b)) }

-- indices below the list's count stay words when a list of so many is put behind k
pub raisable_below : {body : List ℕ} {from n : ℕ} (k count : ℕ) → ((i : ℕ) → i < n → 12 < (views_at body from i).length → (views_at body from i).index < count) → count + k ≤ 2 ^ 32 → Raisable body from n k
raisable_below k count h l = record { fits = λ i a b. omega (arith, h i a b) }

-- another block, other places: the list is the same, and the views are rows m.. of the whole
pub carriable_part : {books body pool : List ℕ} {j : Copying} {n filled : ℕ} (j' : Copying) (m l filled' : ℕ) → Carriable books body pool j n filled → m + l ≤ n → j'.from ≡ j.from + m * 16 → j'.list ≡ j.list → j'.count ≡ j.count → j'.start + filled' + long_to (views_at body (j.from + m * 16)) l ≤ length pool → Carriable books body pool j' l filled'
carriable_part {books} {body} {pool} {j} j' m l filled' c h p q r o =
    record {
      entered = rw (q, r) c.entered;
      index = λ i a b. rw (p, r, views_part body j.from m i) (c.index (m + i) (omega arith) (rw (p, views_part body j.from m i) at b));
      source = λ i a b. rw (p, q, views_part body j.from m i) (c.source (m + i) (omega arith) (rw (p, views_part body j.from m i) at b));
      room = rw p o;
      small = c.small;
    }

pub carriable_first : {books body pool : List ℕ} {j : Copying} {n filled : ℕ} (l : ℕ) → Carriable books body pool j n filled → l ≤ n → Carriable books body pool j l filled
carriable_first {books} {body} {pool} {j} {n} l c h =
    record {
      entered = c.entered;
      index = λ i a b. c.index i (omega arith) b;
      source = λ i a b. c.source i (omega arith) b;
      room = omega (arith, c.room, long_mono (views_at body j.from) l n h);
      small = c.small;
    }

-- and after other bytes of the pool, or other entries of the books, have changed
pub carriable_pool : {books body pool : List ℕ} {j : Copying} {n filled : ℕ} (pool' : List ℕ) → Carriable books body pool j n filled → length pool' ≡ length pool → Carriable books body pool' j n filled
carriable_pool pool' c e =
    record {
      entered = c.entered;
      index = c.index;
      source = λ i a b. rw e (c.source i a b);
      room = rw e c.room;
      small = rw e c.small;
    }

-- the listed buffers begin where they began
pub record SameStarts (books books' body : List ℕ) (list count : ℕ) : Type 0 where
  pub len : length books' ≡ length books
  pub starts : (i : ℕ) → i < count → (entry_of books' (word32 body (list + 4 * i))).start ≡ (entry_of books (word32 body (list + 4 * i))).start

pub source-same : {books books' body : List ℕ} {list count : ℕ} (v : View) → SameStarts books books' body list count → v.index < count → source_in books' body list v ≡ source_in books body list v
unfolding source_in
source-same v s h = rw (s.starts v.index h)

pub entered_same : {books books' body : List ℕ} {list count : ℕ} → SameStarts books books' body list count → Entered books body list count → Entered books' body list count
entered_same s e = record { listed = e.listed; entries = λ i a. rw s.len (e.entries i a) }

pub carriable_books : {books books' body pool : List ℕ} {j : Copying} {n filled : ℕ} → SameStarts books books' body j.list j.count → Carriable books body pool j n filled → Carriable books' body pool j n filled
carriable_books {books} {books'} {body} {pool} {j} s c =
    record {
      entered = entered_same s c.entered;
      index = c.index;
      source = λ i a b. rw (source-same (views_at body j.from i) s (c.index i a b)) (c.source i a b);
      room = c.room;
      small = c.small;
    }
