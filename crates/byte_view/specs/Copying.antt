-- What the functions on views ask of body, books and pool, and what the walk takes.
use Rattle.std.specs.Prelude.{ℕ, ◌+◌, ◌*◌, ◌-◌, ◌≤◌, ◌<◌, ◌^◌, ◌≡◌, List, length, ltb}
use Rattle.search.specs.First.{first}
use Rattle.words.specs.Word.{word32}
use Rattle.books.specs.Entry.{entry_of}
use Rattle.pool.specs.Carry.{carried}
use Rattle.views.specs.declared.View.{View}
use Rattle.views.specs.View.{with_view, long_length, repointed}
use Rattle.rules.specs.Batch.{sum_to}
use Rattle.rules.specs.Copies.{views_at, long_to}
use Rattle.rules.specs.Views.{or_all}
use Rattle.byte_view.specs.declared.Copying.{Copying}
use Rattle.byte_view.specs.declared.Walked.{Walked}

-- actual: the sum of the capacities of the `count` buffers listed from `list` of the body on
unfoldable pub capacities : List ℕ → List ℕ → ℕ → ℕ → ℕ
capacities books body list count = sum_to count (λ i. (entry_of books (word32 body (list + 4 * i))).capacity.0)

-- the walk over n views. 01: "walk the part's views while the rest is at least the length (lengths over 12 lower the rest)"
unfoldable pub walk_rows : (ℕ → View) → ℕ → ℕ → ℕ
walk_rows f n rest = or_all n (first (λ i. ltb (rest - long_to f i) (f i).length) n)

unfoldable pub walk_of : (ℕ → View) → ℕ → ℕ → Walked
walk_of f n rest = record { rows = record { 0 = walk_rows f n rest }; bytes = record { 0 = long_to f (walk_rows f n rest) } }

-- where the bytes of a long view lie in the pool: in the buffer that stands at its index in the list, from its offset on
unfoldable pub source_in : List ℕ → List ℕ → ℕ → View → ℕ
source_in books body list v = (entry_of books (word32 body (list + 4 * v.index))).start + v.offset

-- the `count` numbers listed from `list` of the body on have entries in the books
pub record Entered (books body : List ℕ) (list count : ℕ) : Type 0 where
  pub listed : list + 4 * count ≤ length body
  pub entries : (i : ℕ) → i < count → 24 + 20 * word32 body (list + 4 * i) ≤ length books

-- n views from `from` of the body on, to be put at `to` of slots of so many bytes
pub record Spanned (body : List ℕ) (from : ℕ) (slots to n : ℕ) : Type 0 where
  pub few : n ≤ 65536
  pub read : from + n * 16 ≤ length body
  pub put : to + n * 16 ≤ slots

-- the index of each long one, raised by k, stays a word
pub record Raisable (body : List ℕ) (from n k : ℕ) : Type 0 where
  pub fits : (i : ℕ) → i < n → 12 < (views_at body from i).length → (views_at body from i).index + k < 2 ^ 32

-- the long ones of n views have their bytes in the pool, and there is room for these behind the `filled` bytes of the block
pub record Carriable (books body pool : List ℕ) (j : Copying) (n filled : ℕ) : Type 0 where
  pub entered : Entered books body j.list j.count
  pub index : (i : ℕ) → i < n → 12 < (views_at body j.from i).length → (views_at body j.from i).index < j.count
  pub source : (i : ℕ) → i < n → 12 < (views_at body j.from i).length → source_in books body j.list (views_at body j.from i) + (views_at body j.from i).length ≤ length pool
  pub room : j.start + filled + long_to (views_at body j.from) n ≤ length pool
  pub small : length pool < 2 ^ 32

-- one of them, view i: what append_view asks
pub record Copyable (books body pool : List ℕ) (slots : ℕ) (j : Copying) (i filled : ℕ) : Type 0 where
  pub few : i < 65536
  pub read : j.from + i * 16 + 16 ≤ length body
  pub put : j.to + i * 16 + 16 ≤ slots
  pub entered : Entered books body j.list j.count
  pub index : 12 < (views_at body j.from i).length → (views_at body j.from i).index < j.count
  pub source : 12 < (views_at body j.from i).length → source_in books body j.list (views_at body j.from i) + (views_at body j.from i).length ≤ length pool
  pub room : j.start + filled + long_length (views_at body j.from i) ≤ length pool
  pub small : length pool < 2 ^ 32

-- and what it leaves: the view in its place, its bytes behind the `filled` bytes of the block, and how many are filled then
pub record Copied (books body slots pool : List ℕ) (j : Copying) (i filled : ℕ) (slots' pool' : List ℕ) (r : ℕ) : Type 0 where
  pub answer : r ≡ filled + long_length (views_at body j.from i)
  pub slots_are : slots' ≡ with_view slots (j.to + i * 16) (repointed j.index filled (views_at body j.from i))
  pub pool_is : pool' ≡ carried pool (source_in books body j.list (views_at body j.from i)) (j.start + filled) (long_length (views_at body j.from i))
