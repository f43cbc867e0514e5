-- The check 7: one view, and the first row whose view is not valid.
use Rattle.std.specs.Prelude.{ℕ, ◌+◌, ◌*◌, ◌≤◌, ◌<◌, ◌≡◌, Bool, true, false, List, length, Some, None}
use Rattle.std.proofs.Math.Path.{ap}
use Rattle.std.proofs.Common.{arith}
use borrow.Author.Tests.{le-leb, lt-leb, lt-ltb, le-ltb}
use Rattle.search.specs.First.{Passed}
use Rattle.search.specs.FirstLaws.{passed_none, passed_more, passed_at, passed_all}
use Rattle.words.specs.Word.{word32}
use Rattle.books.specs.declared.Entry.{Entry}
use Rattle.books.specs.Entry.{used_of, entry_of}
use Rattle.sound.specs.Sound.{filled_bytes}
use Rattle.views.specs.declared.View.{View}
use Rattle.views.specs.declared.Buffer.{Buffer}
use Rattle.views.specs.View.{view_of, is_padded, in_buffer, is_valid, filled}
use Rattle.rules.specs.declared.ColumnRecord.{ColumnRecord}
use Rattle.rules.specs.Batch.{bytes_listed}
use Rattle.rules.specs.Checks.{in_body}
use Rattle.column_checks.specs.Tested.{found, buffer_in, bad_at, bad_in, Heeded}
use Rattle.column_checks.specs.RuleLaws.{body_says, held_used}

-- ---- one view

pub buffer_is : (books : List ℕ) (k : ℕ) {e : Entry} → e ≡ entry_of books k → record { start = e.start; capacity = record { 0 = e.capacity.0 }; length = record { 0 = e.length.0 } } ≡ buffer_in books k
unfolding buffer_in
buffer_is books k e = rw e

module _ (books pool body : List ℕ) (list count : ℕ) where
  -- where the index of a view leads: the place in the list, the entry, the buffer
  pub index_room : {i : ℕ} → Heeded books pool body list count → i < count → list + 4 * i + 4 ≤ length body
  index_room h l = omega (arith, h.listed)

  used_at : {i k : ℕ} → Heeded books pool body list count → i < count → k ≡ word32 body (list + 4 * i) → k < used_of books
  used_at {i} {k} h l e = held_used books k (rw (← e) at (h.held i l))

  pub listed_room : {i k : ℕ} → Heeded books pool body list count → i < count → k ≡ word32 body (list + 4 * i) → 24 + 20 * k ≤ length books
  listed_room h l e = omega (arith, used_at h l e, h.pooled.room)

  pub buffer_inside : {i k : ℕ} {b : Buffer} → Heeded books pool body list count → i < count → k ≡ word32 body (list + 4 * i) → b ≡ buffer_in books k → b.start + b.length.0 ≤ length pool
  unfolding buffer_in
  buffer_inside {i} {k} h l e q = rw q (h.pooled.inside k (used_at h l e))

  module _ (v : View) where
    pub valid_inline : {x : Bool} → v.length ≤ 12 → x ≡ is_padded v → x ≡ is_valid v (bytes_listed books pool body list) count
    unfolding is_valid
    valid_inline h e = rw (le-leb v.length 12 h) e

    pub valid_beyond : 12 < v.length → count ≤ v.index → false ≡ is_valid v (bytes_listed books pool body list) count
    unfolding is_valid
    valid_beyond h l = rw (lt-leb v.length 12 h, le-ltb v.index count l)

    pub valid_long : {k : ℕ} {b : Buffer} {x : Bool} → 12 < v.length → v.index < count → k ≡ word32 body (list + 4 * v.index) → b ≡ buffer_in books k → x ≡ in_buffer v (filled b pool) → x ≡ is_valid v (bytes_listed books pool body list) count
    unfolding is_valid bytes_listed filled_bytes filled buffer_in
    valid_long {k} h l e q f =
        rw (lt-leb v.length 12 h, lt-ltb v.index count l, ← e) (rw q at f)

-- ---- the rows

module _ (books pool body : List ℕ) (r : ColumnRecord) where
  pub row_room : {i rows : ℕ} → in_body r.values (rows * 16) (length body) ≡ true → i < rows → r.values + i * 16 + 16 ≤ length body
  row_room {i} {rows} e l =
      omega (arith, body_says r.values (rows * 16) (length body) e (λ q. omega arith))

  pub bad_none : Passed (bad_at books pool body r) 0
  bad_none = passed_none _

  pub bad_more : {i : ℕ} {v : View} {x : Bool} → Passed (bad_at books pool body r) i → v ≡ view_of body (r.values + i * 16) → x ≡ is_valid v (bytes_listed books pool body r.list) r.count → x ≡ true → Passed (bad_at books pool body r) (i + 1)
  unfolding bad_at
  bad_more {i} o p q z = passed_more o (rw (← p, ← q, z))

  pub bad_at_lem : {i : ℕ} {v : View} {x : Bool} (rows : ℕ) → Passed (bad_at books pool body r) i → i < rows → v ≡ view_of body (r.values + i * 16) → x ≡ is_valid v (bytes_listed books pool body r.list) r.count → x ≡ false → Some i ≡ bad_in books pool body r rows
  unfolding bad_at bad_in
  bad_at_lem {i} rows o l p q z = ap found (passed_at rows o l (rw (← p, ← q, z)))

  pub bad_all : {i : ℕ} (rows : ℕ) → Passed (bad_at books pool body r) i → rows ≤ i → None ≡ bad_in books pool body r rows
  unfolding bad_in
  bad_all rows o l = ap found (passed_all rows o l)
