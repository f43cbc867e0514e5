-- A batch without a fault can be read; and what callers want of that.
use Prim.Native.Nat.{ℕ, ◌+◌, ◌*◌, ◌≤◌, ◌<◌}
use Rattle.std.specs.Prelude.{◌≡◌, refl, ◌≢◌, false, ◌&&◌, not, cond, List, length, ltb, leb, eqb}
use Rattle.std.proofs.Common.{sym, true≢false, arith, mul-le-mul}
use Rattle.std.proofs.Math.Bool.{true, and-eq-true_iff}
use Rattle.std.specs.Prelude.{None}
use Rattle.std.proofs.Math.Decide.{dec_lt}
use borrow.Author.Tests.{ltb-true, leb-true, eqb-true, lt-leb, ne_eqb, eq-eqb}
use Rattle.search.specs.Every.{every, every-says}
use Rattle.words.specs.Word.{word32}
use Rattle.words.specs.RunLaws.{length-read}
use Rattle.kinds.specs.Kind.{kind_of, width_at, is_view}
use Rattle.kinds.specs.KindLaws.{no_kind}
use Rattle.views.specs.declared.View.{View}
use Rattle.views.specs.View.{in_buffer, is_valid}
use Rattle.books.specs.Entry.{used_of, entry_of}
use Rattle.sound.specs.Sound.{filled_bytes}
use Rattle.pool.specs.Register.{is_held}
use Rattle.state.specs.declared.BatchCoalescer.{BatchCoalescer}
use Rattle.state.specs.World.{World, column_of}
use Rattle.state.specs.Layout.{bytes_in, width_of, is_views}
use Rattle.rules.specs.declared.ColumnRecord.{ColumnRecord}
use Rattle.rules.specs.Batch.{Batch, record_of, has_bitmap, listed_number, bytes_listed, listed_bytes, row_view}
use Rattle.rules.specs.Views.{source_place}
use Rattle.rules.specs.Ranges.{is_kind, in_bounds}
use Rattle.rules.specs.Checks.{is_ruled, keeps_rules, in_body, bitmap_need, lies_within, lies_in_body, held_all, all_held, valid_row, batch_fault}
use Rattle.rules.proofs.CheckLaws.{ColumnGood, BatchGood, batch_good}
use Rattle.push_safety.specs.TestedLaws.{bounds_say}
use Rattle.push_safety.specs.Run.{Run, ColumnReads, RowReads, Readable}

-- ---- widths: a column within the bounds has rows of a byte or more

in_table : every (λ n. cond (is_kind (width_at n)) (ltb 0 (bytes_in (width_at n))) true) 20 ≡ true
unfolding every width_at kind_of
in_table = refl

kind_width : (n : ℕ) → is_kind (width_at n) ≡ true → 1 ≤ bytes_in (width_at n)
unfolding width_at
kind_width n e = go (dec_lt n 20)
  where
    go : Dec (n < 20) → 1 ≤ bytes_in (width_at n)
    go (yes d) =
        let t : cond (is_kind (width_at n)) (ltb 0 (bytes_in (width_at n))) true ≡ true = every-says (λ m. cond (is_kind (width_at m)) (ltb 0 (bytes_in (width_at m))) true) 20 in_table n d in
        ltb-true 0 (bytes_in (width_at n)) (rw e at t)
    go (no d) = let z : false ≡ true = rw (no_kind n (omega arith)) at e in absurd (true≢false (sym z))

pub width_some : (s : BatchCoalescer) (c : ℕ) → in_bounds s ≡ true → c < s.columns → 1 ≤ width_of s c
unfolding width_of
width_some s c e h =
    kind_width (column_of s c).kind (every-says (λ c. is_kind (width_at (column_of s c).kind)) s.columns (bounds_say s e).kinds c h)

-- ---- the tests of a column as facts

body_says : (start n body : ℕ) → in_body start n body ≡ true → n ≢ 0 → start + n ≤ body
unfolding in_body
body_says start n body e h = leb-true (start + n) body (rw (ne_eqb n 0 h) at e)

need_says : (first rows : ℕ) → rows ≢ 0 → (bitmap_need first rows ≢ 0) × (first + rows ≤ 8 * bitmap_need first rows)
unfolding bitmap_need
need_says first rows h = rw (ne_eqb rows 0 h) (λ z. omega arith, omega arith)

module _ (r : ColumnRecord) where
  ruled_count : (kind : ℕ) → is_ruled r kind ≡ true → (r.count ≡ 0 → r.list ≡ 0) × (is_view kind ≡ false → r.count ≡ 0)
  unfolding is_ruled
  ruled_count kind e =
      let a = (and-eq-true_iff (eqb r.kind kind) _).0 e in
      let b = (and-eq-true_iff (eqb r.spare 0) _).0 a.1 in
      let c = (and-eq-true_iff (eqb r.spare2 0) _).0 b.1 in
      let d = (and-eq-true_iff (cond (has_bitmap r) true (eqb r.first 0)) _).0 c.1 in
      let f = (and-eq-true_iff (cond (eqb r.count 0) (eqb r.list 0) true) (cond (is_view kind) true (eqb r.count 0))).0 d.1 in
      (λ z. eqb-true _ _ (rw (eq-eqb r.count 0 z) at f.0), λ z. eqb-true _ _ (rw z at f.1))

  record Within (rows width body : ℕ) : Type 0 where
    values : in_body r.values (rows * width) body ≡ true
    bits : has_bitmap r ≡ true → in_body r.validity (bitmap_need r.first rows) body ≡ true
    listed : in_body r.list (4 * r.count) body ≡ true

  within-says : (rows width body : ℕ) → lies_within r rows width body ≡ true → Within rows width body
  unfolding lies_within
  within-says rows width body e =
      let a = (and-eq-true_iff (in_body r.values (rows * width) body) _).0 e in
      let b = (and-eq-true_iff (cond (has_bitmap r) (in_body r.validity (bitmap_need r.first rows) body) true) (in_body r.list (4 * r.count) body)).0 a.1 in
      record { values = a.0; bits = λ t. rw t at b.0; listed = b.1 }

-- a long view that is valid: its index is in the list, and its bytes in that buffer
long-says : (v : View) (buffer : ℕ → List ℕ) (count : ℕ) → is_valid v buffer count ≡ true → 12 < v.length → (v.index < count) × (v.offset + v.length ≤ length (buffer v.index))
unfolding is_valid in_buffer
long-says v buffer count e h =
    let t : (ltb v.index count && in_buffer v (buffer v.index)) ≡ true = rw (lt-leb v.length 12 h) at e in
    let a = (and-eq-true_iff (ltb v.index count) (in_buffer v (buffer v.index))).0 t in
    let b = (and-eq-true_iff (leb (v.offset + v.length) (length (buffer v.index))) (eqb (word32 (buffer v.index) v.offset) v.prefix)).0 a.1 in
    (ltb-true _ _ a.0, leb-true _ _ b.0)

-- a held number is in use
pub held_used : (s : List ℕ) (k : ℕ) → is_held s k ≡ true → k < used_of s
unfolding is_held
held_used s k e = ltb-true _ _ ((and-eq-true_iff (ltb k (used_of s)) (not (eqb (entry_of s k).hold 0))).0 e).0

-- ---- one column, one row

module _ (w : World) (b : Batch) (run : Run w) (some : b.rows ≢ 0) where
  column_reads : (c : ℕ) → c < w.state.columns → ColumnGood w b c → ColumnReads w b c
  unfolding keeps_rules lies_in_body all_held held_all listed_number is_views
  column_reads c h g =
      record {
        values = body_says _ _ _ t.values (λ z. omega (arith, product b.rows (width_of w.state c) (omega arith) (width_some w.state c run.fit.bounds h)));
        bits = λ y.
            let n = need_says (record_of b c).first b.rows some in
            omega (arith, n, body_says _ _ _ (t.bits y) n.0);
        listed = listed (dec_lt 0 (record_of b c).count);
        held = λ i l. every-says (λ i. is_held w.books (word32 b.body ((record_of b c).list + 4 * i))) (record_of b c).count g.held i l;
        plain = (ruled_count (record_of b c) (column_of w.state c).kind g.rules).1;
      }
    where
      t : Within (record_of b c) b.rows (width_of w.state c) (length b.body)
      t = within-says (record_of b c) b.rows (width_of w.state c) (length b.body) g.body

      product : (x y : ℕ) → 1 ≤ x → 1 ≤ y → 1 * 1 ≤ x * y
      product x y p q = mul-le-mul p q

      listed : Dec (0 < (record_of b c).count) → (record_of b c).list + 4 * (record_of b c).count ≤ length b.body
      listed (yes l) = body_says _ _ _ t.listed (λ z. omega arith)
      listed (no l) = omega (arith, (ruled_count (record_of b c) (column_of w.state c).kind g.rules).0 (omega arith))

  -- the bytes of a buffer in use are as many as its length, which lies in the pool
  filled-length : (k : ℕ) → k < used_of w.books → length (filled_bytes w.books w.pool k) ≡ (entry_of w.books k).length.0
  unfolding filled_bytes
  filled-length k h =
      length-read _ _ w.pool (omega (arith, run.inside k h, run.filled k h, run.fit.pool_is))

  row_reads : (c i : ℕ) → c < w.state.columns → is_views w.state c ≡ true → i < b.rows → ColumnGood w b c → 12 < (row_view w b c i).length → RowReads w b c i
  unfolding valid_row listed_bytes bytes_listed listed_number source_place
  row_reads c i h v l g t =
      let e : is_valid (row_view w b c i) (listed_bytes w b c) (record_of b c).count ≡ true = rw v at (g.valid i l) in
      let a = long-says (row_view w b c i) (listed_bytes w b c) (record_of b c).count e t in
      let k : ℕ = listed_number b c (row_view w b c i).index in
      let u : k < used_of w.books = held_used w.books k ((column_reads c h g).held (row_view w b c i).index a.0) in
      record {
        index = a.0;
        source = omega (arith, a.1, filled-length k u, run.inside k u, run.filled k u);
      }

pub fault_readable : (w : World) (b : Batch) → Run w → b.rows ≢ 0 → batch_fault w b ≡ None → Readable w b
fault_readable w b run some e =
    let g : BatchGood w b = batch_good w b e in
    record {
      records_are = g.records;
      rows_fit = g.rows;
      columns = λ c h. column_reads w b run some c h (g.columns c h);
      long = λ c i h v l t. row_reads w b run some c i h v l (g.columns c h) t;
    }
