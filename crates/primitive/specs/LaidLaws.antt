-- What copying rows makes of the slots: one law for each exit, one for each thing that a call asks, and the results as worlds.
use Rattle.std.specs.Prelude.{ℕ, ◌+◌, ◌*◌, ◌-◌, ◌≤◌, ◌<◌, ◌≡◌, true, length, take, drop}
use Rattle.std.proofs.Common.{sym, ◌∙◌, arith, add-mul, mul-le-mul, drop-drop, eq-eqb, ne_eqb, Fits as Holds}
use Rattle.std.proofs.Math.Path.{ap}
use mathlib.Core.List.{List, []}
use Rattle.std.proofs.Math.Nat.{add-sub_cancel_left}
use borrow.Rule.Slice.PartMut.{put_mid}
use Rattle.std.specs.Int.{w32, w64}
use Rattle.words.specs.Run.{read, put, lay}
use Rattle.words.specs.RunLaws.{length-read, part_read, lay-put}
use Rattle.bits.specs.Bits.{bits_from, ones, appended}
use Rattle.bits.specs.BitLaws.{length-appended, appended_ext, run_later, ones_bit}
use Rattle.state.specs.declared.BatchCoalescer.{BatchCoalescer}
use Rattle.state.specs.World.{world}
use Rattle.state.specs.Layout.{width_of, bitmap_bytes, bitmap_place, cell_place}
use Rattle.rules.specs.declared.ColumnRecord.{ColumnRecord}
use Rattle.rules.specs.Batch.{batch, record_of, has_bitmap, bit_of}
use Rattle.rules.specs.Views.{span, bits_laid, values_laid, bits_copied, values_copied}
use Rattle.primitive.specs.declared.Rows.{Rows}
use Rattle.primitive.specs.Fits.{bits_of, rows_laid, Bitmapped, Valued}

-- ---- a part that is lent and comes back

-- bytes t that came back in the place of the n from a on are laid there
pub part_laid : (s t : List ℕ) (a n : ℕ) → length t ≡ n → a + n ≤ length s → put_mid a (a + n - a) s t ≡ lay a t s
unfolding put
part_laid s t a n e h =
    let l : a + length t ≤ length s = omega arith in
    rw (add-sub_cancel_left a n, drop-drop, lay-put a t s l, e)

-- and a part that is lent has the length that was asked for
pub length_part : (s : List ℕ) (a n : ℕ) → a + n ≤ length s → length (take (a + n - a) (drop a s)) ≡ n
length_part s a n h = ap length (part_read a n s) ∙ length-read a n s h

-- ---- a row's bit

no_bitmap : (r : ColumnRecord) (body : List ℕ) (i j : ℕ) → r.validity ≡ 4294967295 → ones j ≡ bit_of r body i
unfolding bit_of has_bitmap
no_bitmap r body i j e = rw (eq-eqb r.validity 4294967295 e) (ones_bit j)

bitmap_is : (r : ColumnRecord) → (r.validity ≡ 4294967295 → ⊥) → has_bitmap r ≡ true
unfolding has_bitmap
bitmap_is r h = rw (ne_eqb r.validity 4294967295 h)

bitmap_bit : (r : ColumnRecord) (body : List ℕ) (from i : ℕ) → (r.validity ≡ 4294967295 → ⊥) → bits_from body r.validity (r.first + from) i ≡ bit_of r body (from + i)
unfolding bit_of
bitmap_bit r body from i h = rw (bitmap_is r h) (run_later body r.validity r.first from i)

-- ---- validity

-- the bits asked for lie in the body
pub bits_in : (slots begin size : ℕ) (r : ColumnRecord) {L : ℕ} (p : Rows) → Bitmapped slots begin size r L p → (r.validity ≡ 4294967295 → ⊥) → 8 * r.validity + (r.first + p.from) + p.count.0 ≤ 8 * L
bits_in slots begin size r p b h = omega (arith, b.bits (bitmap_is r h))

module _ (slots : List ℕ) (begin size : ℕ) (r : ColumnRecord) (body : List ℕ) (p : Rows) (fits : Bitmapped (length slots) begin size r (length body) p) where
  -- the bitmap lies in the slots
  pub bitmap_there : begin + size ≤ length slots
  bitmap_there = fits.inside

  -- and has room for the rows
  pub rows_there : p.at + p.count.0 ≤ 8 * length (take (begin + size - begin) (drop begin slots))
  rows_there = omega (arith, length_part slots begin size bitmap_there, fits.rows)

  -- bits appended to the lent bitmap, whatever run they are of
  laid : (b : ℕ → ℕ) {t : List ℕ} → ((i : ℕ) → b i ≡ bit_of r body (p.from + i))
      → t ≡ appended (take (begin + size - begin) (drop begin slots)) p.at b p.count.0
      → put_mid begin (begin + size - begin) slots t ≡ lay begin (appended (read begin size slots) p.at (bits_of r body p.from) p.count.0) slots
  laid b {t} f e =
      let l : length t ≡ size =
      ap length e ∙ length-appended (take (begin + size - begin) (drop begin slots)) p.at b p.count.0
      ∙ length_part slots begin size bitmap_there in
      part_laid slots t begin size l bitmap_there
      ∙ ap (λ (x : List ℕ). lay begin x slots)
      (e ∙ appended_ext _ p.at b (bits_of r body p.from) p.count.0 (λ j k. f j)
      ∙ ap (λ (x : List ℕ). appended x p.at (bits_of r body p.from) p.count.0) (part_read begin size slots))

  pub ones-laid : {t : List ℕ} → r.validity ≡ 4294967295
      → t ≡ appended (take (begin + size - begin) (drop begin slots)) p.at ones p.count.0
      → put_mid begin (begin + size - begin) slots t ≡ lay begin (appended (read begin size slots) p.at (bits_of r body p.from) p.count.0) slots
  ones-laid h e = laid ones (λ i. no_bitmap r body (p.from + i) i h) e

  pub bits-laid : {t : List ℕ} → (r.validity ≡ 4294967295 → ⊥)
      → t ≡ appended (take (begin + size - begin) (drop begin slots)) p.at (bits_from body r.validity (r.first + p.from)) p.count.0
      → put_mid begin (begin + size - begin) slots t ≡ lay begin (appended (read begin size slots) p.at (bits_of r body p.from) p.count.0) slots
  bits-laid h e = laid (bits_from body r.validity (r.first + p.from)) (λ i. bitmap_bit r body p.from i h) e

-- ---- values

-- no product of rows, which fit 32 bits, and a width is large
pub rows_small : (n w : ℕ) → n < 4294967296 → w ≤ 32 → n * w ≤ 137438953472
rows_small n w p q = let l : n ≤ 4294967296 = omega arith in mul-le-mul l q

pub rows_fit : (n w : ℕ) → Holds w32 n → w ≤ 32 → Holds w64 (n * w)
rows_fit n w h q = record { fits = omega (arith, rows_small n w (omega (arith, h)) q) }

pub start-fit : (v n w : ℕ) → v < 1099511627776 → Holds w32 n → w ≤ 32 → Holds w64 (v + n * w)
start-fit v n w k h q = record { fits = omega (arith, rows_small n w (omega (arith, h)) q) }

module _ (slots : List ℕ) (r : ColumnRecord) (body : List ℕ) (w : ℕ) (p : Rows) (fits : Valued (length slots) r (length body) w p) where
  -- the values asked for lie in the body, and have a place in the slots
  pub values_in : r.values + p.from * w + p.count.0 * w ≤ length body
  values_in = omega (arith, add-mul p.from p.count.0 w, fits.values)

  pub cells_there : p.place + p.at * w + p.count.0 * w ≤ length slots
  cells_there = omega (arith, add-mul p.at p.count.0 w, fits.inside)

  pub values_laid_lem : {t : List ℕ} → t ≡ put (p.place + p.at * w) (read (r.values + p.from * w) (p.count.0 * w) body) slots
      → t ≡ lay (p.place + p.at * w) (read (r.values + p.from * w) (p.count.0 * w) body) slots
  values_laid_lem {t} e =
      let run : List ℕ = read (r.values + p.from * w) (p.count.0 * w) body in
      let m : length run ≡ p.count.0 * w = length-read (r.values + p.from * w) (p.count.0 * w) body values_in in
      let q : p.place + p.at * w + length run ≤ length slots = omega (arith, m, cells_there) in
      e ∙ sym (lay-put (p.place + p.at * w) run slots q)

-- ---- both

-- slots of the same length
pub valued_same : {L M : ℕ} {r : ColumnRecord} {n w : ℕ} {p : Rows} → M ≡ L → Valued L r n w p → Valued M r n w p
valued_same e fits = rw e fits

pub both_laid : (slots : List ℕ) (begin size : ℕ) (r : ColumnRecord) (body : List ℕ) (w : ℕ) (p : Rows) {t u : List ℕ}
    → t ≡ lay begin (appended (read begin size slots) p.at (bits_of r body p.from) p.count.0) slots
    → u ≡ lay (p.place + p.at * w) (read (r.values + p.from * w) (p.count.0 * w) body) t
    → u ≡ rows_laid begin size r body w p slots
both_laid slots begin size r body w p e f =
    f ∙ ap (lay (p.place + p.at * w) (read (r.values + p.from * w) (p.count.0 * w) body)) e

-- ---- the same of worlds, over the memories, the batch and the record that the code has

-- a record is that of the records alone
pub record_any : (rows : ℕ) (records body : List ℕ) (c : ℕ) {r : ColumnRecord} → r ≡ record_of (batch 0 records []) c → r ≡ record_of (batch rows records body) c
unfolding record_of
record_any rows records body c e = e

module _ (s : BatchCoalescer) (slots pool books : List ℕ) (rows : ℕ) (records body : List ℕ) (c slot at from n : ℕ) {r : ColumnRecord}
    (own : r ≡ record_of (batch rows records body) c) where
  -- t is what the code has left in the slots
  pub bits-copied : {begin size : ℕ} {t : List ℕ} → begin ≡ bitmap_place s slot c → size ≡ bitmap_bytes s → t ≡ lay begin (appended (read begin size slots) at (bits_of r body from) n) slots → world s t pool books ≡ bits_copied (world s slots pool books) (batch rows records body) slot (span c at from n)
  unfolding bits_copied bits_laid
  bits-copied p q e = ap (λ (x : List ℕ). world s x pool books) e ∙ rw (p, q, own)

  pub values_copied_lem : {to w : ℕ} {t : List ℕ} → to ≡ cell_place s slot c at → w ≡ width_of s c → t ≡ lay to (read (r.values + from * w) (n * w) body) slots → world s t pool books ≡ values_copied (world s slots pool books) (batch rows records body) slot (span c at from n)
  unfolding values_copied values_laid
  values_copied_lem p q e = ap (λ (x : List ℕ). world s x pool books) e ∙ rw (p, q, own)
