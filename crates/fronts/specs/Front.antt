-- Where the columns of the front batch stand in the lent slots, for a reader that takes them whole. Added by the port: 01 reads a batch row by row.
use Rattle.std.specs.Prelude.{ℕ, zero, suc, ◌+◌, ◌*◌, ◌/◌, ◌%◌, Bool, cond, List, length, ltb, eqb}
use Rattle.words.specs.Word.{word32, with_word32}
use Rattle.bits.specs.Bits.{bits_from}
use Rattle.views.specs.declared.View.{View}
use Rattle.views.specs.View.{view_of, is_inline}
use Rattle.state.specs.declared.Place.{Place}
use Rattle.state.specs.declared.RowAnswer.{RowAnswer}
use Rattle.state.specs.World.{World}
use Rattle.state.specs.Layout.{width_of, bitmap_place, list_place, cell_place, rows_in, list_length}
use Rattle.state.specs.Rows.{front_slot}
use Rattle.rules.specs.Ranges.{tested}

-- 1 and 14 as in every call; 13: "read of a row .. that isn't there", where nothing is queued
unfoldable pub front_refusal : World → ℕ
front_refusal w = cond (eqb (tested w) 0) (cond (eqb w.state.queued 0) 13 0) (tested w)

-- the rows of the front batch
unfoldable pub front_rows : World → ℕ
front_rows w = cond (eqb (front_refusal w) 0) (rows_in w (front_slot w)) 0

-- a column of it: where its values begin in the slots, its bitmap and its list, how many numbers the list has, and the bytes of a row
pub record FrontColumn : Type 0 where
  pub values : ℕ
  pub bitmap : ℕ
  pub list : ℕ
  pub count : ℕ
  pub width : ℕ

unfoldable pub front_column : World → ℕ → FrontColumn
front_column w c =
    record {
      values = cell_place w.state (front_slot w) c 0;
      bitmap = bitmap_place w.state (front_slot w) c;
      list = list_place w.state (front_slot w) c;
      count = list_length w (front_slot w) c;
      width = width_of w.state c;
    }

-- ---- what a row shows through these places

unfoldable pub view_through : List ℕ → FrontColumn → ℕ → View → RowAnswer
view_through slots f at v =
    cond (is_inline v) (RowAnswer.Value (Place.InRow (at + 4) (record { 0 = v.length })))
    (cond (ltb v.index f.count)
    (RowAnswer.Value (Place.InBuffer (record { 0 = word32 slots (f.list + 4 * v.index) }) v.offset (record { 0 = v.length })))
    (RowAnswer.Refused 13))

unfoldable pub row_through : List ℕ → Bool → FrontColumn → ℕ → RowAnswer
row_through slots views f i =
    cond (eqb (bits_from slots f.bitmap 0 i) 0) RowAnswer.Null
    (cond views
    (view_through slots f (f.values + i * f.width) (view_of slots (f.values + i * f.width)))
    (RowAnswer.Value (Place.InRow (f.values + i * f.width) (record { 0 = f.width }))))

-- ---- in bytes: 32 for each column

-- a place in 8 bytes, low word first
unfoldable pub with_long : List ℕ → ℕ → ℕ → List ℕ
with_long out at v = with_word32 (with_word32 out at (v % 4294967296)) (at + 4) (v / 4294967296)

-- values, bitmap and list, 8 bytes each
unfoldable pub places_put : List ℕ → ℕ → ℕ → ℕ → ℕ → List ℕ
places_put out at values bitmap list = with_long (with_long (with_long out at values) (at + 8) bitmap) (at + 16) list

-- and the list's count and the width, a word each
unfoldable pub column_put : List ℕ → ℕ → FrontColumn → List ℕ
column_put out at f =
    with_word32 (with_word32 (places_put out at f.values f.bitmap f.list) (at + 24) f.count) (at + 28) f.width

-- the first n columns
unfoldable pub columns_put : World → List ℕ → ℕ → List ℕ
columns_put w out zero = out
columns_put w out (suc n) = column_put (columns_put w out n) (32 * n) (front_column w n)

-- ---- the call: `out` has 512 bytes, 32 for each of 16 columns; else 1. A refusal leaves it

pub record FrontAnswer : Type 0 where
  pub number : ℕ
  pub rows : ℕ
  pub out : List ℕ

unfoldable pub front_call : World → List ℕ → FrontAnswer
front_call w out =
    cond (eqb (length out) 512)
    (record {
      number = front_refusal w;
      rows = front_rows w;
      out = cond (eqb (front_refusal w) 0) (columns_put w out w.state.columns) out;
    })
    (record { number = 1; rows = 0; out = out })
