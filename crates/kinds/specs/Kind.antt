-- The kinds of columns: 01's table of numbers, types and widths.
use Rattle.std.specs.Prelude.{ℕ, zero, suc, ◌/◌, Bool, true, false, List, [], ◌∷◌}
use Rattle.std.specs.Prelude.{Option, None, Some}

-- the types of 01's table
pub data Kind : Type 0 where
  int8 int16 int32 int64 uint8 uint16 uint32 uint64 float16 float32 float64 : Kind
  date32 date64 timestamp duration decimal128 decimal256 utf8View binaryView : Kind

-- 01's table: "kind | type", in the order of the numbers, which begin at 1
abbrev pub kinds : List Kind
kinds =
    int8 ∷ int16 ∷ int32 ∷ int64 ∷ uint8 ∷ uint16 ∷ uint32 ∷ uint64 ∷ float16 ∷ float32 ∷ float64 ∷ date32 ∷ date64
    ∷ timestamp ∷ duration ∷ decimal128 ∷ decimal256 ∷ utf8View ∷ binaryView ∷ []

-- how the Format lays a row out: a value of so many bits ("Fixed-size primitive layout"), or a view ("Variable-size
-- binary view layout")
pub data Layout : Type 0 where
  fixed : ℕ → Layout
  view : Layout

abbrev pub layout_of : Kind → Layout
layout_of int8 = fixed 8
layout_of int16 = fixed 16
layout_of int32 = fixed 32
layout_of int64 = fixed 64
layout_of uint8 = fixed 8
layout_of uint16 = fixed 16
layout_of uint32 = fixed 32
layout_of uint64 = fixed 64
layout_of float16 = fixed 16
layout_of float32 = fixed 32
layout_of float64 = fixed 64
layout_of date32 = fixed 32
layout_of date64 = fixed 64
layout_of timestamp = fixed 64
layout_of duration = fixed 64
layout_of decimal128 = fixed 128
layout_of decimal256 = fixed 256
layout_of utf8View = view
layout_of binaryView = view

-- the bytes of one row. Format: a view is 16 bytes
abbrev pub bytes_of : Layout → ℕ
bytes_of (fixed bits) = bits / 8
bytes_of view = 16

abbrev pub shown : Layout → Bool
shown (fixed bits) = false
shown view = true

-- the kind at a place of a list, if there is one
abbrev pub place : List Kind → ℕ → Option Kind
place [] i = None
place (k ∷ ks) zero = Some k
place (k ∷ ks) (suc i) = place ks i

-- the kind with a number, if there is one
unfoldable pub kind_of : ℕ → Option Kind
kind_of zero = None
kind_of (suc i) = place kinds i

abbrev pub width_in : Option Kind → Option ℕ
width_in None = None
width_in (Some k) = Some (bytes_of (layout_of k))

-- what the table says of a number. 01: "kind | type | width"
unfoldable pub width_at : ℕ → Option ℕ
width_at n = width_in (kind_of n)

abbrev pub view_in : Option Kind → Bool
view_in None = false
view_in (Some k) = shown (layout_of k)

-- whether the number is that of a kind of views. 01: "18 Utf8View", "19 BinaryView"
unfoldable pub is_view : ℕ → Bool
is_view n = view_in (kind_of n)
