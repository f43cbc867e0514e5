-- Which rows are null, in literal bytes: a bitmap that begins within a byte, a valid row and a null one.
use Rattle.std.specs.Prelude.{ℕ, ◌+◌, ◌≡◌, refl, false, List, [], ◌∷◌}
use Rattle.words.specs.Run.{read}
use Rattle.bits.specs.Bits.{bit_in, bit_at, bits_from}
use Rattle.state.specs.Rows.{Cell, null, value, up_to, cell_of}
use Rattle.rules.specs.declared.ColumnRecord.{ColumnRecord}
use Rattle.rules.specs.Batch.{has_bitmap, bit_of}

-- a column of UInt8: values from byte 1 of the body on, the bitmap as said
abbrev column : ℕ → ℕ → ColumnRecord
column validity first = record { kind = 5; values = 1; validity = validity; first = first; list = 0; count = 0; spare = 0; spare2 = 0 }

-- the two rows of such a column over the body 8, 70, 90
abbrev rows : ColumnRecord → List Cell
rows r = up_to 2 (λ i. cell_of false (bit_of r (8 ∷ 70 ∷ 90 ∷ []) i) (8 ∷ 70 ∷ 90 ∷ []) (1 + i) 1 (λ k. []))

-- byte 0 is 8: its bit 3 is 1, its bit 4 is 0. 01: "Validity is one bit a row, least significant bit first, 1 valid."
pub null_behind_valid : rows (column 0 3) ≡ value (70 ∷ []) ∷ null ∷ []
unfolding up_to cell_of bit_of has_bitmap bits_from bit_at bit_in read
null_behind_valid = refl

-- and from bit 2 on the null row comes first
pub valid_behind_null : rows (column 0 2) ≡ null ∷ value (90 ∷ []) ∷ []
unfolding up_to cell_of bit_of has_bitmap bits_from bit_at bit_in read
valid_behind_null = refl

-- 01: "start of validity, 4,294,967,295 for none": every row is valid
pub no_bitmap : rows (column 4294967295 0) ≡ value (70 ∷ []) ∷ value (90 ∷ []) ∷ []
unfolding up_to cell_of bit_of has_bitmap bits_from bit_at bit_in read
no_bitmap = refl
