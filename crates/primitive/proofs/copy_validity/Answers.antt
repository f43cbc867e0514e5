-- `primitive::copy_validity` meets its contract.
use native.Mathlib.Omega.{arith}
use borrow.Author.Rules.{rules}
use Rattle.primitive.specs.LaidLaws.{bitmap_there, rows_there, bits_in, ones-laid, bits-laid}
use Rattle.primitive.proofs.copy_validity.Goals as goal

pub slice_bounds-append_ones-end : goal.slice_bounds-append_ones-end
slice_bounds-append_ones-end c = search (bitmap_there, rules)

pub append_ones-requires : goal.append_ones-requires
append_ones-requires c = (search (rows_there, rules), omega arith)

pub returns-then-r-eq-NO_VALIDITY : goal.returns-then-r-eq-NO_VALIDITY
returns-then-r-eq-NO_VALIDITY c = search (ones-laid, rules)

pub slice_bounds-append_bits-end : goal.slice_bounds-append_bits-end
slice_bounds-append_bits-end c = search (bitmap_there, rules)

pub append_bits-requires : goal.append_bits-requires
append_bits-requires c = (search (rows_there, rules), search (bits_in, rules), omega arith, omega arith)

pub returns : goal.returns
returns c = search (bits-laid, rules)
