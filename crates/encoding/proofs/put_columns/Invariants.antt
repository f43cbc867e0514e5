-- `encoding::put_columns` meets its contract: what its loop keeps.
use Prim.Native.Nat.{◌+◌, ◌*◌}
use mathlib.Core.List.{◌++◌}
use mathlib.Core.Path.{◌≡◌}
use lib.ListN.{length, take}
use Rattle.codes.specs.Code.{columns_words, bytes_of}
use Rattle.encoding.proofs.put_columns.Given as goal

abbrev pub invariant-loop-c : goal.invariant-loop-c
invariant-loop-c l = (l.column-items ≡ l.fn.s.column) × (length l.bytes ≡ length l.initial.bytes) × (take (48 + 16 * l.c) l.bytes ≡ take 48 l.initial.bytes ++ bytes_of (columns_words l.fn.s l.c))
