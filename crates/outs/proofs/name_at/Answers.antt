-- `outs::name_at` meets its contract.
use borrow.Author.Rules.{rules}
use native.Mathlib.Omega.{arith}
use Rattle.outs.specs.SideLaws.{coded-length, coded-seven, coded_word}
use Rattle.outs.proofs.ReadExits.{name_lent}
use Rattle.outs.proofs.name_at.Goals as goal

pub overflow_mul-i : goal.overflow_mul-i
overflow_mul-i c = omega (arith, coded-seven _ c.requires.0)

pub overflow_add-i : goal.overflow_add-i
overflow_add-i c = omega (arith, coded-seven _ c.requires.0)

pub get32-n-requires : goal.get32-n-requires
get32-n-requires c = omega (arith, coded-length _ c.requires.0, coded-seven _ c.requires.0)

pub overflow_mul-from : goal.overflow_mul-from
overflow_mul-from c = omega (arith, coded-seven _ c.requires.0)

pub overflow_add-from : goal.overflow_add-from
overflow_add-from c = omega (arith, coded-seven _ c.requires.0)

pub overflow_add-end : goal.overflow_add-end
overflow_add-end c = omega (arith, coded-seven _ c.requires.0, coded_word _ c.requires.0 c.args.i c.requires.1)

pub slice_bounds-result-end : goal.slice_bounds-result-end
slice_bounds-result-end c = omega (arith, coded-length _ c.requires.0, coded-seven _ c.requires.0, coded_word _ c.requires.0 c.args.i c.requires.1)

pub returns : goal.returns
returns c = search (name_lent, rules)
