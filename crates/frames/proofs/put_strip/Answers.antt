-- `frames::put_strip` meets its contract.
use borrow.Author.Rules.{rules}
use native.Mathlib.Omega.{arith}
use Rattle.outs.specs.CodingLaws.{strip-length}
use Rattle.outs.proofs.ReadExits.{first_lent, second_lent}
use Rattle.frames.specs.BlockLaws.{strip-laid}
use Rattle.frames.proofs.put_strip.Goals as goal

pub put_head-a-requires : goal.put_head-a-requires
put_head-a-requires c = (omega (arith, strip-length _ c.requires.0), search rules)

pub slice_bounds-put_side-end-2 : goal.slice_bounds-put_side-end-2
slice_bounds-put_side-end-2 c = omega (arith, strip-length _ c.requires.0)

pub put_side-b-requires : goal.put_side-b-requires
put_side-b-requires c = (search (first_lent, second_lent, rules), search rules, search rules)

pub slice_bounds-put_side-end-4 : goal.slice_bounds-put_side-end-4
slice_bounds-put_side-end-4 c = omega (arith, strip-length _ c.requires.0)

pub put_side-requires : goal.put_side-requires
put_side-requires c = (search (first_lent, second_lent, rules), search rules, search rules)

pub returns : goal.returns
returns c = search (strip-laid, rules)
