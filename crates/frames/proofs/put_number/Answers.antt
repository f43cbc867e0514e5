-- `frames::put_number` meets its contract.
use Prim.Native.Nat.{◌≤◌}
use borrow.Author.Rules.{rules}
use native.Mathlib.Omega.{arith}
use Rattle.frames.specs.NumberLaws.{fewest_small, number-laid}
use Rattle.frames.proofs.put_number.Goals as goal

pub put_digits-requires : goal.put_digits-requires
put_digits-requires c =
    let h : c.decimal-k.result ≤ 20 = fewest_small c.args.n c.decimal-k.result (omega arith) c.decimal-k.ensures.len in
    search rules

pub overflow_add-result : goal.overflow_add-result
overflow_add-result c =
    let h : c.decimal-k.result ≤ 20 = fewest_small c.args.n c.decimal-k.result (omega arith) c.decimal-k.ensures.len in
    search rules

pub returns : goal.returns
returns c = number-laid c.args.at c.args.n c.decimal-k.result _ _ (omega arith) c.decimal-k.ensures.in_bounds.1 c.decimal-k.ensures.len c.decimal-k.ensures.digits c.put_digits.ensures
