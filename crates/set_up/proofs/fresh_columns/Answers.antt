-- `set_up::fresh_columns` meets its contract.
use Rattle.std.proofs.Common.{rules, arith}
use Rattle.rules.specs.Calls.{of_kind}
use Rattle.set_up.specs.SetUp.{kind_at}
use Rattle.set_up.specs.SetUpLaws.{columns_all, made_each}
use Rattle.set_up.proofs.fresh_columns.Goals as goal

pub returns : goal.returns
returns c =
    columns_all c.args.columns c.args.kinds c.from_fn.ensures.items.long
    (λ i h. made_each _ 0 16 c.from_fn.ensures.items.each (λ k. of_kind (kind_at c.args.columns c.args.kinds k)) (λ k y q z. search rules) i (omega arith) h (of_kind 0))
