-- `player_strip::take_rows` meets its contract.
use native.Mathlib.Omega.{arith}
use borrow.Author.Rules.{rules}
use Rattle.player_strip.specs.AlongLaws.{along_none, along_more, along_strip, along_numbers}
use Rattle.outs.specs.TestLaws.{bytes-known}
use Rattle.std.proofs.Common.{◌∙◌}
use Rattle.player_strip.proofs.take_rows.Goals as goal

pub loop-i-init : goal.loop-i-init
loop-i-init c = (search rules, search rules, along_none _ _ _ _ _ _ c.requires.3, bytes-known c.type_inv.slots)

pub take_row-requires : goal.take_row-requires
take_row-requires c = (c.requires.0, omega (arith, c.requires.1), c.loop-i.invariant.2.coded)

pub loop-i-preserved : goal.loop-i-preserved
loop-i-preserved c = (
  search rules,
  search rules,
  along_more _ _ _ _ _ _ c.loop-i.invariant.2 c.loop-i.invariant.3 (omega (arith, c.requires.2)) (c.refusal_of.ensures ∙ c.take_row.ensures.0) c.take_row.ensures.1,
  c.loop-i.invariant.3,
)

pub returns : goal.returns
returns c =
    (along_strip _ _ _ _ _ _ c.loop-i.invariant.2 _ (omega arith) (omega arith), along_numbers _ _ _ _ _ _ c.loop-i.invariant.2 _ (omega arith) (omega arith))
