-- `outs::is_strip` meets its contract.
use borrow.Author.Rules.{rules}
use Rattle.outs.specs.TestLaws.{bytes-known}
use Rattle.outs.specs.StripTests.{strip-all, strip_not_first, strip_not_last}
use Rattle.outs.proofs.is_strip.Goals as goal
use Rattle.outs.proofs.is_strip.Goals.{then-is_last, else-is_last}

pub returns-then-is_side : goal.returns-then-is_side
returns-then-is_side c =
    elim c.if-is_last.branch [
      | then-is_last w ↦ search (strip-all, bytes-known {s = c.args.strip.now} c.type_inv.strip, rules)
      | else-is_last w ↦ search rules
    ]

pub returns-else-is_side : goal.returns-else-is_side
returns-else-is_side c =
    elim c.if-is_last.branch [ then-is_last w ↦ search (strip_not_first, rules) | else-is_last w ↦ search (strip_not_last, rules) ]
