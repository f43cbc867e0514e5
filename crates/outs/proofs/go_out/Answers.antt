-- `outs::go_out` meets its contract.
use native.Mathlib.Omega.{arith}
use borrow.Author.Rules.{rules}
use Rattle.outs.specs.MoveLaws.{went_out}
use Rattle.outs.specs.SideLaws.{name_high}
use Rattle.outs.proofs.go_out.Goals as goal

pub overflow_cast-name : goal.overflow_cast-name
overflow_cast-name c = omega (arith, name_high c.args.name.now c.requires.3)

pub put_bytes-requires : goal.put_bytes-requires
put_bytes-requires c = omega (arith, name_high c.args.name.now c.requires.3)

pub returns : goal.returns
returns c = search (went_out, rules)
