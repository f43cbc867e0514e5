-- `match_rows::places_in` meets its contract.
use Rattle.match_rows.specs.ExitLaws.{numbers_small, places_are}
use native.Mathlib.Omega.{arith}
use borrow.Author.Rules.{rules}
use Rattle.match_rows.proofs.places_in.Goals as goal

pub overflow_mul-numbers-4 : goal.overflow_mul-numbers-4
overflow_mul-numbers-4 c = omega (arith, numbers_small c.args.slot c.args.rows c.args.lists c.requires.0 c.requires.1 c.requires.2)

pub overflow_add-sides : goal.overflow_add-sides
overflow_add-sides c = omega (arith, numbers_small c.args.slot c.args.rows c.args.lists c.requires.0 c.requires.1 c.requires.2)

pub overflow_add-sides-2 : goal.overflow_add-sides-2
overflow_add-sides-2 c = omega (arith, numbers_small c.args.slot c.args.rows c.args.lists c.requires.0 c.requires.1 c.requires.2)

pub overflow_add-events : goal.overflow_add-events
overflow_add-events c = omega (arith, numbers_small c.args.slot c.args.rows c.args.lists c.requires.0 c.requires.1 c.requires.2)

pub overflow_add-events-2 : goal.overflow_add-events-2
overflow_add-events-2 c = omega (arith, numbers_small c.args.slot c.args.rows c.args.lists c.requires.0 c.requires.1 c.requires.2)

pub overflow_add-names : goal.overflow_add-names
overflow_add-names c = omega (arith, numbers_small c.args.slot c.args.rows c.args.lists c.requires.0 c.requires.1 c.requires.2)

pub overflow_add-names-2 : goal.overflow_add-names-2
overflow_add-names-2 c = omega (arith, numbers_small c.args.slot c.args.rows c.args.lists c.requires.0 c.requires.1 c.requires.2)

pub overflow_add-list : goal.overflow_add-list
overflow_add-list c = omega (arith, numbers_small c.args.slot c.args.rows c.args.lists c.requires.0 c.requires.1 c.requires.2)

pub overflow_add-list-2 : goal.overflow_add-list-2
overflow_add-list-2 c = omega (arith, numbers_small c.args.slot c.args.rows c.args.lists c.requires.0 c.requires.1 c.requires.2)

pub returns : goal.returns
returns c = search (places_are, rules)
