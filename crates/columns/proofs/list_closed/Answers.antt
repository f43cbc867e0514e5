-- `columns::list_closed` meets its contract.
use borrow.Author.Rules.{rules}
use native.Mathlib.Omega.{arith}
use Rattle.columns.specs.ExitLaws.{closed_none, closed_one}
use Rattle.columns.proofs.list_closed.Goals as goal

pub returns-in-None : goal.returns-in-None
returns-in-None c = (search (closed_none, rules), omega arith)

pub returns-in-Some : goal.returns-in-Some
returns-in-Some c = (search (closed_one, rules), omega arith)
