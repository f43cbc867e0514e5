-- `frames::put_last` meets its contract.
use Rattle.frames.specs.PieceLaws.{last_none, last_some}
use Rattle.frames.proofs.put_last.Goals as goal

pub returns-in-None : goal.returns-in-None
returns-in-None c = last_none _ _ c.in-None.ensures c.put_text.ensures

pub returns-in-Some : goal.returns-in-Some
returns-in-Some c = last_some _ _ c.in-Some.ensures c.put_number.ensures
