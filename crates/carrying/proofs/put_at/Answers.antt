-- `carrying::put_at` meets its contract.
use borrow.Author.Rules.{rules}
use Rattle.pool.specs.CarryLaws.{put_part}
use Rattle.carrying.proofs.put_at.Goals as goal

pub returns : goal.returns
returns c = search (put_part, rules)
