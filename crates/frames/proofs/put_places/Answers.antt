-- `frames::put_places` meets its contract.
use borrow.Author.Rules.{rules}
use Rattle.frames.specs.BlockLaws.{places_none, places_more, places_all}
use Rattle.frames.proofs.put_places.Goals as goal

pub loop-i-init : goal.loop-i-init
loop-i-init c = search (places_none, rules)

pub loop-i-preserved : goal.loop-i-preserved
loop-i-preserved c = search (places_more, rules)

pub returns : goal.returns
returns c = search (places_all, rules)
