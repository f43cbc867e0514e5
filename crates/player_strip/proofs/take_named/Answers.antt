-- `player_strip::take_named` meets its contract.
use Rattle.player_strip.specs.RowExits.{named_number, named_took}
use borrow.Author.Rules.{rules}
use Rattle.player_strip.proofs.take_named.Goals as goal

pub returns : goal.returns
returns c = (search (named_number, rules), search (named_took, rules))
