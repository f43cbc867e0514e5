-- `frames::put_player` meets its contract.
use borrow.Author.Rules.{rules}
use Rattle.frames.specs.PieceLaws.{player_laid}
use Rattle.frames.proofs.put_player.Goals as goal

pub returns : goal.returns
returns c = search (player_laid, rules)
