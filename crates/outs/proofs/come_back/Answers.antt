-- `outs::come_back` meets its contract.
use borrow.Author.Rules.{rules}
use Rattle.outs.specs.MoveLaws.{came_back}
use Rattle.outs.proofs.come_back.Goals as goal

pub returns : goal.returns
returns c =
    came_back c.args.side.now c.requires.1 c.get32-count.ensures c.requires.2 c.put32.ensures c.copy_within.ensures.after (c.fill.ensures.after (λ y h. search rules))
