-- `views::is_padded` meets its contract.
use Rattle.std.proofs.Common.{sym, ◌∙◌, rules}
use Rattle.views.specs.PadLaws.{padded-first, padded_second, padded_third}
use Rattle.views.proofs.is_padded.Goals as goal
use Rattle.views.proofs.is_padded.Goals.{then-clear_from, else-clear_from}

pub returns-then-clear_from-2 : goal.returns-then-clear_from-2
returns-then-clear_from-2 c = search (padded_third, rules)

pub returns-else-clear_from-2 : goal.returns-else-clear_from-2
returns-else-clear_from-2 c =
    c.if-clear_from-2.false
    ∙ elim c.if-clear_from.branch [
      | then-clear_from w ↦ padded_second _ c.clear_from.ensures w.if-clear_from.true w.saturating_sub.ensures w.clear_from-then-clear_from.ensures (sym w.value-is ∙ c.if-clear_from-2.false)
      | else-clear_from w ↦ padded-first _ c.clear_from.ensures w.if-clear_from.false
    ]
