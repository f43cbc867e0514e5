-- `ranges::list_in_range` meets its contract.
use borrow.Author.Rules.{rules}
use Rattle.std.specs.Prelude.{◌≡◌, ◌&&◌, leb}
use Rattle.std.proofs.Common.{◌∙◌}
use Rattle.search.specs.Cases.{both_fails, both_rest}
use Rattle.ranges.specs.RangeLaws.{list-empty, list_fails, list_rest, listed_room}
use Rattle.ranges.proofs.list_in_range.Goals as goal
use Rattle.ranges.proofs.list_in_range.Goals.{then-is_views, else-is_views}

pub returns-then-count-eq0 : goal.returns-then-count-eq0
returns-then-count-eq0 c = search (list-empty, rules)

-- two: what the first two tests say
pub words_below-requires : goal.words_below-requires
words_below-requires c =
    let two : c.if-is_views.has_place ≡ (c.is_views.result && leb c.list_length-count.result c.args.s.lists) =
    elim c.if-is_views.branch [
      | then-is_views w ↦ w.has_place-is ∙ both_rest _ w.if-is_views.true
      | else-is_views w ↦ w.has_place-is ∙ w.if-is_views.false ∙ both_fails _ w.if-is_views.false
    ] in
    listed_room _ _ _ _ two c.if-has_place.true c.list_place.ensures.0 c.is_views.ensures c.requires.1 c.requires.2 c.requires.0.slots_are

pub returns-then-has_place : goal.returns-then-has_place
returns-then-has_place c =
    let two : c.if-is_views.has_place ≡ (c.is_views.result && leb c.list_length-count.result c.args.s.lists) =
    elim c.if-is_views.branch [
      | then-is_views w ↦ w.has_place-is ∙ both_rest _ w.if-is_views.true
      | else-is_views w ↦ w.has_place-is ∙ w.if-is_views.false ∙ both_fails _ w.if-is_views.false
    ] in
    list_rest _ _ _ _ _ c.list_length-count.ensures c.is_views.ensures two c.if-count-eq0.false c.if-has_place.true c.list_place.ensures.0 c.words_below.ensures

pub returns-else-has_place : goal.returns-else-has_place
returns-else-has_place c =
    let two : c.if-is_views.has_place ≡ (c.is_views.result && leb c.list_length-count.result c.args.s.lists) =
    elim c.if-is_views.branch [
      | then-is_views w ↦ w.has_place-is ∙ both_rest _ w.if-is_views.true
      | else-is_views w ↦ w.has_place-is ∙ w.if-is_views.false ∙ both_fails _ w.if-is_views.false
    ] in
    list_fails _ _ _ _ _ c.list_length-count.ensures c.is_views.ensures two c.if-count-eq0.false c.if-has_place.false
