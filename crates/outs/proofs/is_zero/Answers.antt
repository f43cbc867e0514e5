-- `outs::is_zero` meets its contract.
use Rattle.std.specs.Prelude.{◌≡◌}
use borrow.Author.Rules.{rules}
use borrow.Author.Tests.{tests}
use Rattle.std.proofs.lemmas.Iterator.{cases_from_all, YieldsList-from_slice}
use Rattle.outs.specs.TestLaws.{zero_answer}
use Rattle.outs.proofs.is_zero.Goals as goal

pub returns : goal.returns
returns c =
    zero_answer c.args.part.now
    (cases_from_all _ _ _ (λ x. x ≡ 0) (λ x. x ≡ 0 → ⊥) c.all.ensures.ran (YieldsList-from_slice c.args.part.now cc) (λ x q k. search (rules, tests)) (λ x q k. search (rules, tests)))
