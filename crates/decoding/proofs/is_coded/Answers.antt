-- `decoding::is_coded` meets its contract.
use Rattle.std.proofs.Common.{◌≡◌, arith, rules, tests, true, false}
use Rattle.std.proofs.lemmas.Iterator.{cases_from_all, YieldsList-from_range}
use Rattle.codes.specs.Code.{is_column_coded}
use Rattle.decoding.specs.ReadLaws.{every_all, coded_columns, coded_not_limit}
use Rattle.decoding.proofs.is_coded.Goals as goal

pub returns-then-is_flagged : goal.returns-then-is_flagged
returns-then-is_flagged c =
    let p = is_column_coded c.args.bytes.now in
    let k = every_all p 16 c.all.result
    (cases_from_all _ _ _ (λ i. p i ≡ true) (λ i. p i ≡ false) c.all.ensures.ran (YieldsList-from_range 0 16 16 (cc) (omega arith))
    (λ i q k. search (rules, tests)) (λ i q k. search (rules, tests))) in
    search (coded_columns, k, rules)

pub returns-else-is_flagged : goal.returns-else-is_flagged
returns-else-is_flagged c = search (coded_not_limit, rules)
