-- `outs::new_strip` meets its contract.
use borrow.Author.Rules.{rules}
use Rattle.outs.specs.ClearLaws.{new-done, new-zeros, new-refused, new_stays}
use Rattle.outs.proofs.new_strip.Goals as goal

pub returns-then-strip-eq-STRIP_BYTES : goal.returns-then-strip-eq-STRIP_BYTES
returns-then-strip-eq-STRIP_BYTES c =
    (search (new-done, rules), new-zeros c.args.strip.now c.if-strip-eq-STRIP_BYTES.true (c.fill.ensures.after (λ y h. search rules)))

pub returns-else-strip-eq-STRIP_BYTES : goal.returns-else-strip-eq-STRIP_BYTES
returns-else-strip-eq-STRIP_BYTES c = (search (new-refused, rules), search (new_stays, rules))
