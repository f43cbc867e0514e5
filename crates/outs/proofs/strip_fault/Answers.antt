-- `outs::strip_fault` meets its contract.
use borrow.Author.Rules.{rules}
use Rattle.outs.specs.StripTests.{fault-none, fault-code, fault-length}
use Rattle.outs.proofs.strip_fault.Goals as goal

pub returns-then-is_strip : goal.returns-then-is_strip
returns-then-is_strip c = search (fault-none, rules)

pub returns-else-is_strip : goal.returns-else-is_strip
returns-else-is_strip c = search (fault-code, rules)

pub returns-else-strip-eq-STRIP_BYTES : goal.returns-else-strip-eq-STRIP_BYTES
returns-else-strip-eq-STRIP_BYTES c = search (fault-length, rules)
