-- `frames::shown` meets its contract.
use native.Mathlib.Omega.{arith}
use Rattle.frames.specs.ShownLaws.{shown_low, shown_plain, shown_delete, shown_high, shown_hidden, shown_rest}
use Rattle.frames.proofs.shown.Goals as goal

pub returns-in-0-to-31 : goal.returns-in-0-to-31
returns-in-0-to-31 c = shown_delete _ _ (omega arith) (omega arith)

pub returns-in_default : goal.returns-in_default
returns-in_default c = shown_plain _ _ (omega arith) (omega arith)

pub returns-in-0-to-31-2 : goal.returns-in-0-to-31-2
returns-in-0-to-31-2 c = shown_low _ _ (omega arith)

pub returns-in-128-to-159 : goal.returns-in-128-to-159
returns-in-128-to-159 c = shown_hidden _ _ (omega arith) (omega arith) c.if-before-eq194.either

pub returns-in_default-2 : goal.returns-in_default-2
returns-in_default-2 c = shown_rest _ _ (omega arith) (omega arith) c.if-before-eq194.false.0 c.if-before-eq194.false.1

pub returns-in_default-3 : goal.returns-in_default-3
returns-in_default-3 c = shown_high _ _ (omega arith)
