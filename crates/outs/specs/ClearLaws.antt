-- Bytes cleared, a strip made new, the names of a side moved down: what the loops leave.
use Rattle.std.specs.Prelude.{ℕ, ◌≡◌, refl, List, length}
use Rattle.std.proofs.Common.{sym, ◌∙◌, ap, eq-eqb, ne_eqb}
use Rattle.outs.specs.Outs.{empty}
use Rattle.outs.specs.Coding.{zeros, strip_bytes, padded, word_bytes, names_code, side_code, last_code, code_of, new_fault, new_leaves}

-- ---- a new strip

empty-zeros : code_of empty ≡ zeros 972
unfolding code_of last_code side_code padded word_bytes names_code
empty-zeros = refl

pub new-done : (b : List ℕ) → length b ≡ strip_bytes → 0 ≡ new_fault b
unfolding new_fault
new-done b h = rw (eq-eqb (length b) strip_bytes h)

pub new-zeros : (b : List ℕ) {t : List ℕ} → length b ≡ strip_bytes → t ≡ zeros (length b) → t ≡ new_leaves b
unfolding new_leaves
new-zeros b h e = rw (eq-eqb (length b) strip_bytes h) (e ∙ ap zeros h ∙ sym empty-zeros)

pub new-refused : (b : List ℕ) → (length b ≡ strip_bytes → ⊥) → 1 ≡ new_fault b
unfolding new_fault
new-refused b h = rw (ne_eqb (length b) strip_bytes h)

pub new_stays : (b : List ℕ) → (length b ≡ strip_bytes → ⊥) → b ≡ new_leaves b
unfolding new_leaves
new_stays b h = rw (ne_eqb (length b) strip_bytes h)
