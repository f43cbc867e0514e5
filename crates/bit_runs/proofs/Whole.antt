-- Whole bytes that are put all at once: they are those that are put one by one.
use Rattle.std.proofs.Common.{◌≡◌, ℕ, zero, suc, ◌+◌, ◌*◌, ◌≤◌, ◌<◌, List, length, get_or, set, refl, sym, ◌∙◌, arith, add-one}
use Rattle.std.proofs.Math.Seq.{paste, paste-zero, paste-suc}
use Rattle.bits.specs.Bits.{appended}
use Rattle.bits.specs.CodeLaws.{appended-none}

-- where each byte of bs, put behind those before it, appends eight bits more of the run b, the first n bytes append 8 * n
pub whole : (d : List ℕ) (k : ℕ) (bs : List ℕ) (b : ℕ → ℕ) → k + length bs ≤ length d
    → ((i : ℕ) (t : List ℕ) → i < length bs → t ≡ appended d (8 * k) b (8 * i) → set t (k + i) (get_or bs i 0) ≡ appended d (8 * k) b (8 * (i + 1)))
    → (n : ℕ) → n ≤ length bs → paste d k bs n ≡ appended d (8 * k) b (8 * n)
whole d k bs b h step zero l = sym (paste-zero d k bs) ∙ appended-none d (8 * k) b 0 refl
whole d k bs b h step (suc n) l =
    sym (paste-suc d k bs n 0 (omega arith) (omega arith)) ∙ rw add-one at (step n _ (omega arith) (whole d k bs b h step n (omega arith)))
