-- What each number of a refused row says, as the code lays it: a law an exit.
use Rattle.std.specs.Prelude.{ℕ, ◌≤◌, ◌≡◌, List, length}
use Rattle.std.proofs.Common.{subst}
use borrow.Author.Tests.{ne_eqb}
use Rattle.frames.specs.Text.{text}
use Rattle.frames.specs.Frame.{reason_text}
use Rattle.frames.specs.Laid.{Laid, laid_more}

module _ (n : ℕ) where
  -- the words of each number
  pub reason_31 : n ≡ 31 → text "side, event, number or name null or out of range" ≡ reason_text n
  unfolding reason_text
  reason_31 e = rw e

  pub reason_32 : n ≡ 32 → text "row number not above the last accepted row's" ≡ reason_text n
  unfolding reason_text
  reason_32 e = rw e

  pub reason_33 : n ≡ 33 → text "an eighth out" ≡ reason_text n
  unfolding reason_text
  reason_33 e = rw e

  pub reason_34 : n ≡ 34 → text "revive with nobody out" ≡ reason_text n
  unfolding reason_text
  reason_34 e = rw e

  pub reason_35 : n ≡ 35 → text "a name already out on that side" ≡ reason_text n
  unfolding reason_text
  reason_35 e = rw e

  -- any other number
  pub reason_other : (n ≡ 31 → ⊥) → (n ≡ 32 → ⊥) → (n ≡ 33 → ⊥) → (n ≡ 34 → ⊥) → (n ≡ 35 → ⊥) → text "not accepted" ≡ reason_text n
  unfolding reason_text
  reason_other a b c d e = rw (ne_eqb n 31 a, ne_eqb n 32 b, ne_eqb n 33 c, ne_eqb n 34 d, ne_eqb n 35 e)

-- the words laid
pub reason_laid : (s : List ℕ) (n : ℕ) {at r : ℕ} {a t : List ℕ} → a ≡ reason_text n → length a ≤ 48 → Laid (length a) at a s t r → Laid 48 at (reason_text n) s t r
reason_laid s n {at} {r} {a} {t} e h l = subst (λ (b : List ℕ). Laid 48 at b s t r) e (laid_more l h)
