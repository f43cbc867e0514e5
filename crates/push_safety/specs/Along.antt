-- From one world of a push to a later one with the same set-up and counts.
use Rattle.std.specs.Prelude.{ℕ, ◌<◌, ◌≡◌, true}
use Rattle.std.proofs.Common.{◌∙◌, arith}
use Rattle.state.specs.World.{World}
use Rattle.state.specs.Layout.{is_views}
use Rattle.rules.specs.Steps.{Res}
use Rattle.rules.specs.Held.{Holds, held, refused, says, holds_more}
use Rattle.rules.specs.Stays.{Beside, beside_refl, beside_trans}
use Rattle.rules.specs.SameLaws.{same_views}
use Rattle.push_safety.specs.Run.{Run, Goes}
use Rattle.push_safety.specs.Firm.{goes_refl, goes_trans}

-- it goes on, and set-up and counts stay
pub record Along (w v : World) : Type 0 where
  pub goes : Goes w v
  pub beside : Beside w v

pub along_refl : {w : World} → Run w → Along w w
along_refl {w} r = record { goes = goes_refl r; beside = beside_refl w }

pub along_trans : {w v u : World} → Along w v → Along v u → Along w u
along_trans a b = record { goes = goes_trans a.goes b.goes; beside = beside_trans a.beside b.beside }

-- two things of one result
pub holds_both : {P Q : World → Type 0} {N M : ℕ → Type 0} {r : Res} → Holds P N r → Holds Q M r → Holds (λ v. P v × Q v) N r
holds_both (held p) h = held (p, says h)
holds_both (refused n) h = refused n

pub holds_along : {w : World} {N M : ℕ → Type 0} {r : Res} → Holds (Goes w) N r → Holds (Beside w) M r → Holds (Along w) N r
holds_along g b = holds_more (holds_both g b) (λ v p. record { goes = p.0; beside = p.1 }) (λ n m. m)

-- a step behind another
pub along_holds : {w v : World} {N : ℕ → Type 0} {r : Res} → Goes w v → Holds (Goes v) N r → Holds (Goes w) N r
along_holds a h = holds_more h (λ u g. goes_trans a g) (λ n m. m)

-- a column of the one is a column of the other
module _ {w v : World} (a : Beside w v) (c : ℕ) where
  pub along_in : c < w.state.columns → c < v.state.columns
  along_in h = omega (arith, a.set_up.columns)

  pub along_views : is_views w.state c ≡ true → is_views v.state c ≡ true
  along_views y = same_views a.set_up c ∙ y
