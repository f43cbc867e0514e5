-- A part of a pushed column copied into blocks.
use Prim.Native.Nat.{ℕ, ◌+◌, ◌-◌, ◌≤◌, ◌<◌}
use Rattle.std.specs.Prelude.{◌≡◌, true, List, [], ◌∷◌, leb}
use Rattle.std.proofs.Common.{arith}
use borrow.Author.Tests.{leb-true}
use Rattle.state.specs.World.{World}
use Rattle.state.specs.Layout.{is_views}
use Rattle.rules.specs.Batch.{Batch, ideal}
use Rattle.rules.specs.Views.{span, is_open, open_rest, closed, block_opened, long_before, views_compacted, walked, part_compacted}
use Rattle.rules.specs.Held.{Among, Holds, holds_more, holds_bind, holds_cond, holds_among}
use Rattle.rules.specs.SameLaws.{same_long_before}
use Rattle.rules.proofs.PartLaws.{closed_beside, opened_holds, views_holds}
use Rattle.push_safety.specs.Run.{Run, Goes}
use Rattle.push_safety.specs.SumLaws.{before_more, part_ideal, walked_most, walked-rest}
use Rattle.push_safety.specs.BlockGoes.{closed_goes}
use Rattle.push_safety.specs.OpenGoes.{opened_anew, compacted_goes}
use Rattle.push_safety.specs.Along.{Along, along_refl, along_trans, holds_both, holds_along, along_holds, along_in, along_views}

abbrev parts : List ℕ
parts = 8 ∷ 10 ∷ 11 ∷ 12 ∷ 14 ∷ []

-- a new block in column c of a world further on
record FreshBlock (w : World) (c min : ℕ) (u : World) : Type 0 where
  along : Along w u
  is_open_lem : is_open u c ≡ true
  rest : min ≤ open_rest u c

module _ (w : World) (b : Batch) (c : ℕ) (h : c < w.state.columns) (y : is_views w.state c ≡ true) where
  opens : (v : World) (min : ℕ) → Along w v → Holds (FreshBlock w c min) (Among parts) (block_opened v c min)
  opens v min a =
      holds_among parts tt
      (holds_more (holds_both (opened_anew v c min a.goes.run (along_in a.beside c h) (along_views a.beside c y)) (opened_holds v c min))
      (λ u p. record { along = along_trans a (record { goes = p.0.goes; beside = p.1 }); is_open_lem = p.0.is_open_lem; rest = p.0.rest })
      (λ n m. m))

  copies : (v : World) (at from n : ℕ) → Along w v → is_open v c ≡ true → long_before w b c from n ≤ open_rest v c → Holds (Goes w) (Among parts) (views_compacted v b (span c at from n))
  copies v at from n a o l =
      holds_among parts tt
      (along_holds a.goes
      (compacted_goes v b c at from n a.goes.run (along_in a.beside c h) (along_views a.beside c y) o
      (omega (arith, l, same_long_before w v b a.beside.set_up c from n))))

  part_compacts : (at from n : ℕ) → Run w → from + n ≤ b.rows → Holds (Goes w) (Among (8 ∷ 10 ∷ 11 ∷ 12 ∷ 14 ∷ [])) (part_compacted w b (span c at from n))
  unfolding part_compacted
  part_compacts at from n r l =
      holds_cond (is_open w c)
      (λ o. holds_cond (leb (ideal w b c) (open_rest w c))
      (λ q. copies w at from n (along_refl r) o (omega (arith, leb-true (ideal w b c) (open_rest w c) q, part_ideal w b c from n l)))
      (λ q. holds_bind _ (holds_along (copies w at from k (along_refl r) o (walked-rest w b c from n (open_rest w c))) (views_holds w b c at from k)) (λ v p.
      holds_bind _ (opens (closed v c) _ (along_trans p (shuts v p))) (λ u f.
      copies u _ _ _ f.along f.is_open_lem (omega (arith, f.rest, behind))))))
      (λ o. holds_bind _ (opens w (ideal w b c) (along_refl r)) (λ v f.
      copies v at from n f.along f.is_open_lem (omega (arith, f.rest, part_ideal w b c from n l))))
    where
      k : ℕ
      k = walked w b c from n (open_rest w c)

      shuts : (v : World) → Along w v → Along v (closed v c)
      shuts v p =
          record { goes = closed_goes v c p.goes.run (along_in p.beside c h) (along_views p.beside c y); beside = closed_beside v c }

      behind : long_before w b c (from + k) (n - k) ≤ ideal w b c - long_before w b c from k
      behind =
          let e : k + (n - k) ≡ n = omega (arith, walked_most w b c from n (open_rest w c)) in
          let s : long_before w b c from n ≡ long_before w b c from k + long_before w b c (from + k) (n - k) = rw e at (before_more w b c from k (n - k)) in
          omega (arith, part_ideal w b c from n l)

pub part_compacted_goes : (w : World) (b : Batch) (c at from n : ℕ) → Run w → c < w.state.columns → is_views w.state c ≡ true → from + n ≤ b.rows → Holds (Goes w) (Among (8 ∷ 10 ∷ 11 ∷ 12 ∷ 14 ∷ [])) (part_compacted w b (span c at from n))
part_compacted_goes w b c at from n r h y l = part_compacts w b c h y at from n r l
