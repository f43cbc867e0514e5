-- A part of a pushed column copied, whichever way; and a part of every column.
use Rattle.std.specs.Prelude.{ℕ, ◌+◌, ◌≤◌, ◌<◌, ◌≡◌, refl, Bool, true, false, cond, List, [], ◌∷◌}
use Rattle.state.specs.World.{World}
use Rattle.state.specs.Layout.{is_views}
use Rattle.rules.specs.declared.Way.{Way}
use Rattle.rules.specs.Batch.{Batch, way}
use Rattle.rules.specs.Views.{span, filling, bits_copied, by_way, column_copied, part_copied}
use Rattle.rules.specs.Push.{part_taken}
use Rattle.rules.specs.Held.{Among, Holds, held, holds_more, holds_bind, holds_each, holds_among}
use Rattle.rules.proofs.PartLaws.{bits_beside, column_holds}
use Rattle.push_safety.specs.Run.{Run, Readable, Goes}
use Rattle.push_safety.specs.Firm.{goes_trans}
use Rattle.push_safety.specs.StepGoes.{bits_goes, values_goes, buffering_goes}
use Rattle.push_safety.specs.Along.{Along, along_refl, along_trans, holds_along, along_holds, along_in, along_views}
use Rattle.push_safety.specs.CompactGoes.{part_compacted_goes}
use Rattle.push_safety.specs.AttachGoes.{part_attached_goes}

abbrev parts : List ℕ
parts = 8 ∷ 10 ∷ 11 ∷ 12 ∷ 14 ∷ []

-- a part of a column, by its way: views go any, other columns are copied
by_way_lem : (w : World) (b : Batch) (c at from n : ℕ) (z : Way) → Run w → Readable w b → c < w.state.columns → is_views w.state c ≡ true → from + n ≤ b.rows → Holds (Goes w) (Among parts) (by_way w b (span c at from n) z)
by_way_lem w b c at from n Way.Copied r x h y l = held (values_goes b c (filling w) at from n r)
by_way_lem w b c at from n Way.Attached r x h y l = holds_among parts tt (part_attached_goes w b c at from n r x h y)
by_way_lem w b c at from n Way.Compacted r x h y l = part_compacted_goes w b c at from n r h y l

pub column_goes : (w₀ w : World) (b : Batch) (c from n : ℕ) → Run w → Readable w b → c < w.state.columns → from + n ≤ b.rows → Holds (Goes w) (Among (8 ∷ 10 ∷ 11 ∷ 12 ∷ 14 ∷ [])) (column_copied w₀ w b c from n)
unfolding column_copied
column_goes w₀ w b c from n r x h l = go (is_views w.state c) refl
  where
    v : World
    v = bits_copied w b (filling w) (span c w.state.buffered.0 from n)

    a : Along w v
    a = record { goes = bits_goes b c (filling w) w.state.buffered.0 from n r; beside = bits_beside w b c (filling w) w.state.buffered.0 from n }

    go : (y : Bool) → is_views w.state c ≡ y → Holds (Goes w) (Among parts) (by_way v b (span c w.state.buffered.0 from n) (cond y (way w₀ b c) Way.Copied))
    go true y =
        along_holds a.goes
        (by_way_lem v b c w.state.buffered.0 from n (way w₀ b c) a.goes.run (a.goes.reads b x) (along_in a.beside c h) (along_views a.beside c y) l)
    go false y = along_holds a.goes (held (values_goes b c (filling v) w.state.buffered.0 from n a.goes.run))

-- a part of every column; and the rows then buffered
pub part_along : (w₀ w : World) (b : Batch) (from n : ℕ) → Run w → Readable w b → from + n ≤ b.rows → Holds (Along w) (Among (8 ∷ 10 ∷ 11 ∷ 12 ∷ 14 ∷ [])) (part_copied w₀ w b from n)
unfolding part_copied
part_along w₀ w b from n r x l =
    holds_each w.state.columns (λ v c. column_copied w₀ v b c from n) w (along_refl r)
    (λ v c h a. holds_more
    (holds_along (column_goes w₀ v b c from n a.goes.run (a.goes.reads b x) (along_in a.beside c h) l) (column_holds w₀ v b c from n))
    (λ u p. along_trans a p)
    (λ k m. m))

pub part_goes : (w₀ w : World) (b : Batch) (from n : ℕ) → Run w → Readable w b → from + n ≤ b.rows → Holds (Goes w) (Among (8 ∷ 10 ∷ 11 ∷ 12 ∷ 14 ∷ [])) (part_copied w₀ w b from n)
part_goes w₀ w b from n r x l = holds_more (part_along w₀ w b from n r x l) (λ v a. a.goes) (λ k m. m)

pub taken_goes : (w₀ w : World) (b : Batch) (from n : ℕ) → Run w → Readable w b → from + n ≤ b.rows → Holds (Goes w) (Among (8 ∷ 10 ∷ 11 ∷ 12 ∷ 14 ∷ [])) (part_taken w₀ w b from n)
unfolding part_taken
taken_goes w₀ w b from n r x l =
    holds_bind _ (part_goes w₀ w b from n r x l) (λ v g. held (goes_trans g (buffering_goes _ g.run)))
