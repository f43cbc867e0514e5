-- Where the columns of the slot being filled begin, one after another.
use Rattle.std.specs.Prelude.{ℕ, ◌+◌, ◌≤◌, ◌<◌, ◌≡◌, get_or}
use Rattle.std.proofs.Math.Path.{refl}
use Rattle.std.proofs.Common.{arith, Fits}
use Rattle.std.specs.Int.{w64}
use Rattle.state.specs.declared.BatchCoalescer.{BatchCoalescer}
use Rattle.state.specs.World.{no_column}
use Rattle.state.specs.Layout.{columns_bytes, values_place}
use Rattle.layout.specs.Few.{Few, size_of_kind}
use Rattle.layout.specs.ExitLaws.{column_kind}
use Rattle.primitive.specs.PlacedLaws.{places_small}

module _ (s : BatchCoalescer) {c place : ℕ} (f : Few s) (h : s.place ≤ s.queue) (l : c < s.columns) (e : place ≡ values_place s s.place c) where
  pub place-column : c < 16
  place-column = omega (arith, f.columns)

  pub place-fits : {r : ℕ} → r ≤ 2109440 → Fits w64 (place + r)
  place-fits m =
      record { fits = omega (arith, e, places_small s s.place c f (omega (arith, f.queue)) (omega (arith, place-column))) }

  pub place-more : {r : ℕ} → r ≡ size_of_kind (get_or s.column c no_column).kind s.rows.0 s.lists → place + r ≡ values_place s s.place (c + 1)
  unfolding values_place
  place-more {r} q =
      let b : columns_bytes s c + r ≡ columns_bytes s (c + 1) = column_kind s c refl q in omega (arith, e, b)
