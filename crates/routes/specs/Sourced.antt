-- What is decided of every column of a batch.
use Rattle.std.specs.Prelude.{ℕ, ◌<◌, ◌≡◌, get_or}
use Rattle.byte_view.specs.declared.Source.{Source}
use Rattle.rules.specs.declared.Way.{Way}
use Rattle.rules.specs.Batch.{Batch}
use Rattle.columns.specs.Column.{source_for}
use Rattle.state.specs.World.{World}
use Rattle.routes.specs.declared.Sources.{Sources}

-- what an element past the end of the array reads as
abbrev pub no_source : Source
no_source = record { ideal = record { 0 = 0 }; way = Way.Copied }

pub record Sourced (x : Sources) (w : World) (b : Batch) : Type 0 where
  pub each : (c : ℕ) → c < w.state.columns → get_or x.column c no_source ≡ source_for w b c
