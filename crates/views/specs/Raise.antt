-- What raising a view's index asks: that the index of a long view stays a word.
use Rattle.std.specs.Prelude.{ℕ, ◌+◌, ◌<◌, ◌^◌}
use Rattle.views.specs.declared.View.{View}

pub record Raises (v : View) (k : ℕ) : Type 0 where
  pub fits : 12 < v.length → v.index + k < 2 ^ 32
