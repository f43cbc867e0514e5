-- One law for each exit of the calls on the state alone.
use Rattle.std.specs.Prelude.{◌≡◌, false, ltb, eqb}
use Rattle.std.proofs.Math.Path.{refl}
use Rattle.std.proofs.Common.{ne_eqb}
use Rattle.state.specs.declared.BatchCoalescer.{BatchCoalescer}
use Rattle.rules.specs.Calls.{limit_of, buffered_count, has_completed, is_empty}

module _ (s : BatchCoalescer) where
  pub limit_is : s.limit ≡ limit_of s
  unfolding limit_of
  limit_is = refl

  pub buffered_is : s.buffered.0 ≡ buffered_count s
  unfolding buffered_count
  buffered_is = refl

  pub completed_is : ltb 0 s.queued ≡ has_completed s
  unfolding has_completed
  completed_is = refl

  pub empty-none : s.buffered.0 ≡ 0 → eqb s.queued 0 ≡ is_empty s
  unfolding is_empty
  empty-none z = rw z

  pub empty-some : (s.buffered.0 ≡ 0 → ⊥) → false ≡ is_empty s
  unfolding is_empty
  empty-some h = rw (ne_eqb s.buffered.0 0 h)
