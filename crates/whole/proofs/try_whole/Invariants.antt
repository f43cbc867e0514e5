-- `whole::try_whole` meets its contract: what its loops keep.
use Prim.Native.Nat.{◌<◌}
use Rattle.search.specs.Every.{All}
use Rattle.whole.specs.RefusalLaws.{list_fits}
use Rattle.whole.proofs.try_whole.Given as goal

abbrev pub invariant-loop-c : goal.invariant-loop-c
invariant-loop-c l = (l.s.queued < l.s.queue) × (All (list_fits l.s l.books l.records) l.c)
