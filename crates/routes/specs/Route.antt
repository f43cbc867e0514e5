-- Which way a batch goes, and what refuses it where it is queued whole.
use Rattle.std.specs.Prelude.{ℕ, ◌+◌, cond, ltb, leb, eqb}
use Rattle.search.specs.Every.{every}
use Rattle.state.specs.declared.BatchCoalescer.{BatchCoalescer}
use Rattle.state.specs.World.{World}
use Rattle.state.specs.Layout.{list_length}
use Rattle.rules.specs.Batch.{Batch, record_of}
use Rattle.rules.specs.Views.{filling}
use Rattle.rules.specs.Push.{over_limit}
use Rattle.routes.specs.declared.Route.{Route}

-- step 2: "Limit set and rows > limit: with 0 buffered, queue the batch whole; with buffered > limit, finish the buffered rows, then queue
-- it whole; else go on."
unfoldable pub route_of : BatchCoalescer → ℕ → Route
route_of s rows =
    cond (over_limit s.limit rows)
    (cond (eqb s.buffered.0 0) Route.Whole
    (cond (over_limit s.limit s.buffered.0) Route.FinishFirst Route.Coalesce))
    Route.Coalesce

-- 01: "Queueing whole tests 9, then 10 by columns."; 0 where neither refuses
unfoldable pub whole_refusal : World → Batch → ℕ
whole_refusal w b =
    cond (ltb w.state.queued w.state.queue)
    (cond (every (λ c. leb (list_length w (filling w) c + (record_of b c).count) w.state.lists) w.state.columns) 0 10)
    9
