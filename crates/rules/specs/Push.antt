-- Push, step by step: 01's four steps, queueing whole, finishing; and what a push gives.
use Rattle.std.specs.Prelude.{ℕ, zero, suc, ◌+◌, ◌-◌, Bool, false, not, cond, List, [], ◌∷◌, ltb, leb, eqb}
use Rattle.std.specs.Prelude.{Option, None, Some}
use Rattle.search.specs.Every.{every}
use Rattle.search.specs.InOrder.{test, in_order}
use Rattle.state.specs.World.{World}
use Rattle.state.specs.Layout.{is_views, list_length}
use Rattle.rules.specs.Batch.{Batch, record_of}
use Rattle.rules.specs.declared.Fault.{Fault}
use Rattle.rules.specs.Checks.{batch_fault}
use Rattle.rules.specs.Ranges.{tested}
use Rattle.rules.specs.Steps.{Res, ok, refuse, bind, each, buffering, queueing}
use Rattle.rules.specs.Views.{span, filling, closed, bits_copied, values_copied, list_attached, part_copied}
use Rattle.counts.specs.declared.RowCount.{RowCount}

-- the open block of each column of views joins its list. 01: "each column's open block joins its list and the slot is queued"
unfoldable pub all_closed : World → World
all_closed w = each w.state.columns (λ v c. cond (is_views v.state c) (closed v c) v) w

-- 01: "Finishing with 0 buffered does nothing. Otherwise each column's open block joins its list and the slot is queued.";
-- 9: "finishing 1 or more rows .. with Q queued"
unfoldable pub finished : World → Res
finished w =
    cond (eqb w.state.buffered.0 0) (ok w)
    (cond (ltb w.state.queued w.state.queue) (ok (queueing (all_closed w) w.state.buffered.0))
    (refuse 9))

-- column c of the whole batch in the slot being filled. 01: "Queued whole: views unchanged, list listed as given, no block opened
-- or closed for it."
unfoldable pub column_whole : World → Batch → ℕ → World
column_whole w b c =
    list_attached (values_copied (bits_copied w b (filling w) (span c 0 0 b.rows)) b (filling w) (span c 0 0 b.rows)) b c

unfoldable pub columns_whole : World → Batch → World
columns_whole w b = each w.state.columns (λ v c. column_whole v b c) w

-- 01: "Queueing whole tests 9, then 10 by columns."
unfoldable pub queued_whole : World → Batch → Res
queued_whole w b =
    in_order
    (test (ltb w.state.queued w.state.queue) (refuse 9)
    ∷ test (every (λ c. leb (list_length w (filling w) c + (record_of b c).count) w.state.lists) w.state.columns) (refuse 10)
    ∷ [])
    (ok (queueing (columns_whole w b) b.rows))

-- n rows from row `from` on, copied and buffered
unfoldable pub part_taken : World → World → Batch → ℕ → ℕ → Res
part_taken w₀ w b from n = bind (part_copied w₀ w b from n) (λ v. ok (buffering v (v.state.buffered.0 + n)))

-- step 3, the cuts: how many rows each part has that fills a slot. "While rows left > T - buffered: copy that many"; behind each of them
-- nothing is buffered. Each takes a row at least, so that as many turns as rows are enough
unfoldable pub full_parts : ℕ → ℕ → ℕ → ℕ → List ℕ
full_parts zero target buffered left = []
full_parts (suc turns) target buffered left =
    cond (ltb (target - buffered) left) ((target - buffered) ∷ full_parts turns target 0 (left - (target - buffered))) []

-- "if buffered = T, finish"
unfoldable pub if_full : World → Res
if_full w = cond (eqb w.state.buffered.0 w.state.target.0) (finished w) (ok w)

-- from row `from` on: each part of the cuts, "copy that many into every column in order, finish", and behind them step 4: "Copy the rest; if
-- buffered = T, finish."
unfoldable pub in_parts : List ℕ → World → World → Batch → ℕ → Res
in_parts [] w₀ w b from = bind (part_taken w₀ w b from (b.rows - from)) if_full
in_parts (n ∷ ns) w₀ w b from = bind (bind (part_taken w₀ w b from n) finished) (λ v. in_parts ns w₀ v b (from + n))

-- steps 3 and 4
unfoldable pub cut_up : World → Batch → Res
cut_up w b = in_parts (full_parts b.rows w.state.target.0 w.state.buffered.0 b.rows) w w b 0

-- n rows are more than the limit, where one is set
abbrev pub over_limit : Option RowCount → ℕ → Bool
over_limit None n = false
over_limit (Some limit) n = ltb limit.0 n

-- step 2: "Limit set and rows > limit (001): with 0 buffered, queue the batch whole; with buffered > limit, finish the buffered rows, then
-- queue it whole; else go on."
unfoldable pub stepped : World → Batch → Res
stepped w b =
    cond (over_limit w.state.limit b.rows)
    (cond (eqb w.state.buffered.0 0) (queued_whole w b)
    (cond (over_limit w.state.limit w.state.buffered.0) (bind (finished w) (λ v. queued_whole v b))
    (cut_up w b)))
    (cut_up w b)

-- a fault of the batch before the result of the steps
abbrev pub or_fault : Option Fault → Res → Res
or_fault None r = r
or_fault (Some f) r = refuse f.number

-- 01: "Order for a push: 1, 14, then step 1, then 2, 3, then per column 4, 5, 6, and 7 by rows. Room is worked out along the push
-- steps; the first step without it names the number."; step 1: "0 rows: done, nothing changes, before any batch check."
unfoldable pub pushed : World → Batch → Res
pushed w b =
    in_order (test (eqb (tested w) 0) (refuse (tested w)) ∷ test (not (eqb b.rows 0)) (ok w) ∷ [])
    (or_fault (batch_fault w b) (stepped w b))
