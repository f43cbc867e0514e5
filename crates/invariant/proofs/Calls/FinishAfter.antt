-- Finishing: each open block joins its list, and the rows buffered are one batch more.
use Rattle.std.specs.Prelude.{ℕ, zero, suc, ◌≤◌, ◌<◌, ◌≡◌, refl, ◌≢◌, Bool, true, false, cond, List, [], ◌∷◌, ◌++◌, ltb, eqb}
use Rattle.std.proofs.Common.{sym, ◌∙◌, ap, append-nil, arith, eqb-true, ltb-true}
use Rattle.std.proofs.lemmas.Bool.{eqb-false}
use Rattle.state.specs.World.{World}
use Rattle.state.specs.Layout.{is_views}
use Rattle.state.specs.Rows.{Row, joined, slot_rows, queued_batches, buffered_rows}
use Rattle.rules.specs.Steps.{each, queueing}
use Rattle.rules.specs.Views.{closed}
use Rattle.rules.specs.Push.{all_closed, finished}
use Rattle.rules.specs.Held.{Among, one_of, Holds, held, refused, holds_cond}
use Rattle.rules.specs.Stays.{SameSetUp, same_refl}
use Rattle.push_safety.specs.TestedLaws.{bounds_say}
use Rattle.push_safety.specs.Firm.{goes_refl}
use Rattle.push_safety.specs.FinishGoes.{Shut, all_closed_shut}
use Rattle.invariant.specs.Holding.{Spared, Holding, Between}
use Rattle.invariant.proofs.PoolLaws.{pool_refl}
use Rattle.invariant.specs.Steps.Moves.{Moves, BitsStill}
use Rattle.invariant.proofs.Steps.MoveLaws.{moves_refl, moves_trans, still_refl, still_trans, stands_refl, rows-filling}
use Rattle.invariant.proofs.Steps.SpareMoves.{spared_still, spared_ext}
use Rattle.invariant.proofs.Steps.CloseMoves.{closed_moves, closed_still}
use Rattle.invariant.proofs.Steps.PartCompact.{holding_ext}
use Rattle.invariant.specs.RowLaws.{rows-read}
use Rattle.invariant.proofs.Calls.After.{After, after_same, moves_batches, rows_are}
use Rattle.invariant.specs.Calls.TakeAfter.{LaterInPush}
use Rattle.invariant.proofs.Calls.TakeAfter.{along_trans}
use Rattle.invariant.proofs.Calls.QueueAfter.{queue_holding, queue_begun, queue_none, queue_spared, queue_batches, queue_rows, queue_along}

-- ---- every block closed

abbrev close : World → ℕ → World
close v c = cond (is_views v.state c) (closed v c) v

-- a step that changes no bit
record StillMoves (w : World) (ext : ℕ → ℕ) (v : World) : Type 0 where
  moves : Moves w ext v ext
  still : BitsStill w v

close_one : {w v : World} {ext : ℕ → ℕ} (n : ℕ) → StillMoves w ext v → n < w.state.columns → StillMoves w ext (close v n)
close_one {w} {v} {ext} n m h = go (is_views v.state n) refl
  where
    q : n < v.state.columns
    q = omega (arith, m.moves.beside.set_up.columns)

    go : (b : Bool) → is_views v.state n ≡ b → StillMoves w ext (cond b (closed v n) v)
    go true y =
        record {
          moves = moves_trans m.moves (closed_moves n m.moves.holding q y);
          still = still_trans m.moves.beside m.still (closed_still n m.moves.holding q y);
        }
    go false y = m

close-to : {w : World} {ext : ℕ → ℕ} (n : ℕ) → Holding w ext → n ≤ w.state.columns → StillMoves w ext (each n close w)
unfolding each
close-to {w} zero a h = record { moves = moves_refl a; still = still_refl w }
close-to (suc n) a h = close_one n (close-to n a (omega arith)) h

all_closed_moves : {w : World} {ext : ℕ → ℕ} → Holding w ext → StillMoves w ext (all_closed w)
unfolding all_closed
all_closed_moves {w} a = close-to w.state.columns a (omega arith)

-- the rows buffered stay along a step
pub moves_rows : {w v : World} {ext' : ℕ → ℕ} → Holding w (λ c. w.state.buffered.0) → Moves w (λ c. w.state.buffered.0) v ext' → buffered_rows v ≡ buffered_rows w
moves_rows {w} {v} a m =
    rows_are v
    ∙ ap (λ (s : ℕ). slot_rows v s v.state.buffered.0) m.beside.place
    ∙ ap (λ x. slot_rows v w.state.place x.0) m.beside.buffered
    ∙ rows-read w v w.state.place w.state.buffered.0 m.beside.set_up.columns (λ c i q l. m.cells w.state.place c i a.run.fit.place q (omega (arith, rows-filling w (λ c. w.state.buffered.0) w.state.place c refl)))
    ∙ sym (rows_are w)

pub moves_along : {w v : World} {ext ext' : ℕ → ℕ} → Moves w ext v ext' → LaterInPush w v
moves_along m = record { set_up = m.beside.set_up; goes = m.goes; bytes = m.bytes; stands = m.stands; pool = m.pool }

-- ---- finishing

-- a world with the rows of w that were buffered queued: it is between calls, and no row is buffered
pub record QueuesBuffered (w v : World) : Type 0 where
  pub between : Between v
  pub along : LaterInPush w v
  pub after : After w [] v
  pub none : v.state.buffered.0 ≡ 0

-- rows queued as one batch, of a world further on
pub queued_after : {w u : World} (rows : ℕ) (pushed : List Row) → Holding u (λ c. rows) → Shut u → u.state.queued < u.state.queue → 1 ≤ rows → rows ≤ u.state.rows.0 → queued_batches u ≡ queued_batches w → slot_rows u u.state.place rows ≡ buffered_rows w ++ pushed → After w pushed (queueing u rows)
unfolding joined
queued_after {w} {u} rows pushed a s l some most b r =
    record {
      made = slot_rows u u.state.place rows ∷ [];
      batches = queue_batches rows a s l some most ∙ ap (λ (x : List (List Row)). x ++ (slot_rows u u.state.place rows ∷ [])) b;
      rows = sym r ∙ sym (append-nil (slot_rows u u.state.place rows)) ∙ sym (append-nil (slot_rows u u.state.place rows ++ [])) ∙ ap (λ (x : List Row). (slot_rows u u.state.place rows ++ []) ++ x) (sym (queue_rows rows a s l some most));
    }

pub queued_between : {u : World} (rows : ℕ) → Holding u (λ c. rows) → Shut u → u.state.queued < u.state.queue → 1 ≤ rows → rows ≤ u.state.rows.0 → Spared u (λ c. rows) → Between (queueing u rows)
queued_between {u} rows a s l some most t =
    record {
      holding = holding_ext (λ c. (queueing u rows).state.buffered.0) (λ c q. queue_none rows a s l some most) (queue_holding rows a s l some most);
      below = omega (arith, queue_none rows a s l some most, ap (λ t. t.0) e.target, (bounds_say u.state a.run.fit.bounds).target_some);
      begun = λ z c q. queue_begun rows a s l some most c (omega (arith, e.columns));
      spared = spared_ext (λ c. (queueing u rows).state.buffered.0) (λ c q. queue_none rows a s l some most) (queue_spared rows a s l some most t);
    }
  where
    e : SameSetUp u.state (queueing u rows).state
    e = (queue_along rows a s l some most).set_up

pub finished-after : (w : World) → Holding w (λ c. w.state.buffered.0) → w.state.buffered.0 ≤ w.state.target.0 → (w.state.buffered.0 ≡ 0 → Between w) → Spared w (λ c. w.state.buffered.0) → Holds (QueuesBuffered w) (Among (9 ∷ [])) (finished w)
unfolding finished
finished-after w a h z t =
    holds_cond (eqb w.state.buffered.0 0)
    (λ e. let n : w.state.buffered.0 ≡ 0 = eqb-true w.state.buffered.0 0 e in held
    (record {
      between = z n;
      along = record { set_up = same_refl w.state; goes = goes_refl a.run; bytes = λ x. x; stands = λ k l f. stands_refl w k f; pool = pool_refl w };
      after = after_same refl refl;
      none = n;
    }))
    (λ e. holds_cond (ltb w.state.queued w.state.queue)
    (λ l. held (done (eqb-false w.state.buffered.0 0 e) (ltb-true w.state.queued w.state.queue l)))
    (λ l. refused (one_of (9 ∷ []) 9 tt)))
  where
    rows : ℕ
    rows = w.state.buffered.0

    u : World
    u = all_closed w

    m : Moves w (λ c. rows) u (λ c. rows)
    m = (all_closed_moves a).moves

    s : Shut u
    s = all_closed_shut w a.run

    most : rows ≤ u.state.rows.0
    most = let b = bounds_say w.state a.run.fit.bounds in omega (arith, h, b.target, ap (λ r. r.0) m.beside.set_up.rows)

    done : rows ≢ 0 → w.state.queued < w.state.queue → QueuesBuffered w (queueing u rows)
    done n l =
        let some : 1 ≤ rows = omega arith in
        let l' : u.state.queued < u.state.queue = omega (arith, m.beside.queued, m.beside.set_up.queue) in
        record {
          between = queued_between rows m.holding s l' some most (spared_still a m.beside (all_closed_moves a).still m.rows t);
          along = along_trans (moves_along m) (queue_along rows m.holding s l' some most);
          after = queued_after rows [] m.holding s l' some most (moves_batches a m) (buffered_are ∙ sym (append-nil (buffered_rows w)));
          none = queue_none rows m.holding s l' some most;
        }
      where
        buffered_are : slot_rows u u.state.place rows ≡ buffered_rows w
        buffered_are = ap (λ x. slot_rows u u.state.place x.0) (sym m.beside.buffered) ∙ sym (rows_are u) ∙ moves_rows a m
