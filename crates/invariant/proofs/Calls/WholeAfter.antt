-- A batch queued whole behind no buffered row: its rows are one batch more.
use Prim.Native.Nat.{ℕ, zero, suc, ◌+◌, ◌≤◌, ◌<◌}
use Rattle.std.specs.Prelude.{◌≡◌, ◌≢◌, true, [], ◌∷◌, ◌++◌, ltb, leb}
use Rattle.std.proofs.Math.Path.{refl}
use Rattle.std.proofs.Common.{sym, ◌∙◌, ap, arith, zero-add, ltb-true, leb-true}
use Rattle.std.proofs.Math.Decide.{dec_lt}
use Rattle.search.specs.Every.{every, every-says}
use Rattle.words.specs.WordLaws.{Bytes}
use Rattle.invariant.proofs.Calls.QueueAfter.{queue_along}
use Rattle.state.specs.World.{World, column_of}
use Rattle.state.specs.Layout.{is_views, list_length}
use Rattle.state.specs.Rows.{slot_rows, slot_cell, buffered_rows}
use Rattle.rules.specs.Batch.{Batch, record_of, batch_cell, batch_rows}
use Rattle.rules.specs.Steps.{each, queueing}
use Rattle.rules.specs.Views.{span, filling, bits_copied, values_copied, list_attached}
use Rattle.rules.specs.Push.{column_whole, columns_whole, queued_whole}
use Rattle.rules.specs.Held.{Among, one_of, Holds, held, refused, holds_cond}
use Rattle.rules.specs.Stays.{Beside}
use Rattle.push_safety.specs.Firm.{run_firm}
use Rattle.push_safety.specs.FinishGoes.{Shut}
use Rattle.push_safety.specs.WholeGoes.{columns_whole_state}
use Rattle.invariant.specs.Holding.{reach, Spared, Holding, Between, PoolStays}
use Rattle.invariant.proofs.PoolLaws.{pool_trans}
use Rattle.invariant.specs.Steps.Moves.{Moves, ReadableBatch, Extends, Adds}
use Rattle.invariant.proofs.Steps.SpareMoves.{spared_ext, adds_after}
use Rattle.invariant.proofs.Steps.MoveLaws.{moves_refl, moves_trans, sourced_on, batch_on, rows-filling}
use Rattle.invariant.proofs.Steps.CopyMoves.{bits_moves, bits-laid}
use Rattle.invariant.proofs.Steps.PartCompact.{holding_ext, moves_ext}
use Rattle.invariant.proofs.Steps.PartMoves.{up_to_column, column-before, column-behind, next-column}
use Rattle.invariant.proofs.Steps.PlainMoves.{empty-list}
use Rattle.invariant.proofs.Steps.WholeMoves.{WholeColumn, laid-whole}
use Rattle.invariant.specs.RowLaws.{part_all, no_rows, rows_more}
use Rattle.invariant.proofs.Calls.After.{After, moves_batches, rows_are}
use Rattle.invariant.proofs.Calls.FinishAfter.{queued_after, queued_between}

-- ---- one column

-- the rows behind, with their bits
record WholeAdds (w : World) (ext : ℕ → ℕ) (b : Batch) (c : ℕ) (v : World) : Type 0 where
  adds : Adds w ext b c 0 b.rows v
  others : (d : ℕ) → d < w.state.columns → d ≢ c → reach v w.state.place d ≡ reach w w.state.place d

module _ {w : World} {ext : ℕ → ℕ} (b : Batch) (c : ℕ) (a : Holding w ext) (x : ReadableBatch w b) (q : c < w.state.columns) (none : ext c ≡ 0) (empty : reach w w.state.place c ≡ 0) (l : (record_of b c).count ≤ w.state.lists) where
  abbrev bits : World
  bits = bits_copied w b (filling w) (span c 0 0 b.rows)

  bits_on : Moves w ext bits ext
  bits_on = bits_moves b c 0 0 b.rows a q (omega arith) (omega (arith, x.reads.rows_fit))

  bits-reach : (d : ℕ) → reach bits w.state.place d ≡ reach w w.state.place d
  unfolding bits_copied reach list_length
  bits-reach d = refl

  column_is : column_whole w b c ≡ list_attached (values_copied bits b (filling bits) (span c 0 0 b.rows)) b c
  unfolding column_whole bits_copied
  column_is = refl

  column_wholes : WholeAdds w ext b c (column_whole w b c)
  column_wholes = rw column_is (record { adds = adds_whole z.extends; others = λ d r n. others d r n })
    where
      adds_whole : {u : World} → Extends bits ext b c 0 b.rows u → Adds w ext b c 0 b.rows u
      adds_whole {u} e = adds_after a x q (omega (arith, none, x.reads.rows_fit)) (omega arith) (from_row (sym none) e)
        where
          from_row : {at at' : ℕ} → at ≡ at' → Extends (bits_copied w b (filling w) (span c at 0 b.rows)) ext b c 0 b.rows u → Extends (bits_copied w b (filling w) (span c at' 0 b.rows)) ext b c 0 b.rows u
          from_row t y = rw t at y

      at : bits.state.place ≡ w.state.place
      at = bits_on.beside.place

      z : WholeColumn bits ext b c (list_attached (values_copied bits b (filling bits) (span c 0 0 b.rows)) b c)
      z =
          laid-whole b c bits_on.holding (sourced_on x bits_on a.run) (omega (arith, bits_on.beside.set_up.columns)) none
          (ap (λ (k : ℕ). reach bits k c) at ∙ bits-reach c ∙ empty)
          (omega (arith, bits_on.beside.set_up.lists))
          (bits-laid b c 0 0 b.rows a q (omega arith) (omega (arith, x.reads.rows_fit)))

      others : (d : ℕ) → d < w.state.columns → d ≢ c → reach (list_attached (values_copied bits b (filling bits) (span c 0 0 b.rows)) b c) w.state.place d ≡ reach w w.state.place d
      others d r n =
          ap (λ (k : ℕ). reach (list_attached (values_copied bits b (filling bits) (span c 0 0 b.rows)) b c) k d) (sym at)
          ∙ z.others d (omega (arith, bits_on.beside.set_up.columns)) n
          ∙ ap (λ (k : ℕ). reach bits k d) at
          ∙ bits-reach d

-- ---- every column

module _ (w : World) (b : Batch) where
  -- the first c columns have the rows of the batch, and the others list nothing yet
  record WholeRows (c : ℕ) (v : World) : Type 0 where
    moves : Moves w (λ d. 0) v (up_to_column 0 b.rows c)
    new : (d j : ℕ) → d < c → j < b.rows → slot_cell v (filling w) d j ≡ batch_cell w b d j
    empty : (d : ℕ) → c ≤ d → d < w.state.columns → reach v w.state.place d ≡ 0
    spared : Spared v (up_to_column 0 b.rows c)

  module _ (a : Holding w (λ d. 0)) (x : ReadableBatch w b) (empty : (c : ℕ) → c < w.state.columns → reach w w.state.place c ≡ 0) (fits : (c : ℕ) → c < w.state.columns → (record_of b c).count ≤ w.state.lists) (t : Spared w (λ d. 0)) where
    begin : WholeRows 0 w
    begin =
        record {
          moves = moves_ext (up_to_column 0 b.rows 0) (λ d. column-behind 0 b.rows 0 d (omega arith)) (moves_refl a);
          new = λ d j l k. absurd (omega arith);
          empty = λ d l q. empty d q;
          spared = spared_ext (up_to_column 0 b.rows 0) (λ d q. column-behind 0 b.rows 0 d (omega arith)) t;
        }

    next : (v : World) (c : ℕ) → c < w.state.columns → WholeRows c v → WholeRows (suc c) (column_whole v b c)
    next v c q p =
        record {
          moves = moves_ext (up_to_column 0 b.rows (suc c)) (next-column 0 b.rows c) (moves_trans p.moves z.adds.moves);
          new = λ d j l k. new d j l k (dec_lt d c);
          empty = λ d l r.
              ap (λ (k : ℕ). reach (column_whole v b c) k d) (sym s.place) ∙ z.others d (omega (arith, s.set_up.columns)) (λ e. omega arith)
              ∙ ap (λ (k : ℕ). reach v k d) s.place ∙ p.empty d (omega arith) r;
          spared = spared_ext (up_to_column 0 b.rows (suc c)) (λ d r. next-column 0 b.rows c d) (z.adds.spared p.spared);
        }
      where
        ext : ℕ → ℕ
        ext = up_to_column 0 b.rows c

        s : Beside w v
        s = p.moves.beside

        here : ext c ≡ 0
        here = column-behind 0 b.rows c c (omega arith)

        z : WholeAdds v ext b c (column_whole v b c)
        z =
            column_wholes b c p.moves.holding (sourced_on x p.moves a.run) (omega (arith, s.set_up.columns)) here
            (ap (λ (k : ℕ). reach v k c) s.place ∙ p.empty c (omega arith) q)
            (omega (arith, fits c q, s.set_up.lists))

        new : (d j : ℕ) → d < suc c → j < b.rows → Dec (d < c) → slot_cell (column_whole v b c) (filling w) d j ≡ batch_cell w b d j
        new d j l k (yes t) =
            z.adds.moves.cells (filling w) d j (omega (arith, a.run.fit.place, s.set_up.queue)) (omega (arith, s.set_up.columns))
            (omega (arith, rows-filling v ext (filling w) d (sym s.place), column-before 0 b.rows c d t))
            ∙ p.new d j t k
        new d j l k (no t) =
            let e : d ≡ c = omega arith in
            let y : slot_cell (column_whole v b c) v.state.place c (ext c + j) ≡ batch_cell v b c (0 + j) = z.adds.new j k in
            let f : ext c + j ≡ j = omega (arith, here) in
            let g : 0 + j ≡ j = omega arith in
            rw e
            (ap (λ (i : ℕ). slot_cell (column_whole v b c) i c j) (sym s.place) ∙ (rw (f, g) at y)
            ∙ batch_on x p.moves a.run c j q k)

    whole_to : (n : ℕ) → n ≤ w.state.columns → WholeRows n (each n (λ v c. column_whole v b c) w)
    unfolding each
    whole_to zero h = begin
    whole_to (suc n) h = next (each n (λ v c. column_whole v b c) w) n h (whole_to n (omega arith))

    columns_whole_lem : WholeRows w.state.columns (columns_whole w b)
    unfolding columns_whole
    columns_whole_lem = whole_to w.state.columns (omega arith)

-- ---- queued

-- the rows of the batch behind those of w, and none buffered
pub record Whole (w : World) (b : Batch) (v : World) : Type 0 where
  pub between : Between v
  pub after : After w (batch_rows w b) v
  pub bytes : Bytes w.slots → Bytes v.slots
  pub pool : PoolStays w v

pub whole-after : (w : World) (b : Batch) → Between w → w.state.buffered.0 ≡ 0 → ReadableBatch w b → 1 ≤ b.rows → Holds (Whole w b) (Among (9 ∷ 10 ∷ [])) (queued_whole w b)
unfolding queued_whole
whole-after w b g z x some =
    holds_cond (ltb w.state.queued w.state.queue)
    (λ l. holds_cond (every (λ c. leb (list_length w (filling w) c + (record_of b c).count) w.state.lists) w.state.columns)
    (λ h. held (done (ltb-true w.state.queued w.state.queue l) h))
    (λ h. refused (one_of (9 ∷ 10 ∷ []) 10 tt)))
    (λ l. refused (one_of (9 ∷ 10 ∷ []) 9 tt))
  where
    a : Holding w (λ c. 0)
    a = holding_ext (λ c. 0) (λ c q. sym z) g.holding

    done : w.state.queued < w.state.queue → every (λ c. leb (list_length w (filling w) c + (record_of b c).count) w.state.lists) w.state.columns ≡ true → Whole w b (queueing (columns_whole w b) b.rows)
    done l h =
        record {
          between = queued_between b.rows hold shut l' some most (spared_ext (λ c. b.rows) rows-each p.spared);
          after = queued_after b.rows (batch_rows w b) hold shut l' some most (moves_batches a p.moves) rows;
          bytes = λ x. (queue_along b.rows hold shut l' some most).bytes (p.moves.bytes x);
          pool = pool_trans p.moves.pool (queue_along b.rows hold shut l' some most).pool;
        }
      where
        fits : (c : ℕ) → c < w.state.columns → list_length w (filling w) c + (record_of b c).count ≤ w.state.lists
        fits c q = leb-true _ _ (every-says (λ c. leb (list_length w (filling w) c + (record_of b c).count) w.state.lists) w.state.columns h c q)

        u : World
        u = columns_whole w b

        p : WholeRows w b w.state.columns u
        p = columns_whole_lem w b a x (g.begun z) (λ c q. omega (arith, fits c q)) (spared_ext (λ c. 0) (λ c q. sym z) g.spared)

        s : Beside w u
        s = p.moves.beside

        rows-each : (c : ℕ) → c < u.state.columns → b.rows ≡ up_to_column 0 b.rows w.state.columns c
        rows-each c q = sym (column-before 0 b.rows w.state.columns c (omega (arith, s.set_up.columns)) ∙ omega arith)

        hold : Holding u (λ c. b.rows)
        hold = holding_ext (λ c. b.rows) rows-each p.moves.holding

        same : u.state ≡ w.state
        same = columns_whole_state w b x.reads fits (run_firm a.run)

        shut : Shut u
        shut =
            record {
              shut = λ c q y.
                  ap (λ t. (column_of t c).block) same ∙ (empty-list w c (sym (ap (λ t. is_views t c) same) ∙ y) (g.begun z c (omega (arith, s.set_up.columns)))).1;
            }

        l' : u.state.queued < u.state.queue
        l' = omega (arith, s.queued, s.set_up.queue)

        most : b.rows ≤ u.state.rows.0
        most = omega (arith, x.reads.rows_fit, ap (λ r. r.0) s.set_up.rows)

        none : buffered_rows w ≡ []
        none = rows_are w ∙ ap (λ (n : ℕ). slot_rows w w.state.place n) z ∙ no_rows w w.state.place

        rows : slot_rows u u.state.place b.rows ≡ buffered_rows w ++ batch_rows w b
        rows =
            ap (λ (k : ℕ). slot_rows u k b.rows) s.place
            ∙ ap (slot_rows u w.state.place) (sym (zero-add b.rows))
            ∙ rows_more w u b w.state.place 0 0 b.rows s.set_up.columns (λ c j q l. rw (zero-add j) (p.new c j q l))
            ∙ (rw (no_rows u w.state.place, part_all w b, none))
