-- A part copied and buffered: the rows buffered are those that were, then those of the part.
use Rattle.std.specs.Prelude.{ℕ, ◌+◌, ◌≤◌, ◌<◌, ◌≡◌, refl, List, [], ◌∷◌, ◌++◌}
use Rattle.std.proofs.Common.{sym, ◌∙◌, ap, arith}
use Rattle.state.specs.World.{World}
use Rattle.state.specs.Layout.{rows_in}
use Rattle.state.specs.Rows.{Row, slot_rows, slot_cell, buffered_rows}
use Rattle.rules.specs.Batch.{Batch}
use Rattle.rules.specs.Steps.{ok, buffering}
use Rattle.rules.specs.Views.{filling}
use Rattle.rules.specs.Push.{part_taken}
use Rattle.rules.specs.Held.{Among, Holds, held, holds_bind}
use Rattle.rules.specs.Stays.{SameSetUp, same_trans}
use Rattle.push_safety.specs.Run.{Run}
use Rattle.push_safety.specs.Firm.{goes_trans}
use Rattle.push_safety.specs.StepGoes.{buffering_goes}
use Rattle.invariant.specs.Holding.{Spared, Holding}
use Rattle.invariant.proofs.PoolLaws.{pool_trans}
use Rattle.invariant.specs.Steps.Moves.{Moves, ReadableBatch}
use Rattle.invariant.proofs.Steps.MoveLaws.{rows-filling, stands_trans, sourced_along, batch_along}
use Rattle.invariant.proofs.Steps.PartCompact.{holding_ext}
use Rattle.invariant.proofs.Steps.PartMoves.{up_to_column, column-before, Parted, part_moves}
use Rattle.invariant.specs.RowLaws.{batch_part, part_same, rows-read, rows_more}
use Rattle.invariant.proofs.Calls.After.{rows_are, moves_batches, queued_read, buffering-rows, buffering_alike, buffering-pool, buffering_spared, buffering-holding, buffering_cell}
use Rattle.invariant.specs.Calls.TakeAfter.{LaterInPush, TakesPart}

pub along_trans : {w v u : World} → LaterInPush w v → LaterInPush v u → LaterInPush w u
along_trans {w} {v} a b =
    record {
      set_up = same_trans a.set_up b.set_up;
      goes = goes_trans a.goes b.goes;
      bytes = λ z. b.bytes (a.bytes z);
      stands = λ k l h. let s = a.stands k l h in stands_trans s (b.stands k (omega (arith, a.set_up.numbers)) s.live);
      pool = pool_trans a.pool b.pool;
    }

module _ {w v : World} {b : Batch} (x : ReadableBatch w b) (r : Run w) (a : LaterInPush w v) where
  pub along_sourced : ReadableBatch v b
  along_sourced = sourced_along x r a.set_up a.goes a.stands

  pub along_part : (from n : ℕ) → from + n ≤ b.rows → batch_part v b from n ≡ batch_part w b from n
  along_part from n h =
      part_same w v b from n a.set_up.columns (λ c i q l. batch_along x r a.set_up a.goes a.stands c (from + i) q (omega arith))

-- ---- a part

module _ (w₀ w : World) (b : Batch) (from n : ℕ) (a : Holding w (λ c. w.state.buffered.0)) where
  taken : (u : World) → Parted w₀ w b from n w.state.columns u → TakesPart w b from n (buffering u (u.state.buffered.0 + n))
  taken u p =
      record {
        holding = holding_ext (λ c. more) (λ c q. ap (λ (x : ℕ). x + n) same ∙ sym (column-before rows n w.state.columns c (omega (arith, m.beside.set_up.columns)))) (buffering-holding u more m.holding);
        along =
            record {
              set_up = same_trans m.beside.set_up (buffering_alike u more).set_up;
              goes = goes_trans m.goes (buffering_goes more m.holding.run);
              bytes = m.bytes;
              stands = λ k l h. let s = m.stands k l h in record { live = s.live; begins = s.begins };
              pool = pool_trans m.pool (buffering-pool u more);
            };
        buffered = ap (λ (x : ℕ). x + n) same;
        batches =
            queued_read u (buffering u more) (up_to_column rows n w.state.columns) m.holding.run.fit.place m.holding.run.fit.queued (buffering_alike u more)
            (λ slot l. counts slot)
            (buffering_cell u more m.holding)
            ∙ moves_batches a m;
        rows = buffered_rows_lem;
        spared = buffering_spared u more m.holding p.spared (λ c. more) (λ c q. ap (λ (x : ℕ). x + n) same ∙ sym (column-before rows n w.state.columns c (omega (arith, m.beside.set_up.columns))));
      }
    where
      rows : ℕ
      rows = w.state.buffered.0

      more : ℕ
      more = u.state.buffered.0 + n

      m : Moves w (λ c. rows) u (up_to_column rows n w.state.columns)
      m = p.moves

      same : u.state.buffered.0 ≡ rows
      same = ap (λ x. x.0) m.beside.buffered

      counts : (slot : ℕ) → rows_in (buffering u more) slot ≡ rows_in u slot
      counts slot = buffering-rows u more slot

      cell : (c i : ℕ) → c < w.state.columns → i < rows + n → slot_cell (buffering u more) (filling w) c i ≡ slot_cell u (filling w) c i
      cell c i q l =
          buffering_cell u more m.holding (filling w) c i (omega (arith, a.run.fit.place, m.beside.set_up.queue)) (omega (arith, m.beside.set_up.columns))
          (omega (arith, rows-filling u (up_to_column rows n w.state.columns) (filling w) c (sym m.beside.place), column-before rows n w.state.columns c q))

      old : (c i : ℕ) → c < w.state.columns → i < rows → slot_cell u (filling w) c i ≡ slot_cell w (filling w) c i
      old c i q l = m.cells (filling w) c i a.run.fit.place q (omega (arith, rows-filling w (λ c. rows) (filling w) c refl))

      columns : u.state.columns ≡ w.state.columns
      columns = m.beside.set_up.columns

      buffered_rows_lem : buffered_rows (buffering u more) ≡ buffered_rows w ++ batch_part w b from n
      buffered_rows_lem =
          rows_are (buffering u more)
          ∙ ap (λ (s : ℕ). slot_rows (buffering u more) s more) m.beside.place
          ∙ ap (λ (k : ℕ). slot_rows (buffering u more) (filling w) (k + n)) same
          ∙ rows_more w (buffering u more) b (filling w) rows from n columns (λ c j q l. cell c (rows + j) q (omega arith) ∙ p.new c j q l)
          ∙ ap (λ (l : List Row). l ++ batch_part w b from n) (rows-read w (buffering u more) (filling w) rows columns (λ c i q l. cell c i q (omega arith) ∙ old c i q l) ∙ sym (rows_are w))

  pub taken_takes : ReadableBatch w b → SameSetUp w₀.state w.state → w.state.buffered.0 + n ≤ w.state.rows.0 → from + n ≤ b.rows → Spared w (λ c. w.state.buffered.0) → Holds (TakesPart w b from n) (Among (10 ∷ 11 ∷ 12 ∷ [])) (part_taken w₀ w b from n)
  unfolding part_taken
  taken_takes x e h m z = holds_bind (λ v. ok (buffering v (v.state.buffered.0 + n))) (part_moves w₀ w b from n a x e h m z) (λ u p. held (taken u p))
