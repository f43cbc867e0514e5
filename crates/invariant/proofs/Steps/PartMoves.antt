-- A part of a pushed column, whichever way it goes; and a part of every column.
use Rattle.std.specs.Prelude.{ℕ, zero, suc, ◌+◌, ◌*◌, ◌≤◌, ◌<◌, ◌≡◌, refl, Bool, true, false, cond, List, [], ◌∷◌, ltb, eqb}
use Rattle.std.proofs.Common.{sym, ◌∙◌, ap, arith, eqb-true, lt-ltb, le-ltb}
use Rattle.std.proofs.Math.Decide.{dec_lt, ℕ_discrete}
use Rattle.views.specs.declared.View.{View}
use Rattle.views.specs.View.{long_length}
use Rattle.views.specs.ShowLaws.{long-some}
use Rattle.state.specs.World.{World}
use Rattle.state.specs.Layout.{is_views}
use Rattle.state.specs.Rows.{slot_cell}
use Rattle.rules.specs.declared.Way.{Way}
use Rattle.rules.specs.Batch.{Batch, row_view, ideal, actual, way_of, way, batch_cell}
use Rattle.rules.specs.Steps.{Res, for_each}
use Rattle.rules.specs.Views.{span, filling, bits_copied, by_way, column_copied, part_copied}
use Rattle.rules.specs.Held.{Among, Holds, held, holds_more, holds_bind, holds_among}
use Rattle.rules.specs.Stays.{SameSetUp, Beside, same_trans}
use Rattle.rules.specs.SameLaws.{same_views, same_row_view}
use Rattle.invariant.specs.Holding.{Spared, Holding}
use Rattle.invariant.proofs.CountLaws.{sum_least}
use Rattle.invariant.specs.Steps.Moves.{more, Moves, ReadableBatch, Laid, Extends, Adds}
use Rattle.invariant.proofs.Steps.SpareMoves.{spared_ext, adds_after}
use Rattle.invariant.proofs.Steps.MoveLaws.{more_here, more_other, moves_refl, moves_trans, sourced_on, batch_on, rows-filling}
use Rattle.invariant.proofs.Steps.CopyMoves.{bits_moves, bits-laid}
use Rattle.invariant.proofs.Steps.ValueMoves.{values_extends}
use Rattle.invariant.proofs.Steps.RaisedMoves.{part_attached_extends}
use Rattle.invariant.proofs.Steps.PartCompact.{moves_ext, part_compacted_extends}

abbrev rooms : List ℕ
rooms = 10 ∷ 11 ∷ 12 ∷ []

-- ---- ideal 0: every view is inline

way-copied : (id ac : ℕ) → way_of id ac ≡ Way.Copied → id ≡ 0
unfolding way_of
way-copied id ac e = go (eqb id 0) refl (ltb (2 * id) ac) e
  where
    go : (x : Bool) → eqb id 0 ≡ x → (z : Bool) → cond x Way.Copied (cond z Way.Compacted Way.Attached) ≡ Way.Copied → id ≡ 0
    go true p z f = eqb-true id 0 p
    go false p true f = let t : ◌≡◌ {A = ℕ} 0 1 = cc in absurd (omega arith)
    go false p false f = let t : ◌≡◌ {A = ℕ} 0 1 = cc in absurd (omega arith)

short : (v : View) → long_length v ≡ 0 → v.length ≤ 12
short v e = go (dec_lt 12 v.length)
  where
    go : Dec (12 < v.length) → v.length ≤ 12
    go (yes d) = absurd (omega (arith, long-some v d))
    go (no d) = omega arith

copied_inline : (w : World) (b : Batch) (c i : ℕ) → way w b c ≡ Way.Copied → i < b.rows → (row_view w b c i).length ≤ 12
unfolding way ideal
copied_inline w b c i e h =
    short (row_view w b c i)
    (omega (arith, way-copied (ideal w b c) (actual w b c) e, sum_least b.rows (λ i. long_length (row_view w b c i)) i h))

-- ---- a part of one column

module _ {w : World} {ext : ℕ → ℕ} (w₀ : World) (b : Batch) (c from n : ℕ) (a : Holding w ext) (x : ReadableBatch w b) (same : SameSetUp w₀.state w.state) (q : c < w.state.columns) (h : ext c + n ≤ w.state.rows.0) (m : from + n ≤ b.rows) where
  abbrev v : World
  v = bits_copied w b (filling w) (span c (ext c) from n)

  v_moves : Moves w ext v ext
  v_moves = bits_moves b c (ext c) from n a q (omega arith) h

  v-laid : Laid v b c (ext c) from n
  v-laid = bits-laid b c (ext c) from n a q (omega arith) h

  v_sourced : ReadableBatch v b
  v_sourced = sourced_on x v_moves a.run

  q' : c < v.state.columns
  q' = omega (arith, v_moves.beside.set_up.columns)

  h' : ext c + n ≤ v.state.rows.0
  h' = omega (arith, ap (λ r. r.0) v_moves.beside.set_up.rows)

  -- rows put behind the bits are rows put
  behind : {u : World} → Extends v ext b c from n u → Adds w ext b c from n u
  behind e = adds_after a x q h m e

  by_way_lem : (z : Way) → (is_views w.state c ≡ true → z ≡ way w₀ b c) → (is_views w.state c ≡ false → z ≡ Way.Copied) → Holds (Adds w ext b c from n) (Among rooms) (by_way v b (span c (ext c) from n) z)
  by_way_lem Way.Copied p r =
      held
      (behind (values_extends b c from n v_moves.holding v_sourced q' h' m v-laid (λ y j l.
      rw (same_row_view w₀ v b (same_trans same v_moves.beside.set_up) c (from + j))
      (copied_inline w₀ b c (from + j) (sym (p (sym (same_views v_moves.beside.set_up c) ∙ y))) (omega arith)))))
  by_way_lem Way.Attached p r = by_views (is_views w.state c) refl
    where
      by_views : (t : Bool) → is_views w.state c ≡ t → Holds (Adds w ext b c from n) (Among rooms) (by_way v b (span c (ext c) from n) Way.Attached)
      by_views true y =
          holds_among rooms tt
          (holds_more (part_attached_extends b c from n v_moves.holding v_sourced q' (same_views v_moves.beside.set_up c ∙ y) h' m v-laid) (λ u e. behind e) (λ j l. l))
      by_views false y = let e = r y in let t : ◌≡◌ {A = ℕ} 0 1 = cc in absurd (omega arith)
  by_way_lem Way.Compacted p r = by_views (is_views w.state c) refl
    where
      by_views : (t : Bool) → is_views w.state c ≡ t → Holds (Adds w ext b c from n) (Among rooms) (by_way v b (span c (ext c) from n) Way.Compacted)
      by_views true y =
          holds_more (part_compacted_extends b c from n v_moves.holding v_sourced q' (same_views v_moves.beside.set_up c ∙ y) h' m v-laid) (λ u e. behind e) (λ j l. l)
      by_views false y = let e = r y in let t : ◌≡◌ {A = ℕ} 0 1 = cc in absurd (omega arith)

  pub column_adds : ext c ≡ w.state.buffered.0 → Holds (Adds w ext b c from n) (Among (10 ∷ 11 ∷ 12 ∷ [])) (column_copied w₀ w b c from n)
  unfolding column_copied
  column_adds e =
      ap_holds e (by_way_lem (cond (is_views w.state c) (way w₀ b c) Way.Copied) (λ y. rw y) (λ y. rw y))
    where
      ap_holds : {at at' : ℕ} → at ≡ at' → Holds (Adds w ext b c from n) (Among rooms) (by_way (bits_copied w b (filling w) (span c at from n)) b (span c at from n) (cond (is_views w.state c) (way w₀ b c) Way.Copied)) → Holds (Adds w ext b c from n) (Among rooms) (by_way (bits_copied w b (filling w) (span c at' from n)) b (span c at' from n) (cond (is_views w.state c) (way w₀ b c) Way.Copied))
      ap_holds e h = rw e at h

-- ---- a part of every column

-- a step for each number, with what holds after each
pub holds_upto : {N : ℕ → Type 0} (P : ℕ → World → Type 0) (n : ℕ) (f : World → ℕ → Res) (w : World) → P 0 w → ((v : World) (i : ℕ) → i < n → P i v → Holds (P (suc i)) N (f v i)) → Holds (P n) N (for_each n f w)
unfolding for_each
holds_upto P zero f w p g = held p
holds_upto P (suc n) f w p g =
    holds_bind (λ v. f v n) (holds_upto P n f w p (λ v i l. g v i (omega arith))) (λ v q. g v n (omega arith) q)

-- n rows more in the first c columns
unfoldable pub up_to_column : ℕ → ℕ → ℕ → ℕ → ℕ
up_to_column rows n c d = rows + cond (ltb d c) n 0

module _ (rows n c : ℕ) where
  pub column-before : (d : ℕ) → d < c → up_to_column rows n c d ≡ rows + n
  unfolding up_to_column
  column-before d h = rw (lt-ltb d c h)

  pub column-behind : (d : ℕ) → c ≤ d → up_to_column rows n c d ≡ rows
  unfolding up_to_column
  column-behind d h = rw (le-ltb d c h) (omega arith)

pub next-column : (rows n c d : ℕ) → up_to_column rows n (suc c) d ≡ more (up_to_column rows n c) c n d
next-column rows n c d = go (ℕ_discrete d c) (dec_lt d c)
  where
    go : Dec (d ≡ c) → Dec (d < c) → up_to_column rows n (suc c) d ≡ more (up_to_column rows n c) c n d
    go (yes e) l =
        rw e (column-before rows n (suc c) c (omega arith) ∙ sym (more_here (up_to_column rows n c) c n ∙ ap (λ (x : ℕ). x + n) (column-behind rows n c c (omega arith))))
    go (no e) (yes l) = column-before rows n (suc c) d (omega arith) ∙ sym (more_other (up_to_column rows n c) c n d e ∙ column-before rows n c d l)
    go (no e) (no l) = column-behind rows n (suc c) d (omega arith) ∙ sym (more_other (up_to_column rows n c) c n d e ∙ column-behind rows n c d (omega arith))

module _ (w₀ w : World) (b : Batch) (from n : ℕ) where
  abbrev rows : ℕ
  rows = w.state.buffered.0

  -- the first c columns have n rows more, and they read as the batch's
  pub record Parted (c : ℕ) (v : World) : Type 0 where
    pub moves : Moves w (λ d. rows) v (up_to_column rows n c)
    pub new : (d j : ℕ) → d < c → j < n → slot_cell v (filling w) d (rows + j) ≡ batch_cell w b d (from + j)
    pub spared : Spared v (up_to_column rows n c)

  module _ (a : Holding w (λ d. rows)) (x : ReadableBatch w b) (same : SameSetUp w₀.state w.state) (h : rows + n ≤ w.state.rows.0) (m : from + n ≤ b.rows) (z : Spared w (λ d. rows)) where
    begin : Parted 0 w
    begin =
        record {
          moves = moves_ext (up_to_column rows n 0) (λ d. column-behind rows n 0 d (omega arith)) (moves_refl a);
          new = λ d j l k. absurd (omega arith);
          spared = spared_ext (up_to_column rows n 0) (λ d q. column-behind rows n 0 d (omega arith)) z;
        }

    next : (v : World) (c : ℕ) → c < w.state.columns → Parted c v → Holds (Parted (suc c)) (Among rooms) (column_copied w₀ v b c from n)
    next v c q p =
        holds_more
        (column_adds w₀ b c from n p.moves.holding (sourced_on x p.moves a.run) (same_trans same s.set_up) (omega (arith, s.set_up.columns)) (omega (arith, here, ap (λ r. r.0) s.set_up.rows)) m (here ∙ ap (λ r. r.0) (sym s.buffered)))
        (λ u e. record { moves = moves_ext (up_to_column rows n (suc c)) (next-column rows n c) (moves_trans p.moves e.moves); new = λ d j l k. new u e d j l k (dec_lt d c); spared = spared_ext (up_to_column rows n (suc c)) (λ d q. next-column rows n c d) (e.spared p.spared) })
        (λ i l. l)
      where
        s : Beside w v
        s = p.moves.beside

        here : up_to_column rows n c c ≡ rows
        here = column-behind rows n c c (omega arith)

        new : (u : World) → Adds v (up_to_column rows n c) b c from n u → (d j : ℕ) → d < suc c → j < n → Dec (d < c) → slot_cell u (filling w) d (rows + j) ≡ batch_cell w b d (from + j)
        new u e d j l k (yes t) =
            e.moves.cells (filling w) d (rows + j) (omega (arith, a.run.fit.place, s.set_up.queue)) (omega (arith, s.set_up.columns))
            (omega (arith, rows-filling v (up_to_column rows n c) (filling w) d (sym s.place), column-before rows n c d t))
            ∙ p.new d j t k
        new u e d j l k (no t) =
            let z : d ≡ c = omega arith in
            let y : slot_cell u v.state.place c (up_to_column rows n c c + j) ≡ batch_cell v b c (from + j) = e.new j k in
            rw z
            (ap (λ (i : ℕ). slot_cell u i c (rows + j)) (sym s.place) ∙ (rw here at y)
            ∙ batch_on x p.moves a.run c (from + j) q (omega arith))

    pub part_moves : Holds (Parted w.state.columns) (Among (10 ∷ 11 ∷ 12 ∷ [])) (part_copied w₀ w b from n)
    unfolding part_copied
    part_moves = holds_upto Parted w.state.columns (λ v c. column_copied w₀ v b c from n) w begin next
