-- A part of a column compacted: into the open block, into a new one, or into both.
use Rattle.std.specs.Prelude.{ℕ, ◌+◌, ◌-◌, ◌≤◌, ◌<◌, ◌≡◌, refl, true, false, List, [], ◌∷◌, leb}
use Rattle.std.proofs.Common.{sym, ◌∙◌, ap, arith}
use Rattle.std.proofs.Math.Decide.{dec_lt, ℕ_discrete}
use borrow.Author.Tests.{leb-true}
use Rattle.state.specs.World.{World}
use Rattle.state.specs.Layout.{is_views}
use Rattle.state.specs.Rows.{slot_cell}
use Rattle.rules.specs.Batch.{Batch, ideal, batch_cell}
use Rattle.rules.specs.Steps.{bind}
use Rattle.rules.specs.Views.{span, filling, has_block, is_open, open_rest, closed, block_opened, long_before, views_compacted, walked, part_compacted}
use Rattle.rules.specs.Held.{Among, among-more, Holds, holds_more, holds_bind, holds_cond}
use Rattle.rules.specs.Stays.{Beside}
use Rattle.rules.specs.SameLaws.{same_views, same_long_before}
use Rattle.push_safety.specs.SumLaws.{before_more, part_ideal, walked_most, walked-rest}
use Rattle.push_safety.specs.BlockGoes.{closed-shut}
use Rattle.invariant.specs.Holding.{Holding}
use Rattle.invariant.specs.Steps.Moves.{more, Moves, BitsStill, ReadableBatch, Laid, Extends}
use Rattle.invariant.proofs.Steps.MoveLaws.{more_here, more_other, moves_refl, moves_trans, still_refl, still_trans, laid_on, sourced_on, batch_on, rows-filling, rows_same}
use Rattle.invariant.proofs.Steps.Stored.{moves_more}
use Rattle.invariant.proofs.Steps.RaiseMoves.{extends_after}
use Rattle.invariant.proofs.Steps.CloseMoves.{closed_moves, closed_still}
use Rattle.invariant.proofs.Steps.OpenMoves.{opened_moves}
use Rattle.invariant.proofs.Steps.CompactMoves.{views_compacted_lem}

-- the rows of each column are all that counts
pub holding_ext : {w : World} {ext : ℕ → ℕ} (ext' : ℕ → ℕ) → ((c : ℕ) → c < w.state.columns → ext' c ≡ ext c) → Holding w ext → Holding w ext'
holding_ext {w} {ext} ext' e a =
    record {
      run = a.run;
      sound = a.sound;
      listed = a.listed;
      sizes = a.sizes;
      sixteen = a.sixteen;
      alone = a.alone;
      unheld = a.unheld;
      uncounted = a.uncounted;
      unlisted = a.unlisted;
      some = a.some;
      counted = a.counted;
      within = λ c q. omega (arith, a.within c q, e c q);
      valid = λ slot c i p q y h. a.valid slot c i p q y (rw (rows_same w w ext ext' slot c refl refl (e c q)) at h);
    }

pub moves_ext : {w v : World} {ext ext' : ℕ → ℕ} (ext'' : ℕ → ℕ) → ((c : ℕ) → ext'' c ≡ ext' c) → Moves w ext v ext' → Moves w ext v ext''
moves_ext {w} {v} {ext} {ext'} ext'' e m = moves_more m (λ c. omega (arith, m.grows c, e c)) (holding_ext ext'' (λ c q. e c) m.holding)

-- ---- one part behind another

module _ {w v : World} {ext : ℕ → ℕ} {b : Batch} (c from k n : ℕ) (a : Holding w ext) (x : ReadableBatch w b) (q : c < w.state.columns) (m : from + n ≤ b.rows) (l : k ≤ n) (first : Extends w ext b c from k v) where
  twice : (d : ℕ) → more ext c n d ≡ more (more ext c k) c (n - k) d
  twice d = go (ℕ_discrete d c)
    where
      go : Dec (d ≡ c) → more ext c n d ≡ more (more ext c k) c (n - k) d
      go (yes e) = rw e (omega (arith, more_here ext c n, more_here (more ext c k) c (n - k), more_here ext c k))
      go (no e) = more_other ext c n d e ∙ sym (more_other (more ext c k) c (n - k) d e ∙ more_other ext c k d e)

  pub extends_twice : {u : World} → Extends v (more ext c k) b c (from + k) (n - k) u → Extends w ext b c from n u
  extends_twice {u} e =
      record {
        moves = moves_ext (more ext c n) twice (moves_trans first.moves e.moves);
        new = λ j h. new j h (dec_lt j k);
        still = still_trans first.moves.beside first.still e.still;
      }
    where
      s : Beside w v
      s = first.moves.beside

      q' : c < v.state.columns
      q' = omega (arith, s.set_up.columns)

      new : (j : ℕ) → j < n → Dec (j < k) → slot_cell u (filling w) c (ext c + j) ≡ batch_cell w b c (from + j)
      new j h (yes d) =
          e.moves.cells (filling w) c (ext c + j) (omega (arith, a.run.fit.place, s.set_up.queue)) q' (omega (arith, rows-filling v (more ext c k) (filling w) c (sym s.place), more_here ext c k))
          ∙ first.new j d
      new j h (no d) =
          let i : ext c + j ≡ more ext c k c + (j - k) = omega (arith, more_here ext c k) in
          let t : from + k + (j - k) ≡ from + j = omega arith in
          ap (slot_cell u (filling w) c) i ∙ ap (λ (z : ℕ). slot_cell u z c (more ext c k c + (j - k))) (sym s.place) ∙ e.new (j - k) (omega arith)
          ∙ (rw t (batch_on x first.moves a.run c (from + j) q (omega arith)))

-- a part of the bits
pub laid_part : {w : World} {b : Batch} {c at from n : ℕ} (k m : ℕ) → k + m ≤ n → Laid w b c at from n → Laid w b c (at + k) (from + k) m
laid_part {w} {b} {c} {at} {from} {n} k m h l =
    record {
      bit = λ j i.
          let e : at + k + j ≡ at + (k + j) = omega arith in
          let f : from + k + j ≡ from + (k + j) = omega arith in
          rw (e, f) (l.bit (k + j) (omega arith));
    }

pub laid-first : {w : World} {b : Batch} {c at from n : ℕ} (k : ℕ) → k ≤ n → Laid w b c at from n → Laid w b c at from k
laid-first k h l = record { bit = λ j i. l.bit j (omega arith) }

-- ---- the part

abbrev rooms : List ℕ
rooms = 10 ∷ 11 ∷ 12 ∷ []

module _ {w : World} {ext : ℕ → ℕ} (b : Batch) (c from n : ℕ) (a : Holding w ext) (x : ReadableBatch w b) (q : c < w.state.columns) (y : is_views w.state c ≡ true) (h : ext c + n ≤ w.state.rows.0) (m : from + n ≤ b.rows) (t : Laid w b c (ext c) from n) where
  -- a new block, then the rows: from any world further on
  anew : {v : World} {ext' : ℕ → ℕ} (min i k : ℕ) → Moves w ext v ext' → BitsStill w v → is_open v c ≡ false → ext' c + k ≤ w.state.rows.0 → i + k ≤ b.rows → long_before w b c i k ≤ min → Laid v b c (ext' c) i k → Holds (Extends v ext' b c i k) (Among rooms) (bind (block_opened v c min) (λ u. views_compacted u b (span c (ext' c) i k)))
  anew {v} {ext'} min i k g s o r e f l =
      holds_bind _ (opened_moves c min g.holding q' y' o) (λ u z.
      holds_more (views_compacted_lem b c i k z.moves.holding (sourced_on x' z.moves g.holding.run) (omega (arith, q', z.moves.beside.set_up.columns)) (same_views z.moves.beside.set_up c ∙ y') z.is_open_lem (omega (arith, r, rows_are, ap (λ r. r.0) z.moves.beside.set_up.rows)) e
      (omega (arith, f, z.rest, same_long_before w v b g.beside.set_up c i k, same_long_before v u b z.moves.beside.set_up c i k))
      (laid_on b c (ext' c) i k g.holding.run z.moves.beside z.still q' (omega (arith, rows_are)) l))
      (λ u₂ d. extends_after g.holding x' q' e z.moves z.still d)
      (λ j p. among-more rooms tt p))
    where
      x' : ReadableBatch v b
      x' = sourced_on x g a.run

      q' : c < v.state.columns
      q' = omega (arith, g.beside.set_up.columns)

      y' : is_views v.state c ≡ true
      y' = same_views g.beside.set_up c ∙ y

      rows_are : v.state.rows.0 ≡ w.state.rows.0
      rows_are = ap (λ r. r.0) g.beside.set_up.rows

  abbrev k : ℕ
  k = walked w b c from n (open_rest w c)

  k_most : k ≤ n
  k_most = walked_most w b c from n (open_rest w c)

  -- the rest of the bytes
  behind : long_before w b c (from + k) (n - k) ≤ ideal w b c - long_before w b c from k
  behind =
      let e : k + (n - k) ≡ n = omega (arith, k_most) in
      let s : long_before w b c from n ≡ long_before w b c from k + long_before w b c (from + k) (n - k) = rw e at (before_more w b c from k (n - k)) in
      omega (arith, part_ideal w b c from n m)

  -- two blocks: the walk into the open one, then the rest into a new one
  second : (v : World) → Extends w ext b c from k v → Holds (Extends w ext b c from n) (Among rooms) (bind (block_opened (closed v c) c (ideal w b c - long_before w b c from k)) (λ u. views_compacted u b (span c (ext c + k) (from + k) (n - k))))
  second v d =
      holds_more
      (rw (more_here ext c k) at (anew (ideal w b c - long_before w b c from k) (from + k) (n - k) g s (ap has_block (closed-shut v c y')) (omega (arith, here, k_most)) (omega (arith, k_most)) behind l))
      (λ u e. extends_twice c from k n a x q m k_most d (extends_after d.moves.holding x' q' (omega (arith, k_most)) shut shut_still e))
      (λ j p. p)
    where
      b₁ : Beside w v
      b₁ = d.moves.beside

      q' : c < v.state.columns
      q' = omega (arith, b₁.set_up.columns)

      y' : is_views v.state c ≡ true
      y' = same_views b₁.set_up c ∙ y

      x' : ReadableBatch v b
      x' = sourced_on x d.moves a.run

      here : more ext c k c ≡ ext c + k
      here = more_here ext c k

      shut : Moves v (more ext c k) (closed v c) (more ext c k)
      shut = closed_moves c d.moves.holding q' y'

      shut_still : BitsStill v (closed v c)
      shut_still = closed_still c d.moves.holding q' y'

      g : Moves w ext (closed v c) (more ext c k)
      g = moves_trans d.moves shut

      s : BitsStill w (closed v c)
      s = still_trans b₁ d.still shut_still

      l : Laid (closed v c) b c (more ext c k c) (from + k) (n - k)
      l = rw here (laid_part k (n - k) (omega (arith, k_most)) (laid_on b c (ext c) from n a.run g.beside s q h t))

  pub part_compacted_extends : Holds (Extends w ext b c from n) (Among (10 ∷ 11 ∷ 12 ∷ [])) (part_compacted w b (span c (ext c) from n))
  unfolding part_compacted
  part_compacted_extends =
      holds_cond (is_open w c)
      (λ o. holds_cond (leb (ideal w b c) (open_rest w c))
      (λ r. holds_more (views_compacted_lem b c from n a x q y o h m (omega (arith, leb-true (ideal w b c) (open_rest w c) r, part_ideal w b c from n m)) t) (λ v d. d) (λ j p. among-more rooms tt p))
      (λ r. holds_bind _ (holds_more (views_compacted_lem b c from k a x q y o (omega (arith, k_most)) (omega (arith, k_most)) (walked-rest w b c from n (open_rest w c)) (laid-first k k_most t)) (λ v d. d) (λ j p. among-more rooms tt p)) second))
      (λ o. anew (ideal w b c) from n (moves_refl a) (still_refl w) o h m (part_ideal w b c from n m) t)
