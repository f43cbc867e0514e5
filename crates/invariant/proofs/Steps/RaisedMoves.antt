-- Views raised behind an attached list, and the part attached: every row reads as it did.
use Rattle.std.specs.Prelude.{ℕ, ◌+◌, ◌≤◌, ◌<◌, ◌≡◌, true, [], ◌∷◌, leb}
use Rattle.std.proofs.Math.Path.{refl, ap}
use Rattle.std.proofs.Common.{sym, ◌∙◌, true≢false, leb-true}
use native.Mathlib.Omega.{arith}
use Rattle.sound.specs.Sound.{filled_bytes}
use Rattle.views.specs.declared.View.{View}
use Rattle.views.specs.View.{raised_by}
use Rattle.views.specs.StoreLaws.{ViewWords}
use Rattle.views.specs.ShowLaws.{keeps_raised}
use Rattle.state.specs.World.{World}
use Rattle.state.specs.Layout.{is_views, list_length}
use Rattle.state.specs.Rows.{listed_at, buffer_at}
use Rattle.rules.specs.Batch.{Batch, record_of, listed_number, bytes_listed, listed_bytes, row_view}
use Rattle.rules.specs.Steps.{in_slots}
use Rattle.rules.specs.Views.{span, filling, closed, list_attached, views_raised, part_attached}
use Rattle.rules.specs.Held.{Among, one_of, Holds, held, refused, holds_cond}
use Rattle.rules.specs.Stays.{Beside}
use Rattle.rules.specs.SameLaws.{same_views}
use Rattle.push_safety.specs.Run.{ColumnReads}
use Rattle.push_safety.specs.BlockGoes.{closed-shut}
use Rattle.invariant.specs.Holding.{reach, number_at, Holding}
use Rattle.invariant.proofs.Rests.{buffer_number_lem}
use Rattle.invariant.specs.Steps.Moves.{Moves, BitsStill, ReadableBatch, Laid, Extends}
use Rattle.invariant.proofs.Steps.MoveLaws.{moves_trans, laid_on, sourced_on, still_trans}
use Rattle.invariant.proofs.SlotLaws.{slots_reach, slots_number}
use Rattle.invariant.proofs.Steps.CopyMoves.{cells_word}
use Rattle.invariant.proofs.Steps.Stored.{Stored, stored_extends}
use Rattle.invariant.proofs.Steps.CloseMoves.{closed_moves, closed_still}
use Rattle.invariant.proofs.Steps.AttachMoves.{attached_moves, attached_still, attached_reach, attached_number}
use Rattle.invariant.proofs.Steps.RaiseMoves.{extends_after, put, put_moves, put_still, put_view, put_framed, fits as raised_fit}

module _ {w : World} {ext : ℕ → ℕ} (b : Batch) (c k from n : ℕ) (a : Holding w ext) (x : ReadableBatch w b) (q : c < w.state.columns) (y : is_views w.state c ≡ true) (h : ext c + n ≤ w.state.rows.0) (m : from + n ≤ b.rows) (r : reach w w.state.place c ≡ k + (record_of b c).count) (numbers : (i : ℕ) → i < (record_of b c).count → number_at w w.state.place c (k + i) ≡ listed_number b c i) where
  abbrev raised : ℕ → View
  raised i = raised_by k (row_view w b c (from + i))

  abbrev place : ℕ
  place = w.state.place

  fits : (j : ℕ) → j < n → ViewWords (raised j)
  fits = raised_fit b c k from n a x q y h m r numbers

  abbrev v : World
  v = in_slots w (put b c from n a q y h raised fits)

  raised_is : views_raised w b k (span c (ext c) from n) ≡ v
  unfolding views_raised
  raised_is = refl

  v_moves : Moves w ext v ext
  v_moves = put_moves b c from n a q y h raised fits

  -- the buffer at index k + i is that of the list
  buffer : (i : ℕ) → i < (record_of b c).count → buffer_at v place c (i + k) ≡ listed_bytes w b c i
  unfolding listed_bytes bytes_listed listed_number
  buffer i l =
      let e : i + k ≡ k + i = omega arith in
      let g : i + k < reach v place c = omega (arith, slots_reach w (put b c from n a q y h raised fits) place c, r) in
      let z : number_at v place c (k + i) ≡ number_at w place c (k + i) = number_on (k + i) (omega (arith, r)) in
      buffer_number_lem v place c (i + k) g ∙ ap (filled_bytes w.books w.pool) (ap (number_at v place c) e ∙ z ∙ numbers i l)
    where
      number_on : (i : ℕ) → i < reach w place c → number_at v place c i ≡ number_at w place c i
      number_on i l = slots_number w (put b c from n a q y h raised fits) place c i (λ d. put-entry i d)
        where
          put-entry : (i : ℕ) → i < list_length w place c → listed_at v place c i ≡ listed_at w place c i
          put-entry i d = cells_word (put b c from n a q y h raised fits) c (ext c) n a q (omega arith) h (put_framed b c from n a q y h raised fits) place c i a.run.fit.place q d

  stored : (j : ℕ) → j < n → Stored w v b c (from + j) (ext c + j)
  stored j l =
      record {
        shown = λ z.
            rw (put_view b c from n a q y h raised fits j l)
            (keeps_raised (row_view w b c (from + j)) (listed_bytes w b c) (record_of b c).count (buffer_at v place c) (reach v place c) k (x.valid c (from + j) q y (omega arith))
            (omega (arith, slots_reach w (put b c from n a q y h raised fits) place c, r))
            buffer);
        plain = λ z. absurd (true≢false (sym y ∙ z));
      }

  pub raised_extends : Laid w b c (ext c) from n → Extends w ext b c from n (views_raised w b k (span c (ext c) from n))
  raised_extends l =
      rw raised_is
      (stored_extends b c from n v_moves q h (laid_on b c (ext c) from n a.run v_moves.beside (put_still b c from n a q y h raised fits) q h l) stored (put_still b c from n a q y h raised fits))

-- ---- the part

module _ {w : World} {ext : ℕ → ℕ} (b : Batch) (c from n : ℕ) (a : Holding w ext) (x : ReadableBatch w b) (q : c < w.state.columns) (y : is_views w.state c ≡ true) (h : ext c + n ≤ w.state.rows.0) (m : from + n ≤ b.rows) (l : Laid w b c (ext c) from n) where
  abbrev u : World
  u = closed w c

  shut_moves : Moves w ext u ext
  shut_moves = closed_moves c a q y

  attached_extends : list_length u (filling w) c + (record_of b c).count ≤ w.state.lists → Extends w ext b c from n (views_raised (list_attached u b c) b (list_length u (filling w) c) (span c (ext c) from n))
  attached_extends t =
      extends_after a x q m (moves_trans shut_moves mid) (still_trans e (closed_still c a q y) mid_still)
      (rw len (raised_extends b c (list_length u u.state.place c) from n mid.holding (sourced_on (sourced_on x shut_moves a.run) mid shut_moves.holding.run) q'' y'' h'' m reach_is number_is laid''))
    where
      e : Beside w u
      e = shut_moves.beside

      len : list_length u (filling w) c ≡ list_length u u.state.place c
      len = ap (λ (s : ℕ). list_length u s c) (sym e.place)

      q' : c < u.state.columns
      q' = omega (arith, e.set_up.columns)

      y' : is_views u.state c ≡ true
      y' = same_views e.set_up c ∙ y

      t' : list_length u u.state.place c + (record_of b c).count ≤ u.state.lists
      t' = omega (arith, e.set_up.lists, len)

      reads : ColumnReads u b c
      reads = (sourced_on x shut_moves a.run).reads.columns c q'

      mid : Moves u ext (list_attached u b c) ext
      mid = attached_moves b c shut_moves.holding reads q' y' (closed-shut w c y) t' x.bytes

      mid_still : BitsStill u (list_attached u b c)
      mid_still = attached_still b c shut_moves.holding reads q' y' (closed-shut w c y) t'

      q'' : c < (list_attached u b c).state.columns
      q'' = omega (arith, q', mid.beside.set_up.columns)

      y'' : is_views (list_attached u b c).state c ≡ true
      y'' = same_views mid.beside.set_up c ∙ y'

      h'' : ext c + n ≤ (list_attached u b c).state.rows.0
      h'' = omega (arith, ap (λ r. r.0) mid.beside.set_up.rows, ap (λ r. r.0) e.set_up.rows)

      reach_is : reach (list_attached u b c) (list_attached u b c).state.place c ≡ list_length u u.state.place c + (record_of b c).count
      reach_is = ap (λ (s : ℕ). reach (list_attached u b c) s c) mid.beside.place ∙ attached_reach b c shut_moves.holding reads q' y' (closed-shut w c y) t'

      number_is : (i : ℕ) → i < (record_of b c).count → number_at (list_attached u b c) (list_attached u b c).state.place c (list_length u u.state.place c + i) ≡ listed_number b c i
      number_is i z =
          ap (λ (s : ℕ). number_at (list_attached u b c) s c (list_length u u.state.place c + i)) mid.beside.place
          ∙ attached_number b c shut_moves.holding reads q' y' (closed-shut w c y) t' i z

      laid'' : Laid (list_attached u b c) b c (ext c) from n
      laid'' =
          laid_on b c (ext c) from n shut_moves.holding.run mid.beside mid_still q' (omega (arith, ap (λ r. r.0) e.set_up.rows))
          (laid_on b c (ext c) from n a.run e (closed_still c a q y) q h l)

  pub part_attached_extends : Holds (Extends w ext b c from n) (Among (10 ∷ [])) (part_attached w b (span c (ext c) from n))
  unfolding part_attached
  part_attached_extends =
      holds_cond (leb (list_length u (filling w) c + (record_of b c).count) w.state.lists)
      (λ t. held (attached_extends (leb-true _ _ t)))
      (λ t. refused (one_of (10 ∷ []) 10 tt))
