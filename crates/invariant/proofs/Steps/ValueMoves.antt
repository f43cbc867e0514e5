-- The values of a part copied as they stand: of a column without views, and of views that are all inline.
use Rattle.std.specs.Prelude.{ℕ, ◌+◌, ◌*◌, ◌≤◌, ◌<◌, ◌≡◌, true, List, length, get_or}
use Rattle.std.proofs.Math.Path.{refl}
use Rattle.std.proofs.Common.{◌∙◌, ap, arith}
use Rattle.std.proofs.Math.Nat.{add-mul, mul-le-mul_right}
use Rattle.words.specs.Run.{read, put, lay}
use Rattle.words.specs.RunLaws.{length-read, lay-put}
use Rattle.words.specs.Frame.{Agrees, Framed}
use Rattle.words.specs.FrameLaws.{put_framed, put_agrees, get_d_read, agrees_trans, agrees_read}
use Rattle.views.specs.View.{view_of}
use Rattle.views.specs.StoreLaws.{agrees_view}
use Rattle.views.specs.ShowLaws.{keeps_inline}
use Rattle.state.specs.declared.BatchCoalescer.{BatchCoalescer}
use Rattle.state.specs.World.{World}
use Rattle.state.specs.Layout.{width_of, is_views, cell_place}
use Rattle.state.proofs.LayoutLaws.{views_width, cell_in}
use Rattle.rules.specs.Batch.{Batch, record_of, listed_bytes, value_place, row_view}
use Rattle.rules.specs.Steps.{in_slots}
use Rattle.rules.specs.Views.{span, filling, values_laid, values_copied}
use Rattle.invariant.specs.Holding.{Holding}
use Rattle.invariant.specs.ByteLaws.{bytes_read, bytes-lay}
use Rattle.invariant.specs.Steps.Moves.{Moves, BitsStill, ReadableBatch, Laid, Extends}
use Rattle.invariant.proofs.Steps.MoveLaws.{laid_on}
use Rattle.invariant.proofs.Steps.CopyMoves.{cells_still, cells_moves}
use Rattle.invariant.proofs.Steps.Stored.{stored_extends}

-- rows follow one another
pub cell_add : (s : BatchCoalescer) (slot c i j : ℕ) → cell_place s slot c (i + j) ≡ cell_place s slot c i + j * width_of s c
unfolding cell_place
cell_add s slot c i j = omega (arith, add-mul i j (width_of s c))

pub value_add : (w : World) (b : Batch) (c i j : ℕ) → value_place w b c (i + j) ≡ value_place w b c i + j * width_of w.state c
unfolding value_place
value_add w b c i j = omega (arith, add-mul i j (width_of w.state c))

-- a row of n
pub row_of : (j n width : ℕ) → j < n → j * width + width ≤ n * width
row_of j n width h = let p : j + 1 ≤ n = omega arith in omega (arith, add-mul j 1 width, mul-le-mul_right width p)

module _ {w : World} {ext : ℕ → ℕ} (b : Batch) (c at from n : ℕ) (a : Holding w ext) (x : ReadableBatch w b) (q : c < w.state.columns) (old : ext c ≤ at) (h : at + n ≤ w.state.rows.0) (m : from + n ≤ b.rows) where
  abbrev width : ℕ
  width = width_of w.state c

  abbrev to : ℕ
  to = cell_place w.state (filling w) c at

  abbrev source : ℕ
  source = value_place w b c from

  abbrev bytes : List ℕ
  bytes = read source (n * width) b.body

  abbrev laid : List ℕ
  laid = lay to bytes w.slots

  source_in_lem : source + n * width ≤ length b.body
  unfolding value_place
  source_in_lem =
      omega (arith, (x.reads.columns c q).values, add-mul from n width, mul-le-mul_right {m = from + n} {n = b.rows} width m)

  length-bytes : length bytes ≡ n * width
  length-bytes = length-read source (n * width) b.body source_in_lem

  to_in : to + n * width ≤ length w.slots
  to_in = omega (arith, cell_in w.state (filling w) c a.run.fit.place q at n h, a.run.fit.slots_are)

  laid_is : laid ≡ put to bytes w.slots
  laid_is = lay-put to bytes w.slots (omega (arith, length-bytes, to_in))

  framed : Framed to (to + n * width) w.slots laid
  framed =
      let e : to + length bytes ≡ to + n * width = ap (λ (k : ℕ). to + k) length-bytes in
      rw laid_is (rw e at (put_framed to bytes w.slots (omega (arith, length-bytes, to_in))))

  agrees : Agrees b.body source laid to (n * width)
  agrees =
      let p : Agrees bytes 0 laid to (n * width) = rw laid_is (rw length-bytes at (put_agrees to bytes w.slots (omega (arith, length-bytes, to_in)))) in
      agrees_trans (record { byte = λ i j k l e. get_d_read source (n * width) b.body i (omega arith) ∙ ap (λ (z : ℕ). get_or b.body z 0) (omega arith) }) p

  values_are : values_copied w b (filling w) (span c at from n) ≡ in_slots w laid
  unfolding values_copied values_laid value_place
  values_are = refl

  pub values_moves : Moves w ext (values_copied w b (filling w) (span c at from n)) ext
  values_moves = rw values_are (cells_moves laid c at n a q old h framed (λ z. bytes-lay to (bytes_read source (n * width) x.bytes) z))

  pub values_still : BitsStill w (values_copied w b (filling w) (span c at from n))
  values_still = rw values_are (cells_still laid c at n a q old h framed)

  -- each row has the bytes of its row of the batch
  pub values_agree : (j : ℕ) → j < n → Agrees b.body (value_place w b c (from + j)) (values_copied w b (filling w) (span c at from n)).slots (cell_place w.state (filling w) c (at + j)) width
  values_agree j l =
      rw values_are
      (record {
        byte = λ i k p r e. agrees.byte i k (omega (arith, cell_add w.state (filling w) c at j)) (omega (arith, cell_add w.state (filling w) c at j, row_of j n width l)) (omega (arith, cell_add w.state (filling w) c at j, value_add w b c from j));
      })

  pub values_view : is_views w.state c ≡ true → (j : ℕ) → j < n → view_of (values_copied w b (filling w) (span c at from n)).slots (cell_place w.state (filling w) c (at + j)) ≡ row_view w b c (from + j)
  unfolding row_view
  values_view y j l =
      agrees_view (cell_place w.state (filling w) c (at + j)) (value_place w b c (from + j)) (values_agree j l) (omega arith) (omega (arith, views_width w.state c y)) (omega arith)

  pub values_plain : (j : ℕ) → j < n → read (cell_place w.state (filling w) c (at + j)) width (values_copied w b (filling w) (span c at from n)).slots ≡ read (value_place w b c (from + j)) width b.body
  values_plain j l =
      agrees_read (cell_place w.state (filling w) c (at + j)) (value_place w b c (from + j)) width (values_agree j l) (omega arith) (omega arith) (omega arith)
      (omega (arith, values_moves.beside.slots, cell_add w.state (filling w) c at j, row_of j n width l, to_in))
      (omega (arith, value_add w b c from j, row_of j n width l, source_in_lem))

-- 01: "Ideal 0: views copied, list not attached": all of them are inline
module _ {w : World} {ext : ℕ → ℕ} (b : Batch) (c from n : ℕ) (a : Holding w ext) (x : ReadableBatch w b) (q : c < w.state.columns) (h : ext c + n ≤ w.state.rows.0) (m : from + n ≤ b.rows) where
  pub values_extends : Laid w b c (ext c) from n → (is_views w.state c ≡ true → (j : ℕ) → j < n → (row_view w b c (from + j)).length ≤ 12) → Extends w ext b c from n (values_copied w b (filling w) (span c (ext c) from n))
  values_extends l inline =
      stored_extends b c from n moves q h (laid_on b c (ext c) from n a.run moves.beside still q h l)
      (λ j k.
      record {
        shown = λ y.
            rw (values_view b c (ext c) from n a x q (omega arith) h m y j k)
            (keeps_inline (row_view w b c (from + j)) (listed_bytes w b c) (record_of b c).count _ _ (inline y j k) (x.valid c (from + j) q y (omega arith)));
        plain = λ y. values_plain b c (ext c) from n a x q (omega arith) h m j k;
      })
      still
    where
      still : BitsStill w (values_copied w b (filling w) (span c (ext c) from n))
      still = values_still b c (ext c) from n a x q (omega arith) h m

      moves : Moves w ext (values_copied w b (filling w) (span c (ext c) from n)) ext
      moves = values_moves b c (ext c) from n a x q (omega arith) h m
