-- Spare bits are zero: what a step leaves of them.
use Rattle.std.specs.Prelude.{ℕ, ◌+◌, ◌*◌, ◌≤◌, ◌<◌, ◌≡◌, refl, ◌≢◌}
use Rattle.std.proofs.Common.{sym, ◌∙◌, ap, arith}
use Rattle.std.proofs.Math.Decide.{ℕ_discrete}
use Rattle.bits.specs.Bits.{bits_from}
use Rattle.state.specs.declared.BatchCoalescer.{BatchCoalescer}
use Rattle.state.specs.World.{World}
use Rattle.state.specs.Layout.{bitmap_bytes, bitmap_place, rows_in}
use Rattle.state.proofs.LayoutLaws.{bits_fit}
use Rattle.state.specs.Rows.{slot_cell}
use Rattle.rules.specs.Batch.{Batch}
use Rattle.rules.specs.Views.{span, filling, bits_copied}
use Rattle.rules.specs.Stays.{SameSetUp, Beside}
use Rattle.rules.specs.SameLaws.{same_bitmap_place}
use Rattle.invariant.specs.Holding.{rows_at, IsSpare, Spared, Holding}
use Rattle.invariant.specs.Steps.Moves.{more, Moves, BitsStill, ReadableBatch, Extends, Adds}
use Rattle.invariant.proofs.Steps.MoveLaws.{rows-filling, rows_other, rows_most, rows_same, more_here, more_other, moves_trans, batch_on}
use Rattle.invariant.proofs.Steps.CopyMoves.{bits_moves, bits_others, bits_none, bits_spare}

-- a spare bit lies in the bitmap
spare_in : (s : BatchCoalescer) (n i : ℕ) → n ≤ s.rows.0 → IsSpare n i → i < 8 * bitmap_bytes s
spare_in s n i h p = omega (arith, bits_fit s, p.some, p.byte)

-- of column c of a slot: it has no row then; or as many as before, and the bits that it had; or its spare bits are known
pub data SpareCase (w v : World) (ext ext' : ℕ → ℕ) (slot c : ℕ) : Type 0 where
  no_rows : rows_at v ext' slot c ≡ 0 → SpareCase w v ext ext' slot c
  same_rows : rows_at v ext' slot c ≡ rows_at w ext slot c → ((i : ℕ) → i < 8 * bitmap_bytes w.state → bits_from v.slots (bitmap_place w.state slot c) 0 i ≡ bits_from w.slots (bitmap_place w.state slot c) 0 i) → SpareCase w v ext ext' slot c
  new-rows : ((i : ℕ) → IsSpare (rows_at v ext' slot c) i → bits_from v.slots (bitmap_place w.state slot c) 0 i ≡ 0) → SpareCase w v ext ext' slot c

pub spared_on : {w v : World} {ext : ℕ → ℕ} (ext' : ℕ → ℕ) → Holding w ext → SameSetUp w.state v.state → Spared w ext → ((slot c : ℕ) → slot ≤ w.state.queue → c < w.state.columns → SpareCase w v ext ext' slot c) → Spared v ext'
spared_on {w} {v} {ext} ext' a e s f =
    record {
      spare = λ slot c i p q h.
          let p' : slot ≤ w.state.queue = rw e.queue at p in
          let q' : c < w.state.columns = rw e.columns at q in
          rw (same_bitmap_place e slot c) (go slot c i p' q' h (f slot c p' q'));
    }
  where
    go : (slot c i : ℕ) → slot ≤ w.state.queue → c < w.state.columns → IsSpare (rows_at v ext' slot c) i → SpareCase w v ext ext' slot c → bits_from v.slots (bitmap_place w.state slot c) 0 i ≡ 0
    go slot c i p q h (no_rows z) = absurd (omega (arith, h.some))
    go slot c i p q h (same_rows z b) =
        let k : IsSpare (rows_at w ext slot c) i = rw z at h in
        b i (spare_in w.state (rows_at w ext slot c) i (rows_most w ext a slot c p q) k) ∙ s.spare slot c i p q k
    go slot c i p q h (new-rows n) = n i h

-- the same rows, and no bit changed
pub spared_still : {w v : World} {ext : ℕ → ℕ} → Holding w ext → Beside w v → BitsStill w v → ((slot : ℕ) → slot ≤ w.state.queue → rows_in v slot ≡ rows_in w slot) → Spared w ext → Spared v ext
spared_still {w} {v} {ext} a b t r s =
    spared_on ext a b.set_up s (λ slot c p q. same_rows (rows_same w v ext ext slot c b.place (r slot p) refl) (λ i l. t.bit slot c i p q l))

-- the rows of each column are all that counts
pub spared_ext : {w : World} {ext : ℕ → ℕ} (ext' : ℕ → ℕ) → ((c : ℕ) → c < w.state.columns → ext' c ≡ ext c) → Spared w ext → Spared w ext'
spared_ext {w} {ext} ext' e s =
    record { spare = λ slot c i p q h. s.spare slot c i p q (rw (rows_same w w ext ext' slot c refl refl (e c q)) at h) }

-- ---- the bits of a part, then its rows

module _ {w u : World} {ext : ℕ → ℕ} {b : Batch} {c from n : ℕ} (a : Holding w ext) (x : ReadableBatch w b) (q : c < w.state.columns) (h : ext c + n ≤ w.state.rows.0) (m : from + n ≤ b.rows) (e : Extends (bits_copied w b (filling w) (span c (ext c) from n)) ext b c from n u) where
  abbrev v : World
  v = bits_copied w b (filling w) (span c (ext c) from n)

  laid : Moves w ext v ext
  laid = bits_moves b c (ext c) from n a q (omega arith) h

  all : Moves w ext u (more ext c n)
  all = moves_trans laid e.moves

  -- the rows leave the bits
  bit : (slot d i : ℕ) → slot ≤ w.state.queue → d < w.state.columns → i < 8 * bitmap_bytes w.state → bits_from u.slots (bitmap_place w.state slot d) 0 i ≡ bits_from v.slots (bitmap_place w.state slot d) 0 i
  unfolding bits_copied
  bit slot d i p r l = e.still.bit slot d i p r l

  case : (slot d : ℕ) → slot ≤ w.state.queue → d < w.state.columns → Dec (slot ≡ w.state.place) → Dec (d ≡ c) → SpareCase w u ext (more ext c n) slot d
  case slot d p r (no z) y =
      same_rows
      (rows_other u (more ext c n) slot d (λ t. z (t ∙ all.beside.place)) ∙ all.rows slot p ∙ sym (rows_other w ext slot d z))
      (λ i l. bit slot d i p r l ∙ bits_others b c (ext c) from n a q (omega arith) h slot d i p r l (λ t. absurd (z t)))
  case slot d p r (yes z) (no y) =
      same_rows
      (rows-filling u (more ext c n) slot d (z ∙ sym all.beside.place) ∙ more_other ext c n d y ∙ sym (rows-filling w ext slot d z))
      (λ i l. bit slot d i p r l ∙ bits_others b c (ext c) from n a q (omega arith) h slot d i p r l (λ t. y))
  case slot d p r (yes z) (yes y) = by_rows (ℕ_discrete n 0)
    where
      here : rows_at u (more ext c n) slot d ≡ ext c + n
      here = rows-filling u (more ext c n) slot d (z ∙ sym all.beside.place) ∙ ap (more ext c n) y ∙ more_here ext c n

      by_rows : Dec (n ≡ 0) → SpareCase w u ext (more ext c n) slot d
      by_rows (yes k) =
          same_rows
          (here ∙ sym (rows-filling w ext slot d z ∙ ap ext y ∙ omega arith))
          (λ i l. bit slot d i p r l ∙ (rw (z, y) (bits_none b c (ext c) from n a q (omega arith) h k i l)))
      by_rows (no k) =
          new-rows (λ i t.
          let s : IsSpare (ext c + n) i = rw here at t in
          let l : i < 8 * bitmap_bytes w.state = spare_in w.state (ext c + n) i h s in
          bit slot d i p r l ∙ (rw (z, y) (bits_spare b c (ext c) from n a q (omega arith) h (omega arith) i l s.behind s.byte)))

  pub adds_after : Adds w ext b c from n u
  adds_after =
      record {
        moves = all;
        new = λ j l.
            ap (λ (s : ℕ). slot_cell u s c (ext c + j)) (sym laid.beside.place) ∙ e.new j l
            ∙ batch_on x laid a.run c (from + j) q (omega arith);
        spared = λ s.
            spared_on (more ext c n) a all.beside.set_up s (λ slot d p r. case slot d p r (ℕ_discrete slot w.state.place) (ℕ_discrete d c));
      }
