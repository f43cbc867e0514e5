-- A row that rests: its bit, its bytes and the buffers of its slot stay, so that it shows what it showed.
use Prim.Native.Nat.{ℕ, ◌+◌, ◌*◌, ◌≤◌, ◌<◌}
use Rattle.std.specs.Prelude.{◌≡◌, ◌≢◌, Bool, List, length}
use Rattle.std.proofs.Math.Path.{refl, sym}
use Rattle.std.proofs.Common.{◌∙◌, true≢false}
use Rattle.std.proofs.Math.Bool.{true, false, cond}
use native.Mathlib.Omega.{arith}
use Rattle.std.proofs.Math.Decide.{dec_lt}
use Rattle.std.proofs.Math.Dec.{eqb}
use borrow.Author.Tests.{lt-ltb, le-ltb, eq-eqb, ne_eqb, eqb-true}
use Rattle.words.specs.Run.{read}
use Rattle.words.specs.Frame.{Agrees}
use Rattle.words.specs.FrameLaws.{agrees_read}
use Rattle.bits.specs.Bits.{bits_from}
use Rattle.sound.specs.Sound.{filled_bytes}
use Rattle.views.specs.View.{view_of, is_valid, shows}
use Rattle.views.specs.StoreLaws.{agrees_view}
use Rattle.views.specs.ShowLaws.{Keeps}
use Rattle.state.specs.World.{World, column_of}
use Rattle.state.specs.Layout.{width_of, is_views, bitmap_place, cell_place, slots_length, list_length}
use Rattle.state.proofs.LayoutLaws.{views_width, cell_in}
use Rattle.state.specs.Rows.{listed_at, open_bytes, buffer_at, cell_of, slot_cell}
use Rattle.rules.specs.Views.{has_block, block_number, is_open, open_number}
use Rattle.rules.specs.Stays.{SameSetUp}
use Rattle.rules.specs.SameLaws.{same_width, same_views, same_bitmap_place, same_cell_place}
use Rattle.invariant.specs.Holding.{reach, number_at, Begins, Stands}
use Rattle.invariant.proofs.BeginLaws.{keeps_begins}
use Rattle.std.specs.Prelude.{Option, Some, None}
use Rattle.counts.specs.declared.BufferNumber.{BufferNumber}

-- ---- how far a list reaches, and the number at each index

module _ (w : World) (slot c : ℕ) where
  pub reach_plain : is_views w.state c ≡ false → reach w slot c ≡ 0
  unfolding reach
  reach_plain y = rw y

  -- in another slot than the one being filled, and where no block is open, to the end of the list
  pub reach_other : is_views w.state c ≡ true → slot ≢ w.state.place → reach w slot c ≡ list_length w slot c
  unfolding reach
  reach_other y d = rw (y, ne_eqb slot w.state.place d) (omega arith)

  pub reach-shut : is_views w.state c ≡ true → is_open w c ≡ false → reach w slot c ≡ list_length w slot c
  unfolding reach
  reach-shut y o = rw (y, o) (by_place (eqb slot w.state.place))
    where
      by_place : (b : Bool) → list_length w slot c + cond b 0 0 ≡ list_length w slot c
      by_place true = omega arith
      by_place false = omega arith

  -- one further where one is
  pub reach_open : is_views w.state c ≡ true → slot ≡ w.state.place → is_open w c ≡ true → reach w slot c ≡ list_length w slot c + 1
  unfolding reach
  reach_open y d o = rw (y, o, eq-eqb slot w.state.place d)

  pub number-listed : (i : ℕ) → i < list_length w slot c → number_at w slot c i ≡ listed_at w slot c i
  unfolding number_at
  number-listed i h = rw (lt-ltb i (list_length w slot c) h)

  pub number_open : (i : ℕ) → list_length w slot c ≤ i → number_at w slot c i ≡ open_number w c
  unfolding number_at
  number_open i h = rw (le-ltb i (list_length w slot c) h)

  -- an index behind the list is the open block's
  pub reach-behind : (i : ℕ) → i < reach w slot c → list_length w slot c ≤ i → (slot ≡ w.state.place) × (is_open w c ≡ true) × (i ≡ list_length w slot c)
  unfolding reach
  reach-behind i h l = go (is_views w.state c) (eqb slot w.state.place) refl (is_open w c) refl h
    where
      go : (x y : Bool) → eqb slot w.state.place ≡ y → (z : Bool) → is_open w c ≡ z → i < cond x (list_length w slot c + cond y (cond z 1 0) 0) 0 → (slot ≡ w.state.place) × (is_open w c ≡ true) × (i ≡ list_length w slot c)
      go true true p true q r = (eqb-true _ _ p, q, omega arith)
      go true true p false q r = absurd (omega arith)
      go true false p z q r = absurd (omega arith)
      go false y p z q r = absurd (omega arith)

  open_bytes_lem : (o : Option BufferNumber) → has_block o ≡ true → open_bytes w o ≡ filled_bytes w.books w.pool (block_number o)
  open_bytes_lem (Some k) e = refl
  open_bytes_lem None e = absurd (true≢false (sym e))

  -- the buffer at an index within reach is that of its number
  pub buffer_number_lem : (i : ℕ) → i < reach w slot c → buffer_at w slot c i ≡ filled_bytes w.books w.pool (number_at w slot c i)
  unfolding buffer_at open_number
  buffer_number_lem i h = go (dec_lt i (list_length w slot c))
    where
      go : Dec (i < list_length w slot c) → buffer_at w slot c i ≡ filled_bytes w.books w.pool (number_at w slot c i)
      go (yes l) = rw (number-listed i l, lt-ltb i (list_length w slot c) l)
      go (no l) =
          let p = reach-behind i h (omega arith) in
          rw (number_open i (omega arith), le-ltb i (list_length w slot c) (omega arith), eq-eqb i (list_length w slot c) p.2, eq-eqb slot w.state.place p.0)
          (open_bytes_lem (column_of w.state c).block p.1)

-- ---- cells

-- two cells with one bit, and the same value
pub cell_is : (views : Bool) {bit bit' : ℕ} (m m' : List ℕ) (at at' width : ℕ) (f f' : ℕ → List ℕ) → bit' ≡ bit → (views ≡ true → shows (view_of m' at') f' ≡ shows (view_of m at) f) → (views ≡ false → read at' width m' ≡ read at width m) → cell_of views bit' m' at' width f' ≡ cell_of views bit m at width f
unfolding cell_of
cell_is true m m' at at' width f f' e g h = rw (e, g refl)
cell_is false m m' at at' width f f' e g h = rw (e, h refl)

-- the bit and the bytes of row i of column c of a slot stay
pub record Rests (w v : World) (slot c i : ℕ) : Type 0 where
  pub bit : bits_from v.slots (bitmap_place w.state slot c) 0 i ≡ bits_from w.slots (bitmap_place w.state slot c) 0 i
  pub cell : Agrees w.slots (cell_place w.state slot c i) v.slots (cell_place w.state slot c i) (width_of w.state c)

-- the numbers that column c of a slot lists stay, and there may be more
pub record Lists (w v : World) (slot c : ℕ) : Type 0 where
  pub more : reach w slot c ≤ reach v slot c
  pub same : (i : ℕ) → i < reach w slot c → number_at v slot c i ≡ number_at w slot c i

-- what the row shows then
pub record Shows (w v : World) (slot c i : ℕ) : Type 0 where
  pub cell : slot_cell v slot c i ≡ slot_cell w slot c i
  pub valid : is_views v.state c ≡ true → is_valid (view_of v.slots (cell_place v.state slot c i)) (buffer_at v slot c) (reach v slot c) ≡ true

module _ {w v : World} (e : SameSetUp w.state v.state) (slot c i : ℕ) where
  -- the buffers begin with what they were
  pub buffers_begin : Lists w v slot c → ((j : ℕ) → j < reach w slot c → Stands w v (number_at w slot c j)) → (j : ℕ) → j < reach w slot c → Begins (buffer_at w slot c j) (buffer_at v slot c j)
  buffers_begin l s j h =
      rw (buffer_number_lem w slot c j h, buffer_number_lem v slot c j (omega (arith, l.more)), l.same j h) (s j h).begins

  pub rests_shows : slot ≤ w.state.queue → c < w.state.columns → i < w.state.rows.0 → length w.slots ≡ slots_length w.state → length v.slots ≡ length w.slots → Rests w v slot c i → Lists w v slot c → ((j : ℕ) → j < reach w slot c → Stands w v (number_at w slot c j)) → (is_views w.state c ≡ true → is_valid (view_of w.slots (cell_place w.state slot c i)) (buffer_at w slot c) (reach w slot c) ≡ true) → Shows w v slot c i
  unfolding slot_cell
  rests_shows p q h len len' r l s valid =
      record {
        cell =
            rw (same_views e c, same_bitmap_place e slot c, same_cell_place e slot c i, same_width e c)
            (cell_is (is_views w.state c) w.slots v.slots at at (width_of w.state c) (buffer_at w slot c) (buffer_at v slot c) r.bit (λ y. (keeps y).same) plain);
        valid = λ y. let z : is_views w.state c ≡ true = sym (same_views e c) ∙ y in rw (same_cell_place e slot c i) (keeps z).valid;
      }
    where
      at : ℕ
      at = cell_place w.state slot c i

      inside : at + 1 * width_of w.state c ≤ slots_length w.state
      inside = cell_in w.state slot c p q i 1 (omega arith)

      plain : is_views w.state c ≡ false → read at (width_of w.state c) v.slots ≡ read at (width_of w.state c) w.slots
      plain y = agrees_read at at (width_of w.state c) r.cell (omega arith) (omega arith) refl (omega (arith, inside)) (omega (arith, inside))

      keeps : is_views w.state c ≡ true → Keeps (view_of w.slots at) (buffer_at w slot c) (view_of v.slots at) (buffer_at v slot c) (reach v slot c)
      keeps y =
          let same : view_of v.slots at ≡ view_of w.slots at = agrees_view at at r.cell (omega arith) (omega (arith, views_width w.state c y)) refl in
          rw same (keeps_begins (view_of w.slots at) (buffer_at w slot c) (reach w slot c) (buffer_at v slot c) (reach v slot c) (valid y) l.more (buffers_begin l s))
