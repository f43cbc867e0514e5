-- Another limit: no row, count or place hangs on it.
use Prim.Native.Nat.{ℕ, zero, suc}
use Rattle.std.specs.Prelude.{◌≡◌}
use Rattle.std.proofs.Math.Path.{refl, sym, fun_ext}
use Rattle.std.proofs.Common.{◌∙◌}
use Rattle.sound.specs.SoundLaws.{sound_recount}
use Rattle.state.specs.declared.BatchCoalescer.{BatchCoalescer}
use Rattle.state.specs.World.{World, column_of}
use Rattle.state.specs.Layout.{width_of, is_views, values_bytes, bitmap_bytes, list_bytes, columns_bytes, slot_bytes, values_place, bitmap_place, list_place, cell_place, slots_length, books_length, rows_in, list_length, slot_before, queued_slot}
use Rattle.state.specs.Rows.{open_bytes, listed_at, buffer_at, slot_cell, slot_rows, buffered_rows}
use Rattle.rules.specs.Ranges.{in_bounds}
use Rattle.rules.specs.Steps.{with_limit, in_state}
use Rattle.rules.specs.Views.{open_number}
use Rattle.push_safety.specs.Run.{Run}
use Rattle.invariant.specs.Holding.{reach, number_at, listings, Queued, rows_at, Spared, Holding, Between}
use Rattle.invariant.proofs.CountLaws.{times_same, listings-same}
use Rattle.invariant.proofs.AloneLaws.{columns_open, alone_columns}
use Rattle.invariant.proofs.PoolLaws.{unheld_on}
use Rattle.invariant.specs.RowLaws.{rows-read, batches-read}
use Rattle.invariant.specs.Calls.MemoryAfter.{SameRows}
use Rattle.std.specs.Prelude.{Option, Some, None}
use Rattle.counts.specs.declared.BufferNumber.{BufferNumber}
use Rattle.counts.specs.declared.RowCount.{RowCount}

-- ---- places

module _ (s : BatchCoalescer) (l : Option RowCount) where
  columns_bytes_lem : (c : ℕ) → columns_bytes (with_limit s l) c ≡ columns_bytes s c
  unfolding columns_bytes values_bytes bitmap_bytes list_bytes width_of is_views column_of
  columns_bytes_lem zero = refl
  columns_bytes_lem (suc c) = rw (columns_bytes_lem c)

  slot_bytes_lem : slot_bytes (with_limit s l) ≡ slot_bytes s
  unfolding slot_bytes
  slot_bytes_lem = columns_bytes_lem s.columns

  slots_length_lem : slots_length (with_limit s l) ≡ slots_length s
  unfolding slots_length
  slots_length_lem = rw slot_bytes_lem

  values_place_lem : (slot c : ℕ) → values_place (with_limit s l) slot c ≡ values_place s slot c
  unfolding values_place
  values_place_lem slot c = rw (slot_bytes_lem, columns_bytes_lem c)

  bitmap_place_lem : (slot c : ℕ) → bitmap_place (with_limit s l) slot c ≡ bitmap_place s slot c
  unfolding bitmap_place values_bytes width_of column_of
  bitmap_place_lem slot c = rw (values_place_lem slot c)

  list-place : (slot c : ℕ) → list_place (with_limit s l) slot c ≡ list_place s slot c
  unfolding list_place bitmap_bytes
  list-place slot c = rw (bitmap_place_lem slot c)

  cell_place_lem : (slot c i : ℕ) → cell_place (with_limit s l) slot c i ≡ cell_place s slot c i
  unfolding cell_place width_of column_of
  cell_place_lem slot c i = rw (values_place_lem slot c)

-- ---- worlds

module _ (w : World) (l : Option RowCount) where
  abbrev v : World
  v = in_state w (with_limit w.state l)

  entries : (slot c i : ℕ) → listed_at v slot c i ≡ listed_at w slot c i
  unfolding listed_at
  entries slot c i = rw (list-place w.state l slot c)

  reaches : (slot c : ℕ) → reach v slot c ≡ reach w slot c
  unfolding reach is_views column_of list_length
  reaches slot c = refl

  numbers : (slot c i : ℕ) → number_at v slot c i ≡ number_at w slot c i
  unfolding number_at list_length open_number column_of
  numbers slot c i = rw (entries slot c i)

  open_bytes_lem : (o : Option BufferNumber) → open_bytes v o ≡ open_bytes w o
  open_bytes_lem (Some k) = refl
  open_bytes_lem None = refl

  buffers : (slot c i : ℕ) → buffer_at v slot c i ≡ buffer_at w slot c i
  unfolding buffer_at list_length column_of
  buffers slot c i = rw (entries slot c i, open_bytes_lem (column_of w.state c).block)

  run : Run w → Run v
  unfolding in_bounds column_of is_views books_length list_length
  run r =
      record {
        fit =
            record {
              bounds = r.fit.bounds;
              slots_are = r.fit.slots_are ∙ sym (slots_length_lem w.state l);
              pool_is = r.fit.pool_is;
              books_are = r.fit.books_are;
              place = r.fit.place;
              queued = r.fit.queued;
              bytes = r.fit.bytes;
            };
        used = r.used;
        inside = r.inside;
        filled = r.filled;
        lists = r.lists;
        none = r.none;
        kept = r.kept;
        block = r.block;
        room = r.room;
      }

  cell : (slot c i : ℕ) → slot_cell v slot c i ≡ slot_cell w slot c i
  unfolding slot_cell is_views width_of column_of
  cell slot c i = rw (bitmap_place_lem w.state l slot c, cell_place_lem w.state l slot c i, buffers_are)
    where
      buffers_are : buffer_at v slot c ≡ buffer_at w slot c
      buffers_are = fun_ext (buffers slot c)

  queued : (slot : ℕ) → Queued v slot → Queued w slot
  unfolding queued_slot slot_before
  queued slot q = record { turn = q.turn; below = q.below; is = q.is }

  queued_on : (slot : ℕ) → Queued w slot → Queued v slot
  unfolding queued_slot slot_before
  queued_on slot q = record { turn = q.turn; below = q.below; is = q.is }

  holding : {ext : ℕ → ℕ} → Holding w ext → Holding v ext
  unfolding is_views column_of rows_in list_length rows_at
  holding a =
      record {
        run = run a.run;
        sound = sound_recount (listings v) a.sound (λ k h. sym (listings-same w v refl refl k (λ slot c p q. times_same w v slot c k (reaches slot c) (λ i m. numbers slot c i))));
        listed = λ slot c i p q h. rw (entries slot c i) (a.listed slot c i p q h);
        sizes = a.sizes;
        sixteen = a.sixteen;
        alone = alone_columns w.state v.state refl (λ c. refl) a.alone;
        unheld = unheld_on a v.state w.books (columns_open w.state v.state refl (λ c. refl)) (λ k l h z. z);
        uncounted = λ slot p n. a.uncounted slot p (λ z. n (queued_on slot z));
        unlisted = λ slot c p d n q. a.unlisted slot c p d (λ z. n (queued_on slot z)) q;
        some = λ slot z. a.some slot (queued slot z);
        counted = a.counted;
        within = a.within;
        valid = λ slot c i p q y h.
            rw (cell_place_lem w.state l slot c i, reaches slot c, fun_ext (buffers slot c)) (a.valid slot c i p q y h);
      }

  spared : {ext : ℕ → ℕ} → Spared w ext → Spared v ext
  unfolding rows_at rows_in
  spared s = record { spare = λ slot c i p q h. rw (bitmap_place_lem w.state l slot c) (s.spare slot c i p q h) }

  rows_same : (slot : ℕ) → rows_in v slot ≡ rows_in w slot
  unfolding rows_in
  rows_same slot = refl

  turn-same : (k : ℕ) → queued_slot v.state k ≡ queued_slot w.state k
  unfolding queued_slot slot_before
  turn-same k = refl

  pub limit_same : Between w → SameRows w v
  unfolding buffered_rows
  limit_same g =
      record {
        between = record { holding = holding g.holding; below = g.below; spared = spared g.spared; begun = λ z c q. reaches w.state.place c ∙ g.begun z c q };
        batches = batches-read w v refl (λ k h. rw (turn-same k, rows_same (queued_slot w.state k)) (read (queued_slot w.state k) (rows_in w (queued_slot w.state k))));
        rows = read w.state.place w.state.buffered.0;
        bytes = λ z. z;
      }
    where
      read : (slot n : ℕ) → slot_rows v slot n ≡ slot_rows w slot n
      read slot n = rows-read w v slot n refl (λ c i q m. cell slot c i)
