-- A part compacted, in a push and in its trial: a new block, the open one, or the walk from the one to the other.
use Rattle.std.specs.Prelude.{ℕ, ◌+◌, ◌-◌, ◌≤◌, ◌<◌, ◌≡◌, refl, true, false, List, []}
use Rattle.std.proofs.Common.{sym, ◌∙◌, arith}
use Rattle.std.proofs.Math.Path.{ap}
use borrow.Author.Tests.{le-leb, lt-leb}
use Rattle.counts.specs.declared.BufferNumber.{BufferNumber}
use Rattle.blocks.specs.declared.BufferSource.{BufferSource}
use Rattle.books.specs.Entry.{entry_of, is_free}
use Rattle.sound.specs.Change.{Roomy}
use Rattle.state.specs.declared.BatchCoalescer.{BatchCoalescer}
use Rattle.state.specs.declared.Column.{Column}
use Rattle.state.specs.World.{World, world, column_of}
use Rattle.state.specs.Layout.{is_views, list_length}
use Rattle.rules.specs.Batch.{Batch, ideal}
use Rattle.rules.specs.Steps.{bind, with_column}
use Rattle.rules.specs.Views.{span, filling, has_block, block_number, is_open, open_number, open_filled, open_rest, closed, block_opened, long_before, views_compacted, walked, part_compacted}
use Rattle.rules.specs.SameLaws.{same_long_before}
use Rattle.rules.specs.declared.Step.{Step}
use Rattle.columns.specs.Column.{closed_length}
use Rattle.columns.specs.SourceLaws.{closed-length}
use Rattle.push_safety.specs.SumLaws.{before_more, part_ideal, walked_most, walked-rest}
use Rattle.push_safety.specs.StepGoes.{column-new}
use Rattle.push_safety.specs.Along.{along_in, along_views}
use Rattle.trial_truth.specs.Like.{ColumnOpens, Like, Follows, ColumnMoves, LeavesLists, Buffers}
use Rattle.trial_truth.specs.LikeLaws.{column-twice, closed_state, like_more, like_moves}
use Rattle.trial_truth.specs.MoveLaws.{moves_trans, views_make, closed_moves}
use Rattle.trial_truth.specs.OpenLaws.{open_follows}
use Rattle.trial_truth.specs.ColumnLaws.{in_world, views_in, column-at, closed_at_lem}
use Rattle.std.specs.Prelude.{Option, Some, None}

closed_as : (w v : World) (c : ℕ) → column_of w.state c ≡ column_of v.state c → list_length w (filling w) c ≡ list_length v (filling v) c → closed_length w c ≡ closed_length v c
unfolding closed_length
closed_as w v c p q = rw (p, q)

module _ {s : BatchCoalescer} {books : List ℕ} {b : Batch} {c : ℕ} {v : World} (a : Like s books b c v) (e : v.state ≡ s) (h : c < s.columns) (y : is_views s c ≡ true) (roomy : Roomy books s.numbers) (at from m : ℕ) (there : from + m ≤ b.rows) where
  abbrev h' : c < v.state.columns
  h' = in_world a e h y

  abbrev y' : is_views v.state c ≡ true
  y' = views_in a e h y

  open_is : {o : Option BufferNumber} → (column_of s c).block ≡ o → is_open v c ≡ has_block o
  open_is q = ap has_block (ap (λ (x : Column). x.block) (column-at a e h y) ∙ q)

  -- ---- no block is open

  closed_none : is_open v c ≡ false → closed_length v c ≡ list_length v (filling v) c
  unfolding closed_length
  closed_none o = rw o

  opens-new : is_open v c ≡ false → part_compacted v b (span c at from m) ≡ bind (block_opened v c (ideal v b c)) (λ u. views_compacted u b (span c at from m))
  unfolding part_compacted
  opens-new o = rw o

  pub new_follows : {n : ℕ} {q : Step} {books' : List ℕ} → (column_of s c).block ≡ None → n ≡ closed_length (world s [] [] books) c → Buffers s books c n (ideal v b c) q books' → Follows (part_compacted v b (span c at from m)) b (c + 1) q books'
  new_follows {n} {q} {books'} z p t =
      rw (opens-new o)
      (open_follows
      (record {
        like = like_more (c + 1) (omega arith) a;
        roomy = roomy;
        column = h;
        views = y;
        source = ap (λ (x : Column). x.source) (column-at a e h y);
        put = λ source block. ap (λ (x : BatchCoalescer). with_column x c source block) e;
      })
      (ideal v b c) at from m (part_ideal v b c from m there)
      (p ∙ closed_at_lem a e h y ∙ closed_none o)
      t)
    where
      o : is_open v c ≡ false
      o = open_is z

  -- ---- a block is open

  module _ {k : BufferNumber} (z : (column_of s c).block ≡ Some k) {rest : ℕ} (g : rest ≡ (entry_of books k.0).capacity.0 - (entry_of books k.0).length.0) where
    abbrev o : is_open v c ≡ true
    o = open_is z

    opens : ColumnOpens s c k.0
    opens = record { column = h; views = y; block = z }

    number_at : open_number v c ≡ k.0
    unfolding open_number
    number_at = ap block_number (ap (λ (x : Column). x.block) (column-at a e h y) ∙ z)

    filled_at : open_filled v c ≡ (entry_of v.books k.0).length.0
    unfolding open_filled
    filled_at = ap (λ (n : ℕ). (entry_of v.books n).length.0) number_at

    rest_at : rest ≡ open_rest v c
    unfolding open_rest
    rest_at =
        let x = a.live c k.0 (omega arith) opens in
        rw (number_at) (omega (arith, g, filled_at, a.alike.capacity k.0 x.0 x.1, a.filled c k.0 (omega arith) opens))

    live_at : is_free (entry_of v.books (open_number v c)) ≡ false
    live_at = let x = a.live c k.0 (omega arith) opens in rw number_at (a.alike.free k.0 x.0 ∙ x.1)

    uses : ideal v b c ≤ rest → part_compacted v b (span c at from m) ≡ views_compacted v b (span c at from m)
    unfolding part_compacted
    uses l = rw (o, ← rest_at, le-leb (ideal v b c) rest l)

    pub fits_follows : ideal v b c ≤ rest → Follows (part_compacted v b (span c at from m)) b (c + 1) (record { state = s; number = 0 }) books
    fits_follows l =
        let x : LeavesLists c v (views_compacted v b (span c at from m)) = views_make v b c at from m a.run h' y' o live_at (omega (arith, part_ideal v b c from m there, rest_at)) in
        record {
          done = λ d.
              record {
                world = x.world;
                is = uses l ∙ x.is;
                state = x.state ∙ e;
                like = like_moves a x.moves h y (column-at a e h y);
              };
          not = λ d. absurd (d refl);
        }

    -- the walk
    abbrev j : ℕ
    j = walked v b c from m rest

    splits : rest < ideal v b c → part_compacted v b (span c at from m) ≡ bind (views_compacted v b (span c at from j)) (λ w. bind (block_opened (closed w c) c (ideal v b c - long_before v b c from j)) (λ u. views_compacted u b (span c (at + j) (from + j) (m - j))))
    unfolding part_compacted
    splits l = rw (o, ← rest_at, lt-leb (ideal v b c) rest l)

    first : LeavesLists c v (views_compacted v b (span c at from j))
    first = views_make v b c at from j a.run h' y' o live_at (omega (arith, walked-rest v b c from m rest, rest_at))

    abbrev w : World
    w = first.world

    abbrev u : World
    u = closed w c

    h'' : c < w.state.columns
    h'' = along_in first.moves.along.beside c h'

    y'' : is_views w.state c ≡ true
    y'' = along_views first.moves.along.beside c y'

    shuts : ColumnMoves c w u
    shuts = closed_moves w c first.moves.along.goes.run h'' y''

    like : Like s books b (c + 1) u
    like = like_moves a (moves_trans first.moves shuts) h y (column-at a e h y)

    state : u.state ≡ with_column s c (column_of s c).source None
    state = closed_state w c ∙ ap (λ (x : BatchCoalescer). with_column x c (column_of x c).source None) (first.state ∙ e)

    source-at : (column_of u.state c).source ≡ (column_of s c).source
    source-at =
        ap (λ (x : BatchCoalescer). (column_of x c).source) state
        ∙ ap (λ (x : Column). x.source) (column-new s c (column_of s c).source None y)

    put-at : (source : BufferSource) (block : Option BufferNumber) → with_column u.state c source block ≡ with_column s c source block
    put-at source block =
        ap (λ (x : BatchCoalescer). with_column x c source block) state ∙ column-twice s c (column_of s c).source source None block

    behind : long_before u b c (from + j) (m - j) ≤ ideal v b c - long_before v b c from j
    behind =
        let p : j + (m - j) ≡ m = omega (arith, walked_most v b c from m rest) in
        let q : long_before v b c from m ≡ long_before v b c from j + long_before v b c (from + j) (m - j) = rw p at (before_more v b c from j (m - j)) in
        omega (
          arith,
          q,
          part_ideal v b c from m there,
          same_long_before v w b first.moves.along.beside.set_up c (from + j) (m - j),
          same_long_before w u b shuts.along.beside.set_up c (from + j) (m - j),
        )

    same-closed : closed_length w c ≡ closed_length v c
    same-closed =
        closed_as w v c (ap (λ (x : BatchCoalescer). column_of x c) first.state)
        (ap (λ (x : BatchCoalescer). list_length w x.place c) first.state ∙ first.lists v.state.place c)

    list_at : closed_length v c ≡ list_length u (filling u) c
    list_at =
        sym same-closed
        ∙ closed-length first.moves.along.goes.run c h'' y''
        ∙ ap (λ (slot : ℕ). list_length u slot c) (sym shuts.along.beside.place)

    pub walk_follows : {n : ℕ} {q : Step} {books' : List ℕ} → rest < ideal v b c → n ≡ closed_length (world s [] [] books) c → Buffers s books c n (ideal v b c - long_before v b c from j) q books' → Follows (part_compacted v b (span c at from m)) b (c + 1) q books'
    walk_follows {n} {q} {books'} l p t =
        rw (splits l, first.is)
        (open_follows (record { like = like; roomy = roomy; column = h; views = y; source = source-at; put = put-at }) (ideal v b c - long_before v b c from j) (at + j) (from + j) (m - j) behind
        (p ∙ closed_at_lem a e h y ∙ list_at)
        t)
