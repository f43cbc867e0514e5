-- A buffer that the caller holds: what the calls leave of it, and of the pool.
use Rattle.std.specs.Prelude.{ℕ, zero, suc, ◌+◌, ◌≤◌, ◌<◌, ◌≡◌, refl, Bool, true, false, cond, List, get_or, eqb, ltb}
use Rattle.std.proofs.Common.{sym, ◌∙◌, ap, arith}
use Rattle.std.proofs.Math.ListN.{length}
use borrow.Author.Tests.{lt-ltb, le-leb}
use Rattle.search.specs.Cases.{by_cond}
use Rattle.words.specs.Run.{read}
use Rattle.words.specs.Frame.{Agrees}
use Rattle.words.specs.FrameLaws.{agrees_read}
use Rattle.books.specs.declared.Entry.{Entry}
use Rattle.books.specs.Entry.{used_of, entry_of, is_free}
use Rattle.sound.specs.Sound.{filled_bytes}
use Rattle.sound.specs.Live.{live_is}
use Rattle.sound.specs.SoundLaws.{sound_top}
use Rattle.sound.specs.Top.{live_used}
use Rattle.sound.proofs.Others.{filled-same}
use Rattle.sound.proofs.ListKept.{Relisted}
use Rattle.pool.specs.Register.{is_held}
use Rattle.pool.specs.Read.{is_there}
use Rattle.state.specs.World.{World}
use Rattle.state.specs.Layout.{is_views}
use Rattle.state.specs.Rows.{front_slot}
use Rattle.rules.specs.Steps.{Res, ok, refuse, each, counting, listing, queueing}
use Rattle.rules.specs.Views.{is_open, closed}
use Rattle.rules.specs.Push.{all_closed, finished}
use Rattle.rules.specs.Calls.{uncounted, list_dropped, dropped}
use Rattle.push_safety.specs.BooksGo.{held_says, held_is}
use Rattle.invariant.specs.Holding.{HasOpen, Between, Lies, PoolStays}
use Rattle.invariant.specs.Calls.PoolAfter.{KeepsHeld}

-- ---- a buffer that the caller holds

pub held_refl : (w : World) (k : ℕ) → is_held w.books k ≡ true → KeepsHeld w w k
held_refl w k h = record { held = h; start = refl; capacity = refl; length = refl; bytes = refl }

pub held_trans : {w v u : World} {k : ℕ} → KeepsHeld w v k → KeepsHeld v u k → KeepsHeld w u k
held_trans a b =
    record {
      held = b.held;
      start = b.start ∙ a.start;
      capacity = b.capacity ∙ a.capacity;
      length = b.length ∙ a.length;
      bytes = b.bytes ∙ a.bytes;
    }

module _ {w : World} (g : Between w) (k : ℕ) (h : is_held w.books k ≡ true) where
  pub held_below : k < w.state.numbers
  held_below = omega (arith, (held_says w.books k h).0, g.holding.run.used)

  pub held_some : 0 < (entry_of w.books k).hold
  held_some = omega (arith, (held_says w.books k h).1)

  held_live : is_free (entry_of w.books k) ≡ false
  held_live = live_is (entry_of w.books k) (omega (arith, held_some))

  -- no column has it open
  held_shut : (c : ℕ) → HasOpen w.state c k → ⊥
  held_shut c o = omega (arith, held_some, g.holding.unheld.unheld c k o)

  -- it can be read
  pub held_there : is_there w.books w.pool k ≡ true
  unfolding is_there
  held_there =
      let u : k < used_of w.books = (held_says w.books k h).0 in
      let e : (entry_of w.books k).start + (entry_of w.books k).length.0 ≤ length w.pool = omega (arith, g.holding.run.inside k u, g.holding.run.filled k u, g.holding.run.fit.pool_is) in
      rw (lt-ltb k (used_of w.books) u, held_live, le-leb ((entry_of w.books k).start + (entry_of w.books k).length.0) (length w.pool) e)

  -- a number with the same hold is held
  still_held : {v : World} → Between v → v.state.numbers ≡ w.state.numbers → (entry_of v.books k).hold ≡ (entry_of w.books k).hold → is_held v.books k ≡ true
  still_held {v} t n e =
      held_is v.books k
      (live_used k (sound_top t.holding.sound) (omega (arith, held_below)) (live_is (entry_of v.books k) (omega (arith, held_some))))
      (λ z. omega (arith, held_some))

  -- where every live number lies where it lay
  pub stays_held : {v : World} → Between v → PoolStays w v → KeepsHeld w v k
  unfolding filled_bytes
  stays_held {v} t s =
      record {
        held = still_held t s.numbers y.hold;
        start = y.start;
        capacity = y.capacity;
        length = y.filled held_shut;
        bytes = same_bytes;
      }
    where
      y : Lies w v k
      y = s.lies k held_below held_live

      e : Entry
      e = entry_of w.books k

      inside : e.start + e.length.0 ≤ length w.pool
      inside = omega (arith, g.holding.sound.inside k held_below, g.holding.sound.filled k held_below, g.holding.run.fit.pool_is)

      within : e.start + e.length.0 ≤ length v.pool
      within =
          let l : k < v.state.numbers = omega (arith, held_below, s.numbers) in
          omega (arith, t.holding.sound.inside k l, t.holding.sound.filled k l, t.holding.run.fit.pool_is, y.start, y.filled held_shut)

      agrees : Agrees w.pool e.start v.pool e.start e.length.0
      agrees =
          record {
            byte = λ x z p q r.
                let i : x ≡ z = omega arith in
                y.bytes x (record { from = p; below = omega (arith, g.holding.sound.filled k held_below); filled = λ c o. absurd (held_shut c o) })
                ∙ ap (λ (j : ℕ). get_or w.pool j 0) i;
          }

      same_bytes : filled_bytes v.books v.pool k ≡ filled_bytes w.books w.pool k
      same_bytes =
          ap (λ (n : ℕ). read (entry_of v.books k).start n v.pool) (y.filled held_shut)
          ∙ ap (λ (n : ℕ). read n e.length.0 v.pool) y.start
          ∙ agrees_read e.start e.start e.length.0 agrees (omega arith) (omega arith) refl within inside

  -- where its entry is as it was but for its listings, and the pool is
  pub relisted_held : {v : World} → Between v → v.state.numbers ≡ w.state.numbers → Relisted (entry_of w.books k) (entry_of v.books k) → v.pool ≡ w.pool → KeepsHeld w v k
  relisted_held {v} t n r p =
      record {
        held = still_held t n (ap (λ (x : Entry). x.hold) r.is);
        start = ap (λ (x : Entry). x.start) r.is;
        capacity = ap (λ (x : Entry). x.capacity.0) r.is;
        length = ap (λ (x : Entry). x.length.0) r.is;
        bytes = ap (λ (l : List ℕ). filled_bytes v.books l k) p ∙ filled-same w.books v.books w.pool k _ r.is refl refl;
      }

-- ---- finishing and dropping change no byte of the pool, in any world

each-pool : (n : ℕ) (f : World → ℕ → World) (w : World) → ((v : World) (i : ℕ) → (f v i).pool ≡ v.pool) → (each n f w).pool ≡ w.pool
unfolding each
each-pool zero f w h = refl
each-pool (suc n) f w h = h (each n f w) n ∙ each-pool n f w h

closed-pool : (w : World) (c : ℕ) → (closed w c).pool ≡ w.pool
unfolding closed listing counting
closed-pool w c = by_cond (λ (v : World). v.pool ≡ w.pool) (is_open w c) (λ e. refl) (λ e. refl)

pub finished-pool : (w v : World) → finished w ≡ ok v → v.pool ≡ w.pool
unfolding finished queueing counting all_closed
finished-pool w v = go (eqb w.state.buffered.0 0) (ltb w.state.queued w.state.queue)
  where
    close : (v : World) (c : ℕ) → (cond (is_views v.state c) (closed v c) v).pool ≡ v.pool
    close v c = by_kind (is_views v.state c)
      where
        by_kind : (b : Bool) → (cond b (closed v c) v).pool ≡ v.pool
        by_kind true = closed-pool v c
        by_kind false = refl

    queued : (queueing (all_closed w) w.state.buffered.0).pool ≡ w.pool
    queued = each-pool w.state.columns _ w close

    world : Res → World
    world (ok x) = x
    world (refuse n) = w

    go : (a b : Bool) → cond a (ok w) (cond b (ok (queueing (all_closed w) w.state.buffered.0)) (refuse 9)) ≡ ok v → v.pool ≡ w.pool
    go true b e = ap (λ (x : World). x.pool) (sym (ap world e))
    go false true e = sym (ap (λ (x : World). x.pool) (ap world e)) ∙ queued
    go false false e = sym (ap (λ (x : World). x.pool) (ap world e))

counting-pool : (w : World) (slot k x : ℕ) → (counting w slot k x).pool ≡ w.pool
unfolding counting
counting-pool w slot k x = refl

uncounted-pool : (w : World) (slot : ℕ) → (uncounted w slot).pool ≡ w.pool
unfolding uncounted
uncounted-pool w slot = each-pool (1 + w.state.columns) (λ v k. counting v slot k 0) w (λ v k. counting-pool v slot k 0)

list-pool : (w : World) (slot c : ℕ) → (list_dropped w slot c).pool ≡ w.pool
unfolding list_dropped
list-pool w slot c = refl

pub dropped-pool : (w : World) → (dropped w).pool ≡ w.pool
unfolding dropped
dropped-pool w =
    uncounted-pool (each w.state.columns (λ v c. list_dropped v (front_slot w) c) w) (front_slot w)
    ∙ each-pool w.state.columns (λ v c. list_dropped v (front_slot w) c) w (λ v c. list-pool v (front_slot w) c)
