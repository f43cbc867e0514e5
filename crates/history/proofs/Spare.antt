-- Spare bits over a history: behind the rows of a batch, queued or being filled, the bits of the last bitmap byte are zero.
use Rattle.std.specs.Prelude.{ℕ, ◌<◌, ◌≡◌, refl, ◌≢◌, List}
use Rattle.std.proofs.Common.{sym}
use Rattle.bits.specs.Bits.{bits_from}
use Rattle.state.specs.World.{World}
use Rattle.state.specs.Layout.{bitmap_place, rows_in, queued_slot}
use Rattle.state.proofs.SlotLaws.{queued_in, queued_place}
use Rattle.rules.specs.Calls.{Wanted, set_up_call}
use Rattle.invariant.specs.Holding.{IsSpare, Between}
use Rattle.invariant.proofs.Steps.MoveLaws.{rows-filling, rows_other}
use Rattle.history.specs.Call.{Call}
use Rattle.history.proofs.History.{did, all}

module _ {w : World} (g : Between w) (c i : ℕ) (q : c < w.state.columns) where
  -- of the k-th queued batch
  pub spare_queued : (k : ℕ) → k < w.state.queued → IsSpare (rows_in w (queued_slot w.state k)) i → bits_from w.slots (bitmap_place w.state (queued_slot w.state k) c) 0 i ≡ 0
  spare_queued k l h =
      let p = g.holding.run.fit.place in
      let d : queued_slot w.state k ≢ w.state.place = queued_place w.state p g.holding.run.fit.queued k l in
      g.spared.spare (queued_slot w.state k) c i (queued_in w.state k p) q (rw (rows_other w (λ d. w.state.buffered.0) (queued_slot w.state k) c d) h)

  -- of the rows buffered
  pub spare_buffered : IsSpare w.state.buffered.0 i → bits_from w.slots (bitmap_place w.state w.state.place c) 0 i ≡ 0
  spare_buffered h =
      g.spared.spare w.state.place c i g.holding.run.fit.place q (rw (rows-filling w (λ d. w.state.buffered.0) w.state.place c refl) h)

-- from a set-up that is not refused, whatever its slots held
module _ (a : Wanted) (slots pool books : List ℕ) (ok : (set_up_call a slots pool books).number ≡ 0) (cs : List Call) where
  abbrev last : World
  last = (did a slots pool books ok cs).world

  pub queued_spare : (c i k : ℕ) → c < last.state.columns → k < last.state.queued → IsSpare (rows_in last (queued_slot last.state k)) i → bits_from last.slots (bitmap_place last.state (queued_slot last.state k) c) 0 i ≡ 0
  queued_spare c i k q l h = spare_queued (all a slots pool books ok cs).between c i q k l h

  pub buffered_spare : (c i : ℕ) → c < last.state.columns → IsSpare last.state.buffered.0 i → bits_from last.slots (bitmap_place last.state last.state.place c) 0 i ≡ 0
  buffered_spare c i q h = spare_buffered (all a slots pool books ok cs).between c i q h
