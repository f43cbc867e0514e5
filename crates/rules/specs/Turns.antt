-- Steps 3 and 4 turn by turn, as the code goes and as proofs along a push do. It is what `cut_up` is: `coalesced_is` (PushLaws).
use Rattle.std.specs.Prelude.{ℕ, zero, suc, ◌+◌, ◌-◌, ◌≤◌, ◌<◌, ◌≡◌, true, false, ltb}
use Rattle.std.proofs.Common.{lt-ltb, le-ltb}
use Rattle.state.specs.World.{World}
use Rattle.rules.specs.Batch.{Batch}
use Rattle.rules.specs.Steps.{Res, bind}
use Rattle.rules.specs.Push.{finished, part_taken, if_full}

-- the rows that still fit the slot. 01: "T - buffered"
abbrev pub space : World → ℕ
space w = w.state.target.0 - w.state.buffered.0

-- rows from `from` on, with so many turns of step 3 left
unfoldable pub coalesced : ℕ → World → World → Batch → ℕ → Res
coalesced zero w₀ w b from = bind (part_taken w₀ w b from (b.rows - from)) if_full
coalesced (suc turns) w₀ w b from =
    elim (ltb (space w) (b.rows - from)) [
      | true ↦ bind (bind (part_taken w₀ w b from (space w)) finished) (λ v. coalesced turns w₀ v b (from + space w))
      | false ↦ bind (part_taken w₀ w b from (b.rows - from)) if_full
    ]

-- a turn of step 3, and step 4
module _ (turns : ℕ) (w₀ w : World) (b : Batch) (from : ℕ) where
  pub coalesced-turn : space w < b.rows - from → coalesced (suc turns) w₀ w b from ≡ bind (bind (part_taken w₀ w b from (space w)) finished) (λ v. coalesced turns w₀ v b (from + space w))
  unfolding coalesced
  coalesced-turn l = rw (lt-ltb (space w) (b.rows - from) l, coalesced)

  pub coalesced-last : b.rows - from ≤ space w → coalesced (suc turns) w₀ w b from ≡ bind (part_taken w₀ w b from (b.rows - from)) if_full
  unfolding coalesced
  coalesced-last l = rw (le-ltb (space w) (b.rows - from) l, coalesced)
