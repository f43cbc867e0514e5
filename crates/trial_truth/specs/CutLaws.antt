-- Steps 3 and 4, in a push and in its trial: a part and then finishing, turn by turn, and the last part.
use Rattle.std.specs.Prelude.{ℕ, zero, suc, ◌+◌, ◌-◌, ◌≤◌, ◌<◌, ◌≡◌, refl, ◌≢◌, List}
use Rattle.std.proofs.Common.{sym, ◌∙◌, ap, arith}
use Rattle.std.proofs.Math.Decide.{ℕ_discrete}
use Rattle.state.specs.declared.BatchCoalescer.{BatchCoalescer}
use Rattle.state.specs.World.{World}
use Rattle.rules.specs.Batch.{Batch, batch}
use Rattle.rules.specs.Steps.{Res, bind}
use Rattle.rules.specs.Push.{finished, part_taken, if_full}
use Rattle.rules.specs.Turns.{space, coalesced, coalesced-turn}
use Rattle.rules.specs.Stays.{SameSetUp, same_trans}
use Rattle.rules.proofs.StepLaws.{full_finishes, full_not}
use Rattle.rules.specs.declared.Step.{Step}
use Rattle.routes.specs.declared.Sources.{Sources}
use Rattle.routes.specs.TurnLaws.{full_turn, ends_cut}
use Rattle.trial_truth.specs.Like.{number_of, Follows}
use Rattle.trial_truth.specs.Tells.{BeginsSlot, TellsPart, TellsFinished, TellsThen, CutsTo, TellsCut, TellsRows}

-- the number of a result that is followed
pub follows_number : {x : Res} {b : Batch} {m : ℕ} {q : Step} {books : List ℕ} → Follows x b m q books → number_of x ≡ q.number
follows_number {x} {b} {m} {q} {books} f = go (ℕ_discrete q.number 0)
  where
    go : Dec (q.number ≡ 0) → number_of x ≡ q.number
    go (yes d) = ap number_of (f.done d).is ∙ sym d
    go (no d) = ap number_of (f.not d)

-- ---- a part and then finishing where the slot is full

module _ {s : BatchCoalescer} {books : List ℕ} {x : Sources} {records body : List ℕ} {from n : ℕ} {r : Step} {books' : List ℕ} (p : TellsPart s books x records body from n r books') where
  pub then_stops : (r.number ≡ 0 → ⊥) → TellsThen s books x records body from n r books'
  then_stops z =
      record {
        number = λ rows l w₀ v a. ap (λ (y : Res). number_of (bind y if_full)) ((p.tells rows l w₀ v a).not z);
        full = λ fills rows l w₀ v a.
            record {
              done = λ o. absurd (z o);
              not = λ o. ap (λ (y : Res). bind y if_full) ((p.tells rows l w₀ v a).not o);
            };
      }

  module _ (z : r.number ≡ 0) (e : r.state.buffered.0 ≡ s.buffered.0 + n) (same : SameSetUp s r.state) where
    pub then_follows : {q : Step} → s.buffered.0 + n ≤ 65536 → r.state.buffered.0 ≡ s.target.0 → 1 ≤ s.target.0 → TellsFinished r.state q → TellsThen s books x records body from n q books'
    then_follows {q} few h some f =
        record { number = λ rows l w₀ v a. follows_number (goes rows l w₀ v a); full = λ fills. goes }
      where
        goes : (rows : ℕ) → from + n ≤ rows → (w₀ v : World) → BeginsSlot s books x (batch rows records body) w₀ v → Follows (bind (part_taken w₀ v (batch rows records body) from n) if_full) (batch rows records body) 0 q books'
        goes rows l w₀ v a =
            let g = (p.tells rows l w₀ v a).done z in
            let i : g.world.state.buffered.0 ≡ g.world.state.target.0 = ap (λ (y : BatchCoalescer). y.buffered.0) g.state ∙ h ∙ ap (λ y. y.0) (sym same.target) ∙ ap (λ (y : BatchCoalescer). y.target.0) (sym g.state) in
            let k : Follows (finished g.world) (batch rows records body) 0 q books' = f.tells (λ o. omega (arith, h, o)) (omega arith) books' (batch rows records body) s.columns g.world g.state g.like in
            rw (g.is, full_finishes g.world i) k

    pub then_ends : (r.state.buffered.0 ≡ s.target.0 → ⊥) → TellsThen s books x records body from n r books'
    then_ends h =
        record {
          number = λ rows l w₀ v a.
              let g = (p.tells rows l w₀ v a).done z in
              let i : g.world.state.buffered.0 ≢ g.world.state.target.0 = λ o. h (ap (λ (y : BatchCoalescer). y.buffered.0) (sym g.state) ∙ o ∙ ap (λ (y : BatchCoalescer). y.target.0) g.state ∙ ap (λ y. y.0) same.target) in
              ap (λ (y : Res). number_of (bind y if_full)) g.is ∙ ap number_of (full_not g.world i) ∙ sym z;
          full = λ fills rows l w₀ v a. absurd (h (e ∙ fills));
        }

-- ---- turn by turn

pub cut_first : (s : BatchCoalescer) (books : List ℕ) (x : Sources) (b : Batch) → TellsCut s books x b 0 s books
cut_first s books x b =
    record { tells = λ w₀ v a. record { turns = b.rows; enough = omega arith; world = v; cut = refl; stands = a } }

module _ {s : BatchCoalescer} {books : List ℕ} {x : Sources} {rows : ℕ} {records body : List ℕ} {from : ℕ} {t : BatchCoalescer} {books' : List ℕ} (k : TellsCut s books x (batch rows records body) from t books') where
  pub cut_last : {q : Step} {books'' : List ℕ} → from ≤ rows → rows - from ≤ t.target.0 - t.buffered.0 → TellsThen t books' x records body from (rows - from) q books'' → TellsRows s books x (batch rows records body) q.number
  cut_last {q} h l o =
      record {
        tells = λ w₀ v a.
            let c = k.tells w₀ v a in
            ap number_of (c.cut ∙ ends_cut c.turns w₀ c.world (batch rows records body) from (rw c.stands.state l))
            ∙ o.number rows (omega arith) w₀ c.world c.stands;
      }

  module _ (l : t.target.0 - t.buffered.0 < rows - from) (below : t.buffered.0 < t.target.0) {q : Step} {books'' : List ℕ} (o : TellsThen t books' x records body from (t.target.0 - t.buffered.0) q books'') where
    module _ (w₀ v : World) (a : BeginsSlot s books x (batch rows records body) w₀ v) where
      abbrev b : Batch
      b = batch rows records body

      c : CutsTo (coalesced rows w₀ v b 0) w₀ b x from t books'
      c = k.tells w₀ v a

      abbrev w : World
      w = c.world

      space-at : space w ≡ t.target.0 - t.buffered.0
      space-at = ap (λ (y : BatchCoalescer). y.target.0 - y.buffered.0) c.stands.state

      one_turn : (P : Type 0) → ((turns : ℕ) → c.turns ≡ suc turns → P) → P
      one_turn P f = go c.turns refl
        where
          go : (n : ℕ) → c.turns ≡ n → P
          go zero e = absurd (omega (arith, e, c.enough))
          go (suc n) e = f n e

      turn : (turns : ℕ) → c.turns ≡ suc turns → coalesced rows w₀ v b 0 ≡ bind (bind (part_taken w₀ w b from (t.target.0 - t.buffered.0)) finished) (λ u. coalesced turns w₀ u b (from + (t.target.0 - t.buffered.0)))
      turn turns e =
          c.cut
          ∙ ap (λ (n : ℕ). coalesced n w₀ w b from) e
          ∙ coalesced-turn turns w₀ w b from (rw space-at l)
          ∙ ap (λ (n : ℕ). bind (bind (part_taken w₀ w b from n) finished) (λ u. coalesced turns w₀ u b (from + n))) space-at

      follows : Follows (bind (part_taken w₀ w b from (t.target.0 - t.buffered.0)) finished) b 0 q books''
      follows = rw (← full_turn w₀ w b from (t.target.0 - t.buffered.0) fills) (o.full (omega (arith, below)) rows (omega arith) w₀ w c.stands)
        where
          fills : w.state.buffered.0 + (t.target.0 - t.buffered.0) ≡ w.state.target.0
          fills =
              omega (
                arith,
                below,
                ap (λ (y : BatchCoalescer). y.buffered.0) c.stands.state,
                ap (λ (y : BatchCoalescer). y.target.0) c.stands.state,
              )

      stops : q.number ≢ 0 → number_of (coalesced rows w₀ v b 0) ≡ q.number
      stops z =
          one_turn (number_of (coalesced rows w₀ v b 0) ≡ q.number) (λ turns e.
          ap number_of (turn turns e ∙ ap (λ (y : Res). bind y (λ u. coalesced turns w₀ u b (from + (t.target.0 - t.buffered.0)))) (follows.not z)))

      goes_on : SameSetUp t q.state → q.number ≡ 0 → CutsTo (coalesced rows w₀ v b 0) w₀ b x (from + (t.target.0 - t.buffered.0)) q.state books''
      goes_on same z =
          one_turn (CutsTo (coalesced rows w₀ v b 0) w₀ b x (from + (t.target.0 - t.buffered.0)) q.state books'') (λ turns e.
          let g = follows.done z in
          record {
            turns = turns;
            enough = omega (arith, e, c.enough, below);
            world = g.world;
            cut = turn turns e ∙ ap (λ (y : Res). bind y (λ u. coalesced turns w₀ u b (from + (t.target.0 - t.buffered.0)))) g.is;
            stands = record { same = same_trans c.stands.same same; sourced = c.stands.sourced; state = g.state; like = g.like };
          })

    pub cut_stops : (q.number ≡ 0 → ⊥) → TellsRows s books x (batch rows records body) q.number
    cut_stops z = record { tells = λ w₀ v a. stops w₀ v a z }

    pub cut_more : SameSetUp t q.state → q.number ≡ 0 → TellsCut s books x (batch rows records body) (from + (t.target.0 - t.buffered.0)) q.state books''
    cut_more same z = record { tells = λ w₀ v a. goes_on w₀ v a same z }
