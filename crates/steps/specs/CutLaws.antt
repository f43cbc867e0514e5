-- Steps 3 and 4: the loop that cuts a batch, with the turns that are left.
use Rattle.std.specs.Prelude.{ℕ, zero, suc, ◌+◌, ◌-◌, ◌≤◌, ◌<◌, ◌≡◌, refl, List}
use Rattle.std.proofs.Common.{◌∙◌, ap, arith}
use Rattle.state.specs.World.{World, world}
use Rattle.rules.specs.Batch.{Batch}
use Rattle.rules.specs.Steps.{Res, ok, refuse, bind}
use Rattle.rules.specs.Push.{finished, part_taken, if_full}
use Rattle.rules.specs.Turns.{space, coalesced, coalesced-turn}
use Rattle.rules.specs.Held.{holds_ok}
use Rattle.rules.specs.Stays.{SameSetUp, same_refl, same_trans}
use Rattle.rules.proofs.PushLaws.{Ends, taken_holds, finished_holds}
use Rattle.push_safety.specs.Run.{Goes}
use Rattle.push_safety.specs.CallerLaws.{run_bounds}
use Rattle.push_safety.specs.Firm.{goes_refl, goes_trans}
use Rattle.push_safety.specs.PartGoes.{taken_goes}
use Rattle.push_safety.specs.FinishGoes.{rows_small, finished_goes}
use Rattle.rules.specs.declared.Step.{Step}
use Rattle.rules.specs.Leaves.{Steps}
use Rattle.routes.specs.declared.Sources.{Sources}
use Rattle.routes.specs.TurnLaws.{full_turn, ends_cut}
use Rattle.steps.specs.Taking.{Taking, TakesThen, Cutting}

-- the rows before `from` are taken, and the slot is not full; cutting the rest from here gives what the whole gives
pub record CutTo (w₀ : World) (b : Batch) (from : ℕ) (w : World) : Type 0 where
  pub turns : ℕ
  pub enough : b.rows - from ≤ turns
  pub cut : coalesced b.rows w₀ w₀ b 0 ≡ coalesced turns w₀ w b from
  pub goes : Goes w₀ w
  pub same : SameSetUp w₀.state w.state
  pub below : w.state.buffered.0 < w.state.target.0
  pub inside : from ≤ b.rows

-- the two steps of a result that was not refused
bind-first : (r : Res) (f : World → Res) {v : World} → bind r f ≡ ok v → (P : Type 0) → ((u : World) → r ≡ ok u → f u ≡ ok v → P) → P
bind-first (ok u) f e P k = k u refl e
bind-first (refuse n) f {v} e P k = let z : ◌≡◌ {A = ℕ} 0 1 = cc in absurd (omega arith)

module _ {w₀ : World} {b : Batch} {x : Sources} (a : Cutting w₀ b x) where
  pub cut_rows : b.rows ≤ 65536
  cut_rows = omega (arith, a.reads.rows_fit, (run_bounds a.run).rows)

  pub cut_none : CutTo w₀ b 0 w₀
  cut_none =
      record {
        turns = b.rows;
        enough = omega arith;
        cut = refl;
        goes = goes_refl a.run;
        same = same_refl w₀.state;
        below = a.below;
        inside = omega arith;
      }

  module _ {from : ℕ} {w : World} (k : CutTo w₀ b from w) where
    -- what a part asks
    taking : (n : ℕ) → from + n ≤ b.rows → n ≤ w.state.target.0 - w.state.buffered.0 → Taking w b x from n
    taking n l m =
        record {
          run = k.goes.run;
          reads = k.goes.reads b a.reads;
          origin = w₀;
          same = k.same;
          sourced = a.sourced;
          there = l;
          room = omega (arith, k.below, (run_bounds k.goes.run).target);
        }

    pub full_asks : w.state.target.0 - w.state.buffered.0 < b.rows - from → Taking w b x from (w.state.target.0 - w.state.buffered.0)
    full_asks l = taking (w.state.target.0 - w.state.buffered.0) (omega arith) (omega arith)

    pub last_asks : b.rows - from ≤ w.state.target.0 - w.state.buffered.0 → Taking w b x from (b.rows - from)
    last_asks l = taking (b.rows - from) (omega (arith, k.inside)) l

    pub cut_last : {q : Step} {slots pool books : List ℕ} → b.rows - from ≤ w.state.target.0 - w.state.buffered.0 → TakesThen w b x from (b.rows - from) q slots pool books → Steps (coalesced b.rows w₀ w₀ b 0) q slots pool books
    cut_last {q} {slots} {pool} {books} l t =
        let e : coalesced b.rows w₀ w₀ b 0 ≡ bind (part_taken w₀ w b from (b.rows - from)) if_full = k.cut ∙ ends_cut k.turns w₀ w b from l in
        let s : Steps (bind (part_taken w₀ w b from (b.rows - from)) if_full) q slots pool books = t.steps w₀ k.same a.sourced in
        record { done = λ d. e ∙ s.done d; not = λ d. e ∙ s.not d }

    module _ (l : w.state.target.0 - w.state.buffered.0 < b.rows - from) {q : Step} {slots pool books : List ℕ} (t : TakesThen w b x from (w.state.target.0 - w.state.buffered.0) q slots pool books) where
      turn : Steps (bind (part_taken w₀ w b from (space w)) finished) q slots pool books
      turn = rw (← full_turn w₀ w b from (space w) (omega (arith, k.below))) (t.steps w₀ k.same a.sourced)

      -- a turn is left
      one_turn : (P : Type 0) → ((turns : ℕ) → k.turns ≡ suc turns → P) → P
      one_turn P f = go k.turns refl
        where
          go : (n : ℕ) → k.turns ≡ n → P
          go zero e = absurd (omega (arith, e, k.enough))
          go (suc n) e = f n e

      cut_turn : (turns : ℕ) → k.turns ≡ suc turns → coalesced b.rows w₀ w₀ b 0 ≡ bind (bind (part_taken w₀ w b from (space w)) finished) (λ v. coalesced turns w₀ v b (from + space w))
      cut_turn turns e = k.cut ∙ ap (λ (n : ℕ). coalesced n w₀ w b from) e ∙ coalesced-turn turns w₀ w b from l

      pub cut_stop : (q.number ≡ 0 → ⊥) → Steps (coalesced b.rows w₀ w₀ b 0) q slots pool books
      cut_stop o =
          record {
            done = λ d. absurd (o d);
            not = λ d. one_turn (coalesced b.rows w₀ w₀ b 0 ≡ refuse q.number) (λ turns e.
                cut_turn turns e ∙ ap (λ (r : Res). bind r (λ v. coalesced turns w₀ v b (from + space w))) (turn.not d));
          }

      pub cut_more : q.number ≡ 0 → CutTo w₀ b (from + (w.state.target.0 - w.state.buffered.0)) (world q.state slots pool books)
      cut_more o = one_turn (CutTo w₀ b (from + space w) v) (λ turns e. bind-first (part_taken w₀ w b from (space w)) finished (turn.done o) (CutTo w₀ b (from + space w) v) (λ u p f. next turns e u p f))
        where
          v : World
          v = world q.state slots pool books

          next : (turns : ℕ) → k.turns ≡ suc turns → (u : World) → part_taken w₀ w b from (space w) ≡ ok u → finished u ≡ ok v → CutTo w₀ b (from + space w) v
          next turns e u p f =
              let g : Goes w u = holds_ok u (taken_goes w₀ w b from (space w) k.goes.run (k.goes.reads b a.reads) (omega (arith, l))) p in
              let i : Ends w (w.state.buffered.0 + space w) u = holds_ok u (taken_holds w₀ w b from (space w)) p in
              let m : u.state.buffered.0 ≤ u.state.target.0 = omega (arith, i.buffered, k.below, ap (λ z. z.0) i.kept.set_up.target) in
              let h : Goes u v = holds_ok v (finished_goes u g.run (rows_small g.run m)) f in
              let j : Ends u 0 v = holds_ok v (finished_holds u) f in
              record {
                turns = turns;
                enough = omega (arith, e, k.enough, k.below);
                cut = cut_turn turns e ∙ ap (λ (r : Res). bind r (λ z. coalesced turns w₀ z b (from + space w))) (turn.done o);
                goes = goes_trans k.goes (goes_trans g h);
                same = same_trans k.same (same_trans i.kept.set_up j.kept.set_up);
                below =
                    omega (
                      arith,
                      j.buffered,
                      k.below,
                      ap (λ z. z.0) i.kept.set_up.target,
                      ap (λ z. z.0) j.kept.set_up.target,
                    );
                inside = omega (arith, l, k.inside);
              }
