-- A whole push: coalescing goes on as every step does, and every push leaves what holds besides the room.
use Prim.Native.Nat.{ℕ, zero, suc, ◌+◌, ◌-◌, ◌≤◌, ◌<◌}
use Rattle.std.specs.Prelude.{◌≡◌, Bool, List, [], ◌∷◌, eqb}
use Rattle.std.proofs.Math.Path.{refl}
use Rattle.std.proofs.Common.{ap, arith}
use Rattle.std.proofs.Math.Bool.{true, false}
use Rattle.std.proofs.Math.Dec.{ltb}
use borrow.Author.Tests.{ltb-true}
use Rattle.words.specs.WordLaws.{Bytes}
use Rattle.state.specs.World.{World}
use Rattle.rules.specs.Batch.{Batch}
use Rattle.rules.specs.Steps.{bind}
use Rattle.rules.specs.Push.{finished, part_taken, if_full, cut_up, over_limit, stepped, pushed}
use Rattle.rules.specs.Turns.{space, coalesced}
use Rattle.rules.specs.Held.{Among, one_of, among-more, Holds, held, refused, holds_more, holds_bind, holds_among}
use Rattle.rules.proofs.CheckLaws.{fault-number}
use Rattle.rules.specs.Ranges.{fits_set_up, state_in_range, tested}
use Rattle.rules.specs.TestLaws.{range_counted}
use Rattle.rules.specs.Stays.{kept_trans}
use Rattle.rules.proofs.PushLaws.{PushCase, push_case, Ends, finished_holds, taken_holds, coalesced_is, push_numbers}
use Rattle.push_safety.specs.Run.{Run, Readable, Goes}
use Rattle.push_safety.specs.TestedLaws.{tested-run}
use Rattle.push_safety.specs.ReadLaws.{fault_readable}
use Rattle.push_safety.specs.Firm.{Firm, FirmGoes, run_firm, firm_trans, goes_trans, goes_firm}
use Rattle.push_safety.specs.Along.{holds_both, along_holds}
use Rattle.push_safety.specs.PartGoes.{taken_goes}
use Rattle.push_safety.specs.FinishGoes.{rows_small, finished_goes, full_goes}
use Rattle.push_safety.specs.WholeGoes.{whole_firm}

abbrev steps : List ℕ
steps = 8 ∷ 9 ∷ 10 ∷ 11 ∷ 12 ∷ 14 ∷ []

-- it goes on with n rows buffered
record GoesTo (w : World) (n : ℕ) (v : World) : Type 0 where
  goes : Goes w v
  ends : Ends w n v

module _ (w₀ : World) (b : Batch) where
  -- a part, with its rows
  taken-to : (w : World) (from n : ℕ) → Run w → Readable w b → from + n ≤ b.rows → Holds (GoesTo w (w.state.buffered.0 + n)) (Among steps) (part_taken w₀ w b from n)
  taken-to w from n r x l =
      holds_among steps tt
      (holds_more (holds_both (taken_goes w₀ w b from n r x l) (taken_holds w₀ w b from n)) (λ v p. record { goes = p.0; ends = p.1 }) (λ k m. m))

  -- the last part
  last_goes : (w : World) (from : ℕ) → Run w → Readable w b → from ≤ b.rows → Holds (Goes w) (Among steps) (bind (part_taken w₀ w b from (b.rows - from)) if_full)
  last_goes w from r x l =
      holds_bind if_full (taken-to w from (b.rows - from) r x (omega arith)) (λ v e.
      along_holds e.goes (holds_among steps tt (full_goes v e.goes.run)))

  -- a turn
  turn_goes : (w : World) (from : ℕ) → Run w → Readable w b → from + space w ≤ b.rows → w.state.buffered.0 ≤ w.state.target.0 → Holds (GoesTo w 0) (Among steps) (bind (part_taken w₀ w b from (space w)) finished)
  turn_goes w from r x l t =
      holds_bind finished (taken-to w from (space w) r x l) (λ v e.
      holds_among steps tt
      (holds_more (holds_both (finished_goes v e.goes.run (rows_small e.goes.run (full v e))) (finished_holds v))
      (λ u p. record { goes = goes_trans e.goes p.0; ends = record { kept = kept_trans e.ends.kept p.1.kept; buffered = p.1.buffered } })
      (λ k m. m)))
    where
      full : (v : World) → GoesTo w (w.state.buffered.0 + space w) v → v.state.buffered.0 ≤ v.state.target.0
      full v e = omega (arith, e.ends.buffered, ap (λ z. z.0) e.ends.kept.set_up.target)

  pub coalesced_goes : (turns : ℕ) (w : World) (from : ℕ) → Run w → Readable w b → from ≤ b.rows → w.state.buffered.0 ≤ w.state.target.0 → Holds (Goes w) (Among (8 ∷ 9 ∷ 10 ∷ 11 ∷ 12 ∷ 14 ∷ [])) (coalesced turns w₀ w b from)
  unfolding coalesced
  coalesced_goes zero w from r x l t = last_goes w from r x l
  coalesced_goes (suc turns) w from r x l t =
      go (λ v r x l t. coalesced_goes turns v (from + space w) r x l t) (ltb (space w) (b.rows - from)) refl
    where
      go : ((v : World) → Run v → Readable v b → from + space w ≤ b.rows → v.state.buffered.0 ≤ v.state.target.0 → Holds (Goes v) (Among steps) (coalesced turns w₀ v b (from + space w))) → (z : Bool) → ltb (space w) (b.rows - from) ≡ z → Holds (Goes w) (Among steps) (coalesced (suc turns) w₀ w b from)
      go rest false q = rw (q, coalesced) (last_goes w from r x l)
      go rest true q =
          let s : from + space w ≤ b.rows = omega (arith, ltb-true (space w) (b.rows - from) q) in
          rw (q, coalesced)
          (holds_bind _ (turn_goes w from r x s t) (λ v e.
          along_holds e.goes
          (rest v e.goes.run (e.goes.reads b x) s (omega (arith, e.ends.buffered)))))

-- ---- the steps of a push

pub stepped_goes : (w : World) (b : Batch) → Run w → Readable w b → w.state.buffered.0 ≤ w.state.target.0 → Holds (FirmGoes w) (Among (8 ∷ 9 ∷ 10 ∷ 11 ∷ 12 ∷ 14 ∷ [])) (stepped w b)
unfolding stepped
stepped_goes w b r x t =
    go (over_limit w.state.limit b.rows) refl (eqb w.state.buffered.0 0) refl (over_limit w.state.limit w.state.buffered.0) refl
  where
    cut : Holds (FirmGoes w) (Among steps) (cut_up w b)
    cut =
        rw (coalesced_is w b) (holds_more (coalesced_goes w b b.rows w 0 r x (omega arith) t) (λ v g. goes_firm g) (λ n m. m))

    go : (p : Bool) → over_limit w.state.limit b.rows ≡ p → (q : Bool) → eqb w.state.buffered.0 0 ≡ q → (z : Bool) → over_limit w.state.limit w.state.buffered.0 ≡ z → Holds (FirmGoes w) (Among steps) (stepped w b)
    go false p q e z f = rw (p, stepped) cut
    go true p true e z f = rw (p, e, stepped) (holds_among steps tt (whole_firm w b (run_firm r) x))
    go true p false e false f = rw (p, e, f, stepped) cut
    go true p false e true f =
        rw (p, e, f, stepped)
        (holds_bind _ (holds_among steps tt (finished_goes w r (rows_small r t))) (λ v g.
        holds_among steps tt
        (holds_more (whole_firm v b (run_firm g.run) (g.reads b x)) (λ u k. firm_trans (goes_firm g) k) (λ n m. m))))

-- ---- a push

passed_tests : (w : World) → fits_set_up w ≡ true → state_in_range w ≡ true → tested w ≡ 0
unfolding tested
passed_tests w p q = rw (p, q)

-- what every push leaves, of books of bytes
pub pushed_firm : (w : World) (b : Batch) → Bytes w.books → Holds Firm (Among push_numbers) (pushed w b)
pushed_firm w b bytes = go (push_case w b)
  where
    passes : fits_set_up w ≡ true → state_in_range w ≡ true → Run w
    passes p q = tested-run w (passed_tests w p q) bytes

    below : w.state.buffered.0 < w.state.target.0 → w.state.buffered.0 ≤ w.state.target.0
    below h = omega arith

    go : PushCase w b → Holds Firm (Among push_numbers) (pushed w b)
    go (PushCase.not_set_up p e) = rw e (refused (one_of push_numbers 1 tt))
    go (PushCase.out_of_range p q e) = rw e (refused (one_of push_numbers 14 tt))
    go (PushCase.nothing p q n e) = rw e (held (run_firm (passes p q)))
    go (PushCase.faulty p q n f s e) = rw e (refused (among-more push_numbers tt (fault-number w b f s)))
    go (PushCase.steps p q n s e) =
        let r : Run w = passes p q in
        rw e
        (holds_among push_numbers tt
        (holds_more (stepped_goes w b r (fault_readable w b r n s) (below (range_counted w q).buffered)) (λ v g. g.firm) (λ k m. m)))
