-- A push: the rows of its batch stand behind those that were there, in batches made and in what is buffered.
use Prim.Native.Nat.{ℕ, zero, suc, ◌+◌, ◌-◌, ◌≤◌, ◌<◌}
use Rattle.std.specs.Prelude.{◌≡◌, ◌≢◌, Bool, true, false, List, [], ◌∷◌, ◌++◌, ltb, eqb}
use Rattle.std.proofs.Math.Path.{refl}
use Rattle.std.proofs.Common.{sym, ◌∙◌, ap, true≢false, append-nil, arith}
use Rattle.std.specs.Prelude.{None}
use borrow.Author.Tests.{ltb-true, ltb-false, eqb-true, eqb-false}
use Rattle.state.specs.World.{World}
use Rattle.words.specs.WordLaws.{Bytes}
use Rattle.state.specs.Rows.{Row, up_to, joined, queued_batches}
use Rattle.rules.specs.Batch.{Batch, batch_row, batch_rows}
use Rattle.rules.specs.Checks.{valid_row, batch_fault}
use Rattle.rules.proofs.CheckLaws.{batch_good, fault-number}
use Rattle.rules.specs.Ranges.{fits_set_up, state_in_range, tested}
use Rattle.rules.specs.TestLaws.{TestedCase, not_set_up, out_of_range, passed, tested-case}
use Rattle.rules.proofs.PushLaws.{PushCase, push_case, coalesced_is}
use Rattle.rules.specs.Steps.{bind}
use Rattle.rules.specs.Push.{finished, part_taken, if_full, cut_up, over_limit, queued_whole, stepped, pushed}
use Rattle.rules.specs.Turns.{space, coalesced}
use Rattle.rules.specs.Held.{Among, among-more, Holds, held, refused, holds_more, holds_bind, holds_cond, holds_among}
use Rattle.rules.specs.Stays.{SameSetUp, same_refl, same_trans}
use Rattle.push_safety.specs.Run.{Run}
use Rattle.push_safety.specs.TestedLaws.{bounds_say}
use Rattle.push_safety.specs.ReadLaws.{fault_readable}
use Rattle.invariant.specs.Holding.{Between, PoolStays}
use Rattle.invariant.proofs.PoolLaws.{pool_refl, pool_trans}
use Rattle.invariant.specs.Steps.Moves.{ReadableBatch}
use Rattle.invariant.specs.RowLaws.{batch_part, part_all, part_more}
use Rattle.invariant.proofs.Calls.After.{After, after_same, after_trans}
use Rattle.invariant.specs.Calls.TakeAfter.{LaterInPush, TakesPart}
use Rattle.invariant.proofs.Calls.TakeAfter.{along_trans, along_sourced, along_part, taken_takes}
use Rattle.invariant.proofs.Calls.FinishAfter.{QueuesBuffered, finished-after}
use Rattle.invariant.proofs.Calls.WholeAfter.{whole-after}

abbrev steps : List ℕ
steps = 9 ∷ 10 ∷ 11 ∷ 12 ∷ []

-- the rows of a part behind those of w
pub record RowsBehind (w : World) (pushed : List Row) (v : World) : Type 0 where
  pub between : Between v
  pub after : After w pushed v
  pub bytes : Bytes w.slots → Bytes v.slots
  pub pool : PoolStays w v

-- a part is rows pushed
takes_after : {w v : World} {b : Batch} {from n : ℕ} → TakesPart w b from n v → After w (batch_part w b from n) v
unfolding joined
takes_after {w} t = record { made = []; batches = t.batches ∙ sym (append-nil (queued_batches w)); rows = sym t.rows }

after_nil : {w v : World} {p : List Row} → After w (p ++ []) v → After w p v
after_nil {w} {v} {p} a = rw (append-nil p) at a

-- ---- steps 3 and 4

-- a turn of step 3: the rows of a part, and the batch reads the same
record Turns (w : World) (b : Batch) (from n : ℕ) (u : World) : Type 0 where
  pushes : RowsBehind w (batch_part w b from n) u
  along : LaterInPush w u

module _ (w₀ : World) (b : Batch) where
  -- a part that fits the slot; its rows are then buffered, at most T of them
  module _ (w : World) (from n : ℕ) (g : Between w) (x : ReadableBatch w b) (e : SameSetUp w₀.state w.state) (m : from + n ≤ b.rows) (some : 1 ≤ n) (fits : w.state.buffered.0 + n ≤ w.state.target.0) where
    part : Holds (TakesPart w b from n) (Among steps) (part_taken w₀ w b from n)
    part =
        holds_among steps tt
        (taken_takes w₀ w b from n g.holding x e (omega (arith, fits, (bounds_say w.state g.holding.run.fit.bounds).target)) m g.spared)

    full : (v : World) → TakesPart w b from n v → v.state.buffered.0 ≤ v.state.target.0
    full v t = omega (arith, t.buffered, fits, ap (λ r. r.0) t.along.set_up.target)

    not_none : (v : World) → TakesPart w b from n v → v.state.buffered.0 ≡ 0 → Between v
    not_none v t z = absurd (omega (arith, t.buffered, some))

    -- finished, and where it is full
    finish_part : (v : World) → TakesPart w b from n v → Holds (QueuesBuffered v) (Among (9 ∷ [])) (finished v)
    finish_part v t = finished-after v t.holding (full v t) (not_none v t) t.spared

    then_finished : (v u : World) → TakesPart w b from n v → QueuesBuffered v u → RowsBehind w (batch_part w b from n) u
    then_finished v u t f = record { between = f.between; after = after_nil (after_trans (takes_after t) f.after); bytes = λ z. f.along.bytes (t.along.bytes z); pool = pool_trans t.along.pool f.along.pool }

    if_full_lem : (v : World) → TakesPart w b from n v → Holds (RowsBehind w (batch_part w b from n)) (Among steps) (if_full v)
    unfolding if_full
    if_full_lem v t =
        holds_cond (eqb v.state.buffered.0 v.state.target.0)
        (λ z. holds_among steps tt (holds_more (finish_part v t) (λ u f. then_finished v u t f) (λ k l. l)))
        (λ z. held
        (record {
          between = record { holding = t.holding; below = omega (arith, full v t, eqb-false v.state.buffered.0 v.state.target.0 z); begun = λ y. absurd (omega (arith, t.buffered, some)); spared = t.spared };
          after = takes_after t;
          bytes = t.along.bytes;
          pool = t.along.pool;
        }))

    last : Holds (RowsBehind w (batch_part w b from n)) (Among steps) (bind (part_taken w₀ w b from n) if_full)
    last = holds_bind if_full part if_full_lem

    -- a turn of step 3
    turn : Holds (Turns w b from n) (Among steps) (bind (part_taken w₀ w b from n) finished)
    turn =
        holds_bind finished part (λ v t.
        holds_among steps tt
        (holds_more (finish_part v t) (λ u f. record { pushes = then_finished v u t f; along = along_trans t.along f.along }) (λ k l. l)))

  -- all of them
  pub coalesced-after : (turns : ℕ) (w : World) (from : ℕ) → Between w → ReadableBatch w b → SameSetUp w₀.state w.state → from < b.rows → b.rows - from ≤ turns → Holds (RowsBehind w (batch_part w b from (b.rows - from))) (Among (9 ∷ 10 ∷ 11 ∷ 12 ∷ [])) (coalesced turns w₀ w b from)
  unfolding coalesced
  coalesced-after zero w from g x e l f = absurd (omega arith)
  coalesced-after (suc turns) w from g x e l f =
      go (λ v g x e l f. coalesced-after turns v (from + space w) g x e l f) (ltb (space w) (b.rows - from)) refl
    where
      some : 1 ≤ space w
      some = omega (arith, g.below)

      go : ((v : World) → Between v → ReadableBatch v b → SameSetUp w₀.state v.state → from + space w < b.rows → b.rows - (from + space w) ≤ turns → Holds (RowsBehind v (batch_part v b (from + space w) (b.rows - (from + space w)))) (Among steps) (coalesced turns w₀ v b (from + space w))) → (z : Bool) → ltb (space w) (b.rows - from) ≡ z → Holds (RowsBehind w (batch_part w b from (b.rows - from))) (Among steps) (coalesced (suc turns) w₀ w b from)
      go rest false q =
          rw (q, coalesced)
          (last w from (b.rows - from) g x e (omega arith) (omega arith) (omega (arith, ltb-false (space w) (b.rows - from) q, g.below)))
      go rest true q =
          let t : space w < b.rows - from = ltb-true (space w) (b.rows - from) q in
          rw (q, coalesced)
          (holds_bind _ (turn w from (space w) g x e (omega arith) some (omega (arith, g.below))) (λ v p.
          holds_more (rest v p.pushes.between (along_sourced x g.holding.run p.along) (same_trans e p.along.set_up) (omega arith) (omega arith))
          (λ u k. record { between = k.between; after = rw (both v p) at (after_trans p.pushes.after k.after); bytes = λ z. k.bytes (p.pushes.bytes z); pool = pool_trans p.pushes.pool k.pool })
          (λ j l. l)))
        where
          both : (v : World) → Turns w b from (space w) v → batch_part w b from (space w) ++ batch_part v b (from + space w) (b.rows - (from + space w)) ≡ batch_part w b from (b.rows - from)
          both v p =
              let t : space w < b.rows - from = ltb-true (space w) (b.rows - from) q in
              let s : space w + (b.rows - (from + space w)) ≡ b.rows - from = omega arith in
              ap (λ (r : List Row). batch_part w b from (space w) ++ r) (along_part x g.holding.run p.along (from + space w) (b.rows - (from + space w)) (omega arith))
              ∙ (rw s at (sym (part_more w b from (space w) (b.rows - (from + space w)))))

-- ---- step 2

pub stepped-after : (w : World) (b : Batch) → Between w → ReadableBatch w b → 1 ≤ b.rows → Holds (RowsBehind w (batch_rows w b)) (Among (9 ∷ 10 ∷ 11 ∷ 12 ∷ [])) (stepped w b)
unfolding stepped
stepped-after w b g x some =
    go (over_limit w.state.limit b.rows) refl (eqb w.state.buffered.0 0) refl (over_limit w.state.limit w.state.buffered.0) refl
  where
    all : batch_part w b 0 (b.rows - 0) ≡ batch_rows w b
    all = let e : b.rows - 0 ≡ b.rows = omega arith in rw e (part_all w b)

    cut : Holds (RowsBehind w (batch_rows w b)) (Among steps) (cut_up w b)
    cut =
        rw (coalesced_is w b) (rw all at (coalesced-after w b b.rows w 0 g x (same_refl w.state) (omega arith) (omega arith)))

    -- behind the rows that were buffered
    behind : (v : World) → QueuesBuffered w v → Holds (RowsBehind w (batch_rows w b)) (Among steps) (queued_whole v b)
    behind v f =
        holds_among steps tt
        (holds_more (whole-after v b f.between f.none (along_sourced x g.holding.run f.along) some)
        (λ u k. record { between = k.between; after = rw same at (after_trans f.after k.after); bytes = λ z. k.bytes (f.along.bytes z); pool = pool_trans f.along.pool k.pool })
        (λ j l. l))
      where
        same : [] ++ batch_rows v b ≡ batch_rows w b
        same = sym (part_all v b) ∙ along_part x g.holding.run f.along 0 b.rows (omega arith) ∙ part_all w b

    go : (p : Bool) → over_limit w.state.limit b.rows ≡ p → (q : Bool) → eqb w.state.buffered.0 0 ≡ q → (z : Bool) → over_limit w.state.limit w.state.buffered.0 ≡ z → Holds (RowsBehind w (batch_rows w b)) (Among steps) (stepped w b)
    go false p q e z f = rw (p, stepped) cut
    go true p true e z f =
        rw (p, e, stepped)
        (holds_among steps tt
        (holds_more (whole-after w b g (eqb-true w.state.buffered.0 0 e) x some) (λ v k. record { between = k.between; after = k.after; bytes = k.bytes; pool = k.pool }) (λ j l. l)))
    go true p false e false f = rw (p, e, f, stepped) cut
    go true p false e true f =
        rw (p, e, f, stepped)
        (holds_bind (λ v. queued_whole v b) (holds_among steps tt (finished-after w g.holding (omega (arith, g.below)) (λ z. g) g.spared)) behind)

-- ---- a push

-- a batch without a fault can be read, and every view of it is valid
pub fault_sourced : (w : World) (b : Batch) → Run w → Bytes b.body → b.rows ≢ 0 → batch_fault w b ≡ None → ReadableBatch w b
unfolding valid_row
fault_sourced w b r bytes n e =
    record {
      reads = fault_readable w b r n e;
      bytes = bytes;
      valid = λ c i q y h. rw y at (((batch_good w b e).columns c q).valid i h);
    }

-- 0 rows
nothing-pushed : (w : World) (b : Batch) → b.rows ≡ 0 → batch_rows w b ≡ []
unfolding batch_rows up_to
nothing-pushed w b e = ap (λ (n : ℕ). up_to n (batch_row w b)) e

-- the numbers that a push in a history refuses with: never 1, 8 or 14
abbrev pub refusals : List ℕ
refusals = 2 ∷ 3 ∷ 4 ∷ 5 ∷ 6 ∷ 7 ∷ 9 ∷ 10 ∷ 11 ∷ 12 ∷ []

pub pushed-after : (w : World) (b : Batch) → Between w → tested w ≡ 0 → Bytes b.body → Holds (RowsBehind w (batch_rows w b)) (Among refusals) (pushed w b)
pushed-after w b g t bytes = go (push_case w b)
  where
    fits_not : fits_set_up w ≡ false → ⊥
    fits_not p = by_test (tested-case w)
      where
        by_test : TestedCase w → ⊥
        by_test (not_set_up q z) = omega arith
        by_test (out_of_range q r z) = omega arith
        by_test (passed q r z) = true≢false (sym q ∙ p)

    range_not : state_in_range w ≡ false → ⊥
    range_not p = by_test (tested-case w)
      where
        by_test : TestedCase w → ⊥
        by_test (not_set_up q z) = omega arith
        by_test (out_of_range q r z) = omega arith
        by_test (passed q r z) = true≢false (sym r ∙ p)

    go : PushCase w b → Holds (RowsBehind w (batch_rows w b)) (Among refusals) (pushed w b)
    go (PushCase.not_set_up p e) = absurd (fits_not p)
    go (PushCase.out_of_range p q e) = absurd (range_not q)
    go (PushCase.nothing p q n e) = rw e (held (record { between = g; after = rw (nothing-pushed w b n) (after_same refl refl); bytes = λ z. z; pool = pool_refl w }))
    go (PushCase.faulty p q n f s e) = rw e (refused (among-more refusals tt (fault-number w b f s)))
    go (PushCase.steps p q n s e) =
        rw e
        (holds_among refusals tt
        (stepped-after w b g (fault_sourced w b g.holding.run bytes n s) (omega arith)))
