-- A push: its ways, each with its result; the numbers that its steps refuse with; what they leave.
use Prim.Native.Nat.{ℕ, zero, suc, ◌+◌, ◌-◌, ◌≤◌, ◌<◌}
use Rattle.std.specs.Prelude.{◌≡◌, ◌≢◌, Bool, cond, List, [], ◌∷◌, leb, eqb}
use Rattle.std.proofs.Math.Path.{refl}
use Rattle.std.proofs.Common.{sym, ◌∙◌, ap, arith}
use Rattle.std.proofs.Math.Bool.{true, false}
use Rattle.std.specs.Prelude.{Option, None, Some}
use Rattle.std.proofs.Math.Dec.{ltb}
use borrow.Author.Tests.{ltb-true, ltb-false, leb-false, eqb-true, eqb-false, lt-ltb, le-ltb, eq-eqb, ne_eqb}
use Rattle.search.specs.Cases.{by_cond}
use Rattle.search.specs.Every.{every}
use Rattle.state.specs.declared.BatchCoalescer.{BatchCoalescer}
use Rattle.state.specs.World.{World}
use Rattle.state.specs.Layout.{is_views, next_slot, list_length}
use Rattle.rules.specs.Batch.{Batch, record_of}
use Rattle.rules.specs.declared.Fault.{Fault}
use Rattle.rules.specs.Checks.{is_fault, batch_fault}
use Rattle.rules.specs.Ranges.{fits_set_up, state_in_range, tested}
use Rattle.rules.specs.TestLaws.{TestedCase, tested-case}
use Rattle.rules.specs.Steps.{Res, ok, refuse, bind, counting, queueing}
use Rattle.rules.specs.Views.{filling}
use Rattle.rules.specs.Push.{all_closed, finished, column_whole, columns_whole, queued_whole, part_taken, if_full, full_parts, in_parts, cut_up, over_limit, stepped, pushed}
use Rattle.rules.specs.Turns.{space, coalesced, coalesced-turn, coalesced-last}
use Rattle.rules.specs.Held.{Among, one_of, among-more, Holds, held, refused, holds_ok, holds_bind, holds_more, holds_cond, holds_among}
use Rattle.rules.specs.Stays.{same_counts, Beside, beside_refl, beside_trans, each_beside, beside_kept, Kept, kept_trans, Stays, stays_refl}
use Rattle.rules.proofs.PartLaws.{counting_beside, bits_beside, values_beside, closed_beside, attached_beside, part_holds}
use Rattle.rules.proofs.CheckLaws.{fault-number}

-- ---- the ways of a push

-- 01: "Order for a push: 1, 14, then step 1, then 2, 3, then per column ..": one way for each, with what is known there, and the result
pub data PushCase (w : World) (b : Batch) : Type 0 where
  not_set_up : fits_set_up w ≡ false → pushed w b ≡ refuse 1 → PushCase w b
  out_of_range : fits_set_up w ≡ true → state_in_range w ≡ false → pushed w b ≡ refuse 14 → PushCase w b
  nothing : fits_set_up w ≡ true → state_in_range w ≡ true → b.rows ≡ 0 → pushed w b ≡ ok w → PushCase w b
  faulty : fits_set_up w ≡ true → state_in_range w ≡ true → b.rows ≢ 0 → (f : Fault) → batch_fault w b ≡ Some f → pushed w b ≡ refuse f.number → PushCase w b
  steps : fits_set_up w ≡ true → state_in_range w ≡ true → b.rows ≢ 0 → batch_fault w b ≡ None → pushed w b ≡ stepped w b → PushCase w b

pub push_case : (w : World) (b : Batch) → PushCase w b
unfolding pushed
push_case w b = go (tested-case w) (eqb b.rows 0) refl (batch_fault w b) refl
  where
    go : TestedCase w → (z : Bool) → eqb b.rows 0 ≡ z → (o : Option Fault) → batch_fault w b ≡ o → PushCase w b
    go (TestedCase.not_set_up p e) z r o s = not_set_up p (rw (ne_eqb (tested w) 0 (omega arith), pushed) (ap refuse e))
    go (TestedCase.out_of_range p q e) z r o s = out_of_range p q (rw (ne_eqb (tested w) 0 (omega arith), pushed) (ap refuse e))
    go (TestedCase.passed p q e) true r o s = nothing p q (eqb-true _ _ r) (rw (eq-eqb (tested w) 0 e, r, pushed))
    go (TestedCase.passed p q e) false r (Some f) s = faulty p q (eqb-false _ _ r) f s (rw (eq-eqb (tested w) 0 e, r, s, pushed))
    go (TestedCase.passed p q e) false r None s = steps p q (eqb-false _ _ r) s (rw (eq-eqb (tested w) 0 e, r, s, pushed))

-- which way it is: one push goes one way
pub kind_of : {w : World} {b : Batch} → PushCase w b → ℕ
kind_of (not_set_up p e) = 0
kind_of (out_of_range p q e) = 1
kind_of (nothing p q r e) = 2
kind_of (faulty p q r f s e) = 3
kind_of (steps p q r s e) = 4

kind : World → Batch → ℕ
kind w b =
    cond (fits_set_up w) (cond (state_in_range w) (cond (eqb b.rows 0) 2 (cond (is_fault (batch_fault w b)) 3 4)) 1) 0

kind_is : {w : World} {b : Batch} (x : PushCase w b) → kind_of x ≡ kind w b
unfolding kind_of kind
kind_is (not_set_up p e) = rw p
kind_is (out_of_range p q e) = rw (p, q)
kind_is {w} {b} (nothing p q r e) = rw (p, q, eq-eqb b.rows 0 r)
kind_is {w} {b} (faulty p q r f s e) = rw (p, q, ne_eqb b.rows 0 r, s)
kind_is {w} {b} (steps p q r s e) = rw (p, q, ne_eqb b.rows 0 r, s)

pub one_kind : {w : World} {b : Batch} (x y : PushCase w b) → kind_of x ≡ kind_of y
one_kind x y = kind_is x ∙ sym (kind_is y)

-- ---- finishing, queueing whole

-- a step that leaves n rows buffered
pub record Ends (w : World) (n : ℕ) (v : World) : Type 0 where
  pub kept : Kept w v
  pub buffered : v.state.buffered.0 ≡ n

-- Beside other steps
ends-after : {w v u : World} {n : ℕ} → Beside w v → Ends v n u → Ends w n u
ends-after p e = record { kept = kept_trans (beside_kept p) e.kept; buffered = e.buffered }

next-within : (s : BatchCoalescer) (slot : ℕ) → next_slot s slot ≤ s.queue
unfolding next_slot
next-within s slot =
    by_cond (λ (k : ℕ). k ≤ s.queue) (leb s.queue slot) (λ h. omega arith) (λ h. omega (arith, leb-false s.queue slot h))

pub queueing-ends : (w : World) (rows : ℕ) → w.state.queued < w.state.queue → Ends w 0 (queueing w rows)
unfolding queueing counting
queueing-ends w rows l =
    record {
      kept =
          record {
            set_up = same_counts w.state (next_slot w.state w.state.place) (w.state.queued + 1) 0;
            slots = refl;
            pool = refl;
            books = (counting_beside w w.state.place 0 rows).books;
            queued = λ h. omega arith;
            place = λ h. next-within w.state w.state.place;
          };
      buffered = refl;
    }

pub closed_all_beside : (w : World) → Beside w (all_closed w)
unfolding all_closed
closed_all_beside w =
    each_beside w.state.columns _ w
    (λ v c. by_cond (Beside v) (is_views v.state c) (λ h. closed_beside v c) (λ h. beside_refl v))

-- the queue is as long behind such steps
still : {w v : World} → Beside w v → w.state.queued < w.state.queue → v.state.queued < v.state.queue
still p l = rw (p.queued, p.set_up.queue) l

pub finished_holds : (w : World) → Holds (Ends w 0) (Among (9 ∷ [])) (finished w)
unfolding finished
finished_holds w =
    holds_cond (eqb w.state.buffered.0 0)
    (λ h. held (record { kept = beside_kept (beside_refl w); buffered = eqb-true _ _ h }))
    (λ h. holds_cond (ltb w.state.queued w.state.queue) (λ l. held (ends-after all (queueing-ends _ _ (still all (ltb-true _ _ l)))))
    (λ l. refused (one_of (9 ∷ []) 9 tt)))
  where
    all : Beside w (all_closed w)
    all = closed_all_beside w

pub whole_beside : (w : World) (b : Batch) → Beside w (columns_whole w b)
unfolding columns_whole column_whole
whole_beside w b =
    each_beside w.state.columns _ w
    (λ v c.
    beside_trans (beside_trans (bits_beside v b c _ 0 0 b.rows) (values_beside _ b c _ 0 0 b.rows)) (attached_beside _ b c))

pub whole_holds : (w : World) (b : Batch) → Holds (Ends w 0) (Among (9 ∷ 10 ∷ [])) (queued_whole w b)
unfolding queued_whole
whole_holds w b =
    holds_cond (ltb w.state.queued w.state.queue)
    (λ l. holds_cond (every (λ c. leb (list_length w (filling w) c + (record_of b c).count) w.state.lists) w.state.columns)
    (λ h. held (ends-after all (queueing-ends _ _ (still all (ltb-true _ _ l)))))
    (λ h. refused (one_of (9 ∷ 10 ∷ []) 10 tt)))
    (λ l. refused (one_of (9 ∷ 10 ∷ []) 9 tt))
  where
    all : Beside w (columns_whole w b)
    all = whole_beside w b

-- ---- coalescing

pub taken_holds : (w₀ w : World) (b : Batch) (from n : ℕ) → Holds (Ends w (w.state.buffered.0 + n)) (Among (8 ∷ 10 ∷ 11 ∷ 12 ∷ 14 ∷ [])) (part_taken w₀ w b from n)
unfolding part_taken
taken_holds w₀ w b from n =
    holds_bind _ (part_holds w₀ w b from n) (λ v p. held
    (ends-after p
    (record {
      kept =
          record {
            set_up = same_counts v.state v.state.place v.state.queued (v.state.buffered.0 + n);
            slots = refl;
            pool = refl;
            books = refl;
            queued = λ h. h;
            place = λ h. h;
          };
      buffered = ap (λ x. x.0 + n) p.buffered;
    })))

-- finishing a full slot: rows up to T are then fewer
pub record Levels (w v : World) : Type 0 where
  pub kept : Kept w v
  pub below : w.state.buffered.0 ≤ w.state.target.0 → 1 ≤ w.state.target.0 → v.state.buffered.0 < v.state.target.0

-- T in the world behind
target_of : {w v : World} → Kept w v → v.state.target.0 ≡ w.state.target.0
target_of k = ap (λ t. t.0) k.set_up.target

pub full_holds : (w : World) → Holds (Levels w) (Among (9 ∷ [])) (if_full w)
unfolding if_full
full_holds w =
    holds_cond (eqb w.state.buffered.0 w.state.target.0)
    (λ h. holds_more (finished_holds w)
    (λ v e. record { kept = e.kept; below = λ l m. omega (arith, e.buffered, target_of e.kept) }) (λ n a. a))
    (λ h. held
    (record { kept = beside_kept (beside_refl w); below = λ l m. omega (arith, eqb-false w.state.buffered.0 w.state.target.0 h) }))

-- steps 3 and 4 with so many turns for so many rows: with a turn for each row, buffered stays below T
pub record Coalesces (w : World) (turns left : ℕ) (v : World) : Type 0 where
  pub kept : Kept w v
  pub below : left ≤ turns → w.state.buffered.0 < w.state.target.0 → v.state.buffered.0 < v.state.target.0

abbrev step_numbers : List ℕ
step_numbers = 8 ∷ 9 ∷ 10 ∷ 11 ∷ 12 ∷ 14 ∷ []

module _ (w₀ : World) (b : Batch) where
  -- step 4, for rows that fit the slot if there are turns enough
  last_holds : (w : World) (turns from : ℕ) → (b.rows - from ≤ turns → w.state.buffered.0 < w.state.target.0 → w.state.buffered.0 + (b.rows - from) ≤ w.state.target.0) → Holds (Coalesces w turns (b.rows - from)) (Among step_numbers) (bind (part_taken w₀ w b from (b.rows - from)) if_full)
  last_holds w turns from fits =
      holds_bind if_full (holds_among step_numbers tt (taken_holds w₀ w b from (b.rows - from))) (λ v e.
      holds_more (full_holds v)
      (λ u l. record {
        kept = kept_trans e.kept l.kept;
        below = λ h m. l.below (omega (arith, e.buffered, target_of e.kept, fits h m)) (omega (arith, target_of e.kept));
      })
      (λ n a. among-more step_numbers tt a))

  -- a turn of step 3
  turn_holds : (w : World) (from : ℕ) → Holds (Ends w 0) (Among step_numbers) (bind (part_taken w₀ w b from (space w)) finished)
  turn_holds w from =
      holds_bind finished (holds_among step_numbers tt (taken_holds w₀ w b from (space w))) (λ v e.
      holds_more (finished_holds v) (λ u f. record { kept = kept_trans e.kept f.kept; buffered = f.buffered })
      (λ n a. among-more step_numbers tt a))

  -- the parts one behind another are the turns: behind each nothing is buffered, so that T rows fit
  parts_turns : (turns : ℕ) (w : World) (from : ℕ) → in_parts (full_parts turns w.state.target.0 w.state.buffered.0 (b.rows - from)) w₀ w b from ≡ coalesced turns w₀ w b from
  unfolding coalesced full_parts in_parts
  parts_turns zero w from = refl
  parts_turns (suc turns) w from =
      go (λ v. parts_turns turns v (from + space w)) (ltb (space w) (b.rows - from)) refl
    where
      parts : World → ℕ → ℕ → Res
      parts v buffered left = in_parts (full_parts turns w.state.target.0 buffered left) w₀ v b (from + space w)

      go : ((v : World) → in_parts (full_parts turns v.state.target.0 v.state.buffered.0 (b.rows - (from + space w))) w₀ v b (from + space w) ≡ coalesced turns w₀ v b (from + space w)) → (x : Bool) → ltb (space w) (b.rows - from) ≡ x → in_parts (full_parts (suc turns) w.state.target.0 w.state.buffered.0 (b.rows - from)) w₀ w b from ≡ coalesced (suc turns) w₀ w b from
      go r false q =
          rw q (sym (coalesced-last turns w₀ w b from (ltb-false (space w) (b.rows - from) q)))
      go r true q =
          rw q (by_turn (bind (part_taken w₀ w b from (space w)) finished) refl)
          ∙ sym (coalesced-turn turns w₀ w b from (ltb-true (space w) (b.rows - from) q))
        where
          by_turn : (y : Res) → bind (part_taken w₀ w b from (space w)) finished ≡ y → bind y (λ v. parts v 0 (b.rows - from - space w)) ≡ bind y (λ v. coalesced turns w₀ v b (from + space w))
          by_turn (refuse k) e = refl
          by_turn (ok v) e =
              let i : Ends w 0 v = holds_ok v (turn_holds w from) e in
              let l : b.rows - from - space w ≡ b.rows - (from + space w) = omega arith in
              ap (λ (n : ℕ). parts v 0 n) l
              ∙ ap (λ (n : ℕ). parts v n (b.rows - (from + space w))) (sym i.buffered)
              ∙ ap (λ (t : ℕ). in_parts (full_parts turns t v.state.buffered.0 (b.rows - (from + space w))) w₀ v b (from + space w)) (sym (target_of i.kept))
              ∙ r v

  pub coalesced_holds : (turns : ℕ) (w : World) (from : ℕ) → Holds (Coalesces w turns (b.rows - from)) (Among (8 ∷ 9 ∷ 10 ∷ 11 ∷ 12 ∷ 14 ∷ [])) (coalesced turns w₀ w b from)
  unfolding coalesced
  coalesced_holds zero w from = last_holds w zero from (λ h m. omega arith)
  coalesced_holds (suc turns) w from =
      go (λ v. coalesced_holds turns v (from + space w)) (ltb (space w) (b.rows - from)) refl
    where
      go : ((v : World) → Holds (Coalesces v turns (b.rows - (from + space w))) (Among step_numbers) (coalesced turns w₀ v b (from + space w))) → (x : Bool) → ltb (space w) (b.rows - from) ≡ x → Holds (Coalesces w (suc turns) (b.rows - from)) (Among step_numbers) (coalesced (suc turns) w₀ w b from)
      go r false q =
          rw (q, coalesced) (last_holds w (suc turns) from (λ h m. omega (arith, ltb-false (space w) (b.rows - from) q)))
      go r true q =
          rw (q, coalesced)
          (holds_bind _ (turn_holds w from) (λ v e.
          holds_more (r v)
          (λ u f. record {
            kept = kept_trans e.kept f.kept;
            below = λ h m. f.below (omega arith) (omega (arith, e.buffered, target_of e.kept));
          })
          (λ n a. a)))

-- ---- all the steps

-- steps 3 and 4 of a push, turn by turn
pub coalesced_is : (w : World) (b : Batch) → cut_up w b ≡ coalesced b.rows w w b 0
unfolding cut_up
coalesced_is w b =
    let e : b.rows - 0 ≡ b.rows = omega arith in rw e at (parts_turns w b b.rows w 0)

pub ends_stays : {w v : World} → Ends w 0 v → Stays w v
ends_stays e = record { kept = e.kept; below = λ h. omega (arith, e.buffered, target_of e.kept) }

pub stepped_holds : (w : World) (b : Batch) → Holds (Stays w) (Among (8 ∷ 9 ∷ 10 ∷ 11 ∷ 12 ∷ 14 ∷ [])) (stepped w b)
unfolding stepped
stepped_holds w b =
    go (over_limit w.state.limit b.rows) refl (eqb w.state.buffered.0 0) refl (over_limit w.state.limit w.state.buffered.0) refl
  where
    cut : Holds (Stays w) (Among step_numbers) (cut_up w b)
    cut =
        rw (coalesced_is w b)
        (holds_more (coalesced_holds w b b.rows w 0) (λ v e. record { kept = e.kept; below = λ h. e.below (omega arith) h }) (λ n a. a))

    go : (x : Bool) → over_limit w.state.limit b.rows ≡ x → (y : Bool) → eqb w.state.buffered.0 0 ≡ y → (z : Bool) → over_limit w.state.limit w.state.buffered.0 ≡ z → Holds (Stays w) (Among step_numbers) (stepped w b)
    go false p y q z r = rw (p, stepped) cut
    go true p true q z r = rw (p, q, stepped) (holds_more (whole_holds w b) (λ v e. ends_stays e) (λ n a. among-more step_numbers tt a))
    go true p false q false r = rw (p, q, r, stepped) cut
    go true p false q true r =
        rw (p, q, r, stepped)
        (holds_bind _ (holds_among step_numbers tt (finished_holds w)) (λ v e.
        holds_more (whole_holds v b)
        (λ u f. ends_stays (record { kept = kept_trans e.kept f.kept; buffered = f.buffered }))
        (λ n a. among-more step_numbers tt a)))

abbrev pub push_numbers : List ℕ
push_numbers = 1 ∷ 2 ∷ 3 ∷ 4 ∷ 5 ∷ 6 ∷ 7 ∷ 8 ∷ 9 ∷ 10 ∷ 11 ∷ 12 ∷ 14 ∷ []

-- a push: it refuses with a number of the table, and never with 13, which is of other calls
pub pushed_holds : (w : World) (b : Batch) → Holds (Stays w) (Among push_numbers) (pushed w b)
pushed_holds w b = go (push_case w b)
  where
    go : PushCase w b → Holds (Stays w) (Among push_numbers) (pushed w b)
    go (not_set_up p e) = rw e (refused (one_of push_numbers 1 tt))
    go (out_of_range p q e) = rw e (refused (one_of push_numbers 14 tt))
    go (nothing p q r e) = rw e (held (stays_refl w))
    go (faulty p q r f s e) = rw e (refused (among-more push_numbers tt (fault-number w b f s)))
    go (steps p q r s e) = rw e (holds_among push_numbers tt (stepped_holds w b))
