-- The laws of slots in turn: the slots queued and the slot being filled are slots, and all different.
use Prim.Native.Nat.{ℕ, suc, ◌+◌, ◌-◌, ◌≤◌, ◌<◌}
use Rattle.std.specs.Prelude.{◌≡◌, ◌≢◌, cond, leb}
use Rattle.std.proofs.Math.Path.{sym}
use Rattle.std.proofs.Common.{◌∙◌, ap, le-leb, leb-false}
use native.Mathlib.Omega.{arith}
use Rattle.std.proofs.Math.Decide.{dec_le}
use Rattle.std.proofs.lemmas.Bool.{lt-leb}
use Rattle.search.specs.Cases.{by_cond}
use Rattle.state.specs.declared.BatchCoalescer.{BatchCoalescer}
use Rattle.state.specs.Layout.{next_slot, slot_before, queued_slot}

-- the slot behind one
pub next_in : (s : BatchCoalescer) (slot : ℕ) → next_slot s slot ≤ s.queue
unfolding next_slot
next_in s slot = by_cond (λ (k : ℕ). k ≤ s.queue) (leb s.queue slot) (λ q. omega arith) (λ q. omega (arith, leb-false))

next_last : (s : BatchCoalescer) (slot : ℕ) → s.queue ≤ slot → next_slot s slot ≡ 0
unfolding next_slot
next_last s slot h = rw (le-leb s.queue slot h)

next_one : (s : BatchCoalescer) (slot : ℕ) → slot < s.queue → next_slot s slot ≡ slot + 1
unfolding next_slot
next_one s slot h = rw (lt-leb s.queue slot h)

-- k slots before one: k further on one is there again, with or without passing the last
near : (s : BatchCoalescer) (slot k : ℕ) → k ≤ slot → slot_before s slot k + k ≡ slot
unfolding slot_before
near s slot k h = rw (le-leb k slot h) (omega arith)

far : (s : BatchCoalescer) (slot k : ℕ) → slot < k → k ≤ s.queue + 1 → slot_before s slot k + k ≡ slot + (s.queue + 1)
unfolding slot_before
far s slot k h l = rw (lt-leb k slot h) (omega arith)

-- none before is the slot itself; and one before a slot is a slot
pub before-none : (s : BatchCoalescer) (slot : ℕ) → slot_before s slot 0 ≡ slot
before-none s slot = omega (arith, near s slot 0 (omega arith))

pub before_in : (s : BatchCoalescer) (slot k : ℕ) → slot ≤ s.queue → slot_before s slot k ≤ s.queue
unfolding slot_before
before_in s slot k h = by_cond (λ (m : ℕ). m ≤ s.queue) (leb k slot) (λ q. omega arith) (λ q. omega (arith, leb-false))

-- one slot on, and one more back: the slots queued stay where they are when one more is
pub before-next : (s : BatchCoalescer) (slot k : ℕ) → slot ≤ s.queue → k ≤ s.queue → slot_before s (next_slot s slot) (suc k) ≡ slot_before s slot k
before-next s slot k h l = go (dec_le s.queue slot) (dec_le k slot)
  where
    go : Dec (s.queue ≤ slot) → Dec (k ≤ slot) → slot_before s (next_slot s slot) (suc k) ≡ slot_before s slot k
    go (yes p) d = rw (next_last s slot p) (omega (arith, far s 0 (suc k) (omega arith) (omega arith), near s slot k (omega arith)))
    go (no p) (yes d) =
        rw (next_one s slot (omega arith)) (omega (arith, near s (slot + 1) (suc k) (omega arith), near s slot k d))
    go (no p) (no d) =
        rw (next_one s slot (omega arith))
        (omega (arith, far s (slot + 1) (suc k) (omega arith) (omega arith), far s slot k (omega arith) (omega arith)))

-- different steps back, different slots
pub before_one : (s : BatchCoalescer) (slot k j : ℕ) → slot ≤ s.queue → k ≤ s.queue → j ≤ s.queue → slot_before s slot k ≡ slot_before s slot j → k ≡ j
before_one s slot k j h p q e = go (dec_le k slot) (dec_le j slot)
  where
    go : Dec (k ≤ slot) → Dec (j ≤ slot) → k ≡ j
    go (yes a) (yes b) = omega (arith, near s slot k a, near s slot j b)
    go (yes a) (no b) = omega (arith, near s slot k a, far s slot j (omega arith) (omega arith))
    go (no a) (yes b) = omega (arith, far s slot k (omega arith) (omega arith), near s slot j b)
    go (no a) (no b) = omega (arith, far s slot k (omega arith) (omega arith), far s slot j (omega arith) (omega arith))

-- the slot of a queued batch is one, another for each, and never the one being filled
pub queued_in : (s : BatchCoalescer) (k : ℕ) → s.place ≤ s.queue → queued_slot s k ≤ s.queue
unfolding queued_slot
queued_in s k h = before_in s s.place (s.queued - k) h

module _ (s : BatchCoalescer) (in_slots_lem : s.place ≤ s.queue) (few : s.queued ≤ s.queue) where
  pub queued_one : (k j : ℕ) → k < s.queued → j < s.queued → queued_slot s k ≡ queued_slot s j → k ≡ j
  unfolding queued_slot
  queued_one k j p q e =
      omega (arith, before_one s s.place (s.queued - k) (s.queued - j) in_slots_lem (omega arith) (omega arith) e)

  pub queued_other : (k j : ℕ) → k < s.queued → j < s.queued → k ≢ j → queued_slot s k ≢ queued_slot s j
  queued_other k j p q d e = d (queued_one k j p q e)

  pub queued_place : (k : ℕ) → k < s.queued → queued_slot s k ≢ s.place
  unfolding queued_slot
  queued_place k p e =
      omega (
        arith,
        before_one s s.place (s.queued - k) 0 in_slots_lem (omega arith) (omega arith) (e ∙ sym (before-none s s.place)),
      )

-- t is s with one more queued, or with the front one taken: the others keep their slots
before_same : (s t : BatchCoalescer) (slot k : ℕ) → t.queue ≡ s.queue → slot_before t slot k ≡ slot_before s slot k
unfolding slot_before
before_same s t slot k e = ap (λ (q : ℕ). cond (leb k slot) (slot - k) (slot + (q + 1) - k)) e

module _ (s t : BatchCoalescer) (queue : t.queue ≡ s.queue) where
  pub queued_more : (k : ℕ) → s.place ≤ s.queue → s.queued ≤ s.queue → t.place ≡ next_slot s s.place → t.queued ≡ s.queued + 1 → k < s.queued → queued_slot t k ≡ queued_slot s k
  unfolding queued_slot
  queued_more k h l p n d =
      let e : t.queued - k ≡ suc (s.queued - k) = omega arith in
      before_same s t t.place (t.queued - k) queue
      ∙ (rw (p, e) (before-next s s.place (s.queued - k) h (omega arith)))

  pub queued_last : s.place ≤ s.queue → t.place ≡ next_slot s s.place → t.queued ≡ s.queued + 1 → queued_slot t s.queued ≡ s.place
  unfolding queued_slot
  queued_last h p n =
      let e : t.queued - s.queued ≡ 1 = omega arith in
      before_same s t t.place (t.queued - s.queued) queue
      ∙ (rw (p, e) (before-next s s.place 0 h (omega arith)))
      ∙ before-none s s.place

  pub queued_less : (k : ℕ) → t.place ≡ s.place → t.queued + 1 ≡ s.queued → queued_slot t k ≡ queued_slot s (suc k)
  unfolding queued_slot
  queued_less k p n =
      let e : t.queued - k ≡ s.queued - suc k = omega arith in
      before_same s t t.place (t.queued - k) queue ∙ rw (p, e)
