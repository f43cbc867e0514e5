-- The ways out of try_whole, and what its answer says of queueing.
use Rattle.std.specs.Prelude.{ℕ, ◌+◌, ◌≤◌, ◌<◌, Bool, List, [], ltb}
use Rattle.std.proofs.Math.Path.{◌≡◌, refl, ap}
use Rattle.std.proofs.Common.{sym, ◌∙◌, arith, lt-ltb, le-ltb, le-leb, ltb-true, leb-true}
use Rattle.std.proofs.Math.Bool.{true, false, cond}
use Rattle.std.proofs.Math.Dec.{leb}
use Rattle.std.proofs.lemmas.Bool.{lt-leb}
use Rattle.search.specs.Every.{every, every-says, All, all_none, all_more, all_fails, all_done}
use Rattle.state.specs.declared.BatchCoalescer.{BatchCoalescer}
use Rattle.state.specs.World.{World, world}
use Rattle.state.specs.Layout.{list_length}
use Rattle.rules.specs.declared.ColumnRecord.{ColumnRecord}
use Rattle.rules.specs.Batch.{Batch, batch, record_of}
use Rattle.rules.specs.Steps.{ok, refuse, queueing}
use Rattle.rules.specs.Views.{filling}
use Rattle.rules.specs.Push.{columns_whole, queued_whole}
use Rattle.routes.specs.Route.{whole_refusal}

-- ---- try_whole

module _ (s : BatchCoalescer) (books records : List ℕ) where
  abbrev pub list_fits : ℕ → Bool
  list_fits c = leb (list_length (world s [] [] books) s.place c + (record_of (batch 0 records []) c).count) s.lists

  abbrev answer : ℕ
  answer = whole_refusal (world s [] [] books) (batch 0 records [])

  pub whole_nine : s.queue ≤ s.queued → 9 ≡ answer
  unfolding whole_refusal
  whole_nine l = rw (le-ltb s.queued s.queue l)

  pub whole-first : All list_fits 0
  whole-first = all_none list_fits

  module _ {c n : ℕ} {r : ColumnRecord} (a : All list_fits c) (e : n ≡ list_length (world s [] [] books) s.place c) (q : r ≡ record_of (batch 0 records []) c) where
    pub whole-more : n + r.count ≤ s.lists → All list_fits (c + 1)
    whole-more l = all_more a (rw (← e, ← q) (le-leb (n + r.count) s.lists l))

    pub whole_ten : s.queued < s.queue → c < s.columns → s.lists < n + r.count → 10 ≡ answer
    unfolding whole_refusal
    whole_ten m h l =
        rw (lt-ltb s.queued s.queue m, ← all_fails list_fits s.columns c h (rw (← e, ← q) (lt-leb (n + r.count) s.lists l)))

  pub whole-none : {c : ℕ} → s.queued < s.queue → All list_fits c → s.columns ≤ c → 0 ≡ answer
  unfolding whole_refusal
  whole-none m a l = rw (lt-ltb s.queued s.queue m, ← all_done s.columns a l)

  -- slots, pool, rows and body do not matter
  pub whole_same : (slots pool body : List ℕ) (rows : ℕ) → answer ≡ whole_refusal (world s slots pool books) (batch rows records body)
  unfolding whole_refusal list_length record_of
  whole_same slots pool body rows = refl

-- what the answer says of queueing
module _ (w : World) (b : Batch) where
  pub whole_refuses : {n : ℕ} → n ≡ whole_refusal w b → (n ≡ 0 → ⊥) → queued_whole w b ≡ refuse n
  unfolding whole_refusal queued_whole
  whole_refuses {n} e z = go (ltb w.state.queued w.state.queue) (every (λ c. leb (list_length w (filling w) c + (record_of b c).count) w.state.lists) w.state.columns) e
    where
      go : (p q : Bool) → n ≡ cond p (cond q 0 10) 9 → cond p (cond q (ok (queueing (columns_whole w b) b.rows)) (refuse 10)) (refuse 9) ≡ refuse n
      go true true x = absurd (z x)
      go true false x = ap refuse (sym x)
      go false q x = ap refuse (sym x)

  pub whole_goes : {n : ℕ} → n ≡ whole_refusal w b → n ≡ 0 → queued_whole w b ≡ ok (queueing (columns_whole w b) b.rows)
  unfolding whole_refusal queued_whole
  whole_goes {n} e z = go (ltb w.state.queued w.state.queue) (every (λ c. leb (list_length w (filling w) c + (record_of b c).count) w.state.lists) w.state.columns) (sym z ∙ e)
    where
      go : (p q : Bool) → ◌≡◌ {A = ℕ} 0 (cond p (cond q 0 10) 9) → cond p (cond q (ok (queueing (columns_whole w b) b.rows)) (refuse 10)) (refuse 9) ≡ ok (queueing (columns_whole w b) b.rows)
      go true true x = refl
      go true false x = absurd (omega arith)
      go false q x = absurd (omega arith)

-- what 0 says of the tests
pub whole_says : (w : World) (b : Batch) → whole_refusal w b ≡ 0 → (w.state.queued < w.state.queue) × ((c : ℕ) → c < w.state.columns → list_length w (filling w) c + (record_of b c).count ≤ w.state.lists)
unfolding whole_refusal
whole_says w b e = go (ltb w.state.queued w.state.queue) (every fits w.state.columns) refl refl e
  where
    fits : ℕ → Bool
    fits c = leb (list_length w (filling w) c + (record_of b c).count) w.state.lists

    go : (p q : Bool) → ltb w.state.queued w.state.queue ≡ p → every fits w.state.columns ≡ q → ◌≡◌ {A = ℕ} (cond p (cond q 0 10) 9) 0 → (w.state.queued < w.state.queue) × ((c : ℕ) → c < w.state.columns → list_length w (filling w) c + (record_of b c).count ≤ w.state.lists)
    go true true p q x = (ltb-true _ _ p, λ c h. leb-true _ _ (every-says fits w.state.columns q c h))
    go true false p q x = absurd (omega arith)
    go false z p q x = absurd (omega arith)
