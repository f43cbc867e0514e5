-- A batch queued whole: an open block stays open, so that its room in the next slot's list is known only where none is.
use Prim.Native.Nat.{ℕ, zero, suc, ◌+◌, ◌≤◌, ◌<◌}
use Rattle.std.specs.Prelude.{◌≡◌, true, [], ◌∷◌, ltb, leb}
use Rattle.std.proofs.Math.Path.{refl}
use Rattle.std.proofs.Common.{◌∙◌, ap, arith, ltb-true, leb-true}
use Rattle.search.specs.Every.{every, every-says}
use Rattle.state.specs.declared.BatchCoalescer.{BatchCoalescer}
use Rattle.state.specs.World.{World}
use Rattle.state.specs.Layout.{list_length}
use Rattle.rules.specs.Batch.{Batch, record_of}
use Rattle.rules.specs.Steps.{each, counting, queueing}
use Rattle.rules.specs.Views.{span, filling, bits_copied, values_copied, list_attached}
use Rattle.rules.specs.Push.{column_whole, columns_whole, queued_whole}
use Rattle.rules.specs.Held.{Among, one_of, Holds, held, refused, holds_more, holds_cond}
use Rattle.push_safety.specs.Run.{Run, ColumnReads, Readable, Goes}
use Rattle.push_safety.specs.TestedLaws.{bounds_say}
use Rattle.push_safety.specs.Firm.{Firm, FirmGoes, run_firm, firm_refl, firm_trans, goes_both}
use Rattle.push_safety.specs.StepGoes.{bits_firm, values_firm}
use Rattle.push_safety.specs.AttachGoes.{attached_firm, attached_other}
use Rattle.push_safety.specs.FinishGoes.{Shut, shut_spare, queueing_firm, queueing-shut}

-- ---- one column

-- column c of the batch before its list is attached
abbrev copied : World → Batch → ℕ → World
copied v b c = values_copied (bits_copied v b (filling v) (span c 0 0 b.rows)) b (filling v) (span c 0 0 b.rows)

copied-list : (v : World) (b : Batch) (c slot d : ℕ) → list_length (copied v b c) slot d ≡ list_length v slot d
unfolding bits_copied values_copied list_length
copied-list v b c slot d = refl

copied_state : (v : World) (b : Batch) (c : ℕ) → (copied v b c).state ≡ v.state
unfolding bits_copied values_copied
copied_state v b c = refl

whole_is : (v : World) (b : Batch) (c : ℕ) → column_whole v b c ≡ list_attached (copied v b c) b c
unfolding column_whole bits_copied
whole_is v b c = refl

attached_state : (v : World) (b : Batch) (c : ℕ) → (list_attached v b c).state ≡ v.state
unfolding list_attached counting
attached_state v b c = refl

-- ---- the first n columns

module _ (w : World) (b : Batch) where
  -- the lists of the others are as they were
  record WholeTo (n : ℕ) (v : World) : Type 0 where
    goes : FirmGoes w v
    state : v.state ≡ w.state
    lists : (c : ℕ) → n ≤ c → c < w.state.columns → list_length v (filling w) c ≡ list_length w (filling w) c

  module _ (x : Readable w b) (fits : (c : ℕ) → c < w.state.columns → list_length w (filling w) c + (record_of b c).count ≤ w.state.lists) where
    one_whole : (v : World) (n : ℕ) → n < w.state.columns → WholeTo n v → WholeTo (suc n) (list_attached (copied v b n) b n)
    one_whole v n h a =
        record {
          goes = firm_trans g (attached_firm u b n within reads joint g.firm);
          state = attached_state u b n ∙ p;
          lists = λ c l m.
              attached_other u b n within reads joint g.firm (filling w) c (omega (arith, columns)) (λ e. omega arith)
              ∙ copied-list v b n (filling w) c
              ∙ a.lists c (omega arith) m;
        }
      where
        u : World
        u = copied v b n

        p : u.state ≡ w.state
        p = copied_state v b n ∙ a.state

        columns : u.state.columns ≡ w.state.columns
        columns = ap (λ (s : BatchCoalescer). s.columns) p

        g : FirmGoes w u
        g =
            let f : FirmGoes v (bits_copied v b (filling v) (span n 0 0 b.rows)) = bits_firm b n (filling v) 0 0 b.rows a.goes.firm in
            firm_trans a.goes (firm_trans f (values_firm b n (filling v) 0 0 b.rows f.firm))

        within : n < u.state.columns
        within = omega (arith, columns)

        reads : ColumnReads u b n
        reads = (g.reads b x).columns n within

        joint : list_length u (filling u) n + (record_of b n).count ≤ u.state.lists
        joint =
            omega (
              arith,
              copied-list v b n (filling u) n,
              ap (λ (s : BatchCoalescer). list_length v s.place n) p,
              a.lists n (omega arith) h,
              fits n h,
              ap (λ (s : BatchCoalescer). s.lists) p,
            )

    whole_to : (n : ℕ) → Firm w → n ≤ w.state.columns → WholeTo n (each n (λ v c. column_whole v b c) w)
    unfolding each
    whole_to zero r h = record { goes = firm_refl r; state = refl; lists = λ c l m. refl }
    whole_to (suc n) r h =
        rw (whole_is (each n (λ v c. column_whole v b c) w) b n)
        (one_whole (each n (λ v c. column_whole v b c) w) n h (whole_to n r (omega arith)))

    pub columns_whole_firm : Firm w → FirmGoes w (columns_whole w b)
    unfolding columns_whole
    columns_whole_firm r = (whole_to w.state.columns r (omega arith)).goes

    pub columns_whole_state : Firm w → (columns_whole w b).state ≡ w.state
    unfolding columns_whole
    columns_whole_state r = (whole_to w.state.columns r (omega arith)).state

-- ---- queued

-- where no block was open none is
record Wholes (w v : World) : Type 0 where
  goes : FirmGoes w v
  shut : Shut w → Shut v

whole-shut : (w v : World) → v.state ≡ w.state → Shut w → Shut v
whole-shut w v p s = record { shut = λ c h y. rw p (s.shut c (rw p at h) (rw p at y)) }

whole-steps : (w : World) (b : Batch) → Firm w → Readable w b → Holds (Wholes w) (Among (9 ∷ 10 ∷ [])) (queued_whole w b)
unfolding queued_whole
whole-steps w b r x =
    holds_cond (ltb w.state.queued w.state.queue)
    (λ l. holds_cond (every (λ c. leb (list_length w (filling w) c + (record_of b c).count) w.state.lists) w.state.columns)
    (λ h. held (queued_whole_lem (ltb-true _ _ l) (fits h)))
    (λ h. refused (one_of (9 ∷ 10 ∷ []) 10 tt)))
    (λ l. refused (one_of (9 ∷ 10 ∷ []) 9 tt))
  where
    fits : every (λ c. leb (list_length w (filling w) c + (record_of b c).count) w.state.lists) w.state.columns ≡ true → (c : ℕ) → c < w.state.columns → list_length w (filling w) c + (record_of b c).count ≤ w.state.lists
    fits e c h = leb-true _ _ (every-says (λ c. leb (list_length w (filling w) c + (record_of b c).count) w.state.lists) w.state.columns e c h)

    queued_whole_lem : w.state.queued < w.state.queue → ((c : ℕ) → c < w.state.columns → list_length w (filling w) c + (record_of b c).count ≤ w.state.lists) → Wholes w (queueing (columns_whole w b) b.rows)
    queued_whole_lem l f =
        let a : FirmGoes w (columns_whole w b) = columns_whole_firm w b x f r in
        let p : (columns_whole w b).state ≡ w.state = columns_whole_state w b x f r in
        record {
          goes =
              firm_trans a
              (queueing_firm b.rows a.firm (rw p l) (omega (arith, x.rows_fit, (bounds_say w.state r.fit.bounds).rows)));
          shut = λ s. queueing-shut b.rows (whole-shut w (columns_whole w b) p s);
        }

pub whole_firm : (w : World) (b : Batch) → Firm w → Readable w b → Holds (FirmGoes w) (Among (9 ∷ 10 ∷ [])) (queued_whole w b)
whole_firm w b r x = holds_more (whole-steps w b r x) (λ v e. e.goes) (λ n m. m)

-- where no block is open, as after finishing, it goes on as every step does
pub whole_goes : (w : World) (b : Batch) → Run w → Shut w → Readable w b → Holds (Goes w) (Among (9 ∷ 10 ∷ [])) (queued_whole w b)
whole_goes w b r s x =
    holds_more (whole-steps w b (run_firm r) x) (λ v e. goes_both e.goes (shut_spare (e.shut s))) (λ n m. m)
