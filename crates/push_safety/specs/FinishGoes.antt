-- Finishing: every block joins its list, and the slot is queued.
use Rattle.std.specs.Prelude.{ℕ, zero, suc, ◌≤◌, ◌<◌, ◌^◌, ◌≡◌, refl, ◌≢◌, Bool, true, false, cond, [], ◌∷◌, ltb, eqb}
use Rattle.std.proofs.Common.{sym, ◌∙◌, true≢false, arith, ltb-true, eqb-true}
use Rattle.std.proofs.Math.Decide.{dec_lt}
use Rattle.search.specs.Cases.{by_cond}
use Rattle.counts.specs.declared.BufferNumber.{BufferNumber}
use Rattle.state.specs.declared.Column.{Column}
use Rattle.state.specs.World.{World, column_of}
use Rattle.state.specs.Layout.{is_views, tally, list_length}
use Rattle.rules.specs.Steps.{each, listing, counting, queueing}
use Rattle.rules.specs.Views.{is_open, closed}
use Rattle.rules.specs.Push.{all_closed, finished, if_full}
use Rattle.rules.specs.Held.{Among, one_of, Holds, held, refused, holds_more, holds_cond}
use Rattle.rules.specs.SameLaws.{same_views}
use Rattle.rules.proofs.PartLaws.{closed_beside}
use Rattle.rules.proofs.PushLaws.{queueing-ends}
use Rattle.push_safety.specs.Run.{Run, Goes}
use Rattle.push_safety.specs.TestedLaws.{bounds_say}
use Rattle.push_safety.specs.BooksGo.{tally_go}
use Rattle.push_safety.specs.Firm.{Firm, Spare, FirmGoes, run_firm, firm_goes, goes_both, goes_refl, goes_trans}
use Rattle.push_safety.specs.StepGoes.{column_cases, list_cases}
use Rattle.push_safety.specs.BlockGoes.{closed_goes, closed-shut}
use Rattle.push_safety.specs.Along.{Along, along_refl, along_trans, along_in}
use Rattle.std.specs.Prelude.{Some, None}

-- ---- no block is open

pub record Shut (w : World) : Type 0 where
  pub shut : (c : ℕ) → c < w.state.columns → is_views w.state c ≡ true → (column_of w.state c).block ≡ None

-- a block that is closed stays so when another is
closed_stays : (w : World) (c d : ℕ) → (column_of w.state d).block ≡ None → (column_of (closed w c).state d).block ≡ None
unfolding closed listing counting
closed_stays w c d e =
    by_cond (λ (v : World). (column_of v.state d).block ≡ None) (is_open w c)
    (λ o. column_cases w.state c (column_of w.state c).source None d (λ (x : Column). x.block ≡ None) (λ q. refl) e)
    (λ o. e)

-- the blocks of the first n columns are closed
record ShutTo (w : World) (n : ℕ) (v : World) : Type 0 where
  along : Along w v
  shut : (c : ℕ) → c < n → is_views w.state c ≡ true → (column_of v.state c).block ≡ None

abbrev close : World → ℕ → World
close v c = cond (is_views v.state c) (closed v c) v

close_one : (w v : World) (n : ℕ) → n < w.state.columns → ShutTo w n v → ShutTo w (suc n) (close v n)
close_one w v n h a = go (is_views v.state n) refl
  where
    views : (c : ℕ) → is_views v.state c ≡ is_views w.state c
    views c = same_views a.along.beside.set_up c

    go : (x : Bool) → is_views v.state n ≡ x → ShutTo w (suc n) (cond x (closed v n) v)
    go true y =
        record {
          along =
              along_trans a.along
              (record { goes = closed_goes v n a.along.goes.run (along_in a.along.beside n h) y; beside = closed_beside v n });
          shut = λ c l z. at c l z (dec_lt c n);
        }
      where
        at : (c : ℕ) → c < suc n → is_views w.state c ≡ true → Dec (c < n) → (column_of (closed v n).state c).block ≡ None
        at c l z (yes d) = closed_stays v n c (a.shut c d z)
        at c l z (no d) = let q : c ≡ n = omega arith in rw q (closed-shut v n y)
    go false y = record { along = a.along; shut = λ c l z. at c l z (dec_lt c n) }
      where
        at : (c : ℕ) → c < suc n → is_views w.state c ≡ true → Dec (c < n) → (column_of v.state c).block ≡ None
        at c l z (yes d) = a.shut c d z
        at c l z (no d) =
            let q : c ≡ n = omega arith in
            let m : is_views w.state n ≡ true = rw q at z in
            absurd (true≢false (sym m ∙ sym (views n) ∙ y))

close-to : (w : World) (n : ℕ) → Run w → n ≤ w.state.columns → ShutTo w n (each n close w)
unfolding each
close-to w zero r h = record { along = along_refl r; shut = λ c l z. absurd (omega arith) }
close-to w (suc n) r h = close_one w (each n close w) n h (close-to w n r (omega arith))

pub all_closed_along : (w : World) → Run w → Along w (all_closed w)
unfolding all_closed
all_closed_along w r = (close-to w w.state.columns r (omega arith)).along

pub all_closed_shut : (w : World) → Run w → Shut (all_closed w)
unfolding all_closed
all_closed_shut w r =
    let a : ShutTo w w.state.columns (each w.state.columns close w) = close-to w w.state.columns r (omega arith) in
    record {
      shut = λ c h y. a.shut c (omega (arith, a.along.beside.set_up.columns)) (sym (same_views a.along.beside.set_up c) ∙ y);
    }

-- ---- queueing: a word counts the rows

pub queueing_firm : {w : World} (rows : ℕ) → Firm w → w.state.queued < w.state.queue → rows < 2 ^ 32 → FirmGoes w (queueing w rows)
unfolding queueing counting column_of list_length
queueing_firm {w} rows r l f =
    firm_goes r (queueing-ends w rows l).kept (tally_go (tally w.state w.state.place 0) rows r.books f)
    (record {
      lists = λ slot c p q. list slot c q (λ (n : ℕ). n ≤ w.state.lists) (r.lists slot c p q);
      none = λ slot c p q y. list slot c q (λ (n : ℕ). n ≡ 0) (r.none slot c p q y);
      kept = r.kept;
      block = λ c k p y o. omega (arith, r.block c k p y o, (tally_go (tally w.state w.state.place 0) rows r.books f).used);
    })
  where
    list : (slot c : ℕ) → c < w.state.columns → (P : ℕ → Type 0) → P (list_length w slot c) → P (list_length (counting w w.state.place 0 rows) slot c)
    list slot c q P old = list_cases w.state.place 0 rows r r.fit.place (omega arith) f slot c q P (λ a b. absurd (omega arith)) old

pub shut_spare : {w : World} → Shut w → Spare w
shut_spare {w} s = record { room = λ c k h y o. absurd (not_number k (sym (s.shut c h y) ∙ o)) }
  where
    not_number : (k : BufferNumber) → None ≡ Some k → ⊥
    not_number k q = let z : ◌≡◌ {A = ℕ} 0 1 = cc in omega arith

pub queueing-shut : {w : World} (rows : ℕ) → Shut w → Shut (queueing w rows)
unfolding queueing counting column_of is_views
queueing-shut rows s = record { shut = λ c h y. s.shut c h y }

pub queueing_goes : {w : World} (rows : ℕ) → Run w → Shut w → w.state.queued < w.state.queue → rows < 2 ^ 32 → Goes w (queueing w rows)
queueing_goes rows r s l f = goes_both (queueing_firm rows (run_firm r) l f) (shut_spare (queueing-shut rows s))

-- ---- finishing

-- what was buffered is queued, and no block is open then
pub record FinishLeaves (w v : World) : Type 0 where
  pub goes : Goes w v
  pub shut : w.state.buffered.0 ≢ 0 → Shut v

pub finished-shut : (w : World) → Run w → w.state.buffered.0 < 2 ^ 32 → Holds (FinishLeaves w) (Among (9 ∷ [])) (finished w)
unfolding finished
finished-shut w r f =
    holds_cond (eqb w.state.buffered.0 0)
    (λ h. held (record { goes = goes_refl r; shut = λ n. absurd (n (eqb-true _ _ h)) }))
    (λ h. holds_cond (ltb w.state.queued w.state.queue) (λ l. held
    (record {
      goes = goes_trans a.goes (queueing_goes w.state.buffered.0 a.goes.run s (room (ltb-true _ _ l)) f);
      shut = λ n. queueing-shut w.state.buffered.0 s;
    }))
    (λ l. refused (one_of (9 ∷ []) 9 tt)))
  where
    a : Along w (all_closed w)
    a = all_closed_along w r

    s : Shut (all_closed w)
    s = all_closed_shut w r

    room : w.state.queued < w.state.queue → (all_closed w).state.queued < (all_closed w).state.queue
    room l = omega (arith, a.beside.queued, a.beside.set_up.queue)

pub finished_goes : (w : World) → Run w → w.state.buffered.0 < 2 ^ 32 → Holds (Goes w) (Among (9 ∷ [])) (finished w)
finished_goes w r f = holds_more (finished-shut w r f) (λ v e. e.goes) (λ n m. m)

-- rows up to the target fit a word
pub rows_small : {w : World} → Run w → w.state.buffered.0 ≤ w.state.target.0 → w.state.buffered.0 < 2 ^ 32
rows_small {w} r h = let t = bounds_say w.state r.fit.bounds in omega (arith, t.target, t.rows)

-- where it is full it is finished
pub full_goes : (w : World) → Run w → Holds (Goes w) (Among (9 ∷ [])) (if_full w)
unfolding if_full
full_goes w r =
    holds_cond (eqb w.state.buffered.0 w.state.target.0)
    (λ h. finished_goes w r (small (eqb-true _ _ h)))
    (λ h. held (goes_refl r))
  where
    small : w.state.buffered.0 ≡ w.state.target.0 → w.state.buffered.0 < 2 ^ 32
    small e = rows_small r (omega arith)
