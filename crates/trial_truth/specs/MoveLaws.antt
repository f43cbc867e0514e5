-- The part of one column: what it makes of a world, step by step.
use Rattle.std.specs.Prelude.{ℕ, ◌+◌, ◌*◌, ◌-◌, ◌≤◌, ◌<◌, ◌≡◌, ◌≢◌, Bool, true, false, length}
use Rattle.std.proofs.Math.Path.{refl}
use Rattle.std.proofs.Common.{sym, ◌∙◌, ap, arith}
use borrow.Author.Tests.{le-leb}
use Rattle.search.specs.Cases.{by_cond}
use Rattle.search.specs.Every.{every_is}
use Rattle.words.specs.Run.{lay}
use Rattle.words.specs.Frame.{Framed}
use Rattle.words.specs.RunLaws.{length-lay}
use Rattle.views.specs.View.{is_inline, repointed}
use Rattle.books.specs.Entry.{used_of, entry_of, is_free}
use Rattle.listings.specs.Listing.{listed_one, over_list}
use Rattle.sound.specs.Change.{with_length}
use Rattle.tallies.specs.TallyLaws.{entry-with_tally}
use Rattle.counts.specs.declared.BufferNumber.{BufferNumber}
use Rattle.state.specs.World.{World, column_of}
use Rattle.state.specs.Layout.{is_views, tally, list_place, cell_place, list_length}
use Rattle.rules.specs.Batch.{Batch, record_of, list_of, row_view}
use Rattle.rules.specs.Copies.{views_put, long_to, bytes_carried, starts_fit}
use Rattle.rules.specs.Steps.{ok, counting, listing}
use Rattle.rules.specs.Views.{span, filling, is_open, open_number, open_filled, open_rest, closed, views_from, source_place, long_before, views_compacted, list_attached, views_raised}
use Rattle.rules.specs.Held.{holds_ok}
use Rattle.rules.specs.Stays.{same_refl}
use Rattle.rules.proofs.PartLaws.{closed_beside, attached_beside, raised_beside, views_holds}
use Rattle.push_safety.specs.Run.{Run, ColumnReads, Readable}
use Rattle.push_safety.specs.TestedLaws.{bounds_say}
use Rattle.push_safety.specs.BooksGo.{BooksGo, length_at, over_go}
use Rattle.push_safety.specs.Firm.{Firm, run_firm, same_list_length, within_firm}
use Rattle.push_safety.specs.StepGoes.{list_cases, raised_goes}
use Rattle.push_safety.specs.BlockGoes.{open_block, open_used, open_capacity, open_inside, open_room, closed_goes, closed-shut}
use Rattle.push_safety.specs.OpenGoes.{compacted_goes}
use Rattle.push_safety.specs.AttachGoes.{listed_word, listed_used, attached_goes}
use Rattle.push_safety.specs.CallerLaws.{pool_small}
use Rattle.push_safety.specs.Along.{Along, along_trans, along_in}
use Rattle.trial_truth.specs.Alike.{Alike}
use Rattle.trial_truth.specs.AlikeLaws.{MoreListed, alike_refl, alike_trans, tally_alike, length_alike, length_other, over_listed}
use Rattle.trial_truth.specs.Like.{ColumnMoves, LeavesLists}
use Rattle.std.specs.Prelude.{Some, None}

-- ---- none, one after another, and slots only

pub moves_slots : (c : ℕ) {v v' : World} → Along v v' → v'.state ≡ v.state → v'.books ≡ v.books → ColumnMoves c v v'
unfolding list_length
moves_slots c {v} {v'} a e q =
    record {
      along = a;
      alike = rw q (alike_refl v.books v.state.numbers);
      lists = λ slot d h n. rw (e, q);
      length = λ k u n. rw q;
      block = λ k o. rw e at o;
    }

pub moves_trans : {c : ℕ} {v u w : World} → ColumnMoves c v u → ColumnMoves c u w → ColumnMoves c v w
moves_trans {c} {v} {u} {w} a b =
    record {
      along = along_trans a.along b.along;
      alike = alike_trans a.along.beside.set_up.numbers a.alike b.alike;
      lists = λ slot d h n.
          b.lists slot d (omega (arith, a.along.beside.set_up.columns)) (λ e. n (e ∙ a.along.beside.place)) ∙ a.lists slot d h n;
      length = λ k g n. b.length k (omega (arith, a.alike.used)) (λ o. n (a.block k o)) ∙ a.length k g n;
      block = λ k o. a.block k (b.block k o);
    }

-- ---- views into the open block

long_mono : (w : World) (b : Batch) (c from i n : ℕ) → i ≤ n → long_before w b c from i ≤ long_before w b c from n
long_mono w b c from i n h =
    let e : i + (n - i) ≡ n = omega arith in
    omega (arith, rw e at (Rattle.push_safety.specs.SumLaws.before_more w b c from i (n - i)))

module _ (v : World) (b : Batch) (c at from n : ℕ) (r : Run v) (h : c < v.state.columns) (y : is_views v.state c ≡ true) (o : is_open v c ≡ true) (live : is_free (entry_of v.books (open_number v c)) ≡ false) (l : long_before v b c from n ≤ open_rest v c) where
  before : (i : ℕ) → long_to (views_from v b c from) i ≡ long_before v b c from i
  unfolding long_before
  before i = refl

  -- 8 does not come up: the block lies in the pool, whose bytes a word can count
  starts : starts_fit (views_from v b c from) (open_filled v c) n ≡ true
  unfolding starts_fit
  starts = every_is _ n (λ i g. by_cond (λ (z : Bool). z ≡ true) (is_inline (views_from v b c from i)) (λ e. refl) (λ e. le-leb _ 4294967295 (small i g)))
    where
      small : (i : ℕ) → i < n → open_filled v c + long_to (views_from v b c from) i ≤ 4294967295
      small i g =
          omega (arith, before i, long_mono v b c from i n (omega arith), open_inside c r h y o, r.fit.pool_is, pool_small r)

  abbrev k : ℕ
  k = open_number v c

  abbrev x : ℕ
  x = open_filled v c + long_before v b c from n

  fits : x ≤ (entry_of v.books k).capacity.0
  fits = omega (arith, open_capacity c r h y o)

  -- the one world that is left, whatever its slots and pool
  filled : (v' : World) → v'.state ≡ v.state → v'.books ≡ with_length v.books k x → views_compacted v b (span c at from n) ≡ ok v' → LeavesLists c v (views_compacted v b (span c at from n))
  filled v' s q e =
      record {
        world = v';
        is = e;
        state = s;
        lists = lists_at;
        moves =
            record {
              along =
                  record {
                    goes = holds_ok v' (compacted_goes v b c at from n r h y o l) e;
                    beside = holds_ok v' (views_holds v b c at from n) e;
                  };
              alike = rw q (length_alike k x (run_firm r).books (open_used c r h y o) live fits);
              lists = λ slot d g m. lists_at slot d;
              length = λ j g m. at_other j m;
              block = λ j m. rw s at m;
            };
      }
    where
      lists_at : (slot d : ℕ) → list_length v' slot d ≡ list_length v slot d
      lists_at slot d =
          same_list_length v v' (rw s (same_refl v.state)) (rw q (length_at k x (run_firm r).books (open_used c r h y o) fits).framed) slot d

      at_other : (j : ℕ) → ((column_of v.state c).block ≡ Some (record { 0 = j }) → ⊥) → (entry_of v'.books j).length.0 ≡ (entry_of v.books j).length.0
      at_other j m =
          rw (q, length_other k x (run_firm r).books (open_used c r h y o) fits j (λ z. m (rw z (open_block v c o))))

  abbrev left : World
  left =
      record {
        state = v.state;
        slots =
            views_put
            (λ i. repointed (list_length v (filling v) c) (open_filled v c + long_before v b c from i) (row_view v b c (from + i)))
            v.slots
            (cell_place v.state (filling v) c at)
            n;
        pool = bytes_carried (views_from v b c from) (source_place v b c) v.pool ((entry_of v.books k).start + open_filled v c) n;
        books = with_length v.books k x;
      }

  compacts : views_compacted v b (span c at from n) ≡ ok left
  unfolding views_compacted
  compacts = rw starts

  pub views_make : LeavesLists c v (views_compacted v b (span c at from n))
  views_make = filled left refl refl compacts

-- ---- the block closed

module _ (v : World) (c : ℕ) (r : Run v) (h : c < v.state.columns) (y : is_views v.state c ≡ true) where
  closed_lists : (slot d : ℕ) → d < v.state.columns → (slot ≡ v.state.place → d ≢ c) → list_length (closed v c) slot d ≡ list_length v slot d
  unfolding closed listing counting list_length
  closed_lists slot d g n =
      by_cond (λ (u : World). list_length u slot d ≡ list_length v slot d) (is_open v c)
      (λ o. list_cases {w = v} (filling v) (c + 1) (list_length v (filling v) c + 1) (run_firm r) r.fit.place (omega arith)
      (omega (arith, open_room c r h y o, (bounds_say v.state r.fit.bounds).lists))
      slot d g (λ (m : ℕ). m ≡ list_length v slot d)
      (λ e q. absurd (n e (omega arith))) refl)
      (λ o. refl)

  closed_alike : Alike v.books (closed v c).books v.state.numbers
  unfolding closed listing counting
  closed_alike =
      by_cond (λ (u : World). Alike v.books u.books v.state.numbers) (is_open v c)
      (λ o. tally_alike (tally v.state (filling v) (c + 1)) (list_length v (filling v) c + 1) r.used)
      (λ o. alike_refl v.books v.state.numbers)

  closed-entry : (k : ℕ) → k < v.state.numbers → entry_of (closed v c).books k ≡ entry_of v.books k
  unfolding closed listing counting
  closed-entry k g =
      by_cond (λ (u : World). entry_of u.books k ≡ entry_of v.books k) (is_open v c)
      (λ o. entry-with_tally v.books (tally v.state (filling v) (c + 1)) (list_length v (filling v) c + 1) k g)
      (λ o. refl)

  not_number : (k : BufferNumber) → None ≡ Some k → ⊥
  not_number k q = let z : ◌≡◌ {A = ℕ} 0 1 = cc in omega arith

  pub closed_moves : ColumnMoves c v (closed v c)
  closed_moves =
      record {
        along = record { goes = closed_goes v c r h y; beside = closed_beside v c };
        alike = closed_alike;
        lists = closed_lists;
        length = λ k g n. rw (closed-entry k (omega (arith, r.used)));
        block = λ k o. absurd (not_number (record { 0 = k }) (sym (closed-shut v c y) ∙ o));
      }

-- ---- the list attached

module _ (v : World) (b : Batch) (c : ℕ) (r : Run v) (h : c < v.state.columns) (x : ColumnReads v b c) (l : list_length v (filling v) c + (record_of b c).count ≤ v.state.lists) where
  abbrev written : World
  written =
      record {
        state = v.state;
        slots = lay (list_place v.state (filling v) c + 4 * list_length v (filling v) c) (list_of b c) v.slots;
        pool = v.pool;
        books = over_list listed_one v.books (list_of b c) (record_of b c).count;
      }

  abbrev joint : ℕ
  joint = list_length v (filling v) c + (record_of b c).count

  books : BooksGo v.books written.books v.state.numbers v.state.pool.0 × Framed 0 (4 + 20 * v.state.numbers) v.books written.books
  books = over_go (list_of b c) (record_of b c).count (run_firm r).books (listed_used b c x)

  firm : Firm written
  firm = (within_firm v written refl (length-lay _ _ v.slots) refl books.0 books.1 (run_firm r)).firm

  list_lists : (slot d : ℕ) → d < v.state.columns → (slot ≡ v.state.place → d ≢ c) → list_length (list_attached v b c) slot d ≡ list_length v slot d
  unfolding list_attached
  list_lists slot d g n =
      list_cases {w = written} (filling v) (c + 1) joint firm r.fit.place (omega arith)
      (omega (arith, (bounds_say v.state r.fit.bounds).lists))
      slot d g (λ (m : ℕ). m ≡ list_length v slot d)
      (λ e q. absurd (n e (omega arith)))
      (same_list_length v written (same_refl v.state) books.1 slot d)

  more : MoreListed v.books written.books v.state.numbers
  more = over_listed (list_of b c) (record_of b c).count (run_firm r).books (λ k g. rw (listed_word b c k g) (x.held k g))

  few : used_of written.books ≤ v.state.numbers
  few = books.0.run.used

  list_alike : Alike v.books (list_attached v b c).books v.state.numbers
  unfolding list_attached counting
  list_alike = alike_trans refl more.alike (tally_alike (tally v.state (filling v) (c + 1)) joint few)

  list-entry : (k : ℕ) → k < v.state.numbers → (entry_of (list_attached v b c).books k).length.0 ≡ (entry_of v.books k).length.0
  unfolding list_attached counting
  list-entry k g =
      rw (entry-with_tally written.books (tally v.state (filling v) (c + 1)) joint k g) (more.length k)

  pub attached_state : (list_attached v b c).state ≡ v.state
  unfolding list_attached counting
  attached_state = refl

  pub attached_moves : (column_of v.state c).block ≡ None → ColumnMoves c v (list_attached v b c)
  attached_moves o =
      record {
        along = record { goes = attached_goes v b c h x l r o; beside = attached_beside v b c };
        alike = list_alike;
        lists = list_lists;
        length = λ k g n. list-entry k (omega (arith, r.used));
        block = λ k q. rw attached_state at q;
      }

-- ---- the two, and the views behind them

module _ (v : World) (b : Batch) (c at from n : ℕ) (r : Run v) (x : Readable v b) (h : c < v.state.columns) (y : is_views v.state c ≡ true) (l : list_length (closed v c) (filling v) c + (record_of b c).count ≤ v.state.lists) where
  abbrev shut : World
  shut = closed v c

  m : ColumnMoves c v shut
  m = closed_moves v c r h y

  abbrev run' : Run shut
  run' = m.along.goes.run

  h' : c < shut.state.columns
  h' = along_in m.along.beside c h

  l' : list_length shut (filling shut) c + (record_of b c).count ≤ shut.state.lists
  l' =
      omega (arith, m.along.beside.set_up.lists, ap (λ (slot : ℕ). list_length shut slot c) m.along.beside.place)

  x' : ColumnReads shut b c
  x' = (m.along.goes.reads b x).columns c h'

  abbrev listed : World
  listed = list_attached shut b c

  p : ColumnMoves c shut listed
  p = attached_moves shut b c run' h' x' l' (closed-shut v c y)

  abbrev raised : World
  raised = views_raised listed b (list_length shut (filling v) c) (span c at from n)

  raised_state : raised.state ≡ listed.state
  unfolding views_raised
  raised_state = refl

  raised_books : raised.books ≡ listed.books
  unfolding views_raised
  raised_books = refl

  pub attach_moves : ColumnMoves c v raised
  attach_moves =
      moves_trans m
      (moves_trans p
      (moves_slots c
      (record {
        goes = raised_goes b c (list_length shut (filling v) c) at from n p.along.goes.run;
        beside = raised_beside listed b c (list_length shut (filling v) c) at from n;
      })
      raised_state
      raised_books))

  pub attach_state : raised.state ≡ shut.state
  attach_state = raised_state ∙ attached_state shut b c run' h' x' l'
