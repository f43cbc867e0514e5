-- A push and its trial stay alike: another column of the state, the part of a column, a block opened in both.
use Rattle.std.specs.Prelude.{ℕ, zero, suc, ◌+◌, ◌≤◌, ◌<◌, ◌≡◌, refl, ◌≢◌, true, false, List, [], ◌∷◌, length, get_or, set}
use Rattle.std.proofs.Common.{sym, ◌∙◌, ap, true≢false, arith}
use Rattle.search.specs.Cases.{by_cond}
use Rattle.blocks.specs.declared.BufferSource.{BufferSource}
use Rattle.state.specs.declared.BatchCoalescer.{BatchCoalescer}
use Rattle.state.specs.declared.Column.{Column}
use Rattle.state.specs.World.{World, world, no_column, column_of}
use Rattle.state.specs.Layout.{is_views, list_length}
use Rattle.tallies.specs.Tally.{tally_of}
use Rattle.rules.specs.Batch.{Batch}
use Rattle.rules.specs.Steps.{with_column, listing, counting}
use Rattle.rules.specs.Views.{has_block, is_open, closed}
use Rattle.rules.specs.Stays.{SameSetUp, same_trans, same-column}
use Rattle.rules.specs.SameLaws.{same_views, same-tally}
use Rattle.push_safety.specs.Run.{Goes}
use Rattle.push_safety.specs.StepGoes.{column_cases}
use Rattle.trial_truth.specs.AlikeLaws.{alike_trans}
use Rattle.trial_truth.specs.Like.{ColumnOpens, Untouched, Like, ColumnMoves}
use Rattle.std.specs.Prelude.{Option, Some, None}
use Rattle.counts.specs.declared.BufferNumber.{BufferNumber}

-- ---- states

pub same_sym : {s t : BatchCoalescer} → SameSetUp s t → SameSetUp t s
same_sym e =
    record {
      target = sym e.target;
      rows = sym e.rows;
      queue = sym e.queue;
      columns = sym e.columns;
      lists = sym e.lists;
      numbers = sym e.numbers;
      pool = sym e.pool;
      limit = sym e.limit;
      kind = λ c. sym (e.kind c);
    }

set_same : (l : List Column) (c : ℕ) → set l c (get_or l c no_column) ≡ l
set_same [] c = refl
set_same (x ∷ l) zero = refl
set_same (x ∷ l) (suc c) = ap (λ (t : List Column). x ∷ t) (set_same l c)

set_twice : (l : List Column) (c : ℕ) (x y : Column) → set (set l c x) c y ≡ set l c y
set_twice [] c x y = refl
set_twice (z ∷ l) zero x y = refl
set_twice (z ∷ l) (suc c) x y = ap (λ (t : List Column). z ∷ t) (set_twice l c x y)

-- a column as it is; one put twice; and another one
pub column-same : (s : BatchCoalescer) (c : ℕ) → (column_of s c).block ≡ None → with_column s c (column_of s c).source None ≡ s
unfolding column_of
column-same s c e =
    let q : set s.column c (record { kind = (get_or s.column c no_column).kind; source = (get_or s.column c no_column).source; block = None }) ≡ s.column = ap (λ (o : Option BufferNumber). set s.column c (record { kind = (get_or s.column c no_column).kind; source = (get_or s.column c no_column).source; block = o })) (sym e) ∙ set_same s.column c in
    rw q

pub column-twice : (s : BatchCoalescer) (c : ℕ) (a e : BufferSource) (x y : Option BufferNumber) → with_column (with_column s c a x) c e y ≡ with_column s c e y
column-twice s c a e x y =
    let k : (column_of (with_column s c a x) c).kind ≡ (column_of s c).kind = (same-column s c a x).kind c in
    rw (k, set_twice s.column c (record { kind = (column_of s c).kind; source = a; block = x }) (record { kind = (column_of s c).kind; source = e; block = y }))

pub column_other : (s : BatchCoalescer) (c : ℕ) (source : BufferSource) (block : Option BufferNumber) (d : ℕ) → d ≢ c → column_of (with_column s c source block) d ≡ column_of s d
column_other s c source block d n = column_cases s c source block d (λ (x : Column). x ≡ column_of s d) (λ q. absurd (n q)) refl

none_open : (o : Option BufferNumber) → has_block o ≡ false → o ≡ None
none_open (Some k) e = absurd (true≢false e)
none_open None e = refl

-- the state with its block closed, whether it was open or not
pub closed_state : (v : World) (c : ℕ) → (closed v c).state ≡ with_column v.state c (column_of v.state c).source None
unfolding closed listing counting
closed_state v c =
    by_cond (λ (u : World). u.state ≡ with_column v.state c (column_of v.state c).source None) (is_open v c)
    (λ o. refl)
    (λ o. sym (column-same v.state c (none_open (column_of v.state c).block o)))

-- ---- the trial has another state, with the same columns from m on; more columns have had their part

opens-same : {s t : BatchCoalescer} {c k : ℕ} → SameSetUp s t → column_of t c ≡ column_of s c → ColumnOpens t c k → ColumnOpens s c k
opens-same {s} {t} {c} e q o =
    record {
      column = omega (arith, e.columns, o.column);
      views = sym (same_views e c) ∙ o.views;
      block = ap (λ (x : Column). x.block) (sym q) ∙ o.block;
    }

pub lists_of : {s t : BatchCoalescer} (books : List ℕ) → SameSetUp s t → (slot c : ℕ) → list_length (world t [] [] books) slot c ≡ list_length (world s [] [] books) slot c
unfolding list_length
lists_of books e slot c = ap (tally_of books) (same-tally e slot (c + 1))

pub like_state : {s t : BatchCoalescer} {books : List ℕ} {b : Batch} {m : ℕ} {v : World} → Like s books b m v → SameSetUp s t → t.place ≡ s.place → t.queued ≡ s.queued → ((d : ℕ) → m ≤ d → column_of t d ≡ column_of s d) → Like t books b m v
like_state {s} {t} {books} {b} {m} {v} a e p q same =
    record {
      run = a.run;
      reads = a.reads;
      set_up = same_trans (same_sym e) a.set_up;
      place = a.place ∙ sym p;
      queued = a.queued ∙ sym q;
      alike = rw e.numbers a.alike;
      lists = λ slot c h u.
          a.lists slot c (omega (arith, e.columns))
          (record {
            later = λ l. omega (arith, u.later (omega (arith, p)), p, q, e.queue);
            around = λ l. omega (arith, u.around (omega (arith, p)), p, q);
            here = λ l. u.here (l ∙ sym p);
          })
          ∙ sym (lists_of books e slot c);
      live = λ c k l o. a.live c k l (opens-same e (same c l) o);
      filled = λ c k l o. a.filled c k l (opens-same e (same c l) o);
      apart = λ c d k l g o x. a.apart c d k l g (opens-same e (same c l) o) (opens-same e (same d (omega arith)) x);
    }

pub like_more : {s : BatchCoalescer} {books : List ℕ} {b : Batch} {m : ℕ} (n : ℕ) {v : World} → m ≤ n → Like s books b m v → Like s books b n v
like_more n l a =
    record {
      run = a.run;
      reads = a.reads;
      set_up = a.set_up;
      place = a.place;
      queued = a.queued;
      alike = a.alike;
      lists = λ slot c h u. a.lists slot c h (record { later = u.later; around = u.around; here = λ e. omega (arith, u.here e) });
      live = λ c k g o. a.live c k (omega arith) o;
      filled = λ c k g o. a.filled c k (omega arith) o;
      apart = λ c d k g i o x. a.apart c d k (omega arith) i o x;
    }

-- ---- the part of a column

pub like_moves : {s : BatchCoalescer} {books : List ℕ} {b : Batch} {c : ℕ} {v v' : World} → Like s books b c v → ColumnMoves c v v' → c < s.columns → is_views s c ≡ true → column_of v.state c ≡ column_of s c → Like s books b (c + 1) v'
like_moves {s} {books} {b} {c} {v} {v'} a m h y q =
    record {
      run = m.along.goes.run;
      reads = m.along.goes.reads b a.reads;
      set_up = same_trans a.set_up m.along.beside.set_up;
      place = m.along.beside.place ∙ a.place;
      queued = m.along.beside.queued ∙ a.queued;
      alike = alike_trans a.set_up.numbers a.alike m.alike;
      lists = λ slot d g u.
          m.lists slot d (omega (arith, a.set_up.columns)) (λ e z. omega (arith, u.here (e ∙ a.place)))
          ∙ a.lists slot d g (record { later = u.later; around = u.around; here = λ e. omega (arith, u.here e) });
      live = λ d k l o. a.live d k (omega arith) o;
      filled = λ d k l o.
          m.length k (omega (arith, (a.live d k (omega arith) o).0, a.alike.used))
          (λ z. a.apart c d k (omega arith) (omega arith) (record { column = h; views = y; block = ap (λ (x : Column). x.block) (sym q) ∙ z }) o)
          ∙ a.filled d k (omega arith) o;
      apart = λ d e k l g o x. a.apart d e k (omega arith) g o x;
    }

-- only slots change
pub like_slots : {s : BatchCoalescer} {books : List ℕ} {b : Batch} {m : ℕ} {v v' : World} → Like s books b m v → Goes v v' → v'.state ≡ v.state → v'.books ≡ v.books → Like s books b m v'
unfolding list_length
like_slots {b = b} {v = v} {v' = v'} a g e q =
    record {
      run = g.run;
      reads = g.reads b a.reads;
      set_up = rw e a.set_up;
      place = rw e a.place;
      queued = rw e a.queued;
      alike = rw q a.alike;
      lists = λ slot c h u. rw (e, q) (a.lists slot c h u);
      live = a.live;
      filled = λ c k l o. rw q (a.filled c k l o);
      apart = a.apart;
    }

-- the list of the next column of the slot being filled is not touched yet
pub here_untouched : {s : BatchCoalescer} {books : List ℕ} {b : Batch} {c : ℕ} {v : World} → Like s books b c v → Untouched s c s.place c
here_untouched a =
    record {
      later = λ l. omega (arith, a.run.fit.queued, a.queued, a.set_up.queue);
      around = λ l. absurd (omega arith);
      here = λ e. omega arith;
    }
