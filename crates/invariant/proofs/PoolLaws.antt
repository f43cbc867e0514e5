-- What a step leaves of the pool and its buffers: none, one step behind another, and how it is shown; no open block is held.
use Rattle.std.specs.Prelude.{ℕ, ◌+◌, ◌≤◌, ◌<◌, ◌≡◌, refl, ◌≢◌, false, List, get_or}
use Rattle.std.proofs.Common.{sym, ◌∙◌, ap, arith}
use Rattle.std.proofs.Math.Decide.{dec_lt, ℕ_discrete}
use Rattle.books.specs.declared.Entry.{Entry}
use Rattle.books.specs.Entry.{entry_of, is_free}
use Rattle.words.specs.Frame.{Framed}
use Rattle.sound.specs.Change.{Changed, length_as}
use Rattle.sound.specs.Live.{length-free}
use Rattle.sound.proofs.Filled.{occupied_once}
use Rattle.sound.proofs.ListKept.{Relisted}
use Rattle.state.specs.declared.BatchCoalescer.{BatchCoalescer}
use Rattle.state.specs.World.{World}
use Rattle.invariant.specs.Holding.{HasOpen, Unheld, Holding, Owns, Lies, Unfilled, PoolStays}
use Rattle.invariant.proofs.AloneLaws.{open_below, open_live}

-- ---- an entry as it was, or with other listings

pub relisted_is : {e f : Entry} → f ≡ e → Relisted e f
relisted_is p = rw p (record { is = refl })

pub relisted_lies : (w v : World) (k : ℕ) → Relisted (entry_of w.books k) (entry_of v.books k) → v.pool ≡ w.pool → ((c : ℕ) → HasOpen v.state c k → HasOpen w.state c k) → Lies w v k
relisted_lies w v k r p o =
    let n : (entry_of v.books k).length.0 ≡ (entry_of w.books k).length.0 = ap (λ (e : Entry). e.length.0) r.is in
    record {
      start = ap (λ (e : Entry). e.start) r.is;
      capacity = ap (λ (e : Entry). e.capacity.0) r.is;
      hold = ap (λ (e : Entry). e.hold) r.is;
      longer = omega arith;
      filled = λ z. n;
      was_open = o;
      bytes = λ x h. ap (λ (l : List ℕ). get_or l x 0) p;
    }

-- a step that leaves the pool, and of every live number all but its listings
pub books_stay : (w v : World) → v.state.numbers ≡ w.state.numbers → v.pool ≡ w.pool → ((k : ℕ) → k < w.state.numbers → is_free (entry_of w.books k) ≡ false → is_free (entry_of v.books k) ≡ false) → ((k : ℕ) → k < w.state.numbers → is_free (entry_of w.books k) ≡ false → Relisted (entry_of w.books k) (entry_of v.books k)) → ((c k : ℕ) → is_free (entry_of w.books k) ≡ false → HasOpen v.state c k → HasOpen w.state c k) → PoolStays w v
books_stay w v e p live same o =
    record {
      numbers = e;
      live = live;
      lies = λ k l h. relisted_lies w v k (same k l h) p (λ c. o c k h);
      only = λ x h. ap (λ (l : List ℕ). get_or l x 0) p;
    }

pub pool_refl : (w : World) → PoolStays w w
pool_refl w = books_stay w w refl refl (λ k l h. h) (λ k l h. relisted_is refl) (λ c k h o. o)

-- ---- one step behind another

pub lies_trans : {w v u : World} {k : ℕ} → Lies w v k → Lies v u k → Lies w u k
lies_trans {w} {v} {u} {k} a b =
    record {
      start = b.start ∙ a.start;
      capacity = b.capacity ∙ a.capacity;
      hold = b.hold ∙ a.hold;
      longer = omega (arith, a.longer, b.longer);
      filled = λ z. b.filled (λ c o. z c (a.was_open c o)) ∙ a.filled z;
      was_open = λ c o. a.was_open c (b.was_open c o);
      bytes = λ x h. b.bytes x (owns x h) ∙ a.bytes x h;
    }
  where
    owns : (x : ℕ) → Owns w k x → Owns v k x
    owns x h =
        record {
          from = omega (arith, a.start, h.from);
          below = omega (arith, a.start, a.capacity, h.below);
          filled = λ c o. omega (arith, a.start, a.longer, h.filled c (a.was_open c o));
        }

pub pool_trans : {w v u : World} → PoolStays w v → PoolStays v u → PoolStays w u
pool_trans {w} {v} {u} a b =
    record {
      numbers = b.numbers ∙ a.numbers;
      live = λ k l h. b.live k (omega (arith, a.numbers)) (a.live k l h);
      lies = λ k l h. lies_trans (a.lies k l h) (b.lies k (omega (arith, a.numbers)) (a.live k l h));
      only = λ x h. b.only x h ∙ a.only x (before x h);
    }
  where
    -- what no buffer fills then none filled before
    before : (x : ℕ) → Unfilled u x → Unfilled v x
    before x h =
        record {
          unfilled = λ k l z s t.
              let y : Lies v u k = b.lies k l z in
              h.unfilled k (omega (arith, b.numbers)) (b.live k l z) (omega (arith, y.start)) (omega (arith, y.start, y.longer));
        }

-- ---- bytes written behind what an open block had filled, and it is filled up to n

module _ {w : World} {ext : ℕ → ℕ} (a : Holding w ext) (c k n : ℕ) (o : HasOpen w.state c k) (pool books : List ℕ) (change : Changed w.books books w.state.numbers k (length_as (entry_of w.books k) n)) (more : (entry_of w.books k).length.0 ≤ n) (most : n ≤ (entry_of w.books k).capacity.0) (f : Framed ((entry_of w.books k).start + (entry_of w.books k).length.0) ((entry_of w.books k).start + n) w.pool pool) where
  abbrev grown : World
  grown = record { state = w.state; slots = w.slots; pool = pool; books = books }

  here : Lies w grown k
  here =
      let m : (entry_of books k).length.0 ≡ n = ap (λ (e : Entry). e.length.0) change.same in
      record {
        start = ap (λ (e : Entry). e.start) change.same;
        capacity = ap (λ (e : Entry). e.capacity.0) change.same;
        hold = ap (λ (e : Entry). e.hold) change.same;
        longer = omega arith;
        filled = λ z. absurd (z c o);
        was_open = λ d p. p;
        bytes = λ x h. f.before x (h.filled c o);
      }

  elsewhere : (j : ℕ) → j < w.state.numbers → j ≢ k → Lies w grown j
  elsewhere j l d =
      let e : entry_of books j ≡ entry_of w.books j = change.other j d in
      let m : (entry_of books j).length.0 ≡ (entry_of w.books j).length.0 = ap (λ (x : Entry). x.length.0) e in
      record {
        start = ap (λ (x : Entry). x.start) e;
        capacity = ap (λ (x : Entry). x.capacity.0) e;
        hold = ap (λ (x : Entry). x.hold) e;
        longer = omega arith;
        filled = λ z. m;
        was_open = λ c p. p;
        bytes = λ x h. byte x h (dec_lt x ((entry_of w.books k).start + (entry_of w.books k).length.0)) (dec_lt x ((entry_of w.books k).start + n));
      }
    where
      byte : (x : ℕ) → Owns w j x → Dec (x < (entry_of w.books k).start + (entry_of w.books k).length.0) → Dec (x < (entry_of w.books k).start + n) → get_or pool x 0 ≡ get_or w.pool x 0
      byte x h (yes s) t = f.before x s
      byte x h (no s) (yes t) = absurd (d (occupied_once a.sound j k x l (open_below a c k o) h.from h.below (omega arith) (omega arith)))
      byte x h (no s) (no t) = f.after x (omega arith)

  pub grown_stays : PoolStays w grown
  grown_stays =
      record {
        numbers = refl;
        live = λ j l h. live j h (ℕ_discrete j k);
        lies = λ j l h. lies j l (ℕ_discrete j k);
        only = λ x h. only x h (dec_lt x ((entry_of w.books k).start + (entry_of w.books k).length.0)) (dec_lt x ((entry_of w.books k).start + n));
      }
    where
      still : is_free (entry_of books k) ≡ false
      still = ap is_free change.same ∙ length-free (entry_of w.books k) n ∙ open_live a c k o

      live : (j : ℕ) → is_free (entry_of w.books j) ≡ false → Dec (j ≡ k) → is_free (entry_of books j) ≡ false
      live j h (yes e) = rw e still
      live j h (no d) = ap is_free (change.other j d) ∙ h

      lies : (j : ℕ) → j < w.state.numbers → Dec (j ≡ k) → Lies w grown j
      lies j l (yes e) = rw e here
      lies j l (no d) = elsewhere j l d

      only : (x : ℕ) → Unfilled grown x → Dec (x < (entry_of w.books k).start + (entry_of w.books k).length.0) → Dec (x < (entry_of w.books k).start + n) → get_or pool x 0 ≡ get_or w.pool x 0
      only x h (yes s) t = f.before x s
      only x h (no s) (yes t) =
          let m : (entry_of books k).length.0 ≡ n = ap (λ (e : Entry). e.length.0) change.same in
          let q : (entry_of books k).start ≡ (entry_of w.books k).start = ap (λ (e : Entry). e.start) change.same in
          absurd (h.unfilled k (open_below a c k o) still (omega arith) (omega arith))
      only x h (no s) (no t) = f.after x (omega arith)

-- ---- no open block is held

pub unheld_on : {w : World} {ext : ℕ → ℕ} → Holding w ext → (s : BatchCoalescer) (books : List ℕ) → ((c k : ℕ) → HasOpen s c k → HasOpen w.state c k) → ((k : ℕ) → k < w.state.numbers → is_free (entry_of w.books k) ≡ false → (entry_of w.books k).hold ≡ 0 → (entry_of books k).hold ≡ 0) → Unheld s books
unheld_on a s books was hold =
    record {
      unheld = λ c k o. let p = was c k o in hold k (open_below a c k p) (open_live a c k p) (a.unheld.unheld c k p);
    }

-- so of every entry that keeps its hold
pub relisted_hold : {e f : Entry} → Relisted e f → e.hold ≡ 0 → f.hold ≡ 0
relisted_hold r z = ap (λ (x : Entry). x.hold) r.is ∙ z
