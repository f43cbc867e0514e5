-- The number in use, as one more than the highest number that is not free.
use Rattle.std.specs.Prelude.{ℕ, zero, suc, ◌+◌, ◌-◌, ◌≤◌, ◌<◌, ◌≡◌, refl, ◌≢◌, true, false, List, ltb}
use Rattle.std.proofs.Common.{sym, ◌∙◌, ap, true≢false, arith, ltb-true, ltb-false}
use Rattle.std.proofs.Math.Decide.{dec_lt, ℕ_discrete}
use Rattle.search.specs.Cases.{by_cond}
use Rattle.books.specs.declared.Entry.{Entry}
use Rattle.books.specs.Entry.{used_of, entry_of, with_entry, is_free}
use Rattle.books.specs.EntryLaws.{free_is}
use Rattle.listings.specs.Listing.{no_entry, settled, freed, taken, free_unused}
use Rattle.sound.specs.Change.{Roomy, Changed}
use Rattle.sound.specs.OpLaws.{changed_roomy, entry-changed, no_fits, used_taken, used_freed, freed-entry}

-- u is one more than the highest of the n numbers that is not free, and 0 where all are free
pub record Top (s : List ℕ) (n u : ℕ) : Type 0 where
  pub within : u ≤ n
  pub last : 0 < u → is_free (entry_of s (u - 1)) ≡ false
  pub rest : (i : ℕ) → i < n → u ≤ i → is_free (entry_of s i) ≡ true

-- a zero entry is free
pub no_free : is_free no_entry ≡ true
no_free = free_is no_entry refl refl

-- a number that is not free is in use
pub live_used : {s : List ℕ} {n u : ℕ} (i : ℕ) → Top s n u → i < n → is_free (entry_of s i) ≡ false → i < u
live_used {s} {n} {u} i t h f = go (dec_lt i u)
  where
    go : Dec (i < u) → i < u
    go (yes l) = l
    go (no l) = absurd (true≢false (sym (t.rest i h (omega arith)) ∙ f))

-- only what is free counts
pub top-same : {s t : List ℕ} {n u : ℕ} → ((k : ℕ) → k < n → is_free (entry_of t k) ≡ is_free (entry_of s k)) → Top s n u → Top t n u
top-same {u = u} q a =
    record {
      within = a.within;
      last = λ h. q (u - 1) (omega (arith, a.within)) ∙ a.last h;
      rest = λ i h l. q i h ∙ a.rest i h l;
    }

-- what is settled is the highest
pub settled-top : (s : List ℕ) (n u : ℕ) → u ≤ n → ((i : ℕ) → i < n → u ≤ i → is_free (entry_of s i) ≡ true) → Top s n (settled s u)
unfolding settled
settled-top s n zero a f = record { within = omega arith; last = λ h. absurd (omega arith); rest = f }
settled-top s n (suc m) a f =
    by_cond (λ (k : ℕ). Top s n k) (is_free (entry_of s m))
    (λ q. settled-top s n m (omega arith) (λ i h l. lower q i h l (ℕ_discrete i m)))
    (λ q. record { within = a; last = λ h. let e : suc m - 1 ≡ m = omega arith in rw e q; rest = f })
  where
    lower : is_free (entry_of s m) ≡ true → (i : ℕ) → i < n → m ≤ i → Dec (i ≡ m) → is_free (entry_of s i) ≡ true
    lower q i h l (yes e) = rw e q
    lower q i h l (no e) = f i h (omega arith)

-- a number taken
pub taken-top : {s : List ℕ} {n : ℕ} (i : ℕ) (e : Entry) → Roomy s n → i < n → Changed s (taken s i e) n i e → is_free e ≡ false → Top s n (used_of s) → Top (taken s i e) n (used_of (taken s i e))
taken-top {s} {n} i e r h c f a =
    rw (used_taken i e r h)
    (by_cond (λ (k : ℕ). Top (taken s i e) n k) (ltb i (used_of s))
    (λ q.
    let l : i < used_of s = ltb-true i (used_of s) q in
    record {
      within = a.within;
      last = λ z. last_of (a.last z) (ℕ_discrete (used_of s - 1) i);
      rest = λ k g m. ap is_free (c.other k (omega arith)) ∙ a.rest k g m;
    })
    (λ q.
    let l : used_of s ≤ i = ltb-false i (used_of s) q in
    record {
      within = omega arith;
      last = λ z. let p : i + 1 - 1 ≡ i = omega arith in rw p (rw c.same f);
      rest = λ k g m. ap is_free (c.other k (omega arith)) ∙ a.rest k g (omega arith);
    }))
  where
    last_of : is_free (entry_of s (used_of s - 1)) ≡ false → Dec (used_of s - 1 ≡ i) → is_free (entry_of (taken s i e) (used_of s - 1)) ≡ false
    last_of g (yes d) = rw (d, c.same) f
    last_of g (no d) = ap is_free (c.other (used_of s - 1) d) ∙ g

-- a change that leaves the number in use, and whether number i is free
pub still_top : {s t : List ℕ} {n i : ℕ} {e : Entry} → Changed s t n i e → used_of t ≡ used_of s → is_free e ≡ is_free (entry_of s i) → Top s n (used_of s) → Top t n (used_of t)
still_top {s} {t} {n} {i} {e} c u f a = rw u (top-same (λ k h. go k (ℕ_discrete k i)) a)
  where
    go : (k : ℕ) → Dec (k ≡ i) → is_free (entry_of t k) ≡ is_free (entry_of s k)
    go k (yes d) = rw (d, c.same) f
    go k (no d) = ap is_free (c.other k d)

-- a number freed, where every other number behind those in use is free
pub freed-top : {s : List ℕ} {n : ℕ} (i : ℕ) → Roomy s n → i < n → used_of s ≤ n → ((k : ℕ) → k < n → used_of s ≤ k → k ≢ i → is_free (entry_of s k) ≡ true) → Top (freed s i) n (used_of (freed s i))
freed-top {s} {n} i r h u f =
    rw (used_freed i r)
    (top-same (λ k g. ap is_free (freed-entry s i k)) (settled-top (with_entry s i no_entry) n (used_of s) u (λ k g l. go k g l (ℕ_discrete k i))))
  where
    c : Changed s (with_entry s i no_entry) n i no_entry
    c = entry-changed i r h no_entry no_fits

    go : (k : ℕ) → k < n → used_of s ≤ k → Dec (k ≡ i) → is_free (entry_of (with_entry s i no_entry) k) ≡ true
    go k g l (yes d) = rw (d, c.same) no_free
    go k g l (no d) = ap is_free (c.other k d) ∙ f k g l d

-- a number freed if unused, after a change that makes no free number live
pub unused_top : {s t : List ℕ} {n i : ℕ} {e : Entry} → Roomy s n → i < n → Changed s t n i e → used_of t ≡ used_of s → (is_free e ≡ false → is_free (entry_of s i) ≡ false) → Top s n (used_of s) → Top (free_unused t i) n (used_of (free_unused t i))
unfolding free_unused
unused_top {s} {t} {n} {i} {e} r h c u f a =
    by_cond (λ (x : List ℕ). Top x n (used_of x)) (is_free (entry_of t i))
    (λ q. freed-top i (changed_roomy r c) h (omega (arith, a.within)) (λ k g l d. ap is_free (c.other k d) ∙ a.rest k g (omega arith)))
    (λ q. let live : is_free e ≡ false = rw c.same at q in still_top c u (live ∙ sym (f live)) a)

-- the entries decide the number in use
top_le : {s : List ℕ} {n u v : ℕ} → Top s n u → Top s n v → u ≤ v
top_le {s} {n} {u} {v} a b = go (dec_lt v u)
  where
    go : Dec (v < u) → u ≤ v
    go (yes l) = absurd (true≢false (sym (b.rest (u - 1) (omega (arith, a.within)) (omega arith)) ∙ a.last (omega arith)))
    go (no l) = omega arith

pub top_one : {s : List ℕ} {n u v : ℕ} → Top s n u → Top s n v → u ≡ v
top_one a b = omega (arith, top_le a b, top_le b a)

pub top-settled : {s : List ℕ} {n u : ℕ} → Top s n u → u ≡ settled s n
top-settled {s} {n} a = top_one a (settled-top s n n (omega arith) (λ i h l. absurd (omega arith)))
