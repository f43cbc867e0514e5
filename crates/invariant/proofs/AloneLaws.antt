-- The columns of a state: an open block is a number in use; after a change of one column there are 16, and no two have the same block open.
use Rattle.std.specs.Prelude.{ℕ, zero, suc, ◌≤◌, ◌<◌, ◌≡◌, refl, ◌≢◌, false, List, [], ◌∷◌, length}
use Rattle.std.proofs.Common.{sym, ◌∙◌, arith, length-set}
use Rattle.std.proofs.Math.Path.{ap}
use Rattle.std.proofs.Math.Decide.{ℕ_discrete}
use Rattle.counts.specs.declared.BufferNumber.{BufferNumber}
use Rattle.blocks.specs.declared.BufferSource.{BufferSource}
use Rattle.books.specs.Entry.{entry_of, is_free}
use Rattle.state.specs.declared.BatchCoalescer.{BatchCoalescer}
use Rattle.state.specs.World.{World, column_of}
use Rattle.state.specs.Layout.{is_views, list_length}
use Rattle.rules.specs.Calls.{Wanted, columns_for, new_state}
use Rattle.rules.specs.Steps.{with_counts, with_column}
use Rattle.rules.specs.Views.{has_block, block_number, open_number}
use Rattle.rules.specs.Stays.{SameSetUp}
use Rattle.rules.specs.SameLaws.{same_views}
use Rattle.invariant.specs.Holding.{reach, number_at, listings, HasOpen, Alone, Holding}
use Rattle.invariant.proofs.Rests.{reach_open, number_open}
use Rattle.invariant.proofs.CountLaws.{listed_counted, number-below, number_live}
use Rattle.std.specs.Prelude.{Option, Some, None}

-- ---- an open block is listed, so in use

module _ {w : World} {ext : ℕ → ℕ} (a : Holding w ext) (c k : ℕ) (o : HasOpen w.state c k) where
  abbrev place : ℕ
  place = w.state.place

  abbrev len : ℕ
  len = list_length w place c

  behind : len < reach w place c
  behind = omega (arith, reach_open w place c o.views refl (ap has_block o.block))

  number_is : number_at w place c len ≡ k
  unfolding open_number
  number_is = number_open w place c len (omega arith) ∙ ap block_number o.block

  pub open_below : k < w.state.numbers
  open_below = rw number_is at (number-below a place c len a.run.fit.place o.column behind)

  pub open_counted : 1 ≤ listings w k
  open_counted = omega (arith, listed_counted w place c len a.run.fit.place o.column behind, ap (listings w) number_is)

  pub open_live : is_free (entry_of w.books k) ≡ false
  open_live = rw number_is at (number_live a place c len a.run.fit.place o.column behind)

-- ---- as many columns as before

pub column-length : (s : BatchCoalescer) (c : ℕ) (source : BufferSource) (block : Option BufferNumber) → length (with_column s c source block).column ≡ length s.column
column-length s c source block = simp length-set

columns_length : (kinds : List ℕ) (n : ℕ) → length (columns_for kinds n) ≡ n
unfolding columns_for
columns_length kinds zero = refl
columns_length [] (suc n) = ap suc (columns_length [] n)
columns_length (k ∷ ks) (suc n) = ap suc (columns_length ks n)

pub new_sixteen : (a : Wanted) → length (new_state a).column ≡ 16
unfolding new_state
new_sixteen a = columns_length a.kinds 16

-- ---- no two the same

pub not_open_lem : (k : BufferNumber) → None ≡ Some k → ⊥
not_open_lem k e = let z : ◌≡◌ {A = ℕ} 0 1 = cc in omega arith

-- columns as they were
pub columns_open : (s t : BatchCoalescer) → t.columns ≡ s.columns → ((c : ℕ) → column_of t c ≡ column_of s c) → (c k : ℕ) → HasOpen t c k → HasOpen s c k
unfolding is_views
columns_open s t n e c k p = record { column = omega (arith, p.column, n); views = rw (← e c) p.views; block = rw (← e c) p.block }

pub counts_open : (s : BatchCoalescer) (place queued buffered : ℕ) → (c k : ℕ) → HasOpen (with_counts s place queued buffered) c k → HasOpen s c k
unfolding column_of
counts_open s place queued buffered = columns_open s (with_counts s place queued buffered) refl (λ c. refl)

pub alone_columns : (s t : BatchCoalescer) → t.columns ≡ s.columns → ((c : ℕ) → column_of t c ≡ column_of s c) → Alone s → Alone t
alone_columns s t n e a = record { alone = λ c d k p q. a.alone c d k (columns_open s t n e c k p) (columns_open s t n e d k q) }

pub alone_counts : (s : BatchCoalescer) (place queued buffered : ℕ) → Alone s → Alone (with_counts s place queued buffered)
unfolding column_of
alone_counts s place queued buffered a = alone_columns s (with_counts s place queued buffered) refl (λ c. refl) a

-- all but column c as they were
pub other_open : {s t : BatchCoalescer} (c : ℕ) → SameSetUp s t → ((d : ℕ) → d ≢ c → (column_of t d).block ≡ (column_of s d).block) → (d k : ℕ) → d ≢ c → HasOpen t d k → HasOpen s d k
other_open c e same d k n p =
    record { column = omega (arith, p.column, e.columns); views = sym (same_views e d) ∙ p.views; block = sym (same d n) ∙ p.block }

-- and no other column had the block open that c has now
pub alone_one : {s t : BatchCoalescer} (c : ℕ) → SameSetUp s t → ((d : ℕ) → d ≢ c → (column_of t d).block ≡ (column_of s d).block) → ((d k : ℕ) → d ≢ c → HasOpen t c k → HasOpen s d k → ⊥) → Alone s → Alone t
alone_one {s} {t} c e same new a = record { alone = λ d f k p q. go d f k p q (ℕ_discrete d c) (ℕ_discrete f c) }
  where
    was : (d k : ℕ) → d ≢ c → HasOpen t d k → HasOpen s d k
    was = other_open c e same

    go : (d f k : ℕ) → HasOpen t d k → HasOpen t f k → Dec (d ≡ c) → Dec (f ≡ c) → d ≡ f
    go d f k p q (yes y) (yes z) = y ∙ sym z
    go d f k p q (yes y) (no z) = absurd (new f k z (rw y at p) (was f k z q))
    go d f k p q (no y) (yes z) = absurd (new d k y (rw z at q) (was d k y p))
    go d f k p q (no y) (no z) = a.alone d f k (was d k y p) (was f k z q)
