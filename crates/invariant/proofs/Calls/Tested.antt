-- Between two calls of a history 1 and 14 are never met.
use Rattle.std.specs.Prelude.{ℕ, ◌+◌, ◌*◌, ◌≤◌, ◌<◌, ◌≡◌, refl, Bool, ◌&&◌, cond, eqb}
use Rattle.std.proofs.Math.Bool.{true, false, not}
use Rattle.std.proofs.Common.{arith}
use Rattle.std.proofs.Math.Decide.{ℕ_discrete}
use Rattle.std.proofs.Math.Dec.{ltb, leb}
use borrow.Author.Tests.{lt-ltb, le-leb, eq-eqb, ne_eqb}
use Rattle.search.specs.Cases.{both}
use Rattle.search.specs.Every.{every, every_is}
use Rattle.words.specs.Word.{word32}
use Rattle.blocks.specs.BlockLaws.{power_range}
use Rattle.books.specs.Entry.{used_of, entry_of, is_free, is_free_at}
use Rattle.pool.specs.Read.{fits_in, in_range}
use Rattle.state.specs.World.{World, column_of}
use Rattle.state.specs.Layout.{is_views, list_place, list_length}
use Rattle.state.specs.Rows.{listed_at}
use Rattle.rules.specs.Ranges.{between, fits_set_up, is_block, has_open, block_in_range, column_in_range, list_in_range, slot_in_range, state_in_range, tested}
use Rattle.invariant.specs.Holding.{HasOpen, Holding, Between}
use Rattle.invariant.proofs.AloneLaws.{open_below, open_live}
use Rattle.std.specs.Prelude.{Option, Some, None}
use Rattle.counts.specs.declared.BufferNumber.{BufferNumber}

module _ {w : World} {ext : ℕ → ℕ} (a : Holding w ext) where
  fits : fits_set_up w ≡ true
  unfolding fits_set_up
  fits =
      both a.run.fit.bounds
      (both (eq-eqb _ _ a.run.fit.slots_are) (both (eq-eqb _ _ a.run.fit.pool_is) (eq-eqb _ _ a.run.fit.books_are)))

  books : in_range w.books w.state.numbers w.state.pool.0 ≡ true
  unfolding in_range fits_in
  books =
      both (le-leb _ _ a.run.used)
      (every_is (λ i. fits_in w.state.pool.0 (entry_of w.books i)) (used_of w.books) (λ i h.
      both (le-leb _ _ (a.run.inside i h)) (both (le-leb _ _ (a.run.filled i h)) (le-leb _ _ (a.sound.held i (omega (arith, a.run.used)))))))

  columns : every (column_in_range w) w.state.columns ≡ true
  unfolding column_in_range is_free_at has_open
  columns = every_is (column_in_range w) w.state.columns (λ c q. by_views c q (is_views w.state c) refl)
    where
      free : (k : ℕ) → k < used_of w.books → is_free (entry_of w.books k) ≡ false → not (is_free_at w.books k) ≡ true
      free k l f = rw (lt-ltb k (used_of w.books) l, f)

      -- no column before has it: two that have are one
      first : (c k : ℕ) → HasOpen w.state c k → (d : ℕ) → d < c → not (has_open w.state k d) ≡ true
      first c k o d l = go (is_views w.state d) refl (column_of w.state d).block refl
        where
          go : (v : Bool) → is_views w.state d ≡ v → (b : Option BufferNumber) → (column_of w.state d).block ≡ b → not (v && is_block k b) ≡ true
          go false v b e = refl
          go true v None e = refl
          go true v (Some j) e = by_number (ℕ_discrete j.0 k)
            where
              by_number : Dec (j.0 ≡ k) → not (eqb j.0 k) ≡ true
              by_number (no n) = rw (ne_eqb j.0 k n)
              by_number (yes y) =
                  let p : HasOpen w.state d k = record { column = omega (arith, o.column); views = v; block = rw (← y) e } in
                  absurd (omega (arith, a.alone.alone c d k o p))

      block : (c : ℕ) → c < w.state.columns → is_views w.state c ≡ true → (o : Option BufferNumber) → (column_of w.state c).block ≡ o → block_in_range w.state w.books (list_length w w.state.place c) c o ≡ true
      block c q y (Some k) e =
          let o : HasOpen w.state c k.0 = record { column = q; views = y; block = e } in
          both (lt-ltb _ _ (open_below a c k.0 o))
          (both (free k.0 (a.run.block c k q y e) (open_live a c k.0 o))
          (both (lt-ltb _ _ (a.run.room c k q y e)) (every_is (λ d. not (has_open w.state k.0 d)) c (first c k.0 o))))
      block c q y None e = refl

      by_views : (c : ℕ) → c < w.state.columns → (b : Bool) → is_views w.state c ≡ b → cond (is_views w.state c) (between 4096 (column_of w.state c).source.current.0 1048576 && block_in_range w.state w.books (list_length w w.state.place c) c (column_of w.state c).block) true ≡ true
      by_views c q true y =
          let p = power_range (column_of w.state c).source.current.0 (a.sizes c q y) in
          rw y (both (both (le-leb _ _ p.0) (le-leb _ _ p.1)) (block c q y (column_of w.state c).block refl))
      by_views c q false y = rw y

  list : (slot c : ℕ) → slot ≤ w.state.queue → c < w.state.columns → list_in_range w slot c ≡ true
  unfolding list_in_range listed_at
  list slot c p q =
      both (by_views (is_views w.state c) refl)
      (every_is (λ i. ltb (word32 w.slots (list_place w.state slot c + 4 * i)) w.state.numbers) (list_length w slot c) (λ i h. lt-ltb _ _ (a.listed slot c i p q h)))
    where
      by_views : (b : Bool) → is_views w.state c ≡ b → leb (list_length w slot c) (cond b w.state.lists 0) ≡ true
      by_views true y = le-leb _ _ (a.run.lists slot c p q)
      by_views false y = le-leb (list_length w slot c) 0 (omega (arith, a.run.none slot c p q y))

  slots : every (slot_in_range w) (w.state.queue + 1) ≡ true
  unfolding slot_in_range
  slots =
      every_is (slot_in_range w) (w.state.queue + 1) (λ slot h.
      both (le-leb _ _ (a.counted slot (omega arith))) (every_is (list_in_range w slot) w.state.columns (λ c q. list slot c (omega arith) q)))

  range : w.state.buffered.0 < w.state.target.0 → state_in_range w ≡ true
  unfolding state_in_range
  range h =
      both (lt-ltb _ _ h)
      (both (le-leb _ _ a.run.fit.queued) (both (le-leb _ _ a.run.fit.place) (both books (both columns slots))))

pub between-tested : {w : World} → Between w → tested w ≡ 0
unfolding tested
between-tested g = rw (fits g.holding, range g.holding g.below)
