-- The open block: where it lies, and closing it.
use Rattle.std.specs.Prelude.{ℕ, ◌+◌, ◌*◌, ◌≤◌, ◌<◌, ◌≡◌, refl, true, false, length}
use Rattle.std.proofs.Common.{sym, ◌∙◌, ap, true≢false, arith}
use Rattle.search.specs.Cases.{by_cond}
use Rattle.words.specs.Word.{with_word32}
use Rattle.words.specs.WordLaws.{length-with_word32}
use Rattle.counts.specs.declared.BufferNumber.{BufferNumber}
use Rattle.books.specs.Entry.{used_of, entry_of}
use Rattle.state.specs.declared.Column.{Column}
use Rattle.state.specs.World.{World, column_of}
use Rattle.state.specs.Layout.{is_views, list_place, list_length}
use Rattle.rules.specs.Steps.{with_column, in_state, in_slots, counting, listing}
use Rattle.rules.specs.Views.{filling, has_block, block_number, is_open, open_number, open_filled, open_rest, closed}
use Rattle.rules.specs.Stays.{same-column}
use Rattle.rules.specs.SameLaws.{same_views}
use Rattle.push_safety.specs.Run.{Run, Goes}
use Rattle.push_safety.specs.TestedLaws.{bounds_say}
use Rattle.push_safety.specs.Firm.{run_firm, goes_refl, goes_trans, slots_goes}
use Rattle.push_safety.specs.StepGoes.{column-new, with_column_goes, counting_goes}
use Rattle.std.specs.Prelude.{Option, Some, None}

-- ---- the open block

has_number : (o : Option BufferNumber) → has_block o ≡ true → o ≡ Some (record { 0 = block_number o })
has_number (Some k) e = refl
has_number None e = absurd (true≢false (sym e))

pub open_block : (w : World) (c : ℕ) → is_open w c ≡ true → (column_of w.state c).block ≡ Some (record { 0 = open_number w c })
unfolding open_number
open_block w c e = has_number (column_of w.state c).block e

-- it is in use; its list has a place for it; its entry is in the books
module _ {w : World} (c : ℕ) (r : Run w) (h : c < w.state.columns) (y : is_views w.state c ≡ true) (o : is_open w c ≡ true) where
  pub open_used : open_number w c < used_of w.books
  open_used = r.block c (record { 0 = open_number w c }) h y (open_block w c o)

  pub open_room : list_length w (filling w) c < w.state.lists
  open_room = r.room c (record { 0 = open_number w c }) h y (open_block w c o)

  pub open_number_lem : open_number w c < w.state.numbers
  open_number_lem = omega (arith, open_used, r.used)

  pub open_entry : 24 + 20 * open_number w c ≤ length w.books
  open_entry = omega (arith, open_number_lem, (run_firm r).books.roomy.room)

  -- what is filled and the rest make its capacity, which lies in the pool
  pub open_capacity : open_filled w c + open_rest w c ≡ (entry_of w.books (open_number w c)).capacity.0
  unfolding open_rest open_filled
  open_capacity = omega (arith, r.filled (open_number w c) open_used)

  pub open_inside : (entry_of w.books (open_number w c)).start + (open_filled w c + open_rest w c) ≤ w.state.pool.0
  open_inside = omega (arith, open_capacity, r.inside (open_number w c) open_used)

-- ---- closing

module _ (w : World) (c : ℕ) where
  -- the number put behind the list; then the block closed
  abbrev put : World
  put = in_slots w (with_word32 w.slots (list_place w.state (filling w) c + 4 * list_length w (filling w) c) (open_number w c))

  abbrev shut : World
  shut = in_state put (with_column w.state c (column_of w.state c).source None)

  closed_block : (d : ℕ) → d ≡ c → is_views w.state c ≡ true → (column_of shut.state d).block ≡ None
  closed_block d e y =
      rw e (ap (λ (x : Column). x.block) (column-new w.state c (column_of w.state c).source None y))

  join_goes : Run w → c < w.state.columns → is_views w.state c ≡ true → list_length w (filling w) c < w.state.lists → Goes w (counting shut (filling w) (c + 1) (list_length w (filling w) c + 1))
  join_goes r h y l =
      let a : Goes w put = slots_goes refl (length-with_word32 w.slots (list_place w.state (filling w) c + 4 * list_length w (filling w) c) (open_number w c)) refl refl r in
      let b : Goes put shut = with_column_goes c (column_of w.state c).source None a.run (λ p q. r.kept c h y) (λ k q. absurd (not_number k q)) in
      goes_trans (goes_trans a b)
      (counting_goes (filling w) (c + 1) (list_length w (filling w) c + 1) b.run r.fit.place (omega arith)
      (omega (arith, (bounds_say w.state r.fit.bounds).lists))
      (λ d e. (omega arith, λ n. absurd (true≢false (sym (views d e) ∙ n))))
      (λ d k e z q. not_number k (sym (closed_block d (omega arith) y) ∙ q)))
    where
      not_number : (k : BufferNumber) → None ≡ Some k → ⊥
      not_number k q = let z : ◌≡◌ {A = ℕ} 0 1 = cc in omega arith

      views : (d : ℕ) → d + 1 ≡ c + 1 → is_views shut.state d ≡ true
      views d e =
          let q : d ≡ c = omega arith in
          rw q (same_views (same-column w.state c (column_of w.state c).source None) c ∙ y)

pub closed_goes : (w : World) (c : ℕ) → Run w → c < w.state.columns → is_views w.state c ≡ true → Goes w (closed w c)
unfolding closed listing counting
closed_goes w c r h y =
    by_cond (Goes w) (is_open w c) (λ o. join_goes w c r h y (open_room c r h y o)) (λ o. goes_refl r)

-- and it is closed then
pub closed-shut : (w : World) (c : ℕ) → is_views w.state c ≡ true → (column_of (closed w c).state c).block ≡ None
unfolding closed listing counting
closed-shut w c y = by_cond (λ (v : World). (column_of v.state c).block ≡ None) (is_open w c) (λ o. closed_block w c c refl y) (λ o. none (column_of w.state c).block o)
  where
    none : (o : Option BufferNumber) → has_block o ≡ false → o ≡ None
    none (Some k) e = absurd (true≢false e)
    none None e = refl
