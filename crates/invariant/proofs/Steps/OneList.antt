-- A step that changes the list of one column of the slot being filled, or its open block: every other list is as it was.
use Rattle.std.specs.Prelude.{ℕ, ◌+◌, ◌≤◌, ◌<◌, ◌≡◌, refl, ◌≢◌, Bool, true, false, cond, eqb}
use Rattle.std.proofs.Common.{sym, ◌∙◌, ap, arith, ne_eqb}
use Rattle.std.proofs.Math.Decide.{dec_lt, ℕ_discrete}
use Rattle.state.specs.World.{World, column_of}
use Rattle.state.specs.Layout.{is_views, list_length}
use Rattle.state.specs.Rows.{listed_at}
use Rattle.rules.specs.Views.{has_block, block_number, is_open, open_number}
use Rattle.rules.specs.Stays.{Beside}
use Rattle.rules.specs.SameLaws.{same_views}
use Rattle.invariant.specs.Holding.{reach, number_at, times_in, listings}
use Rattle.invariant.proofs.Rests.{Lists, reach_plain, reach_other, number-listed, number_open}
use Rattle.invariant.proofs.CountLaws.{times_same, listings_change}
use Rattle.std.specs.Prelude.{Option}
use Rattle.counts.specs.declared.BufferNumber.{BufferNumber}

-- not the list of column c of the slot being filled
pub data Elsewhere (w : World) (c slot d : ℕ) : Type 0 where
  by_slot : slot ≢ w.state.place → Elsewhere w c slot d
  by_column : d ≢ c → Elsewhere w c slot d

pub record OneList (w v : World) (c : ℕ) : Type 0 where
  pub beside : Beside w v
  pub lengths : (slot d : ℕ) → slot ≤ w.state.queue → d < w.state.columns → Elsewhere w c slot d → list_length v slot d ≡ list_length w slot d
  pub words : (slot d i : ℕ) → slot ≤ w.state.queue → d < w.state.columns → Elsewhere w c slot d → i < list_length w slot d → listed_at v slot d i ≡ listed_at w slot d i
  pub blocks : (d : ℕ) → d ≢ c → (column_of v.state d).block ≡ (column_of w.state d).block

-- one for an open block in the slot being filled
abbrev opens : Bool → Bool → ℕ
opens here is = cond here (cond is 1 0) 0

-- reach hangs on these alone
reach_by : (w v : World) (slot d : ℕ) → is_views v.state d ≡ is_views w.state d → v.state.place ≡ w.state.place → list_length v slot d ≡ list_length w slot d → opens (eqb slot w.state.place) (is_open v d) ≡ opens (eqb slot w.state.place) (is_open w d) → reach v slot d ≡ reach w slot d
unfolding reach
reach_by w v slot d y p l o = go (is_open v d) (is_open w d) y p l o
  where
    go : {a a' : Bool} {x x' n n' : ℕ} (f g : Bool) → a' ≡ a → x' ≡ x → n' ≡ n → opens (eqb slot x) f ≡ opens (eqb slot x) g → ◌≡◌ {A = ℕ} (cond a' (n' + opens (eqb slot x') f) 0) (cond a (n + opens (eqb slot x) g) 0)
    go f g y p l o = rw (y, p, l, o)

module _ {w v : World} {c : ℕ} (o : OneList w v c) (slot d : ℕ) (p : slot ≤ w.state.queue) (q : d < w.state.columns) where
  pub elsewhere_reach : Elsewhere w c slot d → reach v slot d ≡ reach w slot d
  elsewhere_reach e = reach_by w v slot d (same_views o.beside.set_up d) o.beside.place (o.lengths slot d p q e) (opening e)
    where
      opening : Elsewhere w c slot d → opens (eqb slot w.state.place) (is_open v d) ≡ opens (eqb slot w.state.place) (is_open w d)
      opening (by_slot z) = rw (ne_eqb slot w.state.place z)
      opening (by_column z) = ap (λ (k : Option BufferNumber). opens (eqb slot w.state.place) (has_block k)) (o.blocks d z)

  pub elsewhere_number : Elsewhere w c slot d → (i : ℕ) → i < reach w slot d → number_at v slot d i ≡ number_at w slot d i
  unfolding open_number
  elsewhere_number e i h = go (dec_lt i (list_length w slot d)) e
    where
      same : list_length v slot d ≡ list_length w slot d
      same = o.lengths slot d p q e

      go : Dec (i < list_length w slot d) → Elsewhere w c slot d → number_at v slot d i ≡ number_at w slot d i
      go (yes l) z = number-listed v slot d i (omega (arith, same)) ∙ o.words slot d i p q z l ∙ sym (number-listed w slot d i l)
      go (no l) (by_column z) =
          number_open v slot d i (omega (arith, same)) ∙ ap block_number (o.blocks d z) ∙ sym (number_open w slot d i (omega arith))
      go (no l) (by_slot z) = absurd (behind (is_views w.state d) refl)
        where
          behind : (b : Bool) → is_views w.state d ≡ b → ⊥
          behind true y = omega (arith, reach_other w slot d y z)
          behind false y = omega (arith, reach_plain w slot d y)

  pub elsewhere_lists : Elsewhere w c slot d → Lists w v slot d
  elsewhere_lists e = record { more = omega (arith, elsewhere_reach e); same = elsewhere_number e }

  pub elsewhere_times : Elsewhere w c slot d → (k : ℕ) → times_in v slot d k ≡ times_in w slot d k
  elsewhere_times e k = times_same w v slot d k (elsewhere_reach e) (elsewhere_number e)

-- so the counts change by what that list does
pub one_listings : {w v : World} {c : ℕ} → OneList w v c → w.state.place ≤ w.state.queue → c < w.state.columns → (k : ℕ) → listings v k + times_in w w.state.place c k ≡ listings w k + times_in v w.state.place c k
one_listings {w} {v} {c} o p q k =
    listings_change w v o.beside.set_up.queue o.beside.set_up.columns k w.state.place c p q
    (λ slot d l m z. elsewhere_times o slot d l m (by_slot z) k)
    (λ d m z. elsewhere_times o w.state.place d p m (by_column z) k)

-- every list, where that one is known
pub one_lists : {w v : World} {c : ℕ} → OneList w v c → Lists w v w.state.place c → (slot d : ℕ) → slot ≤ w.state.queue → d < w.state.columns → Lists w v slot d
one_lists {w} {v} {c} o here slot d p q = go (ℕ_discrete slot w.state.place) (ℕ_discrete d c)
  where
    go : Dec (slot ≡ w.state.place) → Dec (d ≡ c) → Lists w v slot d
    go (no z) e = elsewhere_lists o slot d p q (by_slot z)
    go (yes z) (no e) = elsewhere_lists o slot d p q (by_column e)
    go (yes z) (yes e) = at z e
      where
        at : slot ≡ w.state.place → d ≡ c → Lists w v slot d
        at z e =
            let f : Lists w v w.state.place c → Lists w v slot d = λ l. record { more = (lift_more l).0; same = (lift_more l).1 } in f here
          where
            lift_more : Lists w v w.state.place c → (reach w slot d ≤ reach v slot d) × ((i : ℕ) → i < reach w slot d → number_at v slot d i ≡ number_at w slot d i)
            lift_more l = rw (z, e) (l.more, l.same)
