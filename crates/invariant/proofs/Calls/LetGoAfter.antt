-- Letting go: every row reads as it did, even where the caller lets its buffer go.
use Rattle.std.specs.Prelude.{ℕ, ◌≡◌, Bool, cond}
use Rattle.std.proofs.Math.Path.{refl, ap}
use Rattle.std.proofs.Common.{◌∙◌}
use Rattle.std.proofs.Math.Bool.{true, false}
use Rattle.std.proofs.Math.Decide.{ℕ_discrete}
use Rattle.books.specs.declared.Entry.{Entry}
use Rattle.books.specs.Entry.{entry_of, is_free}
use Rattle.listings.specs.Listing.{no_entry, released}
use Rattle.sound.specs.Change.{hold_as, or_free}
use Rattle.sound.proofs.Kept.{released_sound}
use Rattle.pool.specs.Register.{is_held, Gone, let_go}
use Rattle.state.specs.World.{World}
use Rattle.rules.specs.Steps.{in_books}
use Rattle.invariant.specs.Holding.{number_at, Unheld, Between}
use Rattle.invariant.proofs.CountLaws.{listed_counted, number-below, number_live}
use Rattle.invariant.proofs.PoolLaws.{unheld_on}
use Rattle.invariant.specs.Calls.MemoryAfter.{SameRows}
use Rattle.invariant.proofs.Calls.MemoryAfter.{same_self, memory-same, below, changed, listed_stands}

module _ {w : World} (g : Between w) (i : ℕ) (h : is_held w.books i ≡ true) where
  let_go_hold : (e : Entry) → (or_free (hold_as e 0)).hold ≡ 0
  unfolding or_free
  let_go_hold e = by_free (is_free (hold_as e 0))
    where
      by_free : (b : Bool) → (cond b no_entry (hold_as e 0)).hold ≡ 0
      by_free true = refl
      by_free false = refl

  unheld_here : Unheld w.state (released w.books i)
  unheld_here = unheld_on g.holding w.state (released w.books i) (λ c k o. o) (λ k l n z. go k z (ℕ_discrete k i))
    where
      go : (k : ℕ) → (entry_of w.books k).hold ≡ 0 → Dec (k ≡ i) → (entry_of (released w.books i) k).hold ≡ 0
      go k z (yes d) = rw d (ap (λ (e : Entry). e.hold) (changed {w = w} g i h).same ∙ let_go_hold (entry_of w.books i))
      go k z (no d) = ap (λ (e : Entry). e.hold) ((changed {w = w} g i h).other k d) ∙ z

  pub released-same : SameRows w (in_books w (released w.books i))
  released-same =
      memory-same g w.pool (released w.books i) (changed {w = w} g i h).framed refl (released_sound i g.holding.sound (below {w = w} g i h)) (λ slot c j p q l.
      (listed_stands {w = w} g i h) (number_at w slot c j) (number-below g.holding slot c j p q l) (listed_counted w slot c j p q l) (number_live g.holding slot c j p q l))
      unheld_here

pub let_go_same : {w : World} → Between w → (i : ℕ) → SameRows w (in_books w (let_go w.books i).books)
unfolding let_go
let_go_same {w} g i = go (is_held w.books i) refl
  where
    go : (b : Bool) → is_held w.books i ≡ b → SameRows w (in_books w (cond {A = Gone} b (record { answer = 0; books = released w.books i }) (record { answer = 13; books = w.books })).books)
    go true h = released-same g i h
    go false h = same_self g
