-- When an entry is free and when it is live, and what is left of it where it is freed if unused.
use Rattle.std.specs.Prelude.{ℕ, ◌+◌, ◌-◌, ◌<◌, min, ◌≡◌, refl, Bool, true, false}
use Rattle.std.proofs.Common.{sym, ◌∙◌, ap, true≢false, arith}
use Rattle.search.specs.Cases.{by_cond, false_of}
use Rattle.books.specs.declared.Entry.{Entry}
use Rattle.books.specs.Entry.{is_free}
use Rattle.books.specs.EntryLaws.{free-says, free_is}
use Rattle.listings.specs.Listing.{no_entry, one_more}
use Rattle.sound.specs.Change.{length_as, hold_as, listings_as, or_free}

-- live: held, or listed
pub live_is : (e : Entry) → 0 < e.hold + e.listings → is_free e ≡ false
live_is e h = sym (false_of (is_free e) (λ t. let f = free-says e t in omega (arith, f.0, f.1)))

pub live_says : (e : Entry) → is_free e ≡ false → 0 < e.hold + e.listings
live_says e f = go (e.hold + e.listings) refl
  where
    go : (k : ℕ) → e.hold + e.listings ≡ k → 0 < e.hold + e.listings
    go ℕ.zero q = absurd (true≢false (sym (free_is e (omega arith) (omega arith)) ∙ f))
    go (ℕ.suc k) q = omega arith

-- a length has no part in it
pub length-free : (e : Entry) (v : ℕ) → is_free (length_as e v) ≡ is_free e
unfolding is_free
length-free e v = refl

-- listed once more it is live
pub more_live : (e : Entry) (k : ℕ) → is_free (listings_as e (one_more k)) ≡ false
unfolding one_more
more_live e k = live_is (listings_as e (min (k + 1) 4294967295)) (omega arith)

-- listed once less, or let go, it is live only where it was
pub less_live : (e : Entry) → is_free (listings_as e (e.listings - 1)) ≡ false → is_free e ≡ false
less_live e f = live_is e (omega (arith, live_says (listings_as e (e.listings - 1)) f))

pub let_go_live : (e : Entry) → is_free (hold_as e 0) ≡ false → is_free e ≡ false
let_go_live e f = live_is e (omega (arith, live_says (hold_as e 0) f))

-- freed if unused
pub unused_none : (e : Entry) → is_free e ≡ true → or_free e ≡ no_entry
unfolding or_free
unused_none e f = rw f

pub unused_live : (e : Entry) → is_free e ≡ false → or_free e ≡ e
unfolding or_free
unused_live e f = rw f

pub unused_listings : (e : Entry) → (or_free e).listings ≡ e.listings
unfolding or_free
unused_listings e = by_cond (λ (x : Entry). x.listings ≡ e.listings) (is_free e) (λ q. sym (free-says e q).1) (λ q. refl)

pub unused_still : (e : Entry) → is_free (or_free e) ≡ false → or_free e ≡ e
unused_still e f = go (is_free e) refl
  where
    go : (b : Bool) → is_free e ≡ b → or_free e ≡ e
    go true q = absurd (true≢false (sym (free_is no_entry refl refl) ∙ ap is_free (sym (unused_none e q)) ∙ f))
    go false q = unused_live e q
