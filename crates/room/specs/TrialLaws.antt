-- The end of a trial: a turn of its loop.
use Rattle.std.specs.Prelude.{ℕ, zero, suc, ◌+◌, ◌*◌, ◌≤◌, ◌<◌, ◌≡◌, refl, Bool, cond, List, length, eqb}
use Rattle.std.proofs.Common.{sym, ◌∙◌, ap, arith, add-one, eq-eqb, ne_eqb}
use Rattle.words.specs.Word.{word32, with_word32}
use Rattle.books.specs.declared.Entry.{Entry}
use Rattle.books.specs.Entry.{used_of, entry_of, with_entry}
use Rattle.listings.specs.Listing.{no_entry, with_used}
use Rattle.room.specs.Trial.{is_trial, wiped_of, wiped, untried}

-- the ways out of wipe_one
pub wiped-marked : (s : List ℕ) (i : ℕ) {e : Entry} {t : List ℕ} → e ≡ entry_of s i → e.hold ≡ 2 → t ≡ with_entry s i no_entry → t ≡ wiped_of s i
unfolding wiped_of is_trial
wiped-marked s i {e} p h w = rw (← p, eq-eqb e.hold 2 h) w

pub wiped_not : (s : List ℕ) (i : ℕ) {e : Entry} → e ≡ entry_of s i → (e.hold ≡ 2 → ⊥) → s ≡ wiped_of s i
unfolding wiped_of is_trial
wiped_not s i {e} p h = rw (← p, ne_eqb e.hold 2 h)

-- a turn of end_trial, and its end
pub wiped-none : (s : List ℕ) → s ≡ wiped s 0
unfolding wiped
wiped-none s = refl

pub wiped-more : (s : List ℕ) (i : ℕ) {t t' : List ℕ} → t ≡ wiped s i → t' ≡ wiped_of t i → t' ≡ wiped s (i + 1)
unfolding wiped
wiped-more s i p q = rw add-one (cc)

pub untried_is : (s : List ℕ) (used i : ℕ) {top : ℕ} {t r : List ℕ} → top ≡ word32 s 0 → i ≤ top → top ≤ i → t ≡ wiped s i → r ≡ with_word32 t 0 used → r ≡ untried s used
unfolding untried with_used used_of
untried_is s used i p a b q w = let e : i ≡ word32 s 0 = omega arith in rw (w, q, e)

pub trial_room : (s₀ : List ℕ) (s : List ℕ) {top i : ℕ} → top ≡ word32 s₀ 0 → i < top → 4 + 20 * used_of s₀ ≤ length s₀ → length s ≡ length s₀ → 24 + 20 * i ≤ length s
unfolding used_of
trial_room s₀ s p l h e = omega arith

pub trial_first : (s : List ℕ) → 4 + 20 * used_of s ≤ length s → 4 ≤ length s
trial_first s h = omega arith
