-- When a number is freed and when not: a listed number is not, so no view keeps the number of another buffer.
use Rattle.std.specs.Prelude.{ℕ, ◌+◌, ◌-◌, ◌≤◌, ◌<◌, ◌≡◌, Bool, List}
use Rattle.std.proofs.Math.Path.{refl}
use Rattle.std.proofs.Common.{sym, ◌∙◌, ap, arith, ltb-false}
use Rattle.std.proofs.Math.Bool.{true, false, cond}
use Rattle.std.proofs.Math.Dec.{ltb}
use Rattle.search.specs.Cases.{false_of}
use Rattle.books.specs.declared.Entry.{Entry}
use Rattle.books.specs.Entry.{used_of, entry_of, is_free, is_free_at}
use Rattle.books.specs.EntryLaws.{free_is}
use Rattle.listings.specs.Listing.{no_entry, unlisted_one, released}
use Rattle.sound.specs.Sound.{Sound}
use Rattle.sound.specs.Change.{hold_as, listings_as}
use Rattle.sound.specs.OpLaws.{unlisted_changed, released-changed}
use Rattle.sound.specs.Live.{live_is, unused_none, unused_live}
use Rattle.sound.specs.SoundLaws.{sound_roomy}

module _ {s : List ℕ} {n p : ℕ} {count : ℕ → ℕ} (i : ℕ) (w : Sound s n p count) (h : i < n) where
  -- a free number has a zero entry
  pub free-entry : is_free_at s i ≡ true → entry_of s i ≡ no_entry
  unfolding is_free_at
  free-entry f = go (ltb i (used_of s)) refl f
    where
      go : (b : Bool) → ltb i (used_of s) ≡ b → cond b (is_free (entry_of s i)) true ≡ true → entry_of s i ≡ no_entry
      go true q g = w.zero i h g
      go false q g = w.beyond i h (ltb-false i (used_of s) q)

  -- and nothing lists it: the number that is taken next stands in no list
  pub free-uncounted : is_free_at s i ≡ true → count i ≡ 0
  free-uncounted f = sym (w.counted i h) ∙ ap (λ (e : Entry). e.listings) (free-entry f)

  pub counted_not_free : 0 < count i → is_free_at s i ≡ false
  counted_not_free l = sym (false_of (is_free_at s i) (λ t. omega (arith, free-uncounted t)))

  -- unlisted: nobody holds it and this was its last listing, or it stays
  pub unlisted_frees : (entry_of s i).hold ≡ 0 → count i ≤ 1 → entry_of (unlisted_one s i) i ≡ no_entry
  unlisted_frees o l =
      let e : Entry = listings_as (entry_of s i) ((entry_of s i).listings - 1) in
      (unlisted_changed i (sound_roomy w) h).same ∙ unused_none e (free_is e o (omega (arith, w.counted i h)))

  pub unlisted_stays : 0 < (entry_of s i).hold + (count i - 1) → entry_of (unlisted_one s i) i ≡ listings_as (entry_of s i) ((entry_of s i).listings - 1)
  unlisted_stays l =
      let e : Entry = listings_as (entry_of s i) ((entry_of s i).listings - 1) in
      (unlisted_changed i (sound_roomy w) h).same ∙ unused_live e (live_is e (omega (arith, w.counted i h)))

  pub unlisted_live : 0 < (entry_of s i).hold + (count i - 1) → is_free (entry_of (unlisted_one s i) i) ≡ false
  unlisted_live l = rw (unlisted_stays l) (live_is (listings_as (entry_of s i) ((entry_of s i).listings - 1)) (omega (arith, w.counted i h)))

  -- let go: nothing lists it, or it stays
  pub released_frees : count i ≡ 0 → entry_of (released s i) i ≡ no_entry
  released_frees l =
      let e : Entry = hold_as (entry_of s i) 0 in
      (released-changed i (sound_roomy w) h).same ∙ unused_none e (free_is e refl (w.counted i h ∙ l))

  pub released_stays : 0 < count i → entry_of (released s i) i ≡ hold_as (entry_of s i) 0
  released_stays l =
      let e : Entry = hold_as (entry_of s i) 0 in
      (released-changed i (sound_roomy w) h).same ∙ unused_live e (live_is e (omega (arith, w.counted i h)))

  pub released_live : 0 < count i → is_free (entry_of (released s i) i) ≡ false
  released_live l = rw (released_stays l) (live_is (hold_as (entry_of s i) 0) (omega (arith, w.counted i h)))
