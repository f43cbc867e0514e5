-- Whole lists: what listing and unlisting them leave of each entry and of its filled bytes, and when a number is freed.
use Prim.Native.Nat.{ℕ, zero, suc, ◌+◌, ◌*◌, ◌-◌, ◌≤◌, ◌<◌}
use Rattle.std.specs.Prelude.{◌≡◌, Bool, true, false}
use Rattle.std.proofs.Math.Path.{refl}
use Rattle.std.proofs.Common.{sym, ◌∙◌, ap, arith}
use mathlib.Core.List.{List}
use Rattle.std.proofs.Math.Decide.{ℕ_discrete}
use Rattle.words.specs.Word.{word32}
use Rattle.books.specs.declared.Entry.{Entry}
use Rattle.books.specs.Entry.{entry_of, is_free}
use Rattle.listings.specs.Listing.{no_entry, listed_one, unlisted_one, over_list}
use Rattle.sound.specs.Sound.{Sound, filled_bytes}
use Rattle.sound.specs.Change.{Roomy, listings_as, or_free}
use Rattle.sound.specs.OpLaws.{changed_roomy, listed-changed, unlisted_changed}
use Rattle.sound.specs.Live.{live_is, live_says, less_live, unused_still, unused_listings}
use Rattle.sound.specs.SoundLaws.{sound_roomy, changed-each}
use Rattle.sound.proofs.Lists.{occurrences, occurs_here, occurs_grows, unlisted_all_sound, listed_all_sound}
use Rattle.sound.specs.Freed.{unlisted_live}
use Rattle.sound.proofs.Others.{filled-same}

-- f is e but for its listings
pub record Relisted (e f : Entry) : Type 0 where
  pub is : f ≡ listings_as e f.listings

relisted_then : {e f g : Entry} → Relisted e f → Relisted f g → Relisted e g
relisted_then {e} {f} {g} a b = record { is = b.is ∙ ap (λ (x : Entry). listings_as x g.listings) a.is }

-- one number, listed or unlisted
listed_relisted : {s : List ℕ} {n : ℕ} (i : ℕ) → Roomy s n → i < n → (k : ℕ) → k < n → Relisted (entry_of s k) (entry_of (listed_one s i) k)
listed_relisted {s} i r h =
    changed-each (listed-changed i r h) (λ k x. Relisted (entry_of s k) x) (record { is = refl }) (λ k g d. record { is = refl })

-- what is live after an unlisting was live
record LiveBefore (e f : Entry) : Type 0 where
  was : is_free e ≡ false
  relisted : Relisted e f

unlisted_stays_so : {s : List ℕ} {n : ℕ} (i : ℕ) → Roomy s n → i < n → (k : ℕ) → k < n → is_free (entry_of (unlisted_one s i) k) ≡ false → LiveBefore (entry_of s k) (entry_of (unlisted_one s i) k)
unlisted_stays_so {s} i r h =
    changed-each (unlisted_changed i r h) (λ k x. is_free x ≡ false → LiveBefore (entry_of s k) x) same
    (λ k g d f. record { was = f; relisted = record { is = refl } })
  where
    less : Entry
    less = listings_as (entry_of s i) ((entry_of s i).listings - 1)

    same : is_free (or_free less) ≡ false → LiveBefore (entry_of s i) (or_free less)
    same f =
        let q : or_free less ≡ less = unused_still less f in
        record {
          was = less_live (entry_of s i) (rw q at f);
          relisted = record { is = q ∙ ap (listings_as (entry_of s i)) (sym (unused_listings less)) };
        }

module _ {s : List ℕ} {n p : ℕ} {count : ℕ → ℕ} (l : List ℕ) (w : Sound s n p count) where
  -- a whole list unlisted: what is live then was live, and its entry is as it was but for the listings
  unlisted_all_so : (c : ℕ) → ((k : ℕ) → k < c → word32 l (4 * k) < n) → (k : ℕ) → k < n → is_free (entry_of (over_list unlisted_one s l c) k) ≡ false → LiveBefore (entry_of s k) (entry_of (over_list unlisted_one s l c) k)
  unfolding over_list
  unlisted_all_so zero below k g f = record { was = f; relisted = record { is = refl } }
  unlisted_all_so (suc c) below k g f =
      let t : Sound (over_list unlisted_one s l c) n p (λ i. count i - occurrences l c i) = unlisted_all_sound l c w (λ k h. below k (omega arith)) in
      let b : LiveBefore (entry_of (over_list unlisted_one s l c) k) (entry_of (unlisted_one (over_list unlisted_one s l c) (word32 l (4 * c))) k) = unlisted_stays_so (word32 l (4 * c)) (sound_roomy t) (below c (omega arith)) k g f in
      let a : LiveBefore (entry_of s k) (entry_of (over_list unlisted_one s l c) k) = unlisted_all_so c (λ k h. below k (omega arith)) k g b.was in
      record { was = a.was; relisted = relisted_then a.relisted b.relisted }

  pub unlisted_all_stays : (c : ℕ) → ((k : ℕ) → k < c → word32 l (4 * k) < n) → (k : ℕ) → k < n → is_free (entry_of (over_list unlisted_one s l c) k) ≡ false → entry_of (over_list unlisted_one s l c) k ≡ listings_as (entry_of s k) (count k - occurrences l c k)
  unlisted_all_stays c below k g f =
      (unlisted_all_so c below k g f).relisted.is ∙ ap (listings_as (entry_of s k)) ((unlisted_all_sound l c w below).counted k g)

  -- so are its filled bytes
  pub unlisted_all_filled : (pool : List ℕ) (c : ℕ) → ((k : ℕ) → k < c → word32 l (4 * k) < n) → (k : ℕ) → k < n → is_free (entry_of (over_list unlisted_one s l c) k) ≡ false → filled_bytes (over_list unlisted_one s l c) pool k ≡ filled_bytes s pool k
  unlisted_all_filled pool c below k g f =
      filled-same s (over_list unlisted_one s l c) pool k (listings_as (entry_of s k) (count k - occurrences l c k)) (unlisted_all_stays c below k g f) refl refl

  -- a number that is held, or has a listing left, stays live
  pub unlisted_all_live : (c : ℕ) → ((k : ℕ) → k < c → word32 l (4 * k) < n) → (k : ℕ) → k < n → 0 < (entry_of s k).hold + (count k - occurrences l c k) → is_free (entry_of (over_list unlisted_one s l c) k) ≡ false
  unfolding over_list occurrences
  unlisted_all_live zero below k g o = live_is (entry_of s k) (omega (arith, w.counted k g))
  unlisted_all_live (suc c) below k g o =
      go (unlisted_all_live c (λ k h. below k (omega arith)) k g (omega (arith, occurs_grows l c k))) (ℕ_discrete k j)
    where
      t : List ℕ
      t = over_list unlisted_one s l c

      j : ℕ
      j = word32 l (4 * c)

      sound : Sound t n p (λ i. count i - occurrences l c i)
      sound = unlisted_all_sound l c w (λ k h. below k (omega arith))

      go : is_free (entry_of t k) ≡ false → Dec (k ≡ j) → is_free (entry_of (unlisted_one t j) k) ≡ false
      go f (yes d) =
          let e : (entry_of t k).hold ≡ (entry_of s k).hold = ap (λ (x : Entry). x.hold) (unlisted_all_stays c (λ k h. below k (omega arith)) k g f) in
          let m : occurrences l (suc c) k ≡ occurrences l c k + 1 = rw d (occurs_here l c) in
          let q : 0 < (entry_of t k).hold + (count k - occurrences l c k - 1) = omega arith in
          rw d (unlisted_live j sound (below c (omega arith)) (rw d at q))
      go f (no d) = ap is_free ((unlisted_changed j (sound_roomy sound) (below c (omega arith))).other k d) ∙ f

  -- one that is not held, and has none left, is free
  pub unlisted_all_frees : (c : ℕ) → ((k : ℕ) → k < c → word32 l (4 * k) < n) → (k : ℕ) → k < n → (entry_of s k).hold ≡ 0 → count k ≤ occurrences l c k → entry_of (over_list unlisted_one s l c) k ≡ no_entry
  unlisted_all_frees c below k g o m = go (is_free (entry_of (over_list unlisted_one s l c) k)) refl
    where
      t : Sound (over_list unlisted_one s l c) n p (λ i. count i - occurrences l c i)
      t = unlisted_all_sound l c w below

      go : (b : Bool) → is_free (entry_of (over_list unlisted_one s l c) k) ≡ b → entry_of (over_list unlisted_one s l c) k ≡ no_entry
      go true q = t.zero k g q
      go false q =
          let e : (entry_of (over_list unlisted_one s l c) k).hold ≡ (entry_of s k).hold = ap (λ (x : Entry). x.hold) (unlisted_all_stays c below k g q) in
          absurd (omega (arith, live_says (entry_of (over_list unlisted_one s l c) k) q, t.counted k g))

  -- a whole list listed: every entry is as it was but for the listings
  listed_all_so : (c : ℕ) → ((k : ℕ) → k < c → word32 l (4 * k) < n) → Roomy (over_list listed_one s l c) n × ((k : ℕ) → k < n → Relisted (entry_of s k) (entry_of (over_list listed_one s l c) k))
  unfolding over_list
  listed_all_so zero below = (sound_roomy w, λ k g. record { is = refl })
  listed_all_so (suc c) below =
      let a = listed_all_so c (λ k h. below k (omega arith)) in
      let h : word32 l (4 * c) < n = below c (omega arith) in (
        changed_roomy a.0 (listed-changed (word32 l (4 * c)) a.0 h),
        λ k g. relisted_then (a.1 k g) (listed_relisted (word32 l (4 * c)) a.0 h k g),
      )

  -- so are its filled bytes
  pub listed_all_filled : (pool : List ℕ) (c : ℕ) → ((k : ℕ) → k < c → word32 l (4 * k) < n) → (k : ℕ) → k < n → filled_bytes (over_list listed_one s l c) pool k ≡ filled_bytes s pool k
  listed_all_filled pool c below k g =
      filled-same s (over_list listed_one s l c) pool k (listings_as (entry_of s k) (entry_of (over_list listed_one s l c) k).listings) ((listed_all_so c below).1 k g).is refl refl

  pub listed_all_entry : (c : ℕ) → ((k : ℕ) → k < c → word32 l (4 * k) < n) → ((k : ℕ) → k < c → is_free (entry_of s (word32 l (4 * k))) ≡ false) → ((i : ℕ) → i < n → count i + occurrences l c i ≤ 4294967295) → (k : ℕ) → k < n → entry_of (over_list listed_one s l c) k ≡ listings_as (entry_of s k) (count k + occurrences l c k)
  listed_all_entry c below live few k g =
      ((listed_all_so c below).1 k g).is ∙ ap (listings_as (entry_of s k)) ((listed_all_sound l w c below live few).counted k g)
