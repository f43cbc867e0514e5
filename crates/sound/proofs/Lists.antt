-- Whole lists: sound books stay so where each number of a list is listed, or unlisted, as often as it stands there.
use Prim.Native.Nat.{ℕ, zero, suc, ◌+◌, ◌*◌, ◌-◌, ◌≤◌, ◌<◌}
use Rattle.std.specs.Prelude.{◌≡◌, refl, ◌≢◌, false, cond, List, eqb}
use Rattle.std.proofs.Common.{sym, ◌∙◌, arith, eq-eqb, ne_eqb}
use Rattle.std.proofs.Math.Path.{ap}
use Rattle.std.proofs.Math.Decide.{ℕ_discrete}
use Rattle.words.specs.Word.{word32}
use Rattle.books.specs.Entry.{entry_of, is_free}
use Rattle.listings.specs.Listing.{listed_one, unlisted_one, over_list}
use Rattle.sound.specs.Sound.{Sound, count_with}
use Rattle.sound.specs.Change.{Roomy}
use Rattle.sound.specs.OpLaws.{listed-changed}
use Rattle.sound.specs.Live.{more_live}
use Rattle.sound.specs.SoundLaws.{count_same, count_other, sound_roomy, sound_recount, changed-each}
use Rattle.sound.proofs.Kept.{listed_sound, unlisted_sound}

-- how often number i stands among the first c numbers of the list l
unfoldable pub occurrences : List ℕ → ℕ → ℕ → ℕ
occurrences l zero i = 0
occurrences l (suc c) i = occurrences l c i + cond (eqb i (word32 l (4 * c))) 1 0

-- one number more: it stands there once more, and no other does
pub occurs_here : (l : List ℕ) (c : ℕ) → occurrences l (suc c) (word32 l (4 * c)) ≡ occurrences l c (word32 l (4 * c)) + 1
unfolding occurrences
occurs_here l c = rw (eq-eqb (word32 l (4 * c)) (word32 l (4 * c)) refl)

pub occurs_not : (l : List ℕ) (c i : ℕ) → i ≢ word32 l (4 * c) → occurrences l (suc c) i ≡ occurrences l c i
unfolding occurrences
occurs_not l c i d = rw (ne_eqb i (word32 l (4 * c)) d) (omega arith)

pub occurs_grows : (l : List ℕ) (c i : ℕ) → occurrences l c i ≤ occurrences l (suc c) i
unfolding occurrences
occurs_grows l c i = omega arith

-- the counts after one number more: v there, and elsewhere as they were
counts_more : (l : List ℕ) (c : ℕ) (before after : ℕ → ℕ) (v : ℕ) → v ≡ after (word32 l (4 * c)) → ((i : ℕ) → i ≢ word32 l (4 * c) → before i ≡ after i) → (k : ℕ) → count_with before (word32 l (4 * c)) v k ≡ after k
counts_more l c before after v q f k = go (ℕ_discrete k (word32 l (4 * c)))
  where
    go : Dec (k ≡ word32 l (4 * c)) → count_with before (word32 l (4 * c)) v k ≡ after k
    go (yes d) = rw d (count_same before (word32 l (4 * c)) v ∙ q)
    go (no d) = count_other before (word32 l (4 * c)) v k d ∙ f k d

-- unlisted, each as often as it stands there
pub unlisted_all_sound : {s : List ℕ} {n p : ℕ} {count : ℕ → ℕ} (l : List ℕ) (c : ℕ) → Sound s n p count → ((k : ℕ) → k < c → word32 l (4 * k) < n) → Sound (over_list unlisted_one s l c) n p (λ i. count i - occurrences l c i)
unfolding over_list occurrences
unlisted_all_sound {count = count} l zero w below = sound_recount (λ i. count i - 0) w (λ i h. omega arith)
unlisted_all_sound {count = count} l (suc c) w below =
    sound_recount (λ i. count i - occurrences l (suc c) i)
    (unlisted_sound (word32 l (4 * c)) (unlisted_all_sound l c w (λ k h. below k (omega arith))) (below c (omega arith)))
    (λ k h.
    counts_more l c (λ i. count i - occurrences l c i) (λ i. count i - occurrences l (suc c) i) (count (word32 l (4 * c)) - occurrences l c (word32 l (4 * c)) - 1)
    (omega (arith, occurs_here l c))
    (λ i d. ap (λ (x : ℕ). count i - x) (sym (occurs_not l c i d)))
    k)

-- a listing frees nothing
pub listed_keeps : {s : List ℕ} {n : ℕ} (i : ℕ) → Roomy s n → i < n → (k : ℕ) → k < n → is_free (entry_of s k) ≡ false → is_free (entry_of (listed_one s i) k) ≡ false
listed_keeps {s} i r h =
    changed-each (listed-changed i r h) (λ k x. is_free (entry_of s k) ≡ false → is_free x ≡ false)
    (λ f. more_live (entry_of s i) (entry_of s i).listings)
    (λ k g d f. f)

-- what listing the first c numbers of a list leaves
record AllListed (s t : List ℕ) (n p : ℕ) (count : ℕ → ℕ) : Type 0 where
  still : Sound t n p count
  live : (k : ℕ) → k < n → is_free (entry_of s k) ≡ false → is_free (entry_of t k) ≡ false

module _ {s : List ℕ} {n p : ℕ} {count : ℕ → ℕ} (l : List ℕ) (w : Sound s n p count) where
  listed-all : (c : ℕ) → ((k : ℕ) → k < c → word32 l (4 * k) < n) → ((k : ℕ) → k < c → is_free (entry_of s (word32 l (4 * k))) ≡ false) → ((i : ℕ) → i < n → count i + occurrences l c i ≤ 4294967295) → AllListed s (over_list listed_one s l c) n p (λ i. count i + occurrences l c i)
  unfolding over_list occurrences
  listed-all zero below live few = record { still = sound_recount (λ i. count i + 0) w (λ i h. omega arith); live = λ k h f. f }
  listed-all (suc c) below live few =
      let a = listed-all c (λ k h. below k (omega arith)) (λ k h. live k (omega arith)) (λ i h. omega (arith, few i h, occurs_grows l c i)) in
      let j : ℕ = word32 l (4 * c) in
      let h : j < n = below c (omega arith) in
      record {
        still =
            sound_recount (λ i. count i + occurrences l (suc c) i)
            (listed_sound j a.still h (a.live j h (live c (omega arith))) (omega (arith, few j h, occurs_here l c)))
            (λ k g.
            counts_more l c (λ i. count i + occurrences l c i) (λ i. count i + occurrences l (suc c) i) (count j + occurrences l c j + 1)
            (omega (arith, occurs_here l c))
            (λ i d. ap (λ (x : ℕ). count i + x) (sym (occurs_not l c i d)))
            k);
        live = λ k g f. listed_keeps j (sound_roomy a.still) h k g (a.live k g f);
      }

  -- listed, each as often as it stands there
  pub listed_all_sound : (c : ℕ) → ((k : ℕ) → k < c → word32 l (4 * k) < n) → ((k : ℕ) → k < c → is_free (entry_of s (word32 l (4 * k))) ≡ false) → ((i : ℕ) → i < n → count i + occurrences l c i ≤ 4294967295) → Sound (over_list listed_one s l c) n p (λ i. count i + occurrences l c i)
  listed_all_sound c below live few = (listed-all c below live few).still

  -- and no number that was live is free
  pub listed_all_keeps : (c : ℕ) → ((k : ℕ) → k < c → word32 l (4 * k) < n) → ((k : ℕ) → k < c → is_free (entry_of s (word32 l (4 * k))) ≡ false) → ((i : ℕ) → i < n → count i + occurrences l c i ≤ 4294967295) → (k : ℕ) → k < n → is_free (entry_of s k) ≡ false → is_free (entry_of (over_list listed_one s l c) k) ≡ false
  listed_all_keeps c below live few = (listed-all c below live few).live
