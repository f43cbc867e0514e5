-- What the changes of the books leave of the filled bytes: those of every other number, and of the same one where it stays live.
use Rattle.std.specs.Prelude.{ℕ, ◌+◌, ◌-◌, ◌≤◌, ◌<◌, ◌^◌, ◌≡◌, refl, ◌≢◌, true, false, List, length}
use Rattle.std.proofs.Common.{sym, ◌∙◌, true≢false}
use Rattle.std.proofs.Math.Path.{ap}
use native.Mathlib.Omega.{arith}
use Rattle.std.proofs.Math.Decide.{ℕ_discrete}
use Rattle.words.specs.Run.{read}
use Rattle.words.specs.RunLaws.{read-read}
use Rattle.words.specs.Frame.{Framed}
use Rattle.books.specs.declared.Entry.{Entry}
use Rattle.books.specs.Entry.{entry_of, is_free, is_free_at}
use Rattle.books.specs.EntryLaws.{EntryWords, entry-fits}
use Rattle.listings.specs.Listing.{taken, freed, listed_one, unlisted_one, released}
use Rattle.sound.specs.Sound.{Sound, filled_bytes}
use Rattle.sound.specs.Change.{Changed, hold_as, listings_as, or_free, with_length}
use Rattle.sound.specs.OpLaws.{taken-changed, freed-changed, length-changed, listed-changed, unlisted_changed, released-changed}
use Rattle.sound.specs.Live.{unused_still}
use Rattle.sound.specs.Top.{no_free}
use Rattle.sound.specs.SoundLaws.{sound_roomy}
use Rattle.sound.proofs.Filled.{block_filled}
use Rattle.sound.specs.Freed.{free-entry}

-- entries with the same start and length
pub filled-same : (s t pool : List ℕ) (k : ℕ) (e : Entry) → entry_of t k ≡ e → e.start ≡ (entry_of s k).start → e.length.0 ≡ (entry_of s k).length.0 → filled_bytes t pool k ≡ filled_bytes s pool k
unfolding filled_bytes
filled-same s t pool k e q a b = ap (λ (x : Entry). read x.start x.length.0 pool) q ∙ rw (a, b)

-- a change of number i leaves those of every other number
pub changed-filled : {s t : List ℕ} {n i : ℕ} {e : Entry} (pool : List ℕ) → Changed s t n i e → (k : ℕ) → k ≢ i → filled_bytes t pool k ≡ filled_bytes s pool k
changed-filled {s} {t} pool c k d = filled-same s t pool k (entry_of s k) (c.other k d) refl refl

-- and those of number i, where it keeps its start and its length
pub changed_filled_same : {s t : List ℕ} {n i : ℕ} {e : Entry} (pool : List ℕ) → Changed s t n i e → e.start ≡ (entry_of s i).start → e.length.0 ≡ (entry_of s i).length.0 → filled_bytes t pool i ≡ filled_bytes s pool i
changed_filled_same {s} {t} {n} {i} {e} pool c a b = filled-same s t pool i e c.same a b

-- so too where it is freed if unused, and was used
unused_filled_same : {s t : List ℕ} {n i : ℕ} (pool : List ℕ) (e : Entry) → Changed s t n i (or_free e) → e.start ≡ (entry_of s i).start → e.length.0 ≡ (entry_of s i).length.0 → is_free (entry_of t i) ≡ false → filled_bytes t pool i ≡ filled_bytes s pool i
unused_filled_same {s} {t} {n} {i} pool e c a b f =
    let g : is_free (or_free e) ≡ false = rw c.same at f in
    filled-same s t pool i e (c.same ∙ unused_still e g) a b

module _ {s : List ℕ} {n p : ℕ} {count : ℕ → ℕ} (pool : List ℕ) (i : ℕ) (w : Sound s n p count) (h : i < n) where
  -- taken: of every other number; so of every live one, where number i was free
  pub taken-filled : (e : Entry) → EntryWords e → (k : ℕ) → k ≢ i → filled_bytes (taken s i e) pool k ≡ filled_bytes s pool k
  taken-filled e f = changed-filled pool (taken-changed i (sound_roomy w) h e f)

  pub taken_filled_live : (e : Entry) → EntryWords e → is_free_at s i ≡ true → (k : ℕ) → is_free (entry_of s k) ≡ false → filled_bytes (taken s i e) pool k ≡ filled_bytes s pool k
  taken_filled_live e f a k g = taken-filled e f k other
    where
      other : k ≢ i
      other q = true≢false (sym no_free ∙ ap is_free (sym (free-entry i w h a)) ∙ ap (λ (j : ℕ). is_free (entry_of s j)) (sym q) ∙ g)

  -- freed: of every other number
  pub freed-filled : (k : ℕ) → k ≢ i → filled_bytes (freed s i) pool k ≡ filled_bytes s pool k
  freed-filled = changed-filled pool (freed-changed i (sound_roomy w) h)

  -- listed: of every number
  pub listed-filled : (k : ℕ) → filled_bytes (listed_one s i) pool k ≡ filled_bytes s pool k
  listed-filled k = go (ℕ_discrete k i)
    where
      go : Dec (k ≡ i) → filled_bytes (listed_one s i) pool k ≡ filled_bytes s pool k
      go (yes d) = rw d (changed_filled_same pool (listed-changed i (sound_roomy w) h) refl refl)
      go (no d) = changed-filled pool (listed-changed i (sound_roomy w) h) k d

  -- unlisted, let go: of every other number, and of number i where it stays live
  pub unlisted_filled : (k : ℕ) → k ≢ i → filled_bytes (unlisted_one s i) pool k ≡ filled_bytes s pool k
  unlisted_filled = changed-filled pool (unlisted_changed i (sound_roomy w) h)

  pub unlisted_filled_same : is_free (entry_of (unlisted_one s i) i) ≡ false → filled_bytes (unlisted_one s i) pool i ≡ filled_bytes s pool i
  unlisted_filled_same = unused_filled_same pool (listings_as (entry_of s i) ((entry_of s i).listings - 1)) (unlisted_changed i (sound_roomy w) h) refl refl

  pub released-filled : (k : ℕ) → k ≢ i → filled_bytes (released s i) pool k ≡ filled_bytes s pool k
  released-filled = changed-filled pool (released-changed i (sound_roomy w) h)

  pub released_filled_same : is_free (entry_of (released s i) i) ≡ false → filled_bytes (released s i) pool i ≡ filled_bytes s pool i
  released_filled_same = unused_filled_same pool (hold_as (entry_of s i) 0) (released-changed i (sound_roomy w) h) refl refl

  -- filled up to v: of every other number, and of number i the first v bytes of its block
  pub length-filled : (v : ℕ) → v < 2 ^ 32 → (k : ℕ) → k ≢ i → filled_bytes (with_length s i v) pool k ≡ filled_bytes s pool k
  length-filled v f = changed-filled pool (length-changed i (sound_roomy w) h v f)

  pub length_filled_same : (v : ℕ) → v < 2 ^ 32 → filled_bytes (with_length s i v) pool i ≡ read (entry_of s i).start v pool
  unfolding filled_bytes
  length_filled_same v f = ap (λ (x : Entry). read x.start x.length.0 pool) (length-changed i (sound_roomy w) h v f).same

  -- block i written in its free part and filled up to v: of every other number, and of number i those that it had filled
  pub grown-filled : {after : List ℕ} (v : ℕ) → v < 2 ^ 32 → p ≤ length pool → Framed ((entry_of s i).start + (entry_of s i).length.0) ((entry_of s i).start + (entry_of s i).capacity.0) pool after → (k : ℕ) → k < n → k ≢ i → filled_bytes (with_length s i v) after k ≡ filled_bytes s pool k
  grown-filled {after} v f l g k m d = changed-filled after (length-changed i (sound_roomy w) h v f) k d ∙ block_filled w i l h g k m

  pub grown_filled_same : {after : List ℕ} (v : ℕ) → (entry_of s i).length.0 ≤ v → v ≤ (entry_of s i).capacity.0 → p ≤ length pool → Framed ((entry_of s i).start + (entry_of s i).length.0) ((entry_of s i).start + (entry_of s i).capacity.0) pool after → read 0 (entry_of s i).length.0 (filled_bytes (with_length s i v) after i) ≡ filled_bytes s pool i
  unfolding filled_bytes
  grown_filled_same {after} v a b l g =
      let c = length-changed i (sound_roomy w) h v (omega (arith, (entry-fits s i w.bytes).capacity_fits)) in
      let z : (entry_of s i).start + 0 ≡ (entry_of s i).start = omega arith in
      ap (λ (x : Entry). read 0 (entry_of s i).length.0 (read x.start x.length.0 after)) c.same
      ∙ read-read 0 (entry_of s i).length.0 (entry_of s i).start v after (omega arith) (omega (arith, g.len, w.inside i h))
      ∙ ap (λ (x : ℕ). read x (entry_of s i).length.0 after) z
      ∙ block_filled w i l h g i h
