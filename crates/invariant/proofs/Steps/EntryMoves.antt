-- A change of pool and books within their entries: slots, lists and counts are as they were.
use Rattle.std.specs.Prelude.{ℕ, ◌+◌, ◌*◌, ◌≤◌, ◌<◌, ◌≡◌, List}
use Rattle.std.proofs.Math.Path.{refl, sym}
use native.Mathlib.Omega.{arith}
use Rattle.words.specs.Frame.{Framed}
use Rattle.sound.specs.Sound.{Sound}
use Rattle.sound.specs.SoundLaws.{sound_recount}
use Rattle.state.specs.World.{World}
use Rattle.state.specs.Layout.{list_length, rows_in}
use Rattle.state.specs.Rows.{listed_at}
use Rattle.rules.specs.Views.{open_number}
use Rattle.rules.specs.Stays.{same_refl}
use Rattle.push_safety.specs.Firm.{same_list_length}
use Rattle.invariant.specs.Holding.{reach, number_at, listings, Unheld, Holding, Stands}
use Rattle.invariant.proofs.Rests.{Lists}
use Rattle.invariant.proofs.CountLaws.{times_same, listings-same}
use Rattle.invariant.specs.Steps.Moves.{BitsStill}
use Rattle.invariant.proofs.Steps.MoveLaws.{Remains}
use Rattle.invariant.proofs.Steps.OpenMoves.{same_rows_in}

-- the world with other books and another pool
abbrev pub in_memory : World → List ℕ → List ℕ → World
in_memory w pool books = record { state = w.state; slots = w.slots; pool = pool; books = books }

module _ (w : World) (pool books : List ℕ) (f : Framed 0 (4 + 20 * w.state.numbers) w.books books) where
  pub memory-length : (slot c : ℕ) → list_length (in_memory w pool books) slot c ≡ list_length w slot c
  memory-length slot c = same_list_length w (in_memory w pool books) (same_refl w.state) f slot c

  pub memory-rows : (slot : ℕ) → rows_in (in_memory w pool books) slot ≡ rows_in w slot
  memory-rows slot = same_rows_in w (in_memory w pool books) (same_refl w.state) f slot

  pub memory-entry : (slot c i : ℕ) → listed_at (in_memory w pool books) slot c i ≡ listed_at w slot c i
  unfolding listed_at
  memory-entry slot c i = refl

  pub memory-reach : (slot c : ℕ) → reach (in_memory w pool books) slot c ≡ reach w slot c
  unfolding reach
  memory-reach slot c = rw (memory-length slot c)

  pub memory-number : (slot c i : ℕ) → number_at (in_memory w pool books) slot c i ≡ number_at w slot c i
  unfolding number_at open_number
  memory-number slot c i = rw (memory-length slot c, memory-entry slot c i)

  pub memory_lists : (slot c : ℕ) → Lists w (in_memory w pool books) slot c
  memory_lists slot c = record { more = omega (arith, memory-reach slot c); same = λ i h. memory-number slot c i }

  pub memory-listings : (k : ℕ) → listings (in_memory w pool books) k ≡ listings w k
  memory-listings k =
      listings-same w (in_memory w pool books) refl refl k (λ slot c p q. times_same w (in_memory w pool books) slot c k (memory-reach slot c) (λ i h. memory-number slot c i))

  pub memory_still : BitsStill w (in_memory w pool books)
  memory_still = record { bit = λ slot c i p q h. refl }

  module _ {ext : ℕ → ℕ} (a : Holding w ext) (s : Sound books w.state.numbers w.state.pool.0 (listings w)) where
    pub memory_remains : ((slot c j : ℕ) → slot ≤ w.state.queue → c < w.state.columns → j < reach w slot c → Stands w (in_memory w pool books) (number_at w slot c j)) → Unheld w.state books → Remains w ext (in_memory w pool books)
    unfolding listed_at
    memory_remains stands unheld =
        record {
          rests = λ slot c i p q h. record { bit = refl; cell = record { byte = λ x y l m n. let t : x ≡ y = omega arith in rw t } };
          lists = λ slot c p q. memory_lists slot c;
          stands = stands;
          sound = sound_recount (listings (in_memory w pool books)) s (λ k l. sym (memory-listings k));
          listed = λ slot c i p q h. a.listed slot c i p q (omega (arith, memory-length slot c));
          sizes = a.sizes;
          sixteen = a.sixteen;
          alone = a.alone;
          unheld = unheld;
          rows = λ slot p. memory-rows slot;
          unlisted = λ slot c p d q. memory-length slot c;
        }
