-- The ways out of registering and letting go.
use Rattle.std.specs.Prelude.{ℕ, ◌+◌, ◌*◌, ◌≤◌, ◌<◌, ◌^◌, ◌≡◌, refl, Bool, true, false, ◌&&◌, not, cond, List, length, ltb, eqb}
use Rattle.std.proofs.Common.{sym, ◌∙◌, ap, arith}
use borrow.Author.Tests.{lt-ltb, le-ltb, eq-eqb, ne_eqb}
use Rattle.words.specs.Word.{word32}
use Rattle.words.specs.Run.{put}
use Rattle.books.specs.declared.Entry.{Entry}
use Rattle.books.specs.Entry.{used_of, entry_of}
use Rattle.listings.specs.Listing.{taken, released}
use Rattle.room.specs.declared.Room.{Room}
use Rattle.room.specs.Room.{chosen, entry_at}
use Rattle.room.specs.RoomLaws.{room_says, number_room, number_few}
use Rattle.pool.specs.Register.{registered, settled_at, refused, Registers, RegistersAt, is_held, let_go, LetsGo}
use Rattle.std.specs.Prelude.{Result, Ok, Err}

module _ (s p : List ℕ) (n : ℕ) (bytes : List ℕ) (capacity : ℕ) where
  pub short : capacity < length bytes → Registers (registered s p n bytes capacity) s p (Err 13)
  unfolding registered
  short h = let t = lt-ltb capacity (length bytes) h in record { answer_is = cc; books_are = cc; pool_is = cc }

  pub not_placed : {c : Result Room ℕ} {number : ℕ} → length bytes ≤ capacity → c ≡ chosen s n (length p) capacity → c ≡ Err number → Registers (registered s p n bytes capacity) s p (Err number)
  unfolding registered
  not_placed h e q = let t = le-ltb capacity (length bytes) h in record { answer_is = cc; books_are = cc; pool_is = cc }

  pub placed : {c : Result Room ℕ} {r : Room} {s' p' : List ℕ} → length bytes ≤ capacity → c ≡ chosen s n (length p) capacity → c ≡ Ok r → RegistersAt s p r bytes capacity s' p' → Registers (registered s p n bytes capacity) s' p' (Ok r.number)
  unfolding registered
  placed h e q w =
      let t = le-ltb capacity (length bytes) h in
      let b = w.books_are in
      let l = w.pool_is in
      record { answer_is = cc; books_are = cc; pool_is = cc }

  -- for the code: the bytes fit where they go
  pub bytes_room : {c : Result Room ℕ} {r : Room} → length bytes ≤ capacity → c ≡ chosen s n (length p) capacity → c ≡ Ok r → r.start + length bytes ≤ length p
  bytes_room {c} {r} h e q = omega (arith, (room_says s n (length p) capacity r (sym e ∙ q)).gap.fits)

  pub bytes_few : length bytes ≤ capacity → capacity < 2 ^ 32 → length bytes < 2 ^ 32
  bytes_few h l = omega arith

pub registers_at : (s p : List ℕ) (r : Room) (bytes : List ℕ) (capacity : ℕ) {s' p' : List ℕ} → s' ≡ taken s r.number.0 (entry_at r.start capacity (length bytes) 1 0) → p' ≡ put r.start bytes p → RegistersAt s p r bytes capacity s' p'
registers_at s p r bytes capacity a b = record { books_are = a; pool_is = b }

-- letting go
pub gone_beyond : (s : List ℕ) (i : ℕ) {u : ℕ} → u ≡ word32 s 0 → u ≤ i → LetsGo (let_go s i) s 13
unfolding let_go is_held used_of
gone_beyond s i {u} p h = rw (← p, le-ltb i u h) (record { answer_is = refl; books_are = refl })

pub gone_not_held : (s : List ℕ) (i : ℕ) {u : ℕ} {e : Entry} → u ≡ word32 s 0 → i < u → e ≡ entry_of s i → e.hold ≡ 0 → LetsGo (let_go s i) s 13
unfolding let_go is_held used_of
gone_not_held s i {u} {e} p h q z = rw (← p, lt-ltb i u h, ← q, eq-eqb e.hold 0 z) (record { answer_is = refl; books_are = refl })

pub gone-done : (s : List ℕ) (i : ℕ) {u : ℕ} {e : Entry} {t : List ℕ} → u ≡ word32 s 0 → i < u → e ≡ entry_of s i → (e.hold ≡ 0 → ⊥) → t ≡ released s i → LetsGo (let_go s i) t 0
unfolding let_go is_held used_of
gone-done s i {u} {e} p h q z w = rw (← p, lt-ltb i u h, ← q, ne_eqb e.hold 0 z) (record { answer_is = refl; books_are = w })
