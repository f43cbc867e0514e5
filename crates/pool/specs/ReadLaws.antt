-- The ways out of the reads and of the test of ranges, and what they say.
use Rattle.std.specs.Prelude.{ℕ, ◌+◌, ◌*◌, ◌-◌, ◌≤◌, ◌<◌, ◌≡◌, refl, Bool, true, false, ◌&&◌, not, cond, List, [], length, take, drop, ltb, leb}
use Rattle.std.proofs.Common.{sym, ◌∙◌, ap, arith, ltb-true, leb-true, lt-ltb, le-ltb, le-leb}
use Rattle.std.proofs.Math.Bool.{and-eq-true_iff}
use Rattle.std.proofs.Math.Nat.{add-sub_cancel_left}
use Rattle.std.proofs.lemmas.Bool.{lt-leb, not-true}
use Rattle.search.specs.Cases.{by_cond, both, both_fails, both_rest}
use Rattle.search.specs.Every.{every, every-says, every_is, All, all_none, all_more, all_fails, all_done}
use Rattle.words.specs.Word.{word32}
use Rattle.words.specs.Run.{read}
use Rattle.words.specs.RunLaws.{part_read}
use Rattle.books.specs.declared.Entry.{Entry}
use Rattle.books.specs.Entry.{used_of, entry_of, is_free}
use Rattle.pool.specs.Read.{is_there, read_refusal, part_of, fits_in, in_range}

-- the ways out of buffer_refusal
pub read_beyond : (s p : List ℕ) (i : ℕ) {u : ℕ} → u ≡ word32 s 0 → u ≤ i → 13 ≡ read_refusal s p i
unfolding read_refusal is_there used_of
read_beyond s p i {u} e h = rw (← e, le-ltb i u h)

pub read-free : (s p : List ℕ) (i : ℕ) {u : ℕ} {e : Entry} {r : Bool} → u ≡ word32 s 0 → i < u → e ≡ entry_of s i → r ≡ is_free e → r ≡ true → 13 ≡ read_refusal s p i
unfolding read_refusal is_there used_of
read-free s p i {u} {e} {r} a h q t z = rw (← a, lt-ltb i u h, ← q, ← t, z)

pub read_past : (s p : List ℕ) (i : ℕ) {u : ℕ} {e : Entry} {r : Bool} → u ≡ word32 s 0 → i < u → e ≡ entry_of s i → r ≡ is_free e → r ≡ false → length p < e.start + e.length.0 → 13 ≡ read_refusal s p i
unfolding read_refusal is_there used_of
read_past s p i {u} {e} {r} a h q t z l = rw (← a, lt-ltb i u h, ← q, ← t, z, lt-leb (e.start + e.length.0) (length p) l)

pub read_done : (s p : List ℕ) (i : ℕ) {u : ℕ} {e : Entry} {r : Bool} → u ≡ word32 s 0 → i < u → e ≡ entry_of s i → r ≡ is_free e → r ≡ false → e.start + e.length.0 ≤ length p → 0 ≡ read_refusal s p i
unfolding read_refusal is_there used_of
read_done s p i {u} {e} {r} a h q t z l = rw (← a, lt-ltb i u h, ← q, ← t, z, le-leb (e.start + e.length.0) (length p) l)

-- what a buffer that is there says
pub record There (s p : List ℕ) (i : ℕ) : Type 0 where
  pub in_use : i < used_of s
  pub live : is_free (entry_of s i) ≡ false
  pub within : (entry_of s i).start + (entry_of s i).length.0 ≤ length p

there_says : (s p : List ℕ) (i : ℕ) → is_there s p i ≡ true → There s p i
unfolding is_there
there_says s p i h =
    let a = (and-eq-true_iff (ltb i (used_of s)) (not (is_free (entry_of s i)) && leb ((entry_of s i).start + (entry_of s i).length.0) (length p))).0 h in
    let b = (and-eq-true_iff (not (is_free (entry_of s i))) (leb ((entry_of s i).start + (entry_of s i).length.0) (length p))).0 a.1 in
    record {
      in_use = ltb-true i (used_of s) a.0;
      live = not-true (is_free (entry_of s i)) b.0;
      within = leb-true ((entry_of s i).start + (entry_of s i).length.0) (length p) b.1;
    }

is_there_lem : (s p : List ℕ) (i : ℕ) {n : ℕ} → n ≡ read_refusal s p i → n ≡ 0 → is_there s p i ≡ true
unfolding read_refusal
is_there_lem s p i {n} e z = go (is_there s p i) (sym e ∙ z)
  where
    go : (b : Bool) → ◌≡◌ {A = ℕ} (cond b 0 13) 0 → b ≡ true
    go true q = refl
    go false q = absurd (omega arith)

not_there : (s p : List ℕ) (i : ℕ) {n : ℕ} → n ≡ read_refusal s p i → (n ≡ 0 → ⊥) → is_there s p i ≡ false
unfolding read_refusal
not_there s p i {n} e z = go (is_there s p i) e
  where
    go : (b : Bool) → n ≡ cond b 0 13 → b ≡ false
    go true q = absurd (z q)
    go false q = refl

pub not_refused : (s p : List ℕ) (i : ℕ) {n : ℕ} → n ≡ read_refusal s p i → n ≡ 0 → There s p i
not_refused s p i e z = there_says s p i (is_there_lem s p i e z)

-- for buffer_part: its entry is there, its part lies in the pool; and its ways out
pub part_room : (s p : List ℕ) (i : ℕ) {n : ℕ} → n ≡ read_refusal s p i → n ≡ 0 → 4 + 20 * used_of s ≤ length s → 24 + 20 * i ≤ length s
part_room s p i e z h = omega (arith, (not_refused s p i e z).in_use)

pub part_within : (s p : List ℕ) (i : ℕ) {n : ℕ} {e : Entry} → n ≡ read_refusal s p i → n ≡ 0 → e ≡ entry_of s i → e.start + e.length.0 ≤ length p
part_within s p i {n} {e} a z q = rw q (not_refused s p i a z).within

pub part_is : (s p : List ℕ) (i : ℕ) {n : ℕ} {e : Entry} → n ≡ read_refusal s p i → n ≡ 0 → e ≡ entry_of s i → take (e.start + e.length.0 - e.start) (drop e.start p) ≡ part_of s p i
unfolding part_of
part_is s p i {n} {e} a z q = rw (is_there_lem s p i a z, part_read e.start e.length.0 p, q)

pub part_not : (s p : List ℕ) (i : ℕ) {n : ℕ} → n ≡ read_refusal s p i → (n ≡ 0 → ⊥) → [] ≡ part_of s p i
unfolding part_of
part_not s p i {n} a z = rw (not_there s p i a z)

-- the ways out of fits_in
pub fits_last : (p : ℕ) (e : Entry) → e.start + e.capacity.0 ≤ p → e.length.0 ≤ e.capacity.0 → leb e.hold 1 ≡ fits_in p e
unfolding fits_in
fits_last p e a b = rw (le-leb (e.start + e.capacity.0) p a, le-leb e.length.0 e.capacity.0 b)

pub fits-long : (p : ℕ) (e : Entry) → e.start + e.capacity.0 ≤ p → e.capacity.0 < e.length.0 → false ≡ fits_in p e
unfolding fits_in
fits-long p e a b = rw (le-leb (e.start + e.capacity.0) p a, lt-leb e.length.0 e.capacity.0 b)

pub fits_past : (p : ℕ) (e : Entry) → p < e.start + e.capacity.0 → false ≡ fits_in p e
unfolding fits_in
fits_past p e a = rw (lt-leb (e.start + e.capacity.0) p a)

-- books_in_range: its turns and its ways out
abbrev pub fit : List ℕ → ℕ → ℕ → Bool
fit s p i = fits_in p (entry_of s i)

pub range_none : (s : List ℕ) (p : ℕ) → All (fit s p) 0
range_none s p = all_none (fit s p)

pub range_more : (s : List ℕ) (p i : ℕ) {e : Entry} {r : Bool} → All (fit s p) i → e ≡ entry_of s i → r ≡ fits_in p e → r ≡ true → All (fit s p) (i + 1)
range_more s p i {e} {r} a q t z = all_more a (rw (← q, ← t) z)

pub range_room : (s : List ℕ) (n : ℕ) {u i : ℕ} → u ≡ word32 s 0 → u ≤ n → i < u → 4 + 20 * n ≤ length s → 24 + 20 * i ≤ length s
range_room s n e a l h = omega arith

pub range_over : (s : List ℕ) (n p : ℕ) {u : ℕ} → u ≡ word32 s 0 → n < u → false ≡ in_range s n p
unfolding in_range used_of
range_over s n p {u} e h = rw (← e, lt-leb u n h)

pub range_fails : (s : List ℕ) (n p i : ℕ) {u : ℕ} {e : Entry} {r : Bool} → u ≡ word32 s 0 → u ≤ n → i < u → e ≡ entry_of s i → r ≡ fits_in p e → r ≡ false → false ≡ in_range s n p
unfolding in_range used_of
range_fails s n p i {u} {e} {r} a h l q t z =
    rw (← a, le-leb u n h) (all_fails (fit s p) u i l (rw (← q, ← t) z))

pub range_done : (s : List ℕ) (n p i : ℕ) {u : ℕ} → u ≡ word32 s 0 → u ≤ n → All (fit s p) i → u ≤ i → true ≡ in_range s n p
unfolding in_range used_of
range_done s n p i {u} a h o l = rw (← a, le-leb u n h) (all_done u o l)

-- what the test says of each buffer in use
pub record Ranged (s : List ℕ) (p i : ℕ) : Type 0 where
  pub inside : (entry_of s i).start + (entry_of s i).capacity.0 ≤ p
  pub filled : (entry_of s i).length.0 ≤ (entry_of s i).capacity.0
  pub held : (entry_of s i).hold ≤ 1

pub range_says : (s : List ℕ) (n p : ℕ) → in_range s n p ≡ true → (used_of s ≤ n) × ((i : ℕ) → i < used_of s → Ranged s p i)
unfolding in_range fits_in
range_says s n p h =
    let a = (and-eq-true_iff (leb (used_of s) n) (every (fit s p) (used_of s))).0 h in (
      leb-true (used_of s) n a.0,
      λ i l.
          let b = (and-eq-true_iff (leb ((entry_of s i).start + (entry_of s i).capacity.0) p) (leb (entry_of s i).length.0 (entry_of s i).capacity.0 && leb (entry_of s i).hold 1)).0 (every-says (fit s p) (used_of s) a.1 i l) in
          let c = (and-eq-true_iff (leb (entry_of s i).length.0 (entry_of s i).capacity.0) (leb (entry_of s i).hold 1)).0 b.1 in
          record {
            inside = leb-true ((entry_of s i).start + (entry_of s i).capacity.0) p b.0;
            filled = leb-true (entry_of s i).length.0 (entry_of s i).capacity.0 c.0;
            held = leb-true (entry_of s i).hold 1 c.1;
          },
    )
