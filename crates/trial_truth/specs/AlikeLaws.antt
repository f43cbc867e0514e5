-- Books that are alike: what is chosen out of them, and the changes that a push makes.
use Rattle.std.specs.Prelude.{ℕ, zero, suc, ◌+◌, ◌*◌, ◌-◌, ◌≤◌, ◌<◌, ◌≡◌, ◌≢◌, Bool, List, length, ltb}
use Rattle.std.proofs.Math.Path.{refl, ap}
use Rattle.std.proofs.Common.{sym, ◌∙◌, true≢false, arith, ltb-true, lt-ltb, le-ltb}
use Rattle.std.proofs.Math.Bool.{true, false, not, cond}
use Rattle.std.proofs.Math.Decide.{dec_lt, ℕ_discrete}
use Rattle.search.specs.Cases.{same_test, by_cond}
use Rattle.search.specs.Every.{every, every-says, every_is}
use Rattle.search.specs.First.{first_from}
use Rattle.words.specs.Word.{word32}
use Rattle.books.specs.declared.Entry.{Entry}
use Rattle.books.specs.Entry.{used_of, entry_of, is_free, is_free_at, occupies}
use Rattle.books.specs.EntryLaws.{free_held}
use Rattle.books.specs.SearchLaws.{free-below, free_beyond}
use Rattle.books.specs.Search.{lowest_free, clear_at, lowest_gap}
use Rattle.listings.specs.Listing.{taken, listed_one, one_more, over_list}
use Rattle.sound.specs.Change.{Changed, length_as, with_length, listings_as}
use Rattle.sound.specs.OpLaws.{listed-changed, used_listed, used_length}
use Rattle.tallies.specs.declared.Tally.{Tally}
use Rattle.tallies.specs.Tally.{with_tally}
use Rattle.tallies.specs.TallyLaws.{entry-with_tally, used_with_tally}
use Rattle.pool.specs.Register.{is_held}
use Rattle.room.specs.Room.{chosen, if_zero, block_room}
use Rattle.room.specs.RoomLaws.{room_says}
use Rattle.push_safety.specs.BooksGo.{BooksRun, BooksGo, held_says, length_at, over_go}
use Rattle.trial_truth.specs.Alike.{Alike}
use Rattle.std.specs.Prelude.{Result, Ok, Err}
use Rattle.room.specs.declared.Room.{Room}

-- the same numbers are free
module _ (s t : List ℕ) (u : used_of t ≡ used_of s) (f : (k : ℕ) → k < used_of s → is_free (entry_of t k) ≡ is_free (entry_of s k)) where
  same-free : (i : ℕ) → is_free_at t i ≡ is_free_at s i
  unfolding is_free_at
  same-free i = rw u (go (dec_lt i (used_of s)))
    where
      go : Dec (i < used_of s) → cond (ltb i (used_of s)) (is_free (entry_of t i)) true ≡ cond (ltb i (used_of s)) (is_free (entry_of s i)) true
      go (yes d) = ap (λ (x : Bool). cond (ltb i (used_of s)) x true) (f i d)
      go (no d) = rw (le-ltb i (used_of s) (omega arith))

pub free-at : {s t : List ℕ} {n : ℕ} → Alike s t n → (i : ℕ) → is_free_at t i ≡ is_free_at s i
free-at {s} {t} a i = same-free s t a.used a.free i

pub alike_refl : (s : List ℕ) (n : ℕ) → Alike s s n
alike_refl s n =
    record { used = refl; free = λ k h. refl; start = λ k h f. refl; vacant = λ k h f. refl; capacity = λ k h f. refl }

pub alike_trans : {s t u : List ℕ} {n m : ℕ} → m ≡ n → Alike s t n → Alike t u m → Alike s u n
alike_trans {s} {t} {u} e a b =
    record {
      used = b.used ∙ a.used;
      free = λ k h. b.free k (below k h) ∙ a.free k h;
      start = λ k h f. b.start k (below k h) (a.free k h ∙ f) ∙ a.start k h f;
      vacant = λ k h f. b.vacant k (omega arith) (free-at a k ∙ f) ∙ a.vacant k h f;
      capacity = λ k h f. b.capacity k (below k h) (a.free k h ∙ f) ∙ a.capacity k h f;
    }
  where
    below : (k : ℕ) → k < used_of s → k < used_of t
    below k h = omega (arith, a.used)

-- ---- the same is chosen

pub every-below : (p q : ℕ → Bool) (n : ℕ) → ((i : ℕ) → i < n → p i ≡ q i) → every p n ≡ every q n
every-below p q n h =
    same_test (every p n) (every q n)
    (λ e. every_is q n (λ i l. sym (h i l) ∙ every-says p n e i l))
    (λ e. every_is p n (λ i l. h i l ∙ every-says q n e i l))

first-same : (p q : ℕ → Bool) → ((i : ℕ) → p i ≡ q i) → (i k : ℕ) → first_from p i k ≡ first_from q i k
unfolding first_from
first-same p q h i zero = refl
first-same p q h i (suc k) = rw (first-same p q h (suc i) k, h i)

module _ {s t : List ℕ} {m : ℕ} (a : Alike s t m) where
  occupied : (i at size : ℕ) → i < used_of s → occupies (entry_of t i) at size ≡ occupies (entry_of s i) at size
  unfolding occupies
  occupied i at size h = go (is_free (entry_of s i)) refl
    where
      go : (b : Bool) → is_free (entry_of s i) ≡ b → occupies (entry_of t i) at size ≡ occupies (entry_of s i) at size
      go true e = rw (a.free i h, e)
      go false e = rw (a.free i h, a.start i h e, a.capacity i h e)

  clear_same : (size at : ℕ) → clear_at t size at ≡ clear_at s size at
  unfolding clear_at
  clear_same size at =
      rw a.used (every-below _ _ (used_of s) (λ i h. ap not (occupied i at size h)))

  pub alike_chosen : (n pool size : ℕ) → chosen t n pool size ≡ chosen s n pool size
  unfolding chosen lowest_free lowest_gap
  alike_chosen n pool size =
      rw (first-same (is_free_at t) (is_free_at s) (free-at a) 0 n, first-same (clear_at t size) (clear_at s size) (clear_same size) 0 (pool + 1 - size))

  -- and with it the room for a block
  pub alike_room : (pool size : ℕ) → block_room t m pool size ≡ block_room s m pool size
  unfolding block_room
  alike_room pool size = rw (alike_chosen m pool size) (go (chosen s m pool size) refl)
    where
      go : (c : Result Room ℕ) → chosen s m pool size ≡ c → if_zero t c ≡ if_zero s c
      go (Err number) e = refl
      go (Ok r) e =
          let f = (room_says s m pool size r e).number in
          rw (a.vacant r.number.0 f.below f.accepted)

-- ---- changes

-- one entry that is not free, which stays where it lies
pub changed_alike : {s t : List ℕ} {n i : ℕ} {e : Entry} → Changed s t n i e → i < used_of s → is_free (entry_of s i) ≡ false → used_of t ≡ used_of s → is_free e ≡ is_free (entry_of s i) → e.start ≡ (entry_of s i).start → e.capacity.0 ≡ (entry_of s i).capacity.0 → Alike s t n
changed_alike {s} {t} {n} {i} {e} c h l u f p q =
    record {
      used = u;
      free = λ k h. free k (ℕ_discrete k i);
      start = λ k h g. start k (ℕ_discrete k i);
      vacant = λ k g v. vacant k v (ℕ_discrete k i);
      capacity = λ k h g. capacity k (ℕ_discrete k i);
    }
  where
    vacant : (k : ℕ) → is_free_at s k ≡ true → Dec (k ≡ i) → entry_of t k ≡ entry_of s k
    vacant k v (yes d) = absurd (true≢false (sym v ∙ ap (is_free_at s) d ∙ free-below s i h ∙ l))
    vacant k v (no d) = c.other k d

    free : (k : ℕ) → Dec (k ≡ i) → is_free (entry_of t k) ≡ is_free (entry_of s k)
    free k (yes d) = rw (d, c.same) f
    free k (no d) = rw (c.other k d)

    start : (k : ℕ) → Dec (k ≡ i) → (entry_of t k).start ≡ (entry_of s k).start
    start k (yes d) = rw (d, c.same) p
    start k (no d) = rw (c.other k d)

    capacity : (k : ℕ) → Dec (k ≡ i) → (entry_of t k).capacity.0 ≡ (entry_of s k).capacity.0
    capacity k (yes d) = rw (d, c.same) q
    capacity k (no d) = rw (c.other k d)

-- the same entries
pub entries_alike : {s t : List ℕ} {n : ℕ} → used_of s ≤ n → used_of t ≡ used_of s → ((k : ℕ) → k < n → entry_of t k ≡ entry_of s k) → Alike s t n
entries_alike m u e =
    record {
      used = u;
      free = λ k h. rw (e k (omega arith));
      start = λ k h f. rw (e k (omega arith));
      vacant = λ k h f. e k h;
      capacity = λ k h f. rw (e k (omega arith));
    }

-- a count
pub tally_alike : {s : List ℕ} (t : Tally) (v : ℕ) → used_of s ≤ t.numbers → Alike s (with_tally s t v) t.numbers
tally_alike {s} t v u = entries_alike u (used_with_tally s t v) (λ k h. entry-with_tally s t v k h)

free-length : (e : Entry) (v : ℕ) → is_free (length_as e v) ≡ is_free e
unfolding is_free
free-length e v = refl

-- the open block filled further: only its length is another
pub length_alike : {s : List ℕ} {n p : ℕ} (i v : ℕ) → BooksRun s n p → i < used_of s → is_free (entry_of s i) ≡ false → v ≤ (entry_of s i).capacity.0 → Alike s (with_length s i v) n
length_alike {s} i v r h f l = changed_alike (length_at i v r h l) h f (used_length s i v) (free-length (entry_of s i) v) refl refl

pub length_other : {s : List ℕ} {n p : ℕ} (i v : ℕ) → BooksRun s n p → i < used_of s → v ≤ (entry_of s i).capacity.0 → (k : ℕ) → k ≢ i → entry_of (with_length s i v) k ≡ entry_of s k
length_other i v r h l k d = (length_at i v r h l).other k d

-- one that is held listed once more
listed_free : (e : Entry) (v : ℕ) → (e.hold ≡ 0 → ⊥) → is_free (listings_as e v) ≡ is_free e
listed_free e v h = sym (free_held (listings_as e v) h) ∙ free_held e h

-- the books with listings more
pub record MoreListed (s t : List ℕ) (n : ℕ) : Type 0 where
  pub alike : Alike s t n
  pub length : (k : ℕ) → (entry_of t k).length.0 ≡ (entry_of s k).length.0

listed_one_lem : {s : List ℕ} {n p : ℕ} (i : ℕ) → BooksRun s n p → is_held s i ≡ true → MoreListed s (listed_one s i) n
listed_one_lem {s} {n} i r h =
    let f = held_says s i h in
    let c : Changed s (listed_one s i) n i (listings_as (entry_of s i) (one_more (entry_of s i).listings)) = listed-changed i r.roomy (omega (arith, f.0, r.used)) in
    record {
      alike = changed_alike c f.0 (sym (free_held (entry_of s i) f.1)) (used_listed s i) (listed_free (entry_of s i) _ f.1) refl refl;
      length = λ k. at c k (ℕ_discrete k i);
    }
  where
    at : Changed s (listed_one s i) n i (listings_as (entry_of s i) (one_more (entry_of s i).listings)) → (k : ℕ) → Dec (k ≡ i) → (entry_of (listed_one s i) k).length.0 ≡ (entry_of s k).length.0
    at c k (yes d) = rw (d, c.same)
    at c k (no d) = rw (c.other k d)

-- and a list of them
pub over_listed : {s : List ℕ} {n p : ℕ} (l : List ℕ) (count : ℕ) → BooksRun s n p → ((k : ℕ) → k < count → is_held s (word32 l (4 * k)) ≡ true) → MoreListed s (over_list listed_one s l count) n
unfolding over_list
over_listed {s} {n} l zero r h = record { alike = alike_refl s n; length = λ k. refl }
over_listed {s} {n} {p} l (suc count) r h =
    let a : MoreListed s (over_list listed_one s l count) n = over_listed l count r (λ k g. h k (omega arith)) in
    let g : BooksGo s (over_list listed_one s l count) n p = (over_go l count r (λ k d. (held_says s (word32 l (4 * k)) (h k (omega arith))).0)).0 in
    let b : MoreListed (over_list listed_one s l count) (listed_one (over_list listed_one s l count) (word32 l (4 * count))) n = listed_one_lem (word32 l (4 * count)) g.run (g.held (word32 l (4 * count)) (h count (omega arith))) in
    record { alike = alike_trans refl a.alike b.alike; length = λ k. b.length k ∙ a.length k }

-- ---- a block taken in both

pub more_used : (u i : ℕ) → u ≤ cond (ltb i u) u (i + 1)
more_used u i = go (dec_lt i u)
  where
    go : Dec (i < u) → u ≤ cond (ltb i u) u (i + 1)
    go (yes d) = rw (lt-ltb i u d) (omega arith)
    go (no d) = rw (le-ltb i u (omega arith)) (omega arith)

-- at the number i, by an entry each: e in the books s and f in the books t, of the same place in the pool
pub record TakenBoth (s t : List ℕ) (n i : ℕ) (e f : Entry) : Type 0 where
  pub used : used_of (taken s i e) ≡ cond (ltb i (used_of s)) (used_of s) (i + 1)
  pub used' : used_of (taken t i f) ≡ cond (ltb i (used_of t)) (used_of t) (i + 1)
  pub changed : Changed s (taken s i e) n i e
  pub changed' : Changed t (taken t i f) n i f
  pub most : i ≤ used_of s
  pub live : is_free e ≡ false
  pub live' : is_free f ≡ false
  pub start_is : f.start ≡ e.start
  pub capacity_is : f.capacity.0 ≡ e.capacity.0

pub taken_alike : {s t : List ℕ} {n i : ℕ} {e f : Entry} → Alike s t n → TakenBoth s t n i e f → Alike (taken s i e) (taken t i f) n
taken_alike {s} {t} {n} {i} {e} {f} a o =
    record {
      used = o.used' ∙ rw a.used (sym o.used);
      free = λ k h. free k h (ℕ_discrete k i);
      start = λ k h g. start k h g (ℕ_discrete k i);
      vacant = λ k h g. vacant k h g (ℕ_discrete k i);
      capacity = λ k h g. capacity k h g (ℕ_discrete k i);
    }
  where
    more : used_of s ≤ used_of (taken s i e)
    more = rw o.used (more_used (used_of s) i)

    here : i < used_of (taken s i e)
    here = rw o.used (by_cond (λ (u : ℕ). i < u) (ltb i (used_of s)) (λ q. ltb-true i (used_of s) q) (λ q. omega arith))

    -- a number that is free now was free, and is another
    vacant : (k : ℕ) → k < n → is_free_at (taken s i e) k ≡ true → Dec (k ≡ i) → entry_of (taken t i f) k ≡ entry_of (taken s i e) k
    vacant k h g (yes m) =
        absurd (true≢false (sym g ∙ ap (is_free_at (taken s i e)) m ∙ free-below (taken s i e) i here ∙ ap is_free o.changed.same ∙ o.live))
    vacant k h g (no m) =
        o.changed'.other k m ∙ a.vacant k h (was (dec_lt k (used_of s))) ∙ sym (o.changed.other k m)
      where
        was : Dec (k < used_of s) → is_free_at s k ≡ true
        was (yes d) = free-below s k d ∙ sym (ap is_free (o.changed.other k m)) ∙ sym (free-below (taken s i e) k (omega (arith, more))) ∙ g
        was (no d) = free_beyond s k (omega arith)

    old : (k : ℕ) → k < used_of (taken s i e) → k ≢ i → k < used_of s
    old k h m = go (dec_lt i (used_of s)) (rw o.used at h)
      where
        go : Dec (i < used_of s) → k < cond (ltb i (used_of s)) (used_of s) (i + 1) → k < used_of s
        go (yes z) g = rw (lt-ltb i (used_of s) z) at g
        go (no z) g = let j : k < i + 1 = rw (le-ltb i (used_of s) (omega arith)) at g in omega (arith, o.most)

    free : (k : ℕ) → k < used_of (taken s i e) → Dec (k ≡ i) → is_free (entry_of (taken t i f) k) ≡ is_free (entry_of (taken s i e) k)
    free k h (yes m) = rw (m, o.changed.same, o.changed'.same) (o.live' ∙ sym o.live)
    free k h (no m) = rw (o.changed.other k m, o.changed'.other k m) (a.free k (old k h m))

    start : (k : ℕ) → k < used_of (taken s i e) → is_free (entry_of (taken s i e) k) ≡ false → Dec (k ≡ i) → (entry_of (taken t i f) k).start ≡ (entry_of (taken s i e) k).start
    start k h g (yes m) = rw (m, o.changed.same, o.changed'.same) o.start_is
    start k h g (no m) = let z : is_free (entry_of s k) ≡ false = rw (o.changed.other k m) at g in rw (o.changed.other k m, o.changed'.other k m) (a.start k (old k h m) z)

    capacity : (k : ℕ) → k < used_of (taken s i e) → is_free (entry_of (taken s i e) k) ≡ false → Dec (k ≡ i) → (entry_of (taken t i f) k).capacity.0 ≡ (entry_of (taken s i e) k).capacity.0
    capacity k h g (yes m) = rw (m, o.changed.same, o.changed'.same) o.capacity_is
    capacity k h g (no m) = let z : is_free (entry_of s k) ≡ false = rw (o.changed.other k m) at g in rw (o.changed.other k m, o.changed'.other k m) (a.capacity k (old k h m) z)
