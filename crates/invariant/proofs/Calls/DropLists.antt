-- The lists of the front slot unlisted: what another slot lists keeps its bytes.
use Prim.Native.Nat.{ℕ, zero, suc, ◌+◌, ◌*◌, ◌-◌, ◌≤◌, ◌<◌}
use Rattle.std.specs.Prelude.{◌≡◌, ◌≢◌, Bool, true, false, eqb}
use Rattle.std.proofs.Math.Path.{refl, sym, ap}
use Rattle.std.proofs.Common.{◌∙◌, arith}
use Rattle.std.proofs.Math.Bool.{cond}
use mathlib.Core.List.{List}
use Rattle.words.specs.Word.{word32}
use Rattle.words.specs.Run.{read}
use Rattle.words.specs.Frame.{Framed}
use Rattle.words.specs.FrameLaws.{framed_refl, framed_trans, word_read}
use Rattle.books.specs.declared.Entry.{Entry}
use Rattle.books.specs.Entry.{entry_of, is_free}
use Rattle.listings.specs.Listing.{unlisted_one, over_list}
use Rattle.sound.specs.Sound.{Sound, filled_bytes}
use Rattle.sound.specs.Change.{Roomy, listings_as}
use Rattle.sound.specs.Live.{live_is, live_says}
use Rattle.sound.specs.OpLaws.{changed_roomy, unlisted_changed}
use Rattle.sound.specs.SoundLaws.{sound_roomy, sound_recount}
use Rattle.sound.proofs.Lists.{occurrences, unlisted_all_sound}
use Rattle.sound.proofs.ListKept.{Relisted, unlisted_all_filled, unlisted_all_stays, unlisted_all_live}
use Rattle.state.specs.World.{World}
use Rattle.state.specs.Layout.{is_views, list_place, list_length}
use Rattle.state.specs.Rows.{listed_at}
use Rattle.rules.specs.Batch.{sum_to}
use Rattle.rules.specs.Steps.{each, in_books}
use Rattle.rules.specs.Calls.{list_dropped}
use Rattle.invariant.specs.Holding.{reach, number_at, times_in, listings, Holding}
use Rattle.invariant.proofs.Rests.{reach_plain, reach_other, number-listed}
use Rattle.invariant.proofs.CountLaws.{sum_ext, sum_grows}
use Rattle.invariant.proofs.Steps.AttachMoves.{occurs_sum}
use Rattle.invariant.proofs.Steps.EntryMoves.{memory-length}

-- a list unlisted stays within the entries
over_framed : {s : List ℕ} {n : ℕ} (l : List ℕ) (count : ℕ) → Roomy s n → ((k : ℕ) → k < count → word32 l (4 * k) < n) → Framed 0 (4 + 20 * n) s (over_list unlisted_one s l count) × Roomy (over_list unlisted_one s l count) n
unfolding over_list
over_framed {s} {n} l zero r h = (framed_refl 0 (4 + 20 * n) s, r)
over_framed {s} {n} l (suc count) r h =
    let a = over_framed l count r (λ k g. h k (omega arith)) in
    let c = unlisted_changed (word32 l (4 * count)) a.1 (h count (omega arith)) in
    (framed_trans a.0 c.framed, changed_roomy a.1 c)

module _ {w : World} {ext : ℕ → ℕ} (slot : ℕ) (a : Holding w ext) (p : slot ≤ w.state.queue) (d : slot ≢ w.state.place) where
  -- the list of a column of the slot, and its numbers
  abbrev pub list : ℕ → List ℕ
  list c = read (list_place w.state slot c) (4 * list_length w slot c) w.slots

  word_is : (c i : ℕ) → i < list_length w slot c → word32 (list c) (4 * i) ≡ listed_at w slot c i
  unfolding listed_at
  word_is c i h = word_read (list_place w.state slot c) (4 * list_length w slot c) w.slots (4 * i) (omega arith)

  reach_is : (c : ℕ) → c < w.state.columns → reach w slot c ≡ list_length w slot c
  reach_is c q = go (is_views w.state c) refl
    where
      go : (b : Bool) → is_views w.state c ≡ b → reach w slot c ≡ list_length w slot c
      go true y = reach_other w slot c y d
      go false y = reach_plain w slot c y ∙ sym (a.run.none slot c p q y)

  occurs_is : (c k : ℕ) → c < w.state.columns → occurrences (list c) (list_length w slot c) k ≡ times_in w slot c k
  unfolding times_in
  occurs_is c k q =
      occurs_sum (list c) (list_length w slot c) k
      ∙ sum_ext (list_length w slot c) _ _ (λ i h. ap (λ (x : ℕ). cond (eqb k x) 1 0) (word_is c i h ∙ sym (number-listed w slot c i h)))
      ∙ ap (λ (n : ℕ). sum_to n (λ i. cond (eqb k (number_at w slot c i)) 1 0)) (sym (reach_is c q))

  -- the listings of the first n columns of the slot
  abbrev pub gone : ℕ → ℕ → ℕ
  gone n k = sum_to n (λ c. times_in w slot c k)

  -- the books after n columns count that many less, and what is listed more often is live and keeps its bytes
  pub record Unlisted (n : ℕ) (books : List ℕ) : Type 0 where
    pub framed : Framed 0 (4 + 20 * w.state.numbers) w.books books
    pub sound : Sound books w.state.numbers w.state.pool.0 (λ k. listings w k - gone n k)
    pub live : (k : ℕ) → k < w.state.numbers → gone w.state.columns k < listings w k → is_free (entry_of books k) ≡ false
    pub filled : (k : ℕ) → k < w.state.numbers → gone w.state.columns k < listings w k → filled_bytes books w.pool k ≡ filled_bytes w.books w.pool k
    -- the entry of a number that is live then is as it was but for its listings; and what the caller holds is live
    pub relisted : (k : ℕ) → k < w.state.numbers → is_free (entry_of books k) ≡ false → Relisted (entry_of w.books k) (entry_of books k)
    pub held : (k : ℕ) → k < w.state.numbers → 0 < (entry_of w.books k).hold → is_free (entry_of books k) ≡ false

  none_yet : Unlisted 0 w.books
  unfolding sum_to
  none_yet =
      record {
        framed = framed_refl 0 (4 + 20 * w.state.numbers) w.books;
        sound = sound_recount (λ k. listings w k - 0) a.sound (λ k l. omega arith);
        live = λ k l m. live_is (entry_of w.books k) (omega (arith, a.sound.counted k l));
        filled = λ k l m. refl;
        relisted = λ k l f. record { is = refl };
        held = λ k l h. live_is (entry_of w.books k) (omega arith);
      }

  below : (c k : ℕ) → c < w.state.columns → k < list_length w slot c → word32 (list c) (4 * k) < w.state.numbers
  below c k q h = rw (word_is c k h) (a.listed slot c k p q h)

  one_more_lem : (c : ℕ) (books : List ℕ) → c < w.state.columns → Unlisted c books → Unlisted (suc c) (over_list unlisted_one books (list c) (list_length w slot c))
  unfolding sum_to
  one_more_lem c books q u =
      record {
        framed = framed_trans u.framed (over_framed (list c) (list_length w slot c) (sound_roomy u.sound) (λ k l. below c k q l)).0;
        sound = sound_recount _ (unlisted_all_sound (list c) (list_length w slot c) u.sound (λ k l. below c k q l)) (λ k l. omega (arith, occurs_is c k q));
        live = λ k l m. still k l m;
        filled = λ k l m. unlisted_all_filled (list c) u.sound w.pool (list_length w slot c) (λ k l. below c k q l) k l (still k l m) ∙ u.filled k l m;
        relisted = λ k l f. relisted k l f;
        held = held;
      }
    where
      after : List ℕ
      after = over_list unlisted_one books (list c) (list_length w slot c)

      entry : (k : ℕ) → k < w.state.numbers → is_free (entry_of after k) ≡ false → entry_of after k ≡ listings_as (entry_of books k) (listings w k - gone c k - occurrences (list c) (list_length w slot c) k)
      entry k l f = unlisted_all_stays (list c) u.sound (list_length w slot c) (λ k l. below c k q l) k l f

      -- what is live then was live before
      was : (k : ℕ) → k < w.state.numbers → is_free (entry_of after k) ≡ false → is_free (entry_of books k) ≡ false
      was k l f =
          let e = entry k l f in
          live_is (entry_of books k) (omega (arith, live_says (entry_of after k) f, ap (λ (x : Entry). x.hold) e, ap (λ (x : Entry). x.listings) e, u.sound.counted k l))

      relisted : (k : ℕ) → k < w.state.numbers → is_free (entry_of after k) ≡ false → Relisted (entry_of w.books k) (entry_of after k)
      relisted k l f =
          let r = u.relisted k l (was k l f) in
          let e = entry k l f in
          record { is = e ∙ ap (λ (x : Entry). listings_as x (listings w k - gone c k - occurrences (list c) (list_length w slot c) k)) r.is ∙ ap (listings_as (entry_of w.books k)) (sym (ap (λ (x : Entry). x.listings) e)) }

      held : (k : ℕ) → k < w.state.numbers → 0 < (entry_of w.books k).hold → is_free (entry_of after k) ≡ false
      held k l h =
          let r = u.relisted k l (u.held k l h) in
          unlisted_all_live (list c) u.sound (list_length w slot c) (λ k l. below c k q l) k l (omega (arith, ap (λ (x : Entry). x.hold) r.is))

      still : (k : ℕ) → k < w.state.numbers → gone w.state.columns k < listings w k → is_free (entry_of (over_list unlisted_one books (list c) (list_length w slot c)) k) ≡ false
      still k l m =
          unlisted_all_live (list c) u.sound (list_length w slot c) (λ k l. below c k q l) k l
          (omega (arith, occurs_is c k q, sum_grows (suc c) w.state.columns (λ c. times_in w slot c k) q))

  -- the world that each column makes
  record ListsAfter (n : ℕ) (v : World) : Type 0 where
    books : List ℕ
    is : v ≡ in_books w books
    unlisted : Unlisted n books

  dropped_is : (c : ℕ) (books : List ℕ) → Framed 0 (4 + 20 * w.state.numbers) w.books books → list_dropped (in_books w books) slot c ≡ in_books w (over_list unlisted_one books (list c) (list_length w slot c))
  unfolding list_dropped
  dropped_is c books f = rw (memory-length w w.pool books f slot c)

  step : (c : ℕ) (v : World) → c < w.state.columns → ListsAfter c v → ListsAfter (suc c) (list_dropped v slot c)
  step c v q u =
      record {
        books = over_list unlisted_one u.books (list c) (list_length w slot c);
        is = ap (λ (t : World). list_dropped t slot c) u.is ∙ dropped_is c u.books u.unlisted.framed;
        unlisted = one_more_lem c u.books q u.unlisted;
      }

  dropped-to : (n : ℕ) → n ≤ w.state.columns → ListsAfter n (each n (λ v c. list_dropped v slot c) w)
  unfolding each
  dropped-to zero h = record { books = w.books; is = refl; unlisted = none_yet }
  dropped-to (suc n) h = step n (each n (λ v c. list_dropped v slot c) w) h (dropped-to n (omega arith))

  abbrev pub dropping : World
  dropping = each w.state.columns (λ v c. list_dropped v slot c) w

  -- all of them
  pub lists_dropped : dropping ≡ in_books w dropping.books
  lists_dropped = let u = dropped-to w.state.columns (omega arith) in u.is ∙ ap (λ (t : World). in_books w t.books) (sym u.is)

  pub lists_unlisted : Unlisted w.state.columns dropping.books
  lists_unlisted = let u = dropped-to w.state.columns (omega arith) in rw (ap (λ (t : World). t.books) u.is) u.unlisted
