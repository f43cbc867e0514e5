-- A list attached that has no number: of a column without views.
use Rattle.std.specs.Prelude.{ℕ, ◌+◌, ◌*◌, ◌≤◌, ◌<◌, ◌≡◌, true, false, List, [], length}
use Rattle.std.proofs.Math.Path.{refl, sym, ap}
use Rattle.std.proofs.Common.{◌∙◌, true≢false, take-append-drop, take_all}
use native.Mathlib.Omega.{arith}
use Rattle.std.proofs.Math.Decide.{ℕ_discrete}
use Rattle.words.specs.WordLaws.{Bytes}
use Rattle.words.specs.Run.{read, put, lay}
use Rattle.books.specs.declared.Entry.{Entry}
use Rattle.books.specs.Entry.{entry_of, is_free}
use Rattle.listings.specs.Listing.{over_list}
use Rattle.sound.specs.SoundLaws.{sound_recount}
use Rattle.tallies.specs.TallyLaws.{entry-with_tally}
use Rattle.state.specs.World.{World, column_of}
use Rattle.state.specs.Layout.{is_views, tally, list_place, list_length}
use Rattle.state.specs.Rows.{listed_at}
use Rattle.rules.specs.Batch.{Batch, record_of, list_of}
use Rattle.rules.specs.Steps.{counting}
use Rattle.rules.specs.Views.{has_block, open_number, list_attached}
use Rattle.rules.proofs.PartLaws.{counting_beside}
use Rattle.push_safety.specs.Run.{ColumnReads}
use Rattle.push_safety.specs.StepGoes.{counting_goes}
use Rattle.invariant.specs.Holding.{reach, number_at, listings, Holding, Stands, PoolStays}
use Rattle.invariant.proofs.BeginLaws.{begins_is}
use Rattle.invariant.proofs.Rests.{reach-shut, reach_open}
use Rattle.invariant.proofs.CountLaws.{times_same, listings-same}
use Rattle.invariant.specs.Steps.Moves.{more, Moves, BitsStill}
use Rattle.invariant.proofs.PoolLaws.{relisted_is, books_stay, unheld_on}
use Rattle.invariant.proofs.Steps.MoveLaws.{Remains, remains_moves, live_stands}
use Rattle.invariant.specs.Steps.TallyMoves.{tally_sound, tally-filled, counting-rows, counting-length, counting_length_here}
use Rattle.std.specs.Prelude.{Option, Some, None}
use Rattle.counts.specs.declared.BufferNumber.{BufferNumber}

-- ---- a column that lists nothing

nothing-laid : (at : ℕ) (s : List ℕ) → lay at [] s ≡ s
unfolding lay put
nothing-laid at s =
    let e : at + length {A = ℕ} [] ≡ at = omega arith in
    rw (e, take-append-drop at s) (take_all (length s) s (omega arith))

nothing_read : (at : ℕ) (s : List ℕ) → read at 0 s ≡ []
unfolding read
nothing_read at s = refl

-- reach 0 of a column of views: no list, and no block
pub empty-list : (w : World) (c : ℕ) → is_views w.state c ≡ true → reach w w.state.place c ≡ 0 → (list_length w w.state.place c ≡ 0) × ((column_of w.state c).block ≡ None)
empty-list w c y e = go (column_of w.state c).block refl
  where
    go : (o : Option BufferNumber) → (column_of w.state c).block ≡ o → (list_length w w.state.place c ≡ 0) × ((column_of w.state c).block ≡ None)
    go (Some k) p = absurd (omega (arith, reach_open w w.state.place c y refl (ap has_block p)))
    go None p = (omega (arith, reach-shut w w.state.place c y (ap has_block p)), p)

module _ {w : World} {ext : ℕ → ℕ} (b : Batch) (c : ℕ) (a : Holding w ext) (x : ColumnReads w b c) (q : c < w.state.columns) (n : is_views w.state c ≡ false) where
  abbrev place : ℕ
  place = w.state.place

  abbrev len : ℕ
  len = list_length w place c

  none : len ≡ 0
  none = a.run.none place c a.run.fit.place q n

  count : (record_of b c).count ≡ 0
  count = x.plain n

  abbrev v : World
  v = counting w place (c + 1) 0

  plain_is : list_attached w b c ≡ v
  unfolding list_attached list_of over_list
  plain_is = rw (count, none, nothing_read (record_of b c).list b.body, nothing-laid (list_place w.state place c + 4 * 0) w.slots)

  lengths : (slot d : ℕ) → slot ≤ w.state.queue → d < w.state.columns → list_length v slot d ≡ list_length w slot d
  lengths slot d p r = go (ℕ_discrete slot place) (ℕ_discrete d c)
    where
      go : Dec (slot ≡ place) → Dec (d ≡ c) → list_length v slot d ≡ list_length w slot d
      go (no z) e = counting-length w place (c + 1) 0 slot d (omega arith) r (λ t f. z t)
      go (yes z) (no e) = counting-length w place (c + 1) 0 slot d (omega arith) r (λ t f. e (omega arith))
      go (yes z) (yes e) = rw (z, e) (counting_length_here w place c 0 a.run a.run.fit.place q (omega arith) ∙ sym none)

  reaches : (slot d : ℕ) → slot ≤ w.state.queue → d < w.state.columns → reach v slot d ≡ reach w slot d
  unfolding reach counting
  reaches slot d p r = rw (lengths slot d p r)

  numbers : (slot d i : ℕ) → slot ≤ w.state.queue → d < w.state.columns → number_at v slot d i ≡ number_at w slot d i
  unfolding number_at counting listed_at open_number
  numbers slot d i p r = rw (lengths slot d p r)

  stands_here : (k : ℕ) → k < w.state.numbers → is_free (entry_of w.books k) ≡ false → Stands w v k
  unfolding counting
  stands_here k l h = record { live = ap is_free (entry-with_tally w.books (tally w.state place (c + 1)) 0 k l) ∙ h; begins = begins_is (tally-filled w.books w.pool (tally w.state place (c + 1)) 0 k l) }

  pool_here : PoolStays w v
  unfolding counting
  pool_here =
      books_stay w v refl refl (λ k l h. (stands_here k l h).live) (λ k l h. relisted_is (entry-with_tally w.books (tally w.state place (c + 1)) 0 k l)) (λ d k h o. o)

  bytes_here : Bytes w.slots → Bytes v.slots
  unfolding counting
  bytes_here z = z

  remains : Remains w ext v
  unfolding counting listed_at
  remains =
      record {
        rests = λ slot d i p r h. record { bit = refl; cell = record { byte = λ s t l m z. let f : s ≡ t = omega arith in rw f } };
        lists = λ slot d p r. record { more = omega (arith, reaches slot d p r); same = λ i h. numbers slot d i p r };
        stands = live_stands a stands_here;
        sound = sound_recount (listings v) (tally_sound (tally w.state place (c + 1)) 0 a.sound (omega arith)) (λ k l. sym (listings-same w v refl refl k (λ slot d p r. times_same w v slot d k (reaches slot d p r) (λ i h. numbers slot d i p r))));
        listed = λ slot d i p r h. a.listed slot d i p r (omega (arith, lengths slot d p r));
        sizes = a.sizes;
        sixteen = a.sixteen;
        alone = a.alone;
        unheld = unheld_on a v.state v.books (λ d k o. o) (λ k l h z. ap (λ (e : Entry). e.hold) (entry-with_tally w.books (tally w.state place (c + 1)) 0 k l) ∙ z);
        rows = λ slot p. counting-rows w place (c + 1) 0 slot (omega arith) (λ e z. omega arith);
        unlisted = λ slot d p z r. lengths slot d p r;
      }

  plain_so : Moves w ext v ext
  plain_so =
      remains_moves a
      (counting_goes place (c + 1) 0 a.run a.run.fit.place (omega arith) (omega arith) (λ d e. (omega arith, λ z. refl)) (λ d k e y o. let z : d ≡ c = omega arith in true≢false (sym y ∙ (rw z n))))
      (counting_beside w place (c + 1) 0)
      remains
      bytes_here
      stands_here
      pool_here

  pub plain_moves : Moves w ext (list_attached w b c) ext
  plain_moves = rw plain_is plain_so

  pub plain_still : BitsStill w (list_attached w b c)
  unfolding counting
  plain_still = rw plain_is (record { bit = λ slot d i p r l. refl })

  pub plain_slots : (list_attached w b c).slots ≡ w.slots
  unfolding counting
  plain_slots = ap (λ (t : World). t.slots) plain_is

  pub plain_reach : (d : ℕ) → d < w.state.columns → reach (list_attached w b c) place d ≡ reach w place d
  plain_reach d r = ap (λ (t : World). reach t place d) plain_is ∙ reaches place d a.run.fit.place r
