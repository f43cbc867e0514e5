-- A block opened: a free number, now listed once, behind a list whose block was closed.
use Prim.Native.Nat.{ℕ, suc, ◌+◌, ◌*◌, ◌≤◌, ◌<◌}
use Rattle.std.specs.Prelude.{◌≡◌, ◌≢◌, true, false, List, [], ◌∷◌, length, leb, eqb}
use Rattle.std.proofs.Math.Path.{refl, ap}
use Rattle.std.proofs.Common.{sym, ◌∙◌, true≢false, arith, eq-eqb, ne_eqb}
use Rattle.std.proofs.Math.Bool.{cond}
use Rattle.std.proofs.Math.Decide.{ℕ_discrete}
use Rattle.words.specs.Word.{word32}
use Rattle.words.specs.Frame.{Framed}
use Rattle.blocks.specs.declared.BufferSource.{BufferSource}
use Rattle.blocks.specs.Block.{asked}
use Rattle.blocks.specs.BlockLaws.{Power, kept_power}
use Rattle.books.specs.declared.Entry.{Entry}
use Rattle.books.specs.Entry.{entry_of, is_free}
use Rattle.books.specs.EntryLaws.{EntryWords}
use Rattle.listings.specs.Listing.{taken}
use Rattle.sound.specs.Sound.{Sound, count_with}
use Rattle.sound.specs.Change.{Changed}
use Rattle.sound.specs.Live.{live_is}
use Rattle.sound.specs.OpLaws.{taken-changed}
use Rattle.sound.specs.SoundLaws.{sound_roomy, sound_recount, count_same, count_other}
use Rattle.sound.proofs.Kept.{gap_sound}
use Rattle.sound.specs.Freed.{free-entry, free-uncounted}
use Rattle.sound.proofs.Others.{taken_filled_live}
use Rattle.sound.specs.Top.{no_free}
use Rattle.tallies.specs.Tally.{tally_of}
use Rattle.tallies.specs.TallyLaws.{framed_tally}
use Rattle.room.specs.declared.Room.{Room}
use Rattle.room.specs.Room.{chosen, entry_at, taken_for, opened_as, opened}
use Rattle.room.specs.RoomLaws.{Found-room, room_says, sound_block}
use Rattle.state.specs.declared.Column.{Column}
use Rattle.state.specs.World.{World, column_of}
use Rattle.state.specs.Layout.{is_views, tally, list_length, rows_in}
use Rattle.state.specs.Rows.{listed_at}
use Rattle.rules.specs.Batch.{sum_to}
use Rattle.rules.specs.Steps.{with_column, in_state, in_books}
use Rattle.rules.specs.Views.{filling, has_block, block_number, is_open, open_number, open_rest, opening, block_opened}
use Rattle.rules.specs.Held.{Among, one_of, Holds, held, refused, holds_cond, holds_more, holds_among}
use Rattle.rules.specs.Stays.{SameSetUp, Beside}
use Rattle.rules.specs.SameLaws.{same_views, same_list_place, same-tally}
use Rattle.rules.proofs.PartLaws.{chosen-among, opened_holds}
use Rattle.push_safety.specs.TestedLaws.{bounds_say}
use Rattle.push_safety.specs.Firm.{same_list_length}
use Rattle.push_safety.specs.StepGoes.{column_cases, column-new}
use Rattle.push_safety.specs.OpenGoes.{Opened, opened_anew}
use Rattle.push_safety.specs.Along.{holds_both}
use Rattle.invariant.specs.Holding.{reach, number_at, times_in, listings, HasOpen, Unheld, Holding, Stands, PoolStays}
use Rattle.invariant.proofs.BeginLaws.{begins_is}
use Rattle.invariant.proofs.Rests.{reach_open, reach-shut, number-listed, number_open}
use Rattle.invariant.proofs.CountLaws.{sum_ext}
use Rattle.invariant.proofs.AloneLaws.{open_counted, column-length, other_open, alone_one}
use Rattle.invariant.proofs.PoolLaws.{relisted_is, books_stay}
use Rattle.invariant.specs.Steps.Moves.{Moves, BitsStill}
use Rattle.invariant.proofs.Steps.MoveLaws.{Remains, remains_moves, live_stands}
use Rattle.invariant.proofs.Steps.OneList.{OneList, one_listings, one_lists}
use Rattle.std.specs.Prelude.{Some, Result, Ok, Err}

-- the rows of a slot, where books change within their entries
pub same_rows_in : (w v : World) → SameSetUp w.state v.state → Framed 0 (4 + 20 * w.state.numbers) w.books v.books → (slot : ℕ) → rows_in v slot ≡ rows_in w slot
unfolding rows_in
same_rows_in w v e f slot = ap (tally_of v.books) (same-tally e slot 0) ∙ framed_tally (tally w.state slot 0) f

-- ---- the world that opening makes

module _ (w : World) (c min : ℕ) where
  abbrev source : BufferSource
  source = (asked (column_of w.state c).source (record { 0 = min })).source

  abbrev size : ℕ
  size = (asked (column_of w.state c).source (record { 0 = min })).size.0

  abbrev booked : Room → List ℕ
  booked room = taken w.books room.number.0 (entry_at room.start size 0 0 1)

  abbrev opened_with : Room → World
  opened_with room = in_state (in_books w (booked room)) (with_column w.state c source (Some room.number))

  record Anew (v : World) : Type 0 where
    room : Room
    found : Found-room w.books w.state.numbers (length w.pool) size room
    is : v ≡ opened_with room

  -- the entry of a free number is zero, so that 14 is not met
  anew : {p : ℕ} {count : ℕ → ℕ} → Sound w.books w.state.numbers p count → Holds Anew (Among (10 ∷ 11 ∷ 12 ∷ [])) (block_opened w c min)
  unfolding block_opened opened opened_as
  anew r =
      holds_cond (leb (list_length w (filling w) c + 1) w.state.lists)
      (λ l. holds_among {ms = 11 ∷ 12 ∷ []} (10 ∷ 11 ∷ 12 ∷ []) tt
      (rw (sound_block w.books w.state.numbers (length w.pool) size r) (go (chosen w.books w.state.numbers (length w.pool) size) refl)))
      (λ l. refused (one_of (10 ∷ 11 ∷ 12 ∷ []) 10 tt))
    where
      go : (x : Result Room ℕ) → chosen w.books w.state.numbers (length w.pool) size ≡ x → Holds Anew (Among (11 ∷ 12 ∷ [])) (opening w c min (taken_for w.books size 0 1 x))
      go (Err n) e = refused (chosen-among w.books w.state.numbers (length w.pool) size n e)
      go (Ok room) e = held (record { room = room; found = room_says w.books w.state.numbers (length w.pool) size room e; is = refl })

module _ {w : World} {ext : ℕ → ℕ} (c min : ℕ) (a : Holding w ext) (q : c < w.state.columns) (y : is_views w.state c ≡ true) (o : is_open w c ≡ false) (room : Room) (f : Found-room w.books w.state.numbers (length w.pool) (size w c min) room) (b : Beside w (opened_with w c min room)) where
  abbrev v : World
  v = opened_with w c min room

  abbrev place : ℕ
  place = w.state.place

  abbrev len : ℕ
  len = list_length w place c

  abbrev k : ℕ
  k = room.number.0

  abbrev e : Entry
  e = entry_at room.start (size w c min) 0 0 1

  -- the books
  fits : room.start + size w c min ≤ w.state.pool.0
  fits = omega (arith, f.gap.fits, a.run.fit.pool_is)

  words : EntryWords e
  words =
      let p : w.state.pool.0 ≤ 4294967295 = (bounds_say w.state a.run.fit.bounds).pool in
      record { start_fits = omega (arith, fits); capacity_fits = omega (arith, fits); length-fits = omega arith; hold_fits = omega arith; listings-fits = omega arith }

  live : is_free e ≡ false
  live = live_is e (omega arith)

  changed : Changed w.books (booked w c min room) w.state.numbers k e
  changed = taken-changed k (sound_roomy a.sound) f.number.below e words

  gone : Sound (booked w c min room) w.state.numbers w.state.pool.0 (count_with (listings w) k 1)
  gone =
      gap_sound k a.sound f.number.below e words live (omega arith) (omega arith)
      (record { fits = fits; clear = f.gap.clear; lowest = f.gap.lowest })

  none : listings w k ≡ 0
  none = free-uncounted k a.sound f.number.below f.number.accepted

  -- a number that was live is another
  other_live : (j : ℕ) → is_free (entry_of w.books j) ≡ false → j ≢ k
  other_live j h z =
      true≢false (sym no_free ∙ ap is_free (sym (free-entry k a.sound f.number.below f.number.accepted)) ∙ ap (λ (x : ℕ). is_free (entry_of w.books x)) (sym z) ∙ h)

  stands_here : (j : ℕ) → j < w.state.numbers → is_free (entry_of w.books j) ≡ false → Stands w v j
  stands_here j l h =
      record {
        live = ap is_free (changed.other j other) ∙ h;
        begins = begins_is (taken_filled_live w.pool k a.sound f.number.below e words f.number.accepted j h);
      }
    where
      other : j ≢ k
      other = other_live j h

  -- lists
  lengths : (slot d : ℕ) → list_length v slot d ≡ list_length w slot d
  lengths slot d = same_list_length w v b.set_up changed.framed slot d

  entries : (slot d i : ℕ) → listed_at v slot d i ≡ listed_at w slot d i
  unfolding listed_at
  entries slot d i = ap (λ (x : ℕ). word32 w.slots (x + 4 * i)) (same_list_place b.set_up slot d)

  block : (column_of v.state c).block ≡ Some room.number
  block = ap (λ (x : Column). x.block) (column-new w.state c (source w c min) (Some room.number) y)

  one : OneList w v c
  one =
      record {
        beside = b;
        lengths = λ slot d p r z. lengths slot d;
        words = λ slot d i p r z h. entries slot d i;
        blocks = λ d n.
            column_cases w.state c (source w c min) (Some room.number) d (λ (x : Column). x.block ≡ (column_of w.state d).block) (λ z. absurd (n z)) refl;
      }

  reach_was : reach w place c ≡ len
  reach_was = reach-shut w place c y o

  reach_is : reach v place c ≡ len + 1
  reach_is = reach_open v place c (same_views b.set_up c ∙ y) refl (ap has_block block) ∙ ap (λ (x : ℕ). x + 1) (lengths place c)

  number_was : (i : ℕ) → i < len → number_at v place c i ≡ number_at w place c i
  number_was i h = number-listed v place c i (omega (arith, lengths place c)) ∙ entries place c i ∙ sym (number-listed w place c i h)

  number_is : number_at v place c len ≡ k
  unfolding open_number
  number_is = number_open v place c len (omega (arith, lengths place c)) ∙ ap block_number block

  -- one listing more of its number
  times_is : (j : ℕ) → times_in v place c j ≡ times_in w place c j + cond (eqb j k) 1 0
  unfolding times_in sum_to
  times_is j =
      let z : reach v place c ≡ suc len = omega (arith, reach_is) in
      ap (λ (n : ℕ). sum_to n (λ i. cond (eqb j (number_at v place c i)) 1 0)) z
      ∙ (rw (number_is, reach_was)
      (ap (λ (n : ℕ). n + cond (eqb j k) 1 0) (sum_ext len _ _ (λ i h. ap (λ (x : ℕ). cond (eqb j x) 1 0) (number_was i h)))))

  counts : (j : ℕ) → count_with (listings w) k 1 j ≡ listings v j
  counts j = go (ℕ_discrete j k)
    where
      more : listings v j ≡ listings w j + cond (eqb j k) 1 0
      more = omega (arith, one_listings one a.run.fit.place q j, times_is j)

      go : Dec (j ≡ k) → count_with (listings w) k 1 j ≡ listings v j
      go (yes z) = rw z (count_same (listings w) k 1 ∙ omega (arith, rw (z, eq-eqb k k refl) at more, none))
      go (no z) = count_other (listings w) k 1 j z ∙ omega (arith, rw (ne_eqb j k z) at more)

  sizes_here : (d : ℕ) → d < w.state.columns → is_views w.state d ≡ true → Power (column_of v.state d).source.current.0
  unfolding asked
  sizes_here d r z =
      column_cases w.state c (source w c min) (Some room.number) d (λ (x : Column). Power x.source.current.0)
      (λ n. kept_power (column_of w.state c).source.current.0 min (a.sizes c q y))
      (a.sizes d r z)

  -- its number was free, so that no column had it open
  new_open : (j : ℕ) → HasOpen v.state c j → (d : ℕ) → HasOpen w.state d j → ⊥
  new_open j p d g =
      let z : j ≡ k = ap block_number (sym p.block ∙ block) in
      omega (arith, open_counted a d j g, ap (listings w) z, none)

  open_was : (d j : ℕ) → j ≢ k → HasOpen v.state d j → HasOpen w.state d j
  open_was d j n p = go (ℕ_discrete d c)
    where
      go : Dec (d ≡ c) → HasOpen w.state d j
      go (yes z) = absurd (n (ap block_number (sym (rw z at p.block) ∙ block)))
      go (no z) = other_open c b.set_up one.blocks d j z p

  pool_here : PoolStays w v
  pool_here =
      books_stay w v b.set_up.numbers refl (λ j l h. (stands_here j l h).live) (λ j l h. relisted_is (changed.other j (other_live j h))) (λ d j h p. open_was d j (other_live j h) p)

  unheld_here : Unheld v.state v.books
  unheld_here = record { unheld = λ d j p. go d j p (ℕ_discrete j k) }
    where
      go : (d j : ℕ) → HasOpen v.state d j → Dec (j ≡ k) → (entry_of v.books j).hold ≡ 0
      go d j p (yes z) = rw z (ap (λ (x : Entry). x.hold) changed.same)
      go d j p (no z) = ap (λ (x : Entry). x.hold) (changed.other j z) ∙ a.unheld.unheld d j (open_was d j z p)

  remains : Remains w ext v
  remains =
      record {
        rests = λ slot d i p r h. record { bit = refl; cell = record { byte = λ x z l m n. let t : x ≡ z = omega arith in rw t } };
        lists = one_lists one (record { more = omega (arith, reach_was, reach_is); same = λ i h. number_was i (omega (arith, reach_was)) });
        stands = live_stands a stands_here;
        sound = sound_recount (listings v) gone (λ j l. counts j);
        listed = λ slot d i p r h. rw (entries slot d i) (a.listed slot d i p r (omega (arith, lengths slot d)));
        sizes = sizes_here;
        sixteen = column-length w.state c (source w c min) (Some room.number) ∙ a.sixteen;
        alone = alone_one c b.set_up one.blocks (λ d j n p g. new_open j p d g) a.alone;
        unheld = unheld_here;
        rows = λ slot p. same_rows_in w v b.set_up changed.framed slot;
        unlisted = λ slot d p z r. lengths slot d;
      }

-- ---- opening

-- a new block, open, and with room for the minimum; no slot changes
pub record NewBlock (w : World) (ext : ℕ → ℕ) (c min : ℕ) (v : World) : Type 0 where
  pub moves : Moves w ext v ext
  pub still : BitsStill w v
  pub is_open_lem : is_open v c ≡ true
  pub rest : min ≤ open_rest v c

pub opened_moves : {w : World} {ext : ℕ → ℕ} (c min : ℕ) → Holding w ext → c < w.state.columns → is_views w.state c ≡ true → is_open w c ≡ false → Holds (NewBlock w ext c min) (Among (10 ∷ 11 ∷ 12 ∷ [])) (block_opened w c min)
opened_moves {w} {ext} c min a q y o =
    holds_more (holds_both (anew w c min a.sound) (holds_both (opened_anew w c min a.run q y) (opened_holds w c min)))
    (λ v p. fresh v p.1.0 p.0 p.1.1)
    (λ n m. m)
  where
    fresh : (v : World) → Opened w c min v → Anew w c min v → Beside w v → NewBlock w ext c min v
    fresh v g n b =
        let t : Beside w (opened_with w c min n.room) = rw n.is at b in
        let s : Remains w ext v = rw n.is (remains c min a q y o n.room n.found t) in
        record {
          moves = remains_moves a g.goes b s (λ z. rw n.is z) (λ k l h. rw n.is (stands_here c min a q y o n.room n.found t k l h)) (rw n.is (pool_here c min a q y o n.room n.found t));
          still = rw n.is (record { bit = λ slot d i p r l. refl });
          is_open_lem = g.is_open_lem;
          rest = g.rest;
        }
