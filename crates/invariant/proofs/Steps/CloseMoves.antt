-- The open block closed: its number stands in the list where it stood behind it, so that nothing is listed more or less often.
use Rattle.std.specs.Prelude.{ℕ, ◌+◌, ◌*◌, ◌≤◌, ◌<◌, ◌^◌, ◌≡◌, ◌≢◌, Bool, true, false, List}
use Rattle.std.proofs.Math.Path.{refl, ap}
use Rattle.std.proofs.Common.{sym, ◌∙◌, arith}
use Rattle.std.proofs.Math.Decide.{dec_lt, ℕ_discrete}
use Rattle.words.specs.Word.{word32, with_word32}
use Rattle.words.specs.WordLaws.{Bytes, bytes-with_word32, word32-same}
use Rattle.words.specs.Frame.{Agrees, Framed}
use Rattle.words.specs.FrameLaws.{word_framed}
use Rattle.books.specs.Entry.{entry_of, is_free}
use Rattle.sound.specs.Sound.{Sound}
use Rattle.sound.specs.SoundLaws.{sound_recount}
use Rattle.state.specs.declared.Column.{Column}
use Rattle.state.specs.World.{World, column_of}
use Rattle.state.specs.Layout.{tally, width_of, is_views, list_place, cell_place, list_length, rows_in}
use Rattle.state.proofs.LayoutLaws.{bits_fit, list_in}
use Rattle.state.specs.Where.{Where, listed, Inside, listed_inside, Other, other_slot, other_column, other_part, behind}
use Rattle.state.specs.Rows.{listed_at}
use Rattle.rules.specs.Steps.{with_column, in_state, in_slots, counting, listing}
use Rattle.rules.specs.Views.{has_block, is_open, open_number, closed}
use Rattle.rules.specs.Stays.{Beside, same-column}
use Rattle.rules.specs.SameLaws.{same_views, same_list_place}
use Rattle.rules.proofs.PartLaws.{closed_beside}
use Rattle.push_safety.specs.TestedLaws.{bounds_say}
use Rattle.push_safety.specs.StepGoes.{column_cases, column-new}
use Rattle.push_safety.specs.BlockGoes.{open_room, open_number_lem, closed_goes}
use Rattle.tallies.specs.TallyLaws.{entry-with_tally}
use Rattle.sound.proofs.ListKept.{Relisted}
use Rattle.invariant.specs.Holding.{reach, number_at, listings, HasOpen, Holding, Stands, PoolStays}
use Rattle.invariant.proofs.BeginLaws.{begins_is}
use Rattle.invariant.proofs.Rests.{reach_open, reach-shut, number-listed, number_open}
use Rattle.invariant.proofs.CountLaws.{times_same}
use Rattle.invariant.proofs.AloneLaws.{column-length, not_open_lem, other_open, alone_one}
use Rattle.invariant.specs.Steps.Moves.{Moves, BitsStill}
use Rattle.invariant.proofs.PoolLaws.{relisted_is, books_stay, unheld_on, relisted_hold}
use Rattle.invariant.proofs.Steps.MoveLaws.{Remains, remains_moves, live_stands, moves_refl, still_refl, rows_most}
use Rattle.invariant.proofs.SlotLaws.{cell_agrees, bit_agrees, entry_agrees, entry_views}
use Rattle.invariant.proofs.Steps.OneList.{Elsewhere, by_slot, by_column, OneList, one_listings, one_lists}
use Rattle.invariant.specs.Steps.TallyMoves.{tally_sound, tally-filled, counting-rows, counting-length, counting_length_here}
use Rattle.std.specs.Prelude.{None}

module _ {w : World} {ext : ℕ → ℕ} (c : ℕ) (a : Holding w ext) (q : c < w.state.columns) (y : is_views w.state c ≡ true) (o : is_open w c ≡ true) where
  abbrev place : ℕ
  place = w.state.place

  abbrev len : ℕ
  len = list_length w place c

  abbrev at : ℕ
  at = list_place w.state place c + 4 * len

  abbrev number : ℕ
  number = open_number w c

  abbrev written : List ℕ
  written = with_word32 w.slots at number

  abbrev put : World
  put = in_slots w written

  -- the world with the block closed
  abbrev shut : World
  shut = in_state (counting put place (c + 1) (len + 1)) (with_column w.state c (column_of w.state c).source None)

  room : len < w.state.lists
  room = open_room c a.run q y o

  few : len + 1 < 2 ^ 32
  few = omega (arith, room, (bounds_say w.state a.run.fit.bounds).lists)

  small : number < 2 ^ 32
  small = omega (arith, open_number_lem c a.run q y o, (bounds_say w.state a.run.fit.bounds).numbers)

  shut_is : closed w c ≡ shut
  unfolding closed listing counting list_length
  shut_is = rw o

  -- the entry behind the list
  abbrev entry : Where
  entry = listed place c len

  framed : Framed at (at + 4) w.slots written
  framed = word_framed w.slots at number

  in_bounds_lem : Inside w.state entry
  in_bounds_lem = listed_inside a.run.fit.place q y room

  -- lists: this one is longer by one, the others are as they were
  shut-length : (slot d : ℕ) → list_length shut slot d ≡ list_length (counting w place (c + 1) (len + 1)) slot d
  unfolding list_length counting
  shut-length slot d = refl

  shut_counts : (slot : ℕ) → rows_in shut slot ≡ rows_in (counting w place (c + 1) (len + 1)) slot
  unfolding rows_in counting
  shut_counts slot = refl

  shut-rows : (slot : ℕ) → rows_in shut slot ≡ rows_in w slot
  shut-rows slot = shut_counts slot ∙ counting-rows w place (c + 1) (len + 1) slot (omega arith) (λ e z. omega arith)

  length_here : list_length shut place c ≡ len + 1
  length_here = shut-length place c ∙ counting_length_here w place c (len + 1) a.run a.run.fit.place q few

  length_other : (slot d : ℕ) → d < w.state.columns → Elsewhere w c slot d → list_length shut slot d ≡ list_length w slot d
  length_other slot d r e = shut-length slot d ∙ counting-length w place (c + 1) (len + 1) slot d (omega arith) r (λ p z. apart e p (omega arith))
    where
      apart : Elsewhere w c slot d → slot ≡ place → d ≡ c → ⊥
      apart (by_slot n) p z = n p
      apart (by_column n) p z = n z

  shut-entry : (slot d i : ℕ) → listed_at shut slot d i ≡ word32 written (list_place w.state slot d + 4 * i)
  unfolding listed_at counting list_length
  shut-entry slot d i = ap (λ (k : ℕ). word32 written (k + 4 * i)) (same_list_place (same-column w.state c (column_of w.state c).source None) slot d)

  old_entry : (slot d i : ℕ) → slot ≤ w.state.queue → d < w.state.columns → i < list_length w slot d → (slot ≡ place → d ≡ c → i < len) → listed_at shut slot d i ≡ listed_at w slot d i
  unfolding listed_at
  old_entry slot d i p r h e =
      let v = entry_views slot d i a p r h in
      shut-entry slot d i ∙ entry_agrees w.state entry framed in_bounds_lem slot d i p r v.0 v.1 (other (ℕ_discrete slot place) (ℕ_discrete d c))
    where
      other : Dec (slot ≡ place) → Dec (d ≡ c) → Other entry (listed slot d i)
      other (no z) f = other_slot (λ x. z (sym x))
      other (yes z) (no f) = other_column (λ x. f (sym x))
      other (yes z) (yes f) = behind (omega (arith, e z f))

  new-entry : listed_at shut place c len ≡ number
  new-entry =
      shut-entry place c len
      ∙ word32-same w.slots at number (omega (arith, list_in w.state place c a.run.fit.place q len y room, a.run.fit.slots_are)) small

  -- columns
  shut_block : (column_of shut.state c).block ≡ None
  shut_block = ap (λ (x : Column). x.block) (column-new w.state c (column_of w.state c).source None y)

  other_block : (d : ℕ) → d ≢ c → (column_of shut.state d).block ≡ (column_of w.state d).block
  other_block d n =
      column_cases w.state c (column_of w.state c).source None d (λ (x : Column). x.block ≡ (column_of w.state d).block) (λ e. absurd (n e)) refl

  shut-source : (d : ℕ) → (column_of shut.state d).source ≡ (column_of w.state d).source
  shut-source d =
      column_cases w.state c (column_of w.state c).source None d (λ (x : Column). x.source ≡ (column_of w.state d).source)
      (λ e. ap (λ (k : ℕ). (column_of w.state k).source) (sym e)) refl

  beside : Beside w shut
  beside = rw shut_is at (closed_beside w c)

  one : OneList w shut c
  one =
      record {
        beside = beside;
        lengths = λ slot d p r e. length_other slot d r e;
        words = λ slot d i p r e h. old_entry slot d i p r h (λ z f. absurd (apart e z f));
        blocks = other_block;
      }
    where
      apart : {slot d : ℕ} → Elsewhere w c slot d → slot ≡ place → d ≡ c → ⊥
      apart (by_slot n) p z = n p
      apart (by_column n) p z = n z

  -- the list reaches as far as it did, with the same numbers
  reach_here : reach shut place c ≡ reach w place c
  reach_here =
      reach-shut shut place c (same_views beside.set_up c ∙ y) (ap has_block shut_block) ∙ length_here ∙ sym (reach_open w place c y refl o)

  number_here : (i : ℕ) → i < reach w place c → number_at shut place c i ≡ number_at w place c i
  number_here i h = go (dec_lt i len)
    where
      go : Dec (i < len) → number_at shut place c i ≡ number_at w place c i
      go (yes l) =
          number-listed shut place c i (omega (arith, length_here)) ∙ old_entry place c i a.run.fit.place q l (λ z f. l) ∙ sym (number-listed w place c i l)
      go (no l) =
          let e : i ≡ len = omega (arith, reach_open w place c y refl o) in
          rw e (number-listed shut place c len (omega (arith, length_here)) ∙ new-entry ∙ sym (number_open w place c len (omega arith)))

  stands_here : (k : ℕ) → k < w.state.numbers → is_free (entry_of w.books k) ≡ false → Stands w shut k
  unfolding counting
  stands_here k l h =
      record {
        live = ap is_free (entry-with_tally w.books (tally w.state place (c + 1)) (len + 1) k l) ∙ h;
        begins = begins_is (tally-filled w.books w.pool (tally w.state place (c + 1)) (len + 1) k l);
      }

  -- an open block was open, and every entry is as it was
  open_was : (d k : ℕ) → HasOpen shut.state d k → HasOpen w.state d k
  open_was d k o = go (ℕ_discrete d c)
    where
      go : Dec (d ≡ c) → HasOpen w.state d k
      go (yes z) = absurd (not_open_lem (record { 0 = k }) (sym shut_block ∙ (rw z at o.block)))
      go (no z) = other_open c beside.set_up other_block d k z o

  relisted : (k : ℕ) → k < w.state.numbers → Relisted (entry_of w.books k) (entry_of shut.books k)
  unfolding counting
  relisted k l = relisted_is (entry-with_tally w.books (tally w.state place (c + 1)) (len + 1) k l)

  pool_are : shut.pool ≡ w.pool
  unfolding counting
  pool_are = refl

  pool_here : PoolStays w shut
  pool_here = books_stay w shut beside.set_up.numbers pool_are (λ k l h. (stands_here k l h).live) (λ k l h. relisted k l) (λ d k h o. open_was d k o)

  sound_here : Sound shut.books w.state.numbers w.state.pool.0 (listings w)
  unfolding counting
  sound_here = tally_sound (tally w.state place (c + 1)) (len + 1) a.sound few

  still_here : BitsStill w shut
  unfolding counting
  still_here = record { bit = λ slot d i p r l. bit_agrees w.state entry framed in_bounds_lem slot d i p r l (other_part (λ z. omega arith)) }

  cell_here : (slot d i : ℕ) → slot ≤ w.state.queue → d < w.state.columns → i < w.state.rows.0 → Agrees w.slots (cell_place w.state slot d i) shut.slots (cell_place w.state slot d i) (width_of w.state d)
  unfolding counting
  cell_here slot d i p r l = cell_agrees w.state entry framed in_bounds_lem slot d i p r l (other_part (λ z. omega arith))

  bytes_here : Bytes w.slots → Bytes shut.slots
  unfolding counting
  bytes_here z = bytes-with_word32 w.slots at number z small

  remains : Remains w ext shut
  remains =
      record {
        rests = λ slot d i p r h.
            let l : i < w.state.rows.0 = omega (arith, rows_most w ext a slot d p r) in
            record { bit = still_here.bit slot d i p r (omega (arith, bits_fit w.state)); cell = cell_here slot d i p r l };
        lists = one_lists one (record { more = omega (arith, reach_here); same = number_here });
        stands = live_stands a stands_here;
        sound = sound_recount (listings shut) sound_here (λ k l. omega (arith, one_listings one a.run.fit.place q k, times_same w shut place c k reach_here number_here));
        listed = λ slot d i p r h. listed_then slot d i p r h (ℕ_discrete slot place) (ℕ_discrete d c);
        sizes = λ d r v. rw (shut-source d) (a.sizes d r v);
        sixteen = column-length w.state c (column_of w.state c).source None ∙ a.sixteen;
        alone = alone_one c beside.set_up other_block (λ d k n p g. not_open_lem (record { 0 = k }) (sym shut_block ∙ p.block)) a.alone;
        unheld = unheld_on a shut.state shut.books open_was (λ k l h z. relisted_hold (relisted k l) z);
        rows = λ slot p. shut-rows slot;
        unlisted = λ slot d p z r. length_other slot d r (by_slot z);
      }
    where
      listed_then : (slot d i : ℕ) → slot ≤ w.state.queue → d < w.state.columns → i < list_length shut slot d → Dec (slot ≡ place) → Dec (d ≡ c) → listed_at shut slot d i < w.state.numbers
      listed_then slot d i p r h (no z) f =
          let l : i < list_length w slot d = omega (arith, length_other slot d r (by_slot z)) in
          rw (old_entry slot d i p r l (λ x e. absurd (z x))) (a.listed slot d i p r l)
      listed_then slot d i p r h (yes z) (no f) =
          let l : i < list_length w slot d = omega (arith, length_other slot d r (by_column f)) in
          rw (old_entry slot d i p r l (λ x e. absurd (f e))) (a.listed slot d i p r l)
      listed_then slot d i p r h (yes z) (yes f) = here (dec_lt i len) (rw (z, f) at h)
        where
          here : Dec (i < len) → i < list_length shut place c → listed_at shut slot d i < w.state.numbers
          here (yes l) g = rw (z, f, old_entry place c i a.run.fit.place q l (λ x e. l)) (a.listed place c i a.run.fit.place q l)
          here (no l) g =
              let e : i ≡ len = omega (arith, length_here) in
              rw (z, f, e, new-entry) (open_number_lem c a.run q y o)

  shut_moves : Moves w ext shut ext
  shut_moves = remains_moves a (rw shut_is at (closed_goes w c a.run q y)) beside remains bytes_here stands_here pool_here

-- closing, whether a block is open or not
module _ {w : World} {ext : ℕ → ℕ} (c : ℕ) (a : Holding w ext) (q : c < w.state.columns) (y : is_views w.state c ≡ true) where
  none_open : is_open w c ≡ false → closed w c ≡ w
  unfolding closed
  none_open o = rw o

  pub closed_moves : Moves w ext (closed w c) ext
  closed_moves = go (is_open w c) refl
    where
      go : (b : Bool) → is_open w c ≡ b → Moves w ext (closed w c) ext
      go true o = rw (shut_is c a q y o) (shut_moves c a q y o)
      go false o = rw (none_open o) (moves_refl a)

  pub closed_still : BitsStill w (closed w c)
  closed_still = go (is_open w c) refl
    where
      go : (b : Bool) → is_open w c ≡ b → BitsStill w (closed w c)
      go true o = rw (shut_is c a q y o) (still_here c a q y o)
      go false o = rw (none_open o) (still_refl w)
