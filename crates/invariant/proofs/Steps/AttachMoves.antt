-- A whole list attached behind a list whose block is closed: each number is listed once more, as often as it stands there.
use Rattle.std.specs.Prelude.{ℕ, zero, suc, ◌+◌, ◌*◌, ◌-◌, ◌/◌, ◌≤◌, ◌<◌, ◌^◌, ◌≡◌, ◌≢◌, Bool, true, false, List, length, get_or, eqb}
use Rattle.std.proofs.Math.Path.{refl, sym, ap}
use Rattle.std.proofs.Common.{◌∙◌, ap₂, arith, one-mul}
use Rattle.std.proofs.Math.Bool.{cond}
use Rattle.std.proofs.Math.Decide.{dec_lt, ℕ_discrete}
use Rattle.words.specs.WordLaws.{Bytes}
use Rattle.words.specs.Word.{word32}
use Rattle.words.specs.Run.{put, lay}
use Rattle.words.specs.RunLaws.{lay-put}
use Rattle.words.specs.Frame.{Agrees, Framed, Apart, under, over}
use Rattle.words.specs.FrameLaws.{put_framed, put_agrees, agrees_word}
use Rattle.books.specs.Entry.{entry_of, is_free}
use Rattle.listings.specs.Listing.{listed_one, over_list}
use Rattle.sound.specs.Sound.{Sound}
use Rattle.sound.specs.Live.{live_is}
use Rattle.sound.specs.SoundLaws.{sound_recount}
use Rattle.sound.proofs.Lists.{occurrences, listed_all_sound, listed_all_keeps}
use Rattle.sound.proofs.ListKept.{Relisted, listed_all_filled, listed_all_entry}
use Rattle.tallies.specs.Tally.{tally_of, with_tally}
use Rattle.tallies.specs.TallyLaws.{tally-same, entry-with_tally, framed_tally}
use Rattle.state.specs.declared.BatchCoalescer.{BatchCoalescer}
use Rattle.state.specs.World.{World, column_of}
use Rattle.state.specs.Layout.{width_of, is_views, bitmap_bytes, bitmap_place, tally, list_place, cell_place, list_length, rows_in}
use Rattle.state.proofs.LayoutLaws.{bits_fit, entries_fit, bitmap_follows, list_follows, column_in_lem}
use Rattle.state.specs.Where.{Where, cells, bitmap, listed, start_of, size_of, Inside, cells_inside, bitmap_inside, listed_inside, Other, other_slot, other_column, other_part, behind}
use Rattle.state.proofs.WhereLaws.{other_apart}
use Rattle.state.specs.Rows.{listed_at}
use Rattle.rules.specs.Batch.{Batch, record_of, listed_number, list_of, sum_to}
use Rattle.rules.specs.Steps.{counting}
use Rattle.rules.specs.Views.{has_block, list_attached}
use Rattle.rules.specs.Stays.{Beside}
use Rattle.rules.proofs.PartLaws.{attached_beside}
use Rattle.push_safety.specs.Run.{ColumnReads}
use Rattle.push_safety.specs.TestedLaws.{bounds_say}
use Rattle.push_safety.specs.BooksGo.{over_go, held_says}
use Rattle.push_safety.specs.Firm.{run_firm}
use Rattle.push_safety.specs.StepGoes.{tally_room}
use Rattle.push_safety.specs.SumLaws.{sum_more}
use Rattle.push_safety.specs.AttachGoes.{listed_word, listed-length, listed_used, attached_goes}
use Rattle.invariant.specs.Holding.{reach, number_at, times_in, listings, HasOpen, Holding, Stands, PoolStays}
use Rattle.invariant.proofs.BeginLaws.{begins_is}
use Rattle.invariant.specs.ByteLaws.{bytes_read, bytes-lay}
use Rattle.invariant.proofs.Rests.{reach-shut, number-listed}
use Rattle.invariant.proofs.CountLaws.{sum_ext, listings_most}
use Rattle.invariant.specs.Steps.Moves.{Moves, BitsStill}
use Rattle.invariant.proofs.PoolLaws.{books_stay, unheld_on, relisted_hold}
use Rattle.invariant.proofs.Steps.MoveLaws.{Remains, remains_moves, live_stands, rows_most}
use Rattle.invariant.proofs.SlotLaws.{agrees_bit, entry_views}
use Rattle.invariant.proofs.Steps.OneList.{Elsewhere, by_slot, by_column, OneList, elsewhere_reach, one_listings, one_lists}
use Rattle.invariant.specs.Steps.TallyMoves.{tally_sound, tally-filled, tally-kept}
use Rattle.std.specs.Prelude.{None}

-- ---- how often a number stands in a list

pub occurs_sum : (l : List ℕ) (n k : ℕ) → occurrences l n k ≡ sum_to n (λ j. cond (eqb k (word32 l (4 * j))) 1 0)
unfolding occurrences sum_to
occurs_sum l zero k = refl
occurs_sum l (suc n) k = rw (occurs_sum l n k)

occurs_most : (l : List ℕ) (n k : ℕ) → occurrences l n k ≤ n
unfolding occurrences
occurs_most l zero k = omega arith
occurs_most l (suc n) k = omega (arith, occurs_most l n k, one (eqb k (word32 l (4 * n))))
  where
    one : (b : Bool) → cond b 1 0 ≤ 1
    one true = omega arith
    one false = omega arith

-- ---- entries of a list changed, from one on

module _ (s : BatchCoalescer) {p q : List ℕ} (slot c first n : ℕ) (f : Framed (list_place s slot c + 4 * first) (list_place s slot c + 4 * first + 4 * n) p q) (l : slot ≤ s.queue) (m : c < s.columns) (y : is_views s c ≡ true) (h : first + n ≤ s.lists) where
  pub run_agrees : (b : Where) → Inside s b → ((i : ℕ) → first ≤ i → i < first + n → Other (listed slot c i) b) → Agrees p (start_of s b) q (start_of s b) (size_of s b)
  run_agrees b k o = record { byte = λ x z u v e. let t : x ≡ z = omega arith in go x u v (dec_lt x start) (dec_lt x (start + 4 * n)) ∙ ap (λ (i : ℕ). get_or p i 0) t }
    where
      start : ℕ
      start = list_place s slot c + 4 * first

      none : (x i : ℕ) → start_of s b ≤ x → x < start_of s b + size_of s b → list_place s slot c + 4 * i ≤ x → x < list_place s slot c + 4 * i + 4 → Apart (list_place s slot c + 4 * i) (list_place s slot c + 4 * i + 4) (start_of s b) (size_of s b) → ⊥
      none x i u v g r (under d) = omega arith
      none x i u v g r (over d) = omega arith

      go : (x : ℕ) → start_of s b ≤ x → x < start_of s b + size_of s b → Dec (x < start) → Dec (x < start + 4 * n) → get_or q x 0 ≡ get_or p x 0
      go x u v (yes d) e = f.before x d
      go x u v (no d) (no e) = f.after x (omega arith)
      go x u v (no d) (yes e) =
          let i : ℕ = first + (x - start) / 4 in
          let j : i < first + n = omega arith in
          absurd (none x i u v (omega arith) (omega arith) (other_apart s (listed slot c i) b (listed_inside l m y (omega arith)) k (o i (omega arith) j)))

-- the list of a batch of bytes
list_of_bytes : (b : Batch) (c : ℕ) → Bytes b.body → Bytes (list_of b c)
unfolding list_of
list_of_bytes b c z = bytes_read (record_of b c).list (4 * (record_of b c).count) z

-- ---- a column of views

module _ {w : World} {ext : ℕ → ℕ} (b : Batch) (c : ℕ) (a : Holding w ext) (x : ColumnReads w b c) (q : c < w.state.columns) (y : is_views w.state c ≡ true) (o : (column_of w.state c).block ≡ None) (h : list_length w w.state.place c + (record_of b c).count ≤ w.state.lists) where
  abbrev place : ℕ
  place = w.state.place

  abbrev len : ℕ
  len = list_length w place c

  abbrev count : ℕ
  count = (record_of b c).count

  abbrev list : List ℕ
  list = list_of b c

  abbrev at : ℕ
  at = list_place w.state place c + 4 * len

  abbrev laid : List ℕ
  laid = lay at list w.slots

  abbrev books₁ : List ℕ
  books₁ = over_list listed_one w.books list count

  abbrev v : World
  v = list_attached w b c

  place_in : place ≤ w.state.queue
  place_in = a.run.fit.place

  beside : Beside w v
  beside = attached_beside w b c

  -- the slots
  length-list : length list ≡ 4 * count
  length-list = listed-length b c x

  room : at + 4 * count ≤ length w.slots
  room =
      omega (
        arith,
        column_in_lem w.state place c place_in q,
        bitmap_follows w.state place c,
        list_follows w.state place c,
        entries_fit w.state c y,
        a.run.fit.slots_are,
        h,
      )

  laid_is : laid ≡ put at list w.slots
  laid_is = lay-put at list w.slots (omega (arith, length-list, room))

  framed : Framed at (at + 4 * count) w.slots laid
  framed =
      let e : at + length list ≡ at + 4 * count = ap (λ (k : ℕ). at + k) length-list in
      rw laid_is (rw e at (put_framed at list w.slots (omega (arith, length-list, room))))

  slots_are : v.slots ≡ laid
  unfolding list_attached counting
  slots_are = refl

  thing_agrees : (t : Where) → Inside w.state t → ((i : ℕ) → len ≤ i → Other (listed place c i) t) → Agrees w.slots (start_of w.state t) v.slots (start_of w.state t) (size_of w.state t)
  thing_agrees t k n = rw slots_are (run_agrees w.state place c len count framed place_in q y h t k (λ i l m. n i l))

  still_here : BitsStill w v
  still_here =
      record {
        bit = λ slot d i p r l.
            agrees_bit (bitmap_place w.state slot d) (bitmap_bytes w.state) i (thing_agrees (bitmap slot d) (bitmap_inside p r) (λ j k. other_part (λ z. omega arith))) l;
      }

  cell_here : (slot d i : ℕ) → slot ≤ w.state.queue → d < w.state.columns → i < w.state.rows.0 → Agrees w.slots (cell_place w.state slot d i) v.slots (cell_place w.state slot d i) (width_of w.state d)
  cell_here slot d i p r l = rw (one-mul (width_of w.state d)) at (thing_agrees (cells slot d i 1) (cells_inside p r (omega arith)) (λ j k. other_part (λ z. omega arith)))

  same_state : v.state ≡ w.state
  unfolding list_attached counting
  same_state = refl

  entry_is : (slot d i : ℕ) → listed_at v slot d i ≡ word32 v.slots (list_place w.state slot d + 4 * i)
  unfolding listed_at
  entry_is slot d i = ap (λ s. word32 v.slots (list_place s slot d + 4 * i)) same_state

  old_entry : (slot d i : ℕ) → slot ≤ w.state.queue → d < w.state.columns → i < list_length w slot d → listed_at v slot d i ≡ listed_at w slot d i
  unfolding listed_at
  old_entry slot d i p r l =
      let z = entry_views slot d i a p r l in
      entry_is slot d i
      ∙ agrees_word (list_place w.state slot d + 4 * i) (list_place w.state slot d + 4 * i) (thing_agrees (listed slot d i) (listed_inside p r z.0 z.1) (λ j k. other j k (ℕ_discrete slot place) (ℕ_discrete d c))) (omega arith) (omega arith) refl
    where
      other : (j : ℕ) → len ≤ j → Dec (slot ≡ place) → Dec (d ≡ c) → Other (listed place c j) (listed slot d i)
      other j k (no z) f = other_slot (λ t. z (sym t))
      other j k (yes z) (no f) = other_column (λ t. f (sym t))
      other j k (yes z) (yes f) = behind (omega (arith, same_len z f))
        where
          same_len : slot ≡ place → d ≡ c → list_length w slot d ≡ len
          same_len z f = rw (z, f)

  new-entry : (j : ℕ) → j < count → listed_at v place c (len + j) ≡ listed_number b c j
  new-entry j l =
      entry_is place c (len + j)
      ∙ (rw (slots_are, laid_is)
      (agrees_word (list_place w.state place c + 4 * (len + j)) (4 * j) (put_agrees at list w.slots (omega (arith, length-list, room))) (omega arith) (omega (arith, length-list)) (omega arith)
      ∙ listed_word b c j l))

  -- the books
  used : (k : ℕ) → k < count → word32 list (4 * k) < w.state.numbers
  used k l = omega (arith, listed_used b c x k l, a.run.used)

  live : (k : ℕ) → k < count → is_free (entry_of w.books (word32 list (4 * k))) ≡ false
  live k l =
      let z = held_says w.books (listed_number b c k) (x.held k l) in
      rw (listed_word b c k l) (live_is (entry_of w.books (listed_number b c k)) (omega (arith, z.1)))

  few : (k : ℕ) → k < w.state.numbers → listings w k + occurrences list count k ≤ 4294967295
  few k l = omega (arith, listings_most w k a.run, occurs_most list count k, h, (bounds_say w.state a.run.fit.bounds).lists)

  sound₁ : Sound books₁ w.state.numbers w.state.pool.0 (λ i. listings w i + occurrences list count i)
  sound₁ = listed_all_sound list a.sound count used live few

  framed₁ : Framed 0 (4 + 20 * w.state.numbers) w.books books₁
  framed₁ = (over_go list count (run_firm a.run).books (listed_used b c x)).1

  small : len + count < 2 ^ 32
  small = omega (arith, h, (bounds_say w.state a.run.fit.bounds).lists)

  books_are : v.books ≡ with_tally books₁ (tally w.state place (c + 1)) (len + count)
  unfolding list_attached counting
  books_are = refl

  sound_here : Sound v.books w.state.numbers w.state.pool.0 (λ i. listings w i + occurrences list count i)
  sound_here = rw books_are (tally_sound (tally w.state place (c + 1)) (len + count) sound₁ small)

  stands_here : (k : ℕ) → k < w.state.numbers → is_free (entry_of w.books k) ≡ false → Stands w v k
  unfolding list_attached counting
  stands_here k l z =
      record {
        live = ap is_free (entry-with_tally books₁ (tally w.state place (c + 1)) (len + count) k l) ∙ listed_all_keeps list a.sound count used live few k l z;
        begins = begins_is (tally-filled books₁ w.pool (tally w.state place (c + 1)) (len + count) k l ∙ listed_all_filled list a.sound w.pool count used k l);
      }

  -- every entry is as it was but for its listings
  relisted : (k : ℕ) → k < w.state.numbers → Relisted (entry_of w.books k) (entry_of v.books k)
  unfolding list_attached counting
  relisted k l =
      rw (entry-with_tally books₁ (tally w.state place (c + 1)) (len + count) k l, listed_all_entry list a.sound count used live few k l)
      (record { is = refl })

  open_was : (d k : ℕ) → HasOpen v.state d k → HasOpen w.state d k
  open_was d k o = rw same_state at o

  pool_here : PoolStays w v
  unfolding list_attached counting
  pool_here = books_stay w v refl refl (λ k l h. (stands_here k l h).live) (λ k l h. relisted k l) (λ d k h o. o)

  -- the lists
  count_other : (slot k : ℕ) → k ≤ w.state.columns → (slot ≡ place → k ≢ c + 1) → tally_of v.books (tally w.state slot k) ≡ tally_of w.books (tally w.state slot k)
  count_other slot k l n =
      rw books_are
      (tally-kept (record { state = w.state; slots = w.slots; pool = w.pool; books = books₁ }) place (c + 1) (len + count) slot k (omega arith) l n
      ∙ framed_tally (tally w.state slot k) framed₁)

  length_is : (slot d : ℕ) → list_length v slot d ≡ tally_of v.books (tally w.state slot (d + 1))
  unfolding list_length
  length_is slot d = ap (λ s. tally_of v.books (tally s slot (d + 1))) same_state

  length_other : (slot d : ℕ) → d < w.state.columns → Elsewhere w c slot d → list_length v slot d ≡ list_length w slot d
  unfolding list_length
  length_other slot d r e = length_is slot d ∙ count_other slot (d + 1) (omega arith) (λ p z. apart e p (omega arith))
    where
      apart : Elsewhere w c slot d → slot ≡ place → d ≡ c → ⊥
      apart (by_slot n) p z = n p
      apart (by_column n) p z = n z

  length_here : list_length v place c ≡ len + count
  length_here =
      length_is place c
      ∙ (rw books_are
      (tally-same books₁ (tally w.state place (c + 1)) (len + count) (omega (arith, tally_room place (c + 1) (run_firm a.run) place_in (omega arith), framed₁.len)) small))

  rows_here : (slot : ℕ) → rows_in v slot ≡ rows_in w slot
  unfolding rows_in
  rows_here slot = ap (λ s. tally_of v.books (tally s slot 0)) same_state ∙ count_other slot 0 (omega arith) (λ p z. omega arith)

  one : OneList w v c
  one =
      record {
        beside = beside;
        lengths = λ slot d p r e. length_other slot d r e;
        words = λ slot d i p r e l. old_entry slot d i p r l;
        blocks = λ d n. ap (λ s. (column_of s d).block) same_state;
      }

  pub attached_reach : reach v place c ≡ len + count
  attached_reach =
      reach-shut v place c (ap (λ s. is_views s c) same_state ∙ y) (ap (λ s. has_block (column_of s c).block) same_state ∙ ap has_block o) ∙ length_here

  reach_was : reach w place c ≡ len
  reach_was = reach-shut w place c y (ap has_block o)

  number_was : (i : ℕ) → i < len → number_at v place c i ≡ number_at w place c i
  number_was i l =
      number-listed v place c i (omega (arith, length_here)) ∙ old_entry place c i place_in q l ∙ sym (number-listed w place c i l)

  -- the numbers behind are those of the list
  pub attached_number : (j : ℕ) → j < count → number_at v place c (len + j) ≡ listed_number b c j
  attached_number j l = number-listed v place c (len + j) (omega (arith, length_here)) ∙ new-entry j l

  times_is : (k : ℕ) → times_in v place c k ≡ times_in w place c k + occurrences list count k
  unfolding times_in
  times_is k =
      ap (λ (n : ℕ). sum_to n (λ i. cond (eqb k (number_at v place c i)) 1 0)) attached_reach
      ∙ sum_more (λ i. cond (eqb k (number_at v place c i)) 1 0) len count
      ∙ (rw (reach_was, occurs_sum list count k)
      (ap₂ (λ (m n : ℕ). m + n)
      (sum_ext len _ _ (λ i l. ap (λ (t : ℕ). cond (eqb k t) 1 0) (number_was i l)))
      (sum_ext count _ _ (λ j l. ap (λ (t : ℕ). cond (eqb k t) 1 0) (attached_number j l ∙ sym (listed_word b c j l))))))

  remains : Remains w ext v
  remains =
      record {
        rests = λ slot d i p r l.
            let m : i < w.state.rows.0 = omega (arith, rows_most w ext a slot d p r) in
            record { bit = still_here.bit slot d i p r (omega (arith, bits_fit w.state)); cell = cell_here slot d i p r m };
        lists = one_lists one (record { more = omega (arith, reach_was, attached_reach); same = λ i l. number_was i (omega (arith, reach_was)) });
        stands = live_stands a stands_here;
        sound = sound_recount (listings v) sound_here (λ k l. omega (arith, one_listings one place_in q k, times_is k));
        listed = λ slot d i p r l. listed_then slot d i p r l (ℕ_discrete slot place) (ℕ_discrete d c);
        sizes = λ d r z. rw same_state (a.sizes d r z);
        sixteen = rw same_state a.sixteen;
        alone = rw same_state a.alone;
        unheld = unheld_on a v.state v.books open_was (λ k l h z. relisted_hold (relisted k l) z);
        rows = λ slot p. rows_here slot;
        unlisted = λ slot d p z r. length_other slot d r (by_slot z);
      }
    where
      listed_then : (slot d i : ℕ) → slot ≤ w.state.queue → d < w.state.columns → i < list_length v slot d → Dec (slot ≡ place) → Dec (d ≡ c) → listed_at v slot d i < w.state.numbers
      listed_then slot d i p r l (no z) f =
          let m : i < list_length w slot d = omega (arith, length_other slot d r (by_slot z)) in
          rw (old_entry slot d i p r m) (a.listed slot d i p r m)
      listed_then slot d i p r l (yes z) (no f) =
          let m : i < list_length w slot d = omega (arith, length_other slot d r (by_column f)) in
          rw (old_entry slot d i p r m) (a.listed slot d i p r m)
      listed_then slot d i p r l (yes z) (yes f) = here (dec_lt i len) (rw (z, f) at l)
        where
          here : Dec (i < len) → i < list_length v place c → listed_at v slot d i < w.state.numbers
          here (yes m) g = rw (z, f, old_entry place c i place_in q m) (a.listed place c i place_in q m)
          here (no m) g =
              let t : len + (i - len) ≡ i = omega arith in
              let j : i - len < count = omega (arith, length_here) in
              rw (z, f, ← t, new-entry (i - len) j, ← (listed_word b c (i - len) j)) (used (i - len) j)

  pub attached_moves : Bytes b.body → Moves w ext v ext
  attached_moves bytes = remains_moves a (attached_goes w b c q x h a.run o) beside remains (λ z. rw slots_are (bytes-lay at list-bytes z)) stands_here pool_here
    where
      list-bytes : Bytes list
      list-bytes = list_of_bytes b c bytes

  pub attached_still : BitsStill w v
  attached_still = still_here

  -- the bytes of every row stay, of rows filled and behind them; and the other lists of the slot reach as far
  pub attached_cell : (slot d i : ℕ) → slot ≤ w.state.queue → d < w.state.columns → i < w.state.rows.0 → Agrees w.slots (cell_place w.state slot d i) v.slots (cell_place w.state slot d i) (width_of w.state d)
  attached_cell = cell_here

  pub attached_elsewhere : (d : ℕ) → d < w.state.columns → d ≢ c → reach v place d ≡ reach w place d
  attached_elsewhere d r n = elsewhere_reach one place d place_in r (by_column n)
