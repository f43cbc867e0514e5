-- A change of slots that stays within one thing: every other thing there is as it was.
use Rattle.std.specs.Prelude.{ℕ, ◌+◌, ◌*◌, ◌/◌, ◌≤◌, ◌<◌, ◌≡◌, Bool, true, false, List, length, ltb}
use Rattle.std.proofs.Math.Path.{refl}
use Rattle.std.proofs.Common.{sym, ◌∙◌, arith, one-mul, le-ltb}
use Rattle.std.proofs.Math.Bool.{cond}
use Rattle.std.proofs.Math.Decide.{dec_lt}
use Rattle.words.specs.Word.{word32}
use Rattle.words.specs.WordLaws.{Bytes}
use Rattle.words.specs.Frame.{Agrees, Framed}
use Rattle.words.specs.WordLaws.{Bytes}
use Rattle.words.specs.FrameLaws.{framed_agrees, agrees_word}
use Rattle.bits.specs.Bits.{bits_from}
use Rattle.bits.specs.BitLaws.{run_bit, bit_of_byte}
use Rattle.books.specs.Entry.{entry_of, is_free}
use Rattle.sound.specs.Sound.{filled_bytes}
use Rattle.sound.specs.SoundLaws.{sound_recount}
use Rattle.state.specs.declared.BatchCoalescer.{BatchCoalescer}
use Rattle.state.specs.World.{World}
use Rattle.state.specs.Layout.{width_of, is_views, bitmap_bytes, bitmap_place, list_place, cell_place, rows_in, list_length}
use Rattle.state.specs.Where.{Where, cells, bitmap, listed, start_of, size_of, Inside, cells_inside, bitmap_inside, listed_inside, Other}
use Rattle.state.proofs.WhereLaws.{other_apart}
use Rattle.state.specs.Rows.{listed_at}
use Rattle.rules.specs.Steps.{in_slots}
use Rattle.rules.specs.Views.{open_number}
use Rattle.rules.specs.Stays.{beside_state}
use Rattle.push_safety.specs.Firm.{slots_goes}
use Rattle.invariant.specs.Holding.{reach, number_at, listings, rows_at, Holding, Stands}
use Rattle.invariant.proofs.BeginLaws.{begins_refl}
use Rattle.invariant.proofs.Rests.{Rests, Lists}
use Rattle.invariant.proofs.CountLaws.{times_same, listings-same}
use Rattle.invariant.proofs.PoolLaws.{relisted_is, books_stay}
use Rattle.invariant.proofs.Steps.MoveLaws.{Remains, remains_moves, live_stands}
use Rattle.invariant.specs.Steps.Moves.{Moves}

-- a bit of bytes that agree
pub agrees_bit : {p q : List ℕ} (a n i : ℕ) → Agrees p a q a n → i < 8 * n → bits_from q a 0 i ≡ bits_from p a 0 i
agrees_bit {p} {q} a n i g h =
    run_bit q a 0 i ∙ bit_of_byte q p (8 * a + 0 + i) (g.byte ((8 * a + 0 + i) / 8) ((8 * a + 0 + i) / 8) (omega arith) (omega arith) refl) ∙ sym (run_bit p a 0 i)

-- ---- what is left by a change of one thing

module _ (s : BatchCoalescer) {p q : List ℕ} (a : Where) (f : Framed (start_of s a) (start_of s a + size_of s a) p q) (h : Inside s a) where
  pub thing_agrees : (b : Where) → Inside s b → Other a b → Agrees p (start_of s b) q (start_of s b) (size_of s b)
  thing_agrees b k o = framed_agrees (start_of s b) (size_of s b) f (other_apart s a b h k o)

  pub cell_agrees : (slot c i : ℕ) → slot ≤ s.queue → c < s.columns → i < s.rows.0 → Other a (cells slot c i 1) → Agrees p (cell_place s slot c i) q (cell_place s slot c i) (width_of s c)
  cell_agrees slot c i l m n o = rw (one-mul (width_of s c)) at (thing_agrees (cells slot c i 1) (cells_inside l m (omega arith)) o)

  pub bit_agrees : (slot c i : ℕ) → slot ≤ s.queue → c < s.columns → i < 8 * bitmap_bytes s → Other a (bitmap slot c) → bits_from q (bitmap_place s slot c) 0 i ≡ bits_from p (bitmap_place s slot c) 0 i
  bit_agrees slot c i l m n o =
      agrees_bit (bitmap_place s slot c) (bitmap_bytes s) i (thing_agrees (bitmap slot c) (bitmap_inside l m) o) n

  pub entry_agrees : (slot c i : ℕ) → slot ≤ s.queue → c < s.columns → is_views s c ≡ true → i < s.lists → Other a (listed slot c i) → word32 q (list_place s slot c + 4 * i) ≡ word32 p (list_place s slot c + 4 * i)
  entry_agrees slot c i l m y n o =
      agrees_word (list_place s slot c + 4 * i) (list_place s slot c + 4 * i) (thing_agrees (listed slot c i) (listed_inside l m y n) o) (omega arith) (omega arith) refl

-- a list that has an entry is of views, and within B
pub entry_views : {w : World} {ext : ℕ → ℕ} (slot c i : ℕ) → Holding w ext → slot ≤ w.state.queue → c < w.state.columns → i < list_length w slot c → (is_views w.state c ≡ true) × (i < w.state.lists)
entry_views {w} slot c i a p q h = go (is_views w.state c) refl
  where
    go : (b : Bool) → is_views w.state c ≡ b → (is_views w.state c ≡ true) × (i < w.state.lists)
    go true y = (y, omega (arith, a.run.lists slot c p q))
    go false y = absurd (omega (arith, a.run.none slot c p q y))

-- ---- only slots change

module _ (w : World) (x : List ℕ) where
  -- lengths of lists, counts of rows and open blocks are none of the slots' business
  pub slots_length_lem : (slot c : ℕ) → list_length (in_slots w x) slot c ≡ list_length w slot c
  unfolding list_length
  slots_length_lem slot c = refl

  pub slots_rows : (slot : ℕ) → rows_in (in_slots w x) slot ≡ rows_in w slot
  unfolding rows_in
  slots_rows slot = refl

  pub slots_open : (c : ℕ) → open_number (in_slots w x) c ≡ open_number w c
  unfolding open_number
  slots_open c = refl

  pub slots_reach : (slot c : ℕ) → reach (in_slots w x) slot c ≡ reach w slot c
  unfolding reach list_length
  slots_reach slot c = refl

  -- the numbers are, where the entries of the lists are as they were
  pub slots_number : (slot c i : ℕ) → (i < list_length w slot c → listed_at (in_slots w x) slot c i ≡ listed_at w slot c i) → number_at (in_slots w x) slot c i ≡ number_at w slot c i
  unfolding number_at list_length open_number
  slots_number slot c i h = go (dec_lt i (list_length w slot c))
    where
      go : Dec (i < list_length w slot c) → cond (ltb i (list_length w slot c)) (listed_at (in_slots w x) slot c i) (open_number w c) ≡ cond (ltb i (list_length w slot c)) (listed_at w slot c i) (open_number w c)
      go (yes l) = rw (h l)
      go (no l) = rw (le-ltb i (list_length w slot c) (omega arith))

module _ {w : World} {ext : ℕ → ℕ} (x : List ℕ) (a : Holding w ext) (words : (slot c i : ℕ) → slot ≤ w.state.queue → c < w.state.columns → i < list_length w slot c → listed_at (in_slots w x) slot c i ≡ listed_at w slot c i) where
  pub slots_lists : (slot c : ℕ) → slot ≤ w.state.queue → c < w.state.columns → Lists w (in_slots w x) slot c
  slots_lists slot c p q =
      record {
        more = omega (arith, slots_reach w x slot c);
        same = λ i h. slots_number w x slot c i (words slot c i p q);
      }

  stands_here : (k : ℕ) → k < w.state.numbers → is_free (entry_of w.books k) ≡ false → Stands w (in_slots w x) k
  stands_here k l h = record { live = h; begins = begins_refl (filled_bytes w.books w.pool k) }

  pub slots_remain : ((slot c i : ℕ) → slot ≤ w.state.queue → c < w.state.columns → i < rows_at w ext slot c → Rests w (in_slots w x) slot c i) → Remains w ext (in_slots w x)
  slots_remain rests =
      record {
        rests = rests;
        lists = slots_lists;
        stands = live_stands a stands_here;
        sound = sound_recount (listings (in_slots w x)) a.sound (λ k l. sym (listings-same w (in_slots w x) refl refl k (λ slot c p q. times_same w (in_slots w x) slot c k (slots_reach w x slot c) (slots_lists slot c p q).same)));
        listed = λ slot c i p q h. let l : i < list_length w slot c = rw (slots_length_lem w x slot c) at h in rw (words slot c i p q l) (a.listed slot c i p q l);
        sizes = a.sizes;
        sixteen = a.sixteen;
        alone = a.alone;
        unheld = a.unheld;
        rows = λ slot p. slots_rows w x slot;
        unlisted = λ slot c p d q. slots_length_lem w x slot c;
      }

  pub slots_moves : length x ≡ length w.slots → (Bytes w.slots → Bytes x) → ((slot c i : ℕ) → slot ≤ w.state.queue → c < w.state.columns → i < rows_at w ext slot c → Rests w (in_slots w x) slot c i) → Moves w ext (in_slots w x) ext
  slots_moves len bytes rests =
      remains_moves a (slots_goes refl len refl refl a.run) (beside_state w (in_slots w x) refl len refl refl) (slots_remain rests) bytes stands_here (books_stay w (in_slots w x) refl refl (λ k l h. h) (λ k l h. relisted_is refl) (λ c k h o. o))
