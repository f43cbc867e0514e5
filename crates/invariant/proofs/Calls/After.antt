-- A world with rows pushed since: batches that were made of them stand behind those queued, and the rest is buffered.
use Rattle.std.specs.Prelude.{ℕ, ◌+◌, ◌*◌, ◌≤◌, ◌<◌, ◌≡◌, List, [], ◌++◌}
use Rattle.std.proofs.Math.Path.{refl, sym, ap}
use Rattle.std.proofs.Common.{◌∙◌, append_assoc, append-nil}
use native.Mathlib.Omega.{arith}
use Rattle.words.specs.Word.{word32}
use Rattle.state.specs.World.{World, column_of}
use Rattle.state.specs.Layout.{is_views, rows_in, list_length, queued_slot}
use Rattle.state.proofs.SlotLaws.{queued_in, queued_place}
use Rattle.state.specs.Rows.{Row, joined, listed_at, slot_rows, slot_cell, queued_batches, buffered_rows}
use Rattle.rules.specs.Steps.{buffering}
use Rattle.rules.specs.Views.{open_number}
use Rattle.rules.specs.Stays.{same_counts}
use Rattle.rules.specs.SameLaws.{same_list_place}
use Rattle.push_safety.specs.StepGoes.{buffering_goes}
use Rattle.sound.specs.SoundLaws.{sound_recount}
use Rattle.invariant.specs.Holding.{reach, number_at, listings, rows_at, Spared, Holding, PoolStays}
use Rattle.invariant.proofs.BeginLaws.{begins_refl}
use Rattle.invariant.proofs.CountLaws.{times_same, listings-same, number_live}
use Rattle.invariant.proofs.AloneLaws.{counts_open, alone_counts}
use Rattle.invariant.proofs.PoolLaws.{relisted_is, books_stay, unheld_on}
use Rattle.invariant.specs.Steps.Moves.{Moves}
use Rattle.invariant.proofs.Steps.MoveLaws.{SameSlots, Remains, remains_shows, remains_holding, rows_other, rows_same, queued_slot_same}
use Rattle.invariant.proofs.Steps.SpareMoves.{same_rows, spared_on}
use Rattle.invariant.specs.RowLaws.{joined-append, rows-read, batches-read}

-- v is w with rows pushed
pub record After (w : World) (pushed : List Row) (v : World) : Type 0 where
  pub made : List (List Row)
  pub batches : queued_batches v ≡ queued_batches w ++ made
  pub rows : buffered_rows w ++ pushed ≡ joined made ++ buffered_rows v

pub after_same : {w v : World} → queued_batches v ≡ queued_batches w → buffered_rows v ≡ buffered_rows w → After w [] v
unfolding joined
after_same {w} {v} e f = record { made = []; batches = e ∙ sym (append-nil (queued_batches w)); rows = append-nil (buffered_rows w) ∙ sym f }

pub after_trans : {w v u : World} {p q : List Row} → After w p v → After v q u → After w (p ++ q) u
after_trans {w} {v} {u} {p} {q} a b =
    record {
      made = a.made ++ b.made;
      batches =
          b.batches ∙ ap (λ (l : List (List Row)). l ++ b.made) a.batches ∙ append_assoc (queued_batches w) a.made b.made;
      rows =
          sym (append_assoc (buffered_rows w) p q)
          ∙ ap (λ (l : List Row). l ++ q) a.rows
          ∙ append_assoc (joined a.made) (buffered_rows v) q
          ∙ ap (λ (l : List Row). joined a.made ++ l) b.rows
          ∙ sym (append_assoc (joined a.made) (joined b.made) (buffered_rows u))
          ∙ ap (λ (l : List Row). l ++ buffered_rows u) (sym (joined-append a.made b.made));
    }

-- ---- along a step

-- the queued batches, where every row of a queued slot reads as it did
pub queued_read : (w v : World) (ext : ℕ → ℕ) → w.state.place ≤ w.state.queue → w.state.queued ≤ w.state.queue → SameSlots w v → ((slot : ℕ) → slot ≤ w.state.queue → rows_in v slot ≡ rows_in w slot) → ((slot c i : ℕ) → slot ≤ w.state.queue → c < w.state.columns → i < rows_at w ext slot c → slot_cell v slot c i ≡ slot_cell w slot c i) → queued_batches v ≡ queued_batches w
queued_read w v ext p n b r h =
    batches-read w v b.queued (λ k l.
    let e : queued_slot v.state k ≡ queued_slot w.state k = queued_slot_same w.state v.state k b.set_up.queue b.place b.queued in
    let s : queued_slot w.state k ≤ w.state.queue = queued_in w.state k p in
    rw (e, r (queued_slot w.state k) s)
    (rows-read w v (queued_slot w.state k) (rows_in w (queued_slot w.state k)) b.set_up.columns (λ c i q m.
    h (queued_slot w.state k) c i s q (omega (arith, rows_other w ext (queued_slot w.state k) c (queued_place w.state p n k l))))))

pub moves_batches : {w v : World} {ext ext' : ℕ → ℕ} → Holding w ext → Moves w ext v ext' → queued_batches v ≡ queued_batches w
moves_batches {w} {v} {ext} a m =
    queued_read w v ext a.run.fit.place a.run.fit.queued
    (record { set_up = m.beside.set_up; place = m.beside.place; queued = m.beside.queued; slots = m.beside.slots })
    m.rows
    m.cells

-- the rows buffered
pub rows_are : (w : World) → buffered_rows w ≡ slot_rows w w.state.place w.state.buffered.0
unfolding buffered_rows
rows_are w = refl

-- ---- other rows buffered: the memories stay

module _ (w : World) (n : ℕ) where
  buffering-length : (slot c : ℕ) → list_length (buffering w n) slot c ≡ list_length w slot c
  unfolding list_length
  buffering-length slot c = refl

  pub buffering-rows : (slot : ℕ) → rows_in (buffering w n) slot ≡ rows_in w slot
  unfolding rows_in
  buffering-rows slot = refl

  pub buffering-reach : (slot c : ℕ) → reach (buffering w n) slot c ≡ reach w slot c
  unfolding reach is_views column_of list_length
  buffering-reach slot c = refl

  buffering-entry : (slot c i : ℕ) → listed_at (buffering w n) slot c i ≡ listed_at w slot c i
  unfolding listed_at
  buffering-entry slot c i = ap (λ (x : ℕ). word32 w.slots (x + 4 * i)) (same_list_place (same_counts w.state w.state.place w.state.queued n) slot c)

  buffering-number : (slot c i : ℕ) → number_at (buffering w n) slot c i ≡ number_at w slot c i
  unfolding number_at list_length open_number column_of
  buffering-number slot c i = rw (buffering-entry slot c i)

  pub buffering_alike : SameSlots w (buffering w n)
  buffering_alike = record { set_up = same_counts w.state w.state.place w.state.queued n; place = refl; queued = refl; slots = refl }

  pub buffering-pool : PoolStays w (buffering w n)
  buffering-pool =
      books_stay w (buffering w n) refl refl (λ k l h. h) (λ k l h. relisted_is refl) (λ c k h. counts_open w.state w.state.place w.state.queued n c k)

  pub buffering_spared : {ext : ℕ → ℕ} → Holding w ext → Spared w ext → (ext' : ℕ → ℕ) → ((c : ℕ) → c < w.state.columns → ext' c ≡ ext c) → Spared (buffering w n) ext'
  buffering_spared {ext} a s ext' e =
      spared_on ext' a buffering_alike.set_up s (λ slot c p q. same_rows (rows_same w (buffering w n) ext ext' slot c refl (buffering-rows slot) (e c q)) (λ i l. refl))

  buffering_remains : {ext : ℕ → ℕ} → Holding w ext → Remains w ext (buffering w n)
  unfolding column_of
  buffering_remains a =
      record {
        rests = λ slot c i p q h. record { bit = refl; cell = record { byte = λ x y l m z. let t : x ≡ y = omega arith in rw t } };
        lists = λ slot c p q. record { more = omega (arith, buffering-reach slot c); same = λ i h. buffering-number slot c i };
        stands = λ slot c j p q h. record { live = number_live a slot c j p q h; begins = begins_refl _ };
        sound = sound_recount (listings (buffering w n)) a.sound (λ k l. sym (listings-same w (buffering w n) refl refl k (λ slot c p q. times_same w (buffering w n) slot c k (buffering-reach slot c) (λ i h. buffering-number slot c i))));
        listed = λ slot c i p q h. rw (buffering-entry slot c i) (a.listed slot c i p q (omega (arith, buffering-length slot c)));
        sizes = a.sizes;
        sixteen = a.sixteen;
        alone = alone_counts w.state w.state.place w.state.queued n a.alone;
        unheld = unheld_on a (buffering w n).state w.books (counts_open w.state w.state.place w.state.queued n) (λ k l h z. z);
        rows = λ slot p. buffering-rows slot;
        unlisted = λ slot c p d q. buffering-length slot c;
      }

  pub buffering-holding : {ext : ℕ → ℕ} → Holding w ext → Holding (buffering w n) ext
  buffering-holding a = remains_holding a (buffering_goes n a.run).run buffering_alike (buffering_remains a)

  pub buffering_cell : {ext : ℕ → ℕ} → Holding w ext → (slot c i : ℕ) → slot ≤ w.state.queue → c < w.state.columns → i < rows_at w ext slot c → slot_cell (buffering w n) slot c i ≡ slot_cell w slot c i
  buffering_cell a slot c i p q h = (remains_shows a (buffering_goes n a.run).run buffering_alike (buffering_remains a) slot c i p q h).cell
