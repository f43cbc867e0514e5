-- What copying a part of a column leaves as it was, and the numbers that it refuses with.
use Rattle.std.specs.Prelude.{ℕ, ◌+◌, ◌≡◌, refl, cond, List, [], ◌∷◌, length, leb}
use Rattle.std.proofs.Common.{sym, ◌∙◌, arith}
use Rattle.search.specs.Cases.{by_cond}
use Rattle.blocks.specs.Block.{asked}
use Rattle.books.specs.Search.{lowest_free, lowest_gap}
use Rattle.listings.specs.Listing.{listed_one}
use Rattle.room.specs.Room.{or_refused, chosen, block_room, opened}
use Rattle.room.specs.RoomLaws.{block_refusal}
use Rattle.words.specs.WordLaws.{length-with_word32}
use Rattle.words.specs.RunLaws.{length-lay}
use Rattle.views.specs.StoreLaws.{length-with_view}
use Rattle.pool.specs.CarryLaws.{length-carried}
use Rattle.room.proofs.BackLaws.{opened-answer}
use Rattle.tallies.specs.TallyLaws.{length-with_tally}
use Rattle.views.specs.View.{is_inline}
use Rattle.state.specs.World.{World, column_of}
use Rattle.state.specs.Layout.{tally, is_views, list_length}
use Rattle.rules.specs.declared.Way.{Way}
use Rattle.rules.specs.Batch.{Batch, record_of, list_of, row_view, ideal, way}
use Rattle.rules.specs.Steps.{Res, counting, listing}
use Rattle.rules.specs.Views.{span, filling, bits_laid, values_laid, bits_copied, values_copied, is_open, open_number, open_filled, open_rest, closed, opening, block_opened, views_from, views_compacted, walked, part_compacted, list_attached, views_raised, part_attached, by_way, column_copied, part_copied}
use Rattle.rules.specs.Copies.{starts_fit}
use Rattle.rules.specs.CopyLaws.{length-views_put, length-bytes_carried}
use Rattle.rules.specs.Held.{Among, one_of, among-more, Holds, held, refused, holds_more, holds_bind, holds_cond, holds_each, holds_among}
use Rattle.rules.specs.SizeLaws.{length-with_length, length-listed_one, length-over_list, length-opened}
use Rattle.rules.specs.Stays.{same-column, Beside, beside_refl, beside_trans, each_beside, beside_state}
use Rattle.std.specs.Prelude.{Option, Some, None, Result, Ok, Err}
use Rattle.counts.specs.declared.BufferNumber.{BufferNumber}
use Rattle.room.specs.declared.Room.{Room}

-- a count, and a number at the end of a list
pub counting_beside : (w : World) (slot k v : ℕ) → Beside w (counting w slot k v)
unfolding counting
counting_beside w slot k v = beside_state w _ refl refl refl (length-with_tally w.books (tally w.state slot k) v)

pub listing_beside : (w : World) (slot c number : ℕ) → Beside w (listing w slot c number)
unfolding listing counting
listing_beside w slot c number = beside_state w _ refl (length-with_word32 w.slots _ number) refl (length-with_tally w.books (tally w.state slot (c + 1)) _)

-- bits and bytes
pub bits_beside : (w : World) (b : Batch) (c slot at from n : ℕ) → Beside w (bits_copied w b slot (span c at from n))
unfolding bits_copied bits_laid
bits_beside w b c slot at from n = beside_state w _ refl (length-lay _ _ w.slots) refl refl

pub values_beside : (w : World) (b : Batch) (c slot at from n : ℕ) → Beside w (values_copied w b slot (span c at from n))
unfolding values_copied values_laid
values_beside w b c slot at from n = beside_state w _ refl (length-lay _ _ w.slots) refl refl

-- a block closed
pub closed_beside : (w : World) (c : ℕ) → Beside w (closed w c)
unfolding closed
closed_beside w c =
    by_cond (Beside w) (is_open w c)
    (λ h.
    record {
      set_up = same-column w.state c (column_of w.state c).source None;
      place = refl;
      queued = refl;
      buffered = refl;
      slots = (listing_beside w (filling w) c (open_number w c)).slots;
      pool = (listing_beside w (filling w) c (open_number w c)).pool;
      books = (listing_beside w (filling w) c (open_number w c)).books;
    })
    (λ h. beside_refl w)

-- a room chosen
chosen-number : (f : Option BufferNumber) (g : Option ℕ) (n : ℕ) → or_refused f g ≡ Err n → Among (11 ∷ 12 ∷ []) n
chosen-number None g n e = let q : 11 ≡ n = cc in rw (← q) (one_of (11 ∷ 12 ∷ []) 11 tt)
chosen-number (Some k) None n e = let q : 12 ≡ n = cc in rw (← q) (one_of (11 ∷ 12 ∷ []) 12 tt)
chosen-number (Some k) (Some at) n e = let z : ◌≡◌ {A = ℕ} 0 1 = cc in absurd (omega arith)

pub chosen-among : (s : List ℕ) (m pool capacity n : ℕ) → chosen s m pool capacity ≡ Err n → Among (11 ∷ 12 ∷ []) n
unfolding chosen
chosen-among s m pool capacity n e = chosen-number (lowest_free s m) (lowest_gap s pool capacity) n e

-- a block opened: those, and 14
pub block_among : (s : List ℕ) (m pool capacity n : ℕ) → block_room s m pool capacity ≡ Err n → Among (11 ∷ 12 ∷ 14 ∷ []) n
block_among s m pool capacity n e =
    block_refusal s m pool capacity {P = Among (11 ∷ 12 ∷ 14 ∷ [])} n e
    (λ k q. among-more (11 ∷ 12 ∷ 14 ∷ []) tt (chosen-among s m pool capacity k q))
    (one_of (11 ∷ 12 ∷ 14 ∷ []) 14 tt)

by_answer_lem : (w : World) (c min : ℕ) (a : Result Room ℕ) (s : List ℕ) → ((n : ℕ) → a ≡ Err n → Among (11 ∷ 12 ∷ 14 ∷ []) n) → length s ≡ length w.books → Holds (Beside w) (Among (11 ∷ 12 ∷ 14 ∷ [])) (opening w c min (record { answer = a; books = s }))
by_answer_lem w c min (Err n) s f l = refused (f n refl)
by_answer_lem w c min (Ok r) s f l =
    held
    (record {
      set_up = same-column w.state c (asked (column_of w.state c).source (record { 0 = min })).source (Some r.number);
      place = refl;
      queued = refl;
      buffered = refl;
      slots = refl;
      pool = refl;
      books = l;
    })

pub opened_holds : (w : World) (c min : ℕ) → Holds (Beside w) (Among (10 ∷ 11 ∷ 12 ∷ 14 ∷ [])) (block_opened w c min)
unfolding block_opened
opened_holds w c min =
    holds_cond (leb (list_length w (filling w) c + 1) w.state.lists)
    (λ h. holds_among (10 ∷ 11 ∷ 12 ∷ 14 ∷ []) tt
    (by_answer_lem w c min (opened w.books w.state.numbers (length w.pool) size).answer _
    (λ n e. block_among w.books w.state.numbers (length w.pool) size n (sym (opened-answer _ _ _ _) ∙ e))
    (length-opened w.books w.state.numbers (length w.pool) size)))
    (λ h. refused (one_of (10 ∷ 11 ∷ 12 ∷ 14 ∷ []) 10 tt))
  where
    size : ℕ
    size = (asked (column_of w.state c).source (record { 0 = min })).size.0

-- a step behind others that left the same
pub after : {w v : World} {N : ℕ → Type 0} {r : Res} → Beside w v → Holds (Beside v) N r → Holds (Beside w) N r
after p h = holds_more h (λ u q. beside_trans p q) (λ n m. m)

-- n views copied into the open block
pub views_holds : (w : World) (b : Batch) (c at from n : ℕ) → Holds (Beside w) (Among (8 ∷ [])) (views_compacted w b (span c at from n))
unfolding views_compacted
views_holds w b c at from n =
    holds_cond (starts_fit (views_from w b c from) (open_filled w c) n)
    (λ h. held (beside_state w _ refl (length-views_put _ w.slots _ n) (length-bytes_carried _ _ w.pool _ n) (length-with_length w.books (open_number w c) _)))
    (λ h. refused (one_of (8 ∷ []) 8 tt))

abbrev parts : List ℕ
parts = 8 ∷ 10 ∷ 11 ∷ 12 ∷ 14 ∷ []

-- a part compacted
pub compacted_holds : (w : World) (b : Batch) (c at from n : ℕ) → Holds (Beside w) (Among (8 ∷ 10 ∷ 11 ∷ 12 ∷ 14 ∷ [])) (part_compacted w b (span c at from n))
unfolding part_compacted
compacted_holds w b c at from n =
    holds_cond (is_open w c)
    (λ h. holds_cond (leb (ideal w b c) (open_rest w c)) (λ l. copies w at from n)
    (λ l. holds_bind _ (copies w at from (walked w b c from n (open_rest w c))) (λ v p.
    holds_bind _ (after (beside_trans p (closed_beside v c)) (opens (closed v c) _)) (λ u q.
    after q (copies u _ _ _)))))
    (λ h. holds_bind _ (opens w (ideal w b c)) (λ v p. after p (copies v at from n)))
  where
    copies : (v : World) (at from n : ℕ) → Holds (Beside v) (Among parts) (views_compacted v b (span c at from n))
    copies v at from n = holds_among parts tt (views_holds v b c at from n)

    opens : (v : World) (min : ℕ) → Holds (Beside v) (Among parts) (block_opened v c min)
    opens v min = holds_among parts tt (opened_holds v c min)

-- a whole list attached
pub attached_beside : (w : World) (b : Batch) (c : ℕ) → Beside w (list_attached w b c)
unfolding list_attached
attached_beside w b c =
    beside_trans (beside_state w _ refl (length-lay _ _ w.slots) refl (length-over_list listed_one length-listed_one w.books (list_of b c) (record_of b c).count))
    (counting_beside _ (filling w) (c + 1) _)

-- n views raised
pub raised_beside : (w : World) (b : Batch) (c k at from n : ℕ) → Beside w (views_raised w b k (span c at from n))
unfolding views_raised
raised_beside w b c k at from n = beside_state w _ refl (length-views_put _ w.slots _ n) refl refl

-- a part attached
pub attached_holds : (w : World) (b : Batch) (c at from n : ℕ) → Holds (Beside w) (Among (10 ∷ [])) (part_attached w b (span c at from n))
unfolding part_attached
attached_holds w b c at from n =
    holds_cond (leb (list_length (closed w c) (filling w) c + (record_of b c).count) w.state.lists)
    (λ h. held (beside_trans (beside_trans (closed_beside w c) (attached_beside (closed w c) b c)) (raised_beside _ b c _ at from n)))
    (λ h. refused (one_of (10 ∷ []) 10 tt))

-- a part of a column, by its way; a part of every column
way_holds : (w : World) (b : Batch) (c at from n : ℕ) (y : Way) → Holds (Beside w) (Among parts) (by_way w b (span c at from n) y)
way_holds w b c at from n Way.Copied = held (values_beside w b c (filling w) at from n)
way_holds w b c at from n Way.Attached = holds_among parts tt (attached_holds w b c at from n)
way_holds w b c at from n Way.Compacted = compacted_holds w b c at from n

pub column_holds : (w₀ w : World) (b : Batch) (c from n : ℕ) → Holds (Beside w) (Among (8 ∷ 10 ∷ 11 ∷ 12 ∷ 14 ∷ [])) (column_copied w₀ w b c from n)
unfolding column_copied
column_holds w₀ w b c from n =
    after (bits_beside w b c (filling w) w.state.buffered.0 from n)
    (way_holds _ b c w.state.buffered.0 from n (cond (is_views w.state c) (way w₀ b c) Way.Copied))

pub part_holds : (w₀ w : World) (b : Batch) (from n : ℕ) → Holds (Beside w) (Among (8 ∷ 10 ∷ 11 ∷ 12 ∷ 14 ∷ [])) (part_copied w₀ w b from n)
unfolding part_copied
part_holds w₀ w b from n =
    holds_each w.state.columns (λ v c. column_copied w₀ v b c from n) w (beside_refl w)
    (λ v c l p. after p (column_holds w₀ v b c from n))
