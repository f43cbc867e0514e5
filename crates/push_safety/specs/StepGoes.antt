-- The small steps of a push: slots, a column, a count, the rows buffered.
use Rattle.std.specs.Prelude.{ℕ, zero, suc, ◌+◌, ◌*◌, ◌-◌, ◌≤◌, ◌<◌, ◌^◌, ◌≡◌, true, false, List, [], ◌∷◌, length, get_or, set}
use Rattle.std.proofs.Math.Path.{refl}
use Rattle.std.proofs.Common.{sym, ◌∙◌, ap, true≢false, arith, mul-le-mul_left}
use Rattle.std.proofs.Math.Decide.{dec_lt}
use Rattle.words.specs.RunLaws.{length-lay}
use Rattle.words.specs.FrameLaws.{framed_refl}
use Rattle.kinds.specs.Kind.{kind_of, is_view}
use Rattle.books.specs.Entry.{used_of}
use Rattle.tallies.specs.declared.Tally.{Tally}
use Rattle.tallies.specs.Tally.{tally_place, tally_of, with_tally}
use Rattle.tallies.specs.TallyLaws.{OtherTally, slots, slots', words, tally-same, tally_other}
use Rattle.blocks.specs.declared.BufferSource.{BufferSource}
use Rattle.counts.specs.declared.BufferNumber.{BufferNumber}
use Rattle.state.specs.declared.BatchCoalescer.{BatchCoalescer}
use Rattle.state.specs.declared.Column.{Column}
use Rattle.state.specs.World.{World, no_column, column_of}
use Rattle.state.specs.Layout.{is_views, books_length, tally, list_length}
use Rattle.rules.specs.Batch.{Batch}
use Rattle.rules.specs.Steps.{with_counts, with_column, in_state, buffering, counting}
use Rattle.rules.specs.Views.{span, bits_laid, values_laid, bits_copied, values_copied, views_raised}
use Rattle.rules.specs.CopyLaws.{length-views_put}
use Rattle.rules.specs.Stays.{SameSetUp, same_counts, same-column, beside_kept}
use Rattle.rules.proofs.PartLaws.{counting_beside}
use Rattle.push_safety.specs.Run.{Run, Goes}
use Rattle.push_safety.specs.BooksGo.{go_refl, tally_go}
use Rattle.push_safety.specs.Firm.{Firm, FirmGoes, run_firm, same_list_length, firm_goes, spare_goes, goes_both, slots_goes, slots_firm}
use Rattle.std.specs.Prelude.{Option, Some}

-- ---- only slots change

module _ {w : World} (b : Batch) (c : ℕ) where
  pub bits_goes : (slot at from n : ℕ) → Run w → Goes w (bits_copied w b slot (span c at from n))
  unfolding bits_copied bits_laid
  bits_goes slot at from n r = slots_goes refl (length-lay _ _ w.slots) refl refl r

  pub bits_firm : (slot at from n : ℕ) → Firm w → FirmGoes w (bits_copied w b slot (span c at from n))
  unfolding bits_copied bits_laid
  bits_firm slot at from n r = slots_firm refl (length-lay _ _ w.slots) refl refl r

  pub values_goes : (slot at from n : ℕ) → Run w → Goes w (values_copied w b slot (span c at from n))
  unfolding values_copied values_laid
  values_goes slot at from n r = slots_goes refl (length-lay _ _ w.slots) refl refl r

  pub values_firm : (slot at from n : ℕ) → Firm w → FirmGoes w (values_copied w b slot (span c at from n))
  unfolding values_copied values_laid
  values_firm slot at from n r = slots_firm refl (length-lay _ _ w.slots) refl refl r

  pub raised_goes : (k at from n : ℕ) → Run w → Goes w (views_raised w b k (span c at from n))
  unfolding views_raised
  raised_goes k at from n r = slots_goes refl (length-views_put _ w.slots _ n) refl refl r

-- ---- other counts of rows: place stays

pub buffering_goes : {w : World} (n : ℕ) → Run w → Goes w (buffering w n)
unfolding column_of
buffering_goes {w} n r =
    goes_both
    (firm_goes (run_firm r)
    (record { set_up = e; slots = refl; pool = refl; books = refl; queued = λ h. h; place = λ h. h })
    (go_refl (run_firm r).books)
    (record {
      lists = λ slot c l h. omega (arith, list slot c, r.lists slot c l h);
      none = λ slot c l h y. list slot c ∙ r.none slot c l h y;
      kept = λ c h y. r.kept c h y;
      block = λ c k h y o. r.block c k h y o;
    }))
    (spare_goes w (buffering w n) e (λ c k h y o. omega (arith, list w.state.place c, r.room c k h y o)))
  where
    e : SameSetUp w.state (with_counts w.state w.state.place w.state.queued n)
    e = same_counts w.state w.state.place w.state.queued n

    list : (slot c : ℕ) → list_length (buffering w n) slot c ≡ list_length w slot c
    list = same_list_length w (buffering w n) e (framed_refl 0 (4 + 20 * w.state.numbers) w.books)

-- ---- another column

set_cases : (l : List Column) (c k : ℕ) (x : Column) (P : Column → Type 0) → (k ≡ c → P x) → P (get_or l k no_column) → P (get_or (set l c x) k no_column)
set_cases [] c k x P new old = old
set_cases (y ∷ l) zero zero x P new old = new refl
set_cases (y ∷ l) zero (suc k) x P new old = old
set_cases (y ∷ l) (suc c) zero x P new old = old
set_cases (y ∷ l) (suc c) (suc k) x P new old = set_cases l c k x P (λ e. new (ap suc e)) old

set_views : (l : List Column) (c : ℕ) (x : Column) → is_view (get_or l c no_column).kind ≡ true → get_or (set l c x) c no_column ≡ x
unfolding is_view kind_of
set_views [] c x e = absurd (true≢false (sym e))
set_views (y ∷ l) zero x e = refl
set_views (y ∷ l) (suc c) x e = set_views l c x e

module _ (s : BatchCoalescer) (c : ℕ) (source : BufferSource) (block : Option BufferNumber) where
  abbrev new : Column
  new = record { kind = (column_of s c).kind; source = source; block = block }

  -- column k is the new one, or as it was
  pub column_cases : (k : ℕ) (P : Column → Type 0) → (k ≡ c → P new) → P (column_of s k) → P (column_of (with_column s c source block) k)
  unfolding column_of
  column_cases k P a b = set_cases s.column c k new P a b

  -- a column of views is the new one
  pub column-new : is_views s c ≡ true → column_of (with_column s c source block) c ≡ new
  unfolding column_of is_views
  column-new e = set_views s.column c new e

-- a column with another source or block, in range
pub with_column_goes : {w : World} (c : ℕ) (source : BufferSource) (block : Option BufferNumber) → Run w → (c < w.state.columns → is_views w.state c ≡ true → 1 ≤ source.current.0) → ((k : BufferNumber) → block ≡ Some k → (k.0 < used_of w.books) × (list_length w w.state.place c < w.state.lists)) → Goes w (in_state w (with_column w.state c source block))
with_column_goes {w} c source block r some number =
    goes_both
    (firm_goes (run_firm r)
    (record { set_up = e; slots = refl; pool = refl; books = refl; queued = λ h. h; place = λ h. h })
    (go_refl (run_firm r).books)
    (record {
      lists = λ slot d l h. omega (arith, list slot d, r.lists slot d l h);
      none = λ slot d l h y. list slot d ∙ r.none slot d l h y;
      kept = λ d h y.
          column_cases w.state c source block d (λ (x : Column). 1 ≤ x.source.current.0)
          (λ q. some (rw q at h) (rw q at y))
          (r.kept d h y);
      block = λ d k h y.
          column_cases w.state c source block d (λ (x : Column). x.block ≡ Some k → k.0 < used_of w.books)
          (λ q o. (number k o).0)
          (r.block d k h y);
    }))
    (spare_goes w v e (λ d k h y o.
    let z : list_length w w.state.place d < w.state.lists = column_cases w.state c source block d (λ (x : Column). x.block ≡ Some k → list_length w w.state.place d < w.state.lists) (λ q o. rw q (number k o).1) (r.room d k h y) o in
    omega (arith, list w.state.place d, z)))
  where
    v : World
    v = in_state w (with_column w.state c source block)

    e : SameSetUp w.state (with_column w.state c source block)
    e = same-column w.state c source block

    list : (slot d : ℕ) → list_length v slot d ≡ list_length w slot d
    list = same_list_length w v e (framed_refl 0 (4 + 20 * w.state.numbers) w.books)

-- ---- a count

-- it lies in the books
tally_in : (s : BatchCoalescer) (slot k : ℕ) → slot ≤ s.queue → k ≤ s.columns → tally_place (tally s slot k) + 4 ≤ books_length s
unfolding tally_place books_length
tally_in s slot k h l =
    let p : (1 + s.columns) * suc slot ≤ (1 + s.columns) * (s.queue + 1) = mul-le-mul_left (1 + s.columns) (omega arith) in
    omega arith

pub tally_room : {w : World} (slot k : ℕ) → Firm w → slot ≤ w.state.queue → k ≤ w.state.columns → tally_place (tally w.state slot k) + 4 ≤ length w.books
tally_room {w} slot k r h l = omega (arith, tally_in w.state slot k h l, r.fit.books_are)

-- two counts of one set-up are one or different
data Which (slot k slot' k' : ℕ) : Type 0 where
  same : slot' ≡ slot → k' ≡ k → Which slot k slot' k'
  less : slot < slot' → Which slot k slot' k'
  more : slot' < slot → Which slot k slot' k'
  word : slot ≡ slot' → 1 ≤ (k - k') + (k' - k) → Which slot k slot' k'

which : (slot k slot' k' : ℕ) → Which slot k slot' k'
which slot k slot' k' = go (dec_lt slot slot') (dec_lt slot' slot) (dec_lt k k') (dec_lt k' k)
  where
    go : Dec (slot < slot') → Dec (slot' < slot) → Dec (k < k') → Dec (k' < k) → Which slot k slot' k'
    go (yes a) b c d = less a
    go (no a) (yes b) c d = more b
    go (no a) (no b) (yes c) d = word (omega arith) (omega arith)
    go (no a) (no b) (no c) (yes d) = word (omega arith) (omega arith)
    go (no a) (no b) (no c) (no d) = same (omega arith) (omega arith)

-- a count read after one was put: the one, or as it was
tally_cases : (w : World) (slot k x : ℕ) → Firm w → slot ≤ w.state.queue → k ≤ w.state.columns → x < 2 ^ 32 → (slot' k' : ℕ) → k' ≤ w.state.columns → (P : ℕ → Type 0) → (slot' ≡ slot → k' ≡ k → P x) → P (tally_of w.books (tally w.state slot' k')) → P (tally_of (with_tally w.books (tally w.state slot k) x) (tally w.state slot' k'))
tally_cases w slot k x r h l f slot' k' l' P new old = go (which slot k slot' k')
  where
    t : Tally
    t = tally w.state slot k

    u : Tally
    u = tally w.state slot' k'

    other : OtherTally t u → P (tally_of (with_tally w.books t x) u)
    other d = rw (tally_other w.books t u x refl refl l l' d) old

    go : Which slot k slot' k' → P (tally_of (with_tally w.books t x) u)
    go (same p q) = rw (p, q, tally-same w.books t x (tally_room slot k r h l) f) (new p q)
    go (less d) = other (slots d)
    go (more d) = other (slots' d)
    go (word p d) = other (words p d)

-- so the length of a list, after a count was put
pub list_cases : {w : World} (slot k x : ℕ) → Firm w → slot ≤ w.state.queue → k ≤ w.state.columns → x < 2 ^ 32 → (slot' c : ℕ) → c < w.state.columns → (P : ℕ → Type 0) → (slot' ≡ slot → c + 1 ≡ k → P x) → P (list_length w slot' c) → P (list_length (counting w slot k x) slot' c)
unfolding list_length counting
list_cases {w} slot k x r h l f slot' c g P new old = tally_cases w slot k x r h l f slot' (c + 1) (omega arith) P new old

-- the rows of a slot; and the length of the list of column c, within B, and 0 where it has no views
pub counting_firm : {w : World} (slot k x : ℕ) → Firm w → slot ≤ w.state.queue → k ≤ w.state.columns → x < 2 ^ 32 → ((c : ℕ) → c + 1 ≡ k → (x ≤ w.state.lists) × (is_views w.state c ≡ false → x ≡ 0)) → FirmGoes w (counting w slot k x)
unfolding counting
counting_firm {w} slot k x r h l f new =
    firm_goes r (beside_kept (counting_beside w slot k x)) (tally_go (tally w.state slot k) x r.books f)
    (record {
      lists = λ slot' c p q. list_cases slot k x r h l f slot' c q (λ (n : ℕ). n ≤ w.state.lists) (λ a b. (new c b).0) (r.lists slot' c p q);
      none = λ slot' c p q y. list_cases slot k x r h l f slot' c q (λ (n : ℕ). n ≡ 0) (λ a b. (new c b).1 y) (r.none slot' c p q y);
      kept = r.kept;
      block = λ c n p y o. omega (arith, r.block c n p y o, (tally_go (tally w.state slot k) x r.books f).used);
    })

-- where no block of the column whose list it is is open
pub counting_goes : {w : World} (slot k x : ℕ) → Run w → slot ≤ w.state.queue → k ≤ w.state.columns → x < 2 ^ 32 → ((c : ℕ) → c + 1 ≡ k → (x ≤ w.state.lists) × (is_views w.state c ≡ false → x ≡ 0)) → ((c : ℕ) (n : BufferNumber) → c + 1 ≡ k → is_views w.state c ≡ true → (column_of w.state c).block ≡ Some n → ⊥) → Goes w (counting w slot k x)
unfolding counting
counting_goes {w} slot k x r h l f new shut =
    goes_both (counting_firm slot k x (run_firm r) h l f new)
    (spare_goes w (counting w slot k x) (counting_beside w slot k x).set_up (λ c n p y o.
    list_cases slot k x (run_firm r) h l f w.state.place c p (λ (m : ℕ). m < w.state.lists) (λ a b. absurd (shut c n b y o)) (r.room c n p y o)))
