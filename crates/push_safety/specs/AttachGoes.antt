-- A whole list attached.
use Rattle.std.specs.Prelude.{ℕ, ◌+◌, ◌*◌, ◌≤◌, ◌<◌, ◌^◌, ◌≢◌, true, false, [], ◌∷◌, length, leb}
use Rattle.std.proofs.Math.Path.{◌≡◌, refl}
use Rattle.std.proofs.Common.{ap, leb-true}
use native.Mathlib.Omega.{arith}
use Rattle.words.specs.Word.{word32}
use Rattle.words.specs.Run.{lay}
use Rattle.words.specs.Frame.{Framed}
use Rattle.words.specs.FrameLaws.{word_read}
use Rattle.words.specs.RunLaws.{length-lay, length-read}
use Rattle.books.specs.Entry.{used_of}
use Rattle.listings.specs.Listing.{listed_one, over_list}
use Rattle.counts.specs.declared.BufferNumber.{BufferNumber}
use Rattle.state.specs.World.{World, column_of}
use Rattle.state.specs.Layout.{is_views, list_place, list_length}
use Rattle.rules.specs.Batch.{Batch, record_of, listed_number, list_of}
use Rattle.rules.specs.Views.{span, filling, closed, list_attached, part_attached}
use Rattle.rules.specs.Held.{Among, one_of, Holds, held, refused, holds_cond}
use Rattle.rules.specs.Stays.{Beside, same_refl}
use Rattle.rules.proofs.PartLaws.{closed_beside}
use Rattle.push_safety.specs.Run.{Run, ColumnReads, Readable, Goes}
use Rattle.push_safety.specs.TestedLaws.{bounds_say}
use Rattle.push_safety.specs.ReadLaws.{held_used}
use Rattle.push_safety.specs.BooksGo.{BooksGo, over_go}
use Rattle.push_safety.specs.Firm.{Firm, FirmGoes, run_firm, same_list_length, within_firm, within_goes, firm_trans, goes_trans}
use Rattle.push_safety.specs.StepGoes.{raised_goes, list_cases, counting_firm, counting_goes}
use Rattle.push_safety.specs.BlockGoes.{closed_goes, closed-shut}
use Rattle.push_safety.specs.Along.{along_in}
use Rattle.std.specs.Prelude.{Some, None}

-- the list of a column as words
pub listed_word : (b : Batch) (c i : ℕ) → i < (record_of b c).count → word32 (list_of b c) (4 * i) ≡ listed_number b c i
unfolding list_of listed_number
listed_word b c i h = word_read (record_of b c).list (4 * (record_of b c).count) b.body (4 * i) (omega arith)

pub listed-length : {w : World} (b : Batch) (c : ℕ) → ColumnReads w b c → length (list_of b c) ≡ 4 * (record_of b c).count
unfolding list_of
listed-length b c x = length-read (record_of b c).list (4 * (record_of b c).count) b.body x.listed

module _ {w : World} (b : Batch) (c : ℕ) (x : ColumnReads w b c) where
  pub listed_used : (i : ℕ) → i < (record_of b c).count → word32 (list_of b c) (4 * i) < used_of w.books
  listed_used i l = rw (listed_word b c i l) (held_used w.books (listed_number b c i) (x.held i l))

-- the list written and its numbers listed; its length is then counted
module _ (w : World) (b : Batch) (c : ℕ) where
  abbrev written : World
  written =
      record {
        state = w.state;
        slots = lay (list_place w.state (filling w) c + 4 * list_length w (filling w) c) (list_of b c) w.slots;
        pool = w.pool;
        books = over_list listed_one w.books (list_of b c) (record_of b c).count;
      }

  abbrev joint : ℕ
  joint = list_length w (filling w) c + (record_of b c).count

  module _ (h : c < w.state.columns) (x : ColumnReads w b c) (l : joint ≤ w.state.lists) where
    books : Firm w → BooksGo w.books written.books w.state.numbers w.state.pool.0 × Framed 0 (4 + 20 * w.state.numbers) w.books written.books
    books r = over_go (list_of b c) (record_of b c).count r.books (listed_used b c x)

    few : Firm w → joint < 2 ^ 32
    few r = omega (arith, (bounds_say w.state r.fit.bounds).lists)

    -- a column without views has no list
    plain : Firm w → (d : ℕ) → d + 1 ≡ c + 1 → (joint ≤ w.state.lists) × (is_views w.state d ≡ false → joint ≡ 0)
    plain r d e = (l, λ n. let q : d ≡ c = omega arith in let m : is_views w.state c ≡ false = rw q at n in omega (arith, r.none (filling w) c r.fit.place h m, x.plain m))

    pub attached_firm : Firm w → FirmGoes w (list_attached w b c)
    unfolding list_attached
    attached_firm r =
        let g = books r in
        let a : FirmGoes w written = within_firm w written refl (length-lay _ _ w.slots) refl g.0 g.1 r in
        firm_trans a (counting_firm (filling w) (c + 1) joint a.firm r.fit.place (omega arith) (few r) (plain r))

    -- the lists of other columns stay
    pub attached_other : Firm w → (slot d : ℕ) → d < w.state.columns → d ≢ c → list_length (list_attached w b c) slot d ≡ list_length w slot d
    unfolding list_attached
    attached_other r slot d p n =
        let g = books r in
        let a : FirmGoes w written = within_firm w written refl (length-lay _ _ w.slots) refl g.0 g.1 r in
        list_cases (filling w) (c + 1) joint a.firm r.fit.place (omega arith) (few r) slot d p (λ (m : ℕ). m ≡ list_length w slot d)
        (λ e q. absurd (n (omega arith)))
        (same_list_length w written (same_refl w.state) g.1 slot d)

    -- where its block is closed
    pub attached_goes : Run w → (column_of w.state c).block ≡ None → Goes w (list_attached w b c)
    unfolding list_attached
    attached_goes r o =
        let g = books (run_firm r) in
        let a : Goes w written = within_goes w written refl (length-lay _ _ w.slots) refl g.0 g.1 r in
        goes_trans a
        (counting_goes (filling w) (c + 1) joint a.run r.fit.place (omega arith) (few (run_firm r)) (plain (run_firm r))
        (λ d k e y q. shut d k (omega arith) q))
      where
        shut : (d : ℕ) (k : BufferNumber) → d ≡ c → (column_of w.state d).block ≡ Some k → ⊥
        shut d k e q =
            let p : (column_of w.state c).block ≡ Some k = rw e at q in
            let z : ◌≡◌ {A = ℕ} 0 1 = cc in omega arith

-- a part attached
pub part_attached_goes : (w : World) (b : Batch) (c at from n : ℕ) → Run w → Readable w b → c < w.state.columns → is_views w.state c ≡ true → Holds (Goes w) (Among (10 ∷ [])) (part_attached w b (span c at from n))
unfolding part_attached
part_attached_goes w b c at from n r x h y =
    holds_cond (leb (list_length (closed w c) (filling w) c + (record_of b c).count) w.state.lists)
    (λ l. held
    (goes_trans a
    (goes_trans (attach (leb-true _ _ l)) (raised_goes b c _ at from n (attach (leb-true _ _ l)).run))))
    (λ l. refused (one_of (10 ∷ []) 10 tt))
  where
    a : Goes w (closed w c)
    a = closed_goes w c r h y

    s : Beside w (closed w c)
    s = closed_beside w c

    attach : list_length (closed w c) (filling w) c + (record_of b c).count ≤ w.state.lists → Goes (closed w c) (list_attached (closed w c) b c)
    attach l =
        attached_goes (closed w c) b c (along_in s c h) ((a.reads b x).columns c (along_in s c h))
        (omega (arith, s.set_up.lists, ap (λ (slot : ℕ). list_length (closed w c) slot c) s.place))
        a.run
        (closed-shut w c y)
