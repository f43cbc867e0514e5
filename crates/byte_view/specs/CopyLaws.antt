-- Views copied with their bytes: where the bytes lie, one view, and the turns of the loop over them.
use Rattle.std.specs.Prelude.{ℕ, ◌+◌, ◌*◌, ◌≤◌, ◌<◌, ◌^◌, ◌≡◌, refl, List, length}
use Rattle.std.proofs.Common.{sym, ◌∙◌, ap, arith, add-one}
use Rattle.words.specs.Word.{word32}
use Rattle.books.specs.declared.Entry.{Entry}
use Rattle.books.specs.Entry.{entry_of}
use Rattle.pool.specs.Carry.{carried}
use Rattle.pool.specs.CarryLaws.{carried_none}
use Rattle.views.specs.declared.View.{View}
use Rattle.views.specs.View.{view_of, long_length, repointed, with_view}
use Rattle.views.specs.ShowLaws.{long-none, long-some, repoint_inline}
use Rattle.rules.specs.Copies.{views_at, long_to, views_put, bytes_carried}
use Rattle.byte_view.specs.declared.Copying.{Copying}
use Rattle.byte_view.specs.Copying.{source_in, Spanned, Carriable, Copyable, Copied}
use Rattle.byte_view.specs.FoldLaws.{long_zero, long-next, put-none, put_next, long_mono}

-- what source_place returns
pub source_is : (books body : List ℕ) (list : ℕ) (v : View) {k : ℕ} {e : Entry} → k ≡ word32 body (list + 4 * v.index) → e ≡ entry_of books k → e.start + v.offset ≡ source_in books body list v
unfolding source_in
source_is books body list v p q = rw (q, p)

-- carry_view
pub source_room : (books body : List ℕ) (list : ℕ) (v : View) {r m : ℕ} → r ≡ source_in books body list v → source_in books body list v + v.length ≤ m → r + v.length ≤ m
source_room books body list v e h = omega arith

pub carry_is : (books body : List ℕ) (list : ℕ) (v : View) (pool : List ℕ) (to n : ℕ) {r : ℕ} {p : List ℕ} → r ≡ source_in books body list v → p ≡ carried pool r to n → p ≡ carried pool (source_in books body list v) to n
carry_is books body list v pool to n e h = rw (← e) h

-- append_view: what it asks of a long view, said of the view that was read
module _ {books body pool : List ℕ} {slots : ℕ} {j : Copying} {i filled : ℕ} {v : View} (h : Copyable books body pool slots j i filled) (q : v ≡ view_of body (j.from + i * 16)) (l : 12 < v.length) where
  pub copyable_index : v.index < j.count
  copyable_index = rw q (h.index (rw q at l))

  pub copyable_source : source_in books body j.list v + v.length ≤ length pool
  copyable_source = rw q (h.source (rw q at l))

  pub copyable_room : j.start + filled + v.length ≤ length pool
  copyable_room =
      let e : v.length ≡ long_length v = long-some v l in
      let m : long_length v ≡ long_length (view_of body (j.from + i * 16)) = ap long_length q in
      omega (arith, h.room)

  pub copyable_fits : filled + v.length < 2 ^ 32
  copyable_fits = omega (arith, copyable_room, h.small)

pub copyable_put : {books body pool : List ℕ} {slots : ℕ} {j : Copying} {i filled : ℕ} → Copyable books body pool slots j i filled → j.to + i * 16 + 16 ≤ slots
copyable_put h = h.put

-- append_view: an inline view
pub copied_inline : (books body slots pool : List ℕ) (j : Copying) (i filled : ℕ) {v : View} {t : List ℕ} → v ≡ view_of body (j.from + i * 16) → v.length ≤ 12 → t ≡ with_view slots (j.to + i * 16) v → Copied books body slots pool j i filled t pool filled
copied_inline books body slots pool j i filled {v} {t} q h w =
    let z : long_length v ≡ 0 = sym (long-none v h) in
    record {
      answer = rw (← q, z) (omega arith);
      slots_are = rw (← q, ← (repoint_inline j.index filled v h)) w;
      pool_is = rw (← q, z) (carried_none pool _ _);
    }

-- append_view: a long one
pub copied-long : (books body slots pool : List ℕ) (j : Copying) (i filled : ℕ) {v v' : View} {t p : List ℕ} → v ≡ view_of body (j.from + i * 16) → 12 < v.length → p ≡ carried pool (source_in books body j.list v) (j.start + filled) v.length → v' ≡ repointed j.index filled v → t ≡ with_view slots (j.to + i * 16) v' → Copied books body slots pool j i filled t p (filled + v.length)
copied-long books body slots pool j i filled {v} q h c d w =
    let z : long_length v ≡ v.length = sym (long-some v h) in
    record {
      answer = rw (← q, z);
      slots_are = rw (← q, ← d) w;
      pool_is = rw (← q, z) c;
    }

-- the loop after i turns: the bytes filled, the slots, the pool
pub record CopiedTo (books body slots pool : List ℕ) (j : Copying) (filled i far : ℕ) (t p : List ℕ) : Type 0 where
  pub answer : far ≡ filled + long_to (views_at body j.from) i
  pub slots_are : t ≡ views_put (λ u. repointed j.index (filled + long_to (views_at body j.from) u) (views_at body j.from u)) slots j.to i
  pub pool_is : p ≡ bytes_carried (views_at body j.from) (source_in books body j.list) pool (j.start + filled) i

pub copied_none : (books body slots pool : List ℕ) (j : Copying) (filled : ℕ) → CopiedTo books body slots pool j filled 0 filled slots pool
unfolding bytes_carried
copied_none books body slots pool j filled =
    record { answer = omega (arith, long_zero (views_at body j.from)); slots_are = put-none _ slots j.to; pool_is = refl }

carried-next : (f : ℕ → View) (source : View → ℕ) (pool : List ℕ) (to i : ℕ) → bytes_carried f source pool to (i + 1) ≡ carried (bytes_carried f source pool to i) (source (f i)) (to + long_to f i) (long_length (f i))
unfolding bytes_carried
carried-next f source pool to i = rw add-one

pub copied_more : {books body slots pool : List ℕ} {j : Copying} {filled i far : ℕ} {t p t' p' : List ℕ} {far' : ℕ} → CopiedTo books body slots pool j filled i far t p → Copied books body t p j i far t' p' far' → CopiedTo books body slots pool j filled (i + 1) far' t' p'
copied_more {books} {body} {slots} {pool} {j} {filled} {i} {far} h c =
    let a = h.answer in
    let z : j.start + far ≡ j.start + filled + long_to (views_at body j.from) i = omega arith in
    record {
      answer = omega (arith, c.answer, long-next (views_at body j.from) i);
      slots_are = c.slots_are ∙ rw (h.slots_are, a) (sym (put_next _ slots j.to i));
      pool_is = c.pool_is ∙ rw (z, h.pool_is) (sym (carried-next (views_at body j.from) (source_in books body j.list) pool (j.start + filled) i));
    }

pub copied_all : {books body slots pool : List ℕ} {j : Copying} {filled far : ℕ} {t p : List ℕ} (i n : ℕ) → CopiedTo books body slots pool j filled i far t p → i ≤ n → n ≤ i → CopiedTo books body slots pool j filled n far t p
copied_all i n h a b = let z : i ≡ n = omega arith in rw (← z) h

-- each part of it, as the contract says it
module _ {books body slots pool : List ℕ} {j : Copying} {filled far : ℕ} {t p : List ℕ} (i n : ℕ) (h : CopiedTo books body slots pool j filled i far t p) (a : i ≤ n) (b : n ≤ i) where
  pub far_all : far ≡ filled + long_to (views_at body j.from) n
  far_all = (copied_all i n h a b).answer

  pub pool-all : p ≡ bytes_carried (views_at body j.from) (source_in books body j.list) pool (j.start + filled) n
  pool-all = (copied_all i n h a b).pool_is

-- the loop: what one view asks follows from what all ask
pub copyable_at : {books body slots pool : List ℕ} {j : Copying} {n filled i far : ℕ} {t p : List ℕ} → Spanned body j.from (length slots) j.to n → Carriable books body pool j n filled → i < n → CopiedTo books body slots pool j filled i far t p → length t ≡ length slots → length p ≡ length pool → Copyable books body p (length t) j i far
copyable_at {books} {body} {slots} {pool} {j} {n} {filled} {i} {far} {t} {p} s h a c d e =
    let few = s.few in
    let rd = s.read in
    let pt = s.put in
    let room = h.room in
    let small = h.small in
    let q = c.answer in
    let m : long_to (views_at body j.from) (i + 1) ≤ long_to (views_at body j.from) n = long_mono (views_at body j.from) (i + 1) n (omega arith) in
    let x : long_to (views_at body j.from) (i + 1) ≡ long_to (views_at body j.from) i + long_length (view_of body (j.from + i * 16)) = long-next (views_at body j.from) i in
    record {
      few = omega arith;
      read = omega arith;
      put = omega arith;
      entered = h.entered;
      index = λ l. h.index i a l;
      source = λ l. omega (arith, h.source i a l);
      room = omega arith;
      small = omega arith;
    }
