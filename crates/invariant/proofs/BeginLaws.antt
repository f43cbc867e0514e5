-- Bytes that begin with others: a view into them shows the same, and is valid still.
use Rattle.std.specs.Prelude.{ℕ, ◌+◌, ◌≤◌, ◌<◌, ◌≡◌, true, List, length}
use Rattle.std.proofs.Common.{sym, ◌∙◌, ap, arith, zero-add, take_all}
use Rattle.std.proofs.Math.Decide.{dec_lt}
use Rattle.words.specs.Run.{read}
use Rattle.words.specs.RunLaws.{read-read}
use Rattle.views.specs.declared.View.{View}
use Rattle.views.specs.View.{is_valid}
use Rattle.views.specs.ShowLaws.{Keeps, keeps_inline, keeps_repointed, repoint-long, long-says}
use Rattle.invariant.specs.Holding.{Begins}

-- all bytes of a list
pub read_all : (a : List ℕ) → read 0 (length a) a ≡ a
unfolding read
read_all a = take_all (length a) a (omega arith)

pub begins_refl : (a : List ℕ) → Begins a a
begins_refl a = record { most = omega arith; same = read_all a }

pub begins_is : {a b : List ℕ} → b ≡ a → Begins a b
begins_is {a} {b} e = rw e (begins_refl a)

-- a part of the first bytes
pub begins_read : {a b : List ℕ} → Begins a b → (o n : ℕ) → o + n ≤ length a → read o n b ≡ read o n a
begins_read {a} {b} g o n h =
    sym (read-read o n 0 (length a) b h (omega (arith, g.most)) ∙ ap (λ (x : ℕ). read x n b) (zero-add o)) ∙ ap (read o n) g.same

pub begins_trans : {a b c : List ℕ} → Begins a b → Begins b c → Begins a c
begins_trans {a} g h =
    record { most = omega (arith, g.most, h.most); same = begins_read h 0 (length a) (omega (arith, g.most)) ∙ g.same }

-- a view over buffers that begin with those that it was over, and perhaps more of them
pub keeps_begins : (v : View) (f : ℕ → List ℕ) (count : ℕ) (f' : ℕ → List ℕ) (count' : ℕ) → is_valid v f count ≡ true → count ≤ count' → ((i : ℕ) → i < count → Begins (f i) (f' i)) → Keeps v f v f' count'
keeps_begins v f count f' count' e h g = go (dec_lt 12 v.length)
  where
    go : Dec (12 < v.length) → Keeps v f v f' count'
    go (no l) = keeps_inline v f count f' count' (omega arith) e
    go (yes l) =
        let p = long-says v f count l e in
        let b : Begins (f v.index) (f' v.index) = g v.index p.below in
        let k : Keeps v f _ f' count' = keeps_repointed v f count f' count' v.index v.offset e (λ q. (omega (arith, p.below), omega (arith, p.within, b.most), begins_read b v.offset v.length p.within)) in
        rw (← (repoint-long v.index v.offset v l)) at k
