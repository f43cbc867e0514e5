-- `fronts::put_long` meets its contract.
use Rattle.std.proofs.Common.{◌≡◌, ℕ, ◌+◌, ◌/◌, ◌≤◌, ◌<◌, List, [], ◌∷◌, length, set, refl, ap, ◌∙◌, ◌%◌, arith, add-zero}
use Rattle.std.proofs.Math.Seq.{paste, paste-zero, paste-suc}
use Rattle.std.proofs.lemmas.Slice.{put_mid-paste}
use Rattle.words.specs.Word.{with_word32}
use Rattle.fronts.specs.Front.{with_long}
use Rattle.fronts.proofs.put_long.Goals as goal

-- eight bytes that are copied to `at` are eight that are set there
eight_set : (s : List ℕ) (at a b c d e f g h : ℕ) → at + 8 ≤ length s → paste s at (a ∷ b ∷ c ∷ d ∷ e ∷ f ∷ g ∷ h ∷ []) 8 ≡ set (set (set (set (set (set (set (set s at a) (at + 1) b) (at + 2) c) (at + 3) d) (at + 4) e) (at + 4 + 1) f) (at + 4 + 2) g) (at + 4 + 3) h
eight_set s at a b c d e f g h l =
    let bs : List ℕ = a ∷ b ∷ c ∷ d ∷ e ∷ f ∷ g ∷ h ∷ [] in
    let p1 : set s at a ≡ paste s at bs 1 = rw add-zero at (ap (λ t. set t (at + 0) a) (paste-zero s at bs) ∙ paste-suc s at bs 0 0 (omega arith) (omega arith)) in
    let p2 : set (paste s at bs 1) (at + 1) b ≡ paste s at bs 2 = paste-suc s at bs 1 0 (omega arith) (omega arith) in
    let p3 : set (paste s at bs 2) (at + 2) c ≡ paste s at bs 3 = paste-suc s at bs 2 0 (omega arith) (omega arith) in
    let p4 : set (paste s at bs 3) (at + 3) d ≡ paste s at bs 4 = paste-suc s at bs 3 0 (omega arith) (omega arith) in
    let p5 : set (paste s at bs 4) (at + 4) e ≡ paste s at bs 5 = paste-suc s at bs 4 0 (omega arith) (omega arith) in
    let p6 : set (paste s at bs 5) (at + 5) f ≡ paste s at bs 6 = paste-suc s at bs 5 0 (omega arith) (omega arith) in
    let p7 : set (paste s at bs 6) (at + 6) g ≡ paste s at bs 7 = paste-suc s at bs 6 0 (omega arith) (omega arith) in
    let p8 : set (paste s at bs 7) (at + 7) h ≡ paste s at bs 8 = paste-suc s at bs 7 0 (omega arith) (omega arith) in
    let q5 : at + 4 + 1 ≡ at + 5 = omega arith in
    let q6 : at + 4 + 2 ≡ at + 6 = omega arith in
    let q7 : at + 4 + 3 ≡ at + 7 = omega arith in
    cc

-- the bytes of a number, from those of its two words
low1 : (v : ℕ) → v % 4294967296 % 256 ≡ v % 256
low1 v = omega arith

low2 : (v : ℕ) → v % 4294967296 / 256 % 256 ≡ v / 256 % 256
low2 v = omega arith

low3 : (v : ℕ) → v % 4294967296 / 65536 % 256 ≡ v / 65536 % 256
low3 v = omega arith

low4 : (v : ℕ) → v % 4294967296 / 16777216 ≡ v / 16777216 % 256
low4 v = omega arith

high2 : (v : ℕ) → v / 4294967296 / 256 % 256 ≡ v / 1099511627776 % 256
high2 v = omega arith

high3 : (v : ℕ) → v / 4294967296 / 65536 % 256 ≡ v / 281474976710656 % 256
high3 v = omega arith

high4 : (v : ℕ) → v < 18446744073709551616 → v / 4294967296 / 16777216 ≡ v / 72057594037927936 % 256
high4 v h = omega arith

pub returns : goal.returns
unfolding with_long with_word32
returns c =
    put_mid-paste c.args.at _ c.args.out.now _ _ 8 (c.copy_from_slice.ensures.after ∙ c.to_le_bytes.ensures) (omega arith) refl
    ∙ eight_set c.args.out.now c.args.at _ _ _ _ _ _ _ _ c.requires
    ∙ rw (low1 c.args.v, low2 c.args.v, low3 c.args.v, low4 c.args.v, high2 c.args.v, high3 c.args.v, high4 c.args.v c.ranges.v.fits) refl
