-- `words::put32` meets its contract.
use Rattle.std.proofs.Common.{◌≡◌, ℕ, ◌+◌, ◌/◌, ◌≤◌, List, [], ◌∷◌, length, set, refl, ap, ◌∙◌, ◌%◌, arith, add-zero}
use Rattle.std.proofs.Math.Seq.{paste, paste-zero, paste-suc}
use Rattle.std.proofs.lemmas.Slice.{put_mid-paste}
use Rattle.words.specs.Word.{with_word32}
use Rattle.words.proofs.put32.Goals as goal

-- four bytes that are copied to `at` are four that are set there
four_set : (s : List ℕ) (at a b c d : ℕ) → at + 4 ≤ length s → paste s at (a ∷ b ∷ c ∷ d ∷ []) 4 ≡ set (set (set (set s at a) (at + 1) b) (at + 2) c) (at + 3) d
four_set s at a b c d h =
    let bs : List ℕ = a ∷ b ∷ c ∷ d ∷ [] in
    let p1 : set s at a ≡ paste s at bs 1 = rw add-zero at (ap (λ t. set t (at + 0) a) (paste-zero s at bs) ∙ paste-suc s at bs 0 0 (omega arith) (omega arith)) in
    let p2 : set (paste s at bs 1) (at + 1) b ≡ paste s at bs 2 = paste-suc s at bs 1 0 (omega arith) (omega arith) in
    let p3 : set (paste s at bs 2) (at + 2) c ≡ paste s at bs 3 = paste-suc s at bs 2 0 (omega arith) (omega arith) in
    let p4 : set (paste s at bs 3) (at + 3) d ≡ paste s at bs 4 = paste-suc s at bs 3 0 (omega arith) (omega arith) in
    cc

pub returns : goal.returns
unfolding with_word32
returns c =
    let top : c.args.v / 16777216 % 256 ≡ c.args.v / 16777216 = omega arith in
    put_mid-paste c.args.at _ c.args.s.now _ _ 4 (c.copy_from_slice.ensures.after ∙ c.to_le_bytes.ensures) (omega arith) refl
    ∙ four_set c.args.s.now c.args.at _ _ _ _ c.requires
    ∙ ap (set _ _) top
