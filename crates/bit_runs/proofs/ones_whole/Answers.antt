-- `bit_runs::ones_whole` meets its contract.
use Rattle.std.proofs.Common.{◌≡◌, ◌<◌, ℕ, List, ◌∙◌, ap, length, replicate, arith, length-take, length-drop}
use Rattle.std.proofs.lemmas.Slice.{put_mid-paste}
use Rattle.std.proofs.lemmas.List.{get_or-replicate, length-replicate}
use Rattle.bit_runs.specs.RunLaws.{ones-more}
use Rattle.bit_runs.proofs.Whole.{whole}
use Rattle.bit_runs.proofs.ones_whole.Goals as goal

pub returns : goal.returns
returns c =
    let bs : List ℕ = replicate c.args.m 255 in
    let l : length bs ≡ c.args.m = length-replicate c.args.m 255 in
    put_mid-paste c.args.d _ c.args.dst.now _ bs c.args.m (c.fill.ensures.after (λ y e. e) ∙ ap (λ n. replicate n 255) (simp (length-take, length-drop) (omega arith))) (omega arith) (omega arith)
    ∙ whole c.args.dst.now c.args.d bs _ (omega arith)
    (λ i t h e. let k : i < c.args.m = omega arith in rw get_or-replicate (ones-more c.args.dst.now c.args.d i h (omega arith) e))
    c.args.m (omega arith)
