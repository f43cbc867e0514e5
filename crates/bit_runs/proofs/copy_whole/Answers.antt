-- `bit_runs::copy_whole` meets its contract.
use Rattle.std.proofs.Common.{◌≡◌, ◌<◌, ◌+◌, ◌-◌, ℕ, List, ◌∙◌, length, take, drop, arith, length-take, length-drop, get_or-take, get_or-drop}
use Rattle.std.proofs.lemmas.Slice.{put_mid-paste}
use Rattle.bit_runs.specs.RunLaws.{copy_more}
use Rattle.bit_runs.proofs.Whole.{whole}
use Rattle.bit_runs.proofs.copy_whole.Goals as goal

pub returns : goal.returns
returns c =
    let bs : List ℕ = take (c.args.q + c.args.m - c.args.q) (drop c.args.q c.args.src.now) in
    let l : length bs ≡ c.args.m = simp (length-take, length-drop) (omega arith) in
    put_mid-paste c.args.d _ c.args.dst.now _ bs c.args.m c.copy_from_slice.ensures.after (omega arith) (omega arith)
    ∙ whole c.args.dst.now c.args.d bs _ (omega arith)
    (λ i t h e. let k : i < c.args.q + c.args.m - c.args.q = omega arith in rw (get_or-take, get_or-drop) (copy_more c.args.dst.now c.args.d c.args.src.now c.args.q i (c.type_inv.src (c.args.q + i)) h (omega arith) e))
    c.args.m (omega arith)
