-- `decoding::columns_of` meets its contract.
use Rattle.std.proofs.Common.{◌≡◌, rules}
use Rattle.codes.specs.Code.{column_in}
use Rattle.state.specs.World.{no_column}
use Rattle.decoding.specs.ReadLaws.{each_made, columns_are}
use Rattle.decoding.proofs.columns_of.Goals as goal

pub returns : goal.returns
returns c =
    columns_are c.args.bytes.now c.from_fn.result c.from_fn.ensures.items.long
    (each_made (λ i y. y ≡ column_in c.args.bytes.now i) (λ i y q k. search rules) no_column c.from_fn.ensures.items)
