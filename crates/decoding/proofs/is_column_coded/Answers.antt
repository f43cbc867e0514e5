-- `decoding::is_column_coded` meets its contract.
use Rattle.std.proofs.Common.{rules}
use Rattle.decoding.specs.ReadLaws.{flags_column}
use Rattle.decoding.proofs.is_column_coded.Goals as goal

pub returns : goal.returns
returns c = search (flags_column, rules)
