-- `primitive::copy_rows` meets its contract.
use borrow.Author.Rules.{rules}
use Rattle.primitive.specs.LaidLaws.{valued_same, both_laid}
use Rattle.primitive.proofs.copy_rows.Goals as goal

pub copy_values-requires : goal.copy_values-requires
copy_values-requires c = search (valued_same, rules)

pub returns : goal.returns
returns c = search (both_laid, rules)
