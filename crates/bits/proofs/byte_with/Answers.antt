-- `bits::byte_with` meets its contract.
use borrow.Author.Rules.{rules}
use Rattle.bits.specs.CodeLaws.{byte-made}
use Rattle.bits.proofs.byte_with.Goals as goal

pub returns : goal.returns
returns c = search (byte-made, rules)
