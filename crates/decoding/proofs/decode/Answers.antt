-- `decoding::decode` meets its contract.
use borrow.Author.Rules.{rules}
use Rattle.decoding.specs.ReadLaws.{decoded_state, decoded-none, decoded-length}
use Rattle.decoding.proofs.decode.Goals as goal

pub returns-then-is_coded : goal.returns-then-is_coded
returns-then-is_coded c = search (decoded_state, rules)

pub returns-else-is_coded : goal.returns-else-is_coded
returns-else-is_coded c = search (decoded-none, rules)

pub returns-else-bytes-eq-STATE_BYTES : goal.returns-else-bytes-eq-STATE_BYTES
returns-else-bytes-eq-STATE_BYTES c = search (decoded-length, rules)
