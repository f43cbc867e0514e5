-- `sent::register_buffer` meets its contract.
use borrow.Author.Rules.{rules}
use Rattle.byte_view.specs.FoldLaws.{bytes-known}
use Rattle.promise.specs.OnBytes.{sent_register}
use Rattle.sent.proofs.register_buffer.Goals as goal

pub returns : goal.returns
returns c = search (sent_register, bytes-known, rules)
