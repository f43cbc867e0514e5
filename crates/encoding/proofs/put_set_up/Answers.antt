-- `encoding::put_set_up` meets its contract.
use borrow.Author.Rules.{rules}
use Rattle.codes.specs.Code.{set_up_words}
use Rattle.encoding.proofs.put_set_up.Goals as goal

pub returns : goal.returns
unfolding set_up_words
returns c = search rules
