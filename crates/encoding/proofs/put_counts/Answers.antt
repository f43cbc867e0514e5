-- `encoding::put_counts` meets its contract.
use borrow.Author.Rules.{rules}
use Rattle.codes.specs.Code.{count_words}
use Rattle.encoding.proofs.put_counts.Goals as goal

pub returns : goal.returns
unfolding count_words
returns c = search rules
