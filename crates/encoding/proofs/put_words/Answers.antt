-- `encoding::put_words` meets its contract.
use borrow.Author.Rules.{rules}
use Rattle.codes.specs.PutLaws.{words_put_none, words_put_more, words_put_all}
use Rattle.encoding.proofs.put_words.Goals as goal

pub loop-i-init : goal.loop-i-init
loop-i-init g c = search (words_put_none, rules)

pub loop-i-preserved : goal.loop-i-preserved
loop-i-preserved g c = search (words_put_more, rules)

pub returns : goal.returns
returns g c = search (words_put_all, rules)
