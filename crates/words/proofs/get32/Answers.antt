-- `words::get32` meets its contract.
use Rattle.words.specs.Word.{word_of}
use Rattle.words.specs.WordLaws.{word_is}
use Rattle.words.proofs.get32.Goals as goal

pub returns : goal.returns
unfolding word_of
returns c = word_is c.args.s.now c.args.at c.from_le_bytes.ensures
