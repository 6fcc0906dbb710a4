use Rattle.bench.proofs.TextLaws.{words_odd, words_many, words_fill}
use Rattle.bench.proofs.texts.words_of.Goals as goal

pub returns-then-bytes-eq1 : goal.returns-then-bytes-eq1
returns-then-bytes-eq1 c = words_odd c.args.bytes.now _ c.if-bytes-eq1.true

pub returns-then-words-bytes : goal.returns-then-words-bytes
returns-then-words-bytes c = words_many c.args.bytes.now _ c.if-bytes-eq1.false c.if-words-bytes.true

pub returns : goal.returns
returns c = words_fill c.args.bytes.now _ _ c.if-bytes-eq1.false c.if-words-bytes.false c.put_words.ensures
