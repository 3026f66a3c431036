use Rattle.std.proofs.lemmas.List.{take_rest}
use Rattle.formats.proofs.Splits.{one_word, word_then, last_word}
use Rattle.formats.proofs.words.split_word.Goals as goal

pub returns-in-Some : goal.returns-in-Some
returns-in-Some c = rw take_rest (word_then c.args.text.now c.in-Some.end c.in-Some.ensures c.if-text-end-eq32.true)

pub returns-in-Some-2 : goal.returns-in-Some-2
returns-in-Some-2 c = last_word c.args.text.now c.in-Some.end c.in-Some.ensures c.if-text-end-eq32.false

pub returns-in-None : goal.returns-in-None
returns-in-None c = one_word c.args.text.now c.in-None.ensures
