use Rattle.std.proofs.Common.{[], refl}
use Rattle.formats.proofs.Splits.{words_few}
use Rattle.formats.proofs.words.line_words.Goals as goal

pub returns : goal.returns
returns c = record { left = refl; few = words_few [] c.args.text.now }
