use Rattle.formats.specs.Places.{words_left}
use Rattle.formats.proofs.Splits.{Naming}
use Rattle.formats.proofs.names.read_names.Given as goal

abbrev pub invariant-loop-word : goal.invariant-loop-word
invariant-loop-word l = Naming l.text l.count l.size (words_left l.word-iterator)
