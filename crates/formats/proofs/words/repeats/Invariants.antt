use Rattle.formats.specs.Format.{Apart}
use Rattle.formats.specs.Places.{words, words_left}
use Rattle.formats.proofs.words.repeats.Given as goal

-- a word stands twice exactly where one of those left does
abbrev pub invariant-loop-word : goal.invariant-loop-word
invariant-loop-word l =
    (Apart (words l.text) → Apart (words_left l.words)) × (Apart (words_left l.words) → Apart (words l.text))
