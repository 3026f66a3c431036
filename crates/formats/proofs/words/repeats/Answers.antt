use Rattle.std.proofs.Common.{sym, subst}
use Rattle.formats.specs.Format.{Apart}
use Rattle.formats.proofs.Splits.{apart_first, apart_rest, apart_cons, apart_none}
use Rattle.formats.proofs.words.repeats.Goals as goal

pub loop-word-init : goal.loop-word-init
loop-word-init c = let e = c.line_words-words.ensures.left in (subst Apart (sym e), subst Apart e)

pub returns-then-has : goal.returns-then-has
returns-then-has c = λ a.
    let all = subst Apart c.in-Some.ensures.steps (c.loop-word.invariant.0 a) in
    c.if-has.ensures (apart_first c.in-Some.word.now _ all)

pub loop-word-preserved : goal.loop-word-preserved
loop-word-preserved c =
    let w = c.in-Some.word.now in
    let e = c.in-Some.ensures.steps in (
      λ a. apart_rest w _ (subst Apart e (c.loop-word.invariant.0 a)),
      λ a. c.loop-word.invariant.1 (subst Apart (sym e) (apart_cons w _ c.if-has.ensures a)),
    )

pub returns : goal.returns
returns c = c.loop-word.invariant.1 (subst Apart (sym c.in_default.ensures.steps.0) apart_none)
