use Rattle.std.proofs.Common.{ap, ◌∙◌, subst, arith, rules}
use Rattle.std.proofs.lemmas.Bool.Decides.{not_from_Decides}
use Rattle.formats.specs.Places.{words_left}
use Rattle.formats.proofs.Splits.{Naming, naming_start, naming_more, naming_many, naming_wrong, naming_open, naming_end}
use Rattle.formats.proofs.names.read_names.Goals as goal
use Rattle.formats.proofs.names.read_names.Goals.{then-count-eq-MOST_NAMES-via-then-count-eq-MOST_NAMES, then-count-eq-MOST_NAMES-via-else-count-eq-MOST_NAMES+then-not-is_name}

pub loop-word-init : goal.loop-word-init
loop-word-init c =
    naming_start c.args.text.now _ (ap words_left c.into_iter-word-iterator.ensures.into_iter_gives ∙ c.line_words-word-items.ensures.left)

pub returns-then-count-eq-MOST_NAMES : goal.returns-then-count-eq-MOST_NAMES
returns-then-count-eq-MOST_NAMES c =
    let t = c.args.text.now in
    let l = c.loop-word in
    let r = subst (Naming t l.count l.size) c.in-Some.ensures.steps l.invariant in
    elim c.then-count-eq-MOST_NAMES.branch [
      | then-count-eq-MOST_NAMES-via-then-count-eq-MOST_NAMES w ↦ naming_many t l.count l.size c.in-Some.word.now _ r w.if-count-eq-MOST_NAMES.true
      | then-count-eq-MOST_NAMES-via-else-count-eq-MOST_NAMES+then-not-is_name w ↦
          naming_wrong t l.count l.size c.in-Some.word.now _ r (not_from_Decides _ w.is_name.ensures w.if-not-is_name.true)
    ]

pub overflow_add-count : goal.overflow_add-count
overflow_add-count c = omega (arith, c.loop-word.invariant.few)

pub overflow_add-size-in-loop-word : goal.overflow_add-size-in-loop-word
overflow_add-size-in-loop-word c =
    omega (arith, c.loop-word.invariant.short, c.loop-word.invariant.few, (c.is_name.ensures.0 c.if-not-is_name.false).few)

pub loop-word-preserved : goal.loop-word-preserved
loop-word-preserved c =
    let t = c.args.text.now in
    let l = c.loop-word in
    let r = subst (Naming t l.count l.size) c.in-Some.ensures.steps l.invariant in
    naming_more t l.count l.size c.in-Some.word.now _ r c.if-count-eq-MOST_NAMES.false (c.is_name.ensures.0 c.if-not-is_name.false)

pub returns : goal.returns
returns c =
    let t = c.args.text.now in
    let l = c.loop-word in
    let r = subst (Naming t l.count l.size) c.in-None.ensures.steps.0 l.invariant in
    rw c.then_some.ensures (search (rules, naming_end t l.count l.size r, naming_open t l.count l.size r))
