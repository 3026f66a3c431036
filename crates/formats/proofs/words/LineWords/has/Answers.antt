use Rattle.std.proofs.Common.{◌≡◌, ◌≢◌, refl, rules, tests}
use Rattle.std.proofs.lemmas.Iterator.{cases_from_any}
use Rattle.std.proofs.lemmas.Iterator.Consumers.{YieldsList-from_first}
use Rattle.formats.specs.Places.{words_left}
use Rattle.formats.proofs.Splits.{lacks_from}
use Rattle.formats.proofs.words.LineWords.has.Goals as goal

pub returns : goal.returns
returns c =
    let ws = words_left c.args.self in
    let w = c.args.word.now in
    lacks_from ws w c.any.result
    (cases_from_any c.any.new.self _ _ (λ x. x ≡ w) (λ x. x ≢ w) c.any.ensures.ran (YieldsList-from_first (λ x. x.now) words_left ws refl)
    (λ x q k. search (rules, tests)) (λ x q k. search (rules, tests)))
