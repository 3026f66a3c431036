-- The shelf has what the listing has handed out, and its memory begins with the sets on the shelf.
use Rattle.std.proofs.Common.{◌≡◌, map, length, take, refl, sym, ap, ◌∙◌, rules}
use Rattle.std.proofs.lemmas.List.{length-map}
use Rattle.atoms.specs.Atoms.{bits}
use Rattle.histories.specs.Answers.{handed}
use Rattle.lists.specs.Items.{cells, items}
use Rattle.lists.proofs.Fills.{front_is}
use Rattle.case_tests.proofs.lending.replay_lent.Goals as goal

pub returns-clause-memory : goal.returns-clause-memory
returns-clause-memory c = λ before during listed.
    let l = c.replay-made.new.shelf in
    let e : map bits (items l) ≡ handed during = c.replay-made.ensures.shelf before during listed in
    let count : length (handed during) ≡ length (items l) = sym (ap length e) ∙ length-map (items l) bits in
    let all : map bits (take (length (handed during)) (cells l)) ≡ handed during =
    ap (λ k. map bits (take k (cells l))) count ∙ (ap (map bits) (front_is l (items l) refl) ∙ e) in
    search rules
