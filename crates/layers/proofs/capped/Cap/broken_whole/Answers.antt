use Rattle.std.proofs.Common.{◌≡◌, ℕ, Bool, true, false, [], ◌∷◌, Some, None, sym, ap, ◌∙◌}
use Rattle.std.specs.Bool.{then_some}
use Rattle.std.proofs.lemmas.Bool.{cond-false, cond-true}
use Rattle.atoms.specs.Atoms.{bits}
use Rattle.clauses.specs.Clauses.{language}
use Rattle.clauses.specs.declared.clauses.Clause.{Clause}
use Rattle.clauses.proofs.Decided.{decided}
use Rattle.models.specs.Models.{breaks, first_broken}
use Rattle.layers.proofs.capped.Cap.broken_whole.Goals as goal

first_of_one : (b : Bool) (x : Clause) (s : ℕ) → breaks language s x ≡ b → then_some b x ≡ first_broken language (x ∷ []) s
first_of_one true x s e = sym (cond-true (breaks language s x) (Some x) None e)
first_of_one false x s e = sym (cond-false (breaks language s x) (Some x) None e)

pub returns : goal.returns
returns c =
    let s = bits c.args.set in
    let b = c.is_broken_by.result in
    let x = c.whole-whole.result in
    c.then_some.ensures ∙ first_of_one b x s (decided b s x c.is_broken_by.ensures.meaning) ∙ ap (λ w. first_broken language (w ∷ []) s) c.whole-whole.ensures
