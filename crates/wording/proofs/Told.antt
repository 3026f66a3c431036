-- The outcome of reading a text, in words.
use Rattle.std.proofs.Common.{◌≡◌, ℕ, List, IfOk, Result}
use Rattle.std.proofs.lemmas.Result.{IfOk-weaker}
use Rattle.formats.specs.Outcomes.{Outcome, Says}
use Rattle.wording.specs.Words.{outcome_text, Report}

pub reported : {V E : Type 0} (items : V → List ℕ) (text : List ℕ) (o : Outcome) (r : Result V E) → Says text o → IfOk r (λ v. items v ≡ outcome_text o) → IfOk r (λ v. Report text (items v))
reported items text o r s m = IfOk-weaker r (λ v. items v ≡ outcome_text o) (λ v. Report text (items v)) (λ v e. record { outcome = o; says = s; is = e }) m
