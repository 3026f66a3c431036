-- The observations that stand after one more entry of a history that keeps the law.
use Rattle.std.proofs.Common.{◌≡◌, ℕ, suc, ◌+◌, ◌<◌, Bool, List, [], ◌∷◌, ◌++◌, length, get_or, take, drop, sym, refl, ap, ◌∙◌, append_assoc, drop-cons}
use Rattle.std.proofs.lemmas.List.{take-append-drop, take_more}
use Rattle.clauses.specs.declared.clauses.Clause.{Clause}
use Rattle.layers.specs.declared.observations.Observation.{Observation}
use Rattle.cases.specs.Observing.{verdict, withdrawal}
use Rattle.histories.specs.Answers.{told_observe, told_withdraw}
use Rattle.histories.specs.Histories.{Complete, standing, standing_from, stood}
use Rattle.histories.specs.Standings.{replied}
use Rattle.histories.specs.declared.calls.Answer.{Answer}
use Rattle.histories.specs.declared.calls.Call.{Call}
use Rattle.histories.specs.declared.calls.Call.TheVariants.{Observe, Withdraw, Open, Request, Close}
use Rattle.histories.specs.declared.calls.Entry.{Entry}

-- an answer that is right leaves what a case at rest would leave
right_stood :
    (os : List Observation) (k : Call) (r : Answer) → ((a : ℕ) (p : Bool) → k ≡ Observe a p → r ≡ told_observe (verdict os a)) →
    (k ≡ Withdraw → r ≡ told_withdraw (withdrawal os)) → stood os k r ≡ stood os k (replied os k)
right_stood os (Observe a p) r o w = ap (stood os (Observe a p)) (o a p refl)
right_stood os Withdraw r o w = ap (stood os Withdraw) (w refl)
right_stood os Open r o w = refl
right_stood os Request r o w = refl
right_stood os Close r o w = refl

standing_join : (os : List Observation) (xs ys : List Entry) → standing_from os (xs ++ ys) ≡ standing_from (standing_from os xs) ys
standing_join os [] ys = refl
standing_join os (x ∷ xs) ys = standing_join (stood os x.call x.answer) xs ys

-- the observations after the entry e, which is the i-th of h
module _ (cs : List Clause) (places : ℕ) (h later : List Entry) (law : Complete cs places (h ++ later)) (i : ℕ) (lt : i < length h) where
  one_more : (e : Entry) → e ≡ get_or h i e → standing (take (i + 1) h) ≡ stood (standing (take i h)) e.call (replied (standing (take i h)) e.call)
  one_more e is =
      let before = take i h in
      let rest = drop (suc i) h ++ later in
      let next : drop i h ≡ e ∷ drop (suc i) h = drop-cons h i e lt ∙ ap (λ (x : Entry). x ∷ drop (suc i) h) (sym is) in
      let whole : h ≡ before ++ (e ∷ drop (suc i) h) = sym (take-append-drop i h) ∙ ap (λ (xs : List Entry). before ++ xs) next in
      let place : h ++ later ≡ before ++ (e ∷ rest) = ap (λ (xs : List Entry). xs ++ later) whole ∙ append_assoc before (e ∷ drop (suc i) h) later in
      ap standing (take_more h i e lt ∙ ap (λ (x : Entry). before ++ (x ∷ [])) (sym is)) ∙ standing_join [] before (e ∷ [])
      ∙ right_stood (standing before) e.call e.answer (λ a p k. law.observing before rest e a p place k) (λ k. law.withdrawing before rest e place k)

  pub stands_on :
      (e : Entry) → e ≡ get_or h i e → (os os' : List Observation) → os ≡ standing (take i h) → os' ≡ stood os e.call (replied os e.call) →
      os' ≡ standing (take (i + 1) h)
  stands_on e is os os' p q = q ∙ ap (λ (xs : List Observation). stood xs e.call (replied xs e.call)) p ∙ sym (one_more e is)
