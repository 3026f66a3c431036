-- Of two minimal models one comes before the other, or they are one.
use Rattle.std.proofs.Common.{◌≡◌, ℕ, zero, suc, ◌<◌, ◌≤◌, false, ◌⊎◌, List, Some, None, Option, sym, refl, ◌∙◌, subst, inl, inr, arith}
use Rattle.std.proofs.lemmas.Bool.{both_ways, cases_order}
use Rattle.models.specs.Language.{Language, Laws}
use Rattle.models.specs.Models.{In, Within, Model, Minimal, first_broken, Greatest, PrecedesFrom, differ, agree, Precedes}
use Rattle.models.specs.Search.{unmarked}
use Rattle.models.proofs.Broken.{none_model}
use Rattle.models.proofs.Order.{greatest_of}
use Rattle.models.proofs.Regions.{with_within, head_met}
use Rattle.models.proofs.Count.{missing, missing_with, missing_some, missing_most, head_new}

module _ {S C : Type 0} {L : Language S C} (laws : Laws L) (cs : List C) (m n : S) (p : Minimal L cs m)
    (q : Minimal L cs n) where
  Either : S → Type 0
  Either common = (m ≡ n) ⊎ (PrecedesFrom L cs m n common ⊎ PrecedesFrom L cs n m common)

  top_of : (common : S) (c : C) → first_broken L cs common ≡ Some c → (x : S) → Model L cs x → Within L common x →
      (a : ℕ) × Greatest L (L.head c) x a
  top_of common c e x k w =
      let h = head_met laws cs common unmarked c e x k w in
      let g = greatest_of laws (L.head c) x h.0 h.1 h.2 in
      (g.0, g.1)

  total_step : (common : S) (c : C) → first_broken L cs common ≡ Some c → (a b : ℕ) → Greatest L (L.head c) m a →
      Greatest L (L.head c) n b →
      (Greatest L (L.head c) n a → Either (L.with common a)) → (a ≡ b) ⊎ ((a < b) ⊎ (b < a)) → Either common
  unfolding Either
  total_step common c e a b g k f (inr (inl l)) = inr (inl (differ e g k l))
  total_step common c e a b g k f (inr (inr l)) = inr (inr (differ e k g l))
  total_step common c e a b g k f (inl s) =
      let j : Greatest L (L.head c) n a = subst (λ (x : ℕ). Greatest L (L.head c) n x) (sym s) k in
      go j (f j)
    where
      go : Greatest L (L.head c) n a → Either (L.with common a) → Either common
      go j (inl z) = inl z
      go j (inr (inl o)) = inr (inl (agree e g j o))
      go j (inr (inr o)) = inr (inr (agree e j g o))

  total_here : (o : Option C) (common : S) → first_broken L cs common ≡ o → Within L common m → Within L common n →
      ((a : ℕ) → In L m a → L.has common a ≡ false → In L n a → Either (L.with common a)) → Either common
  unfolding Either
  total_here None common e u v f =
      inl (sym (p.least common (none_model laws cs common e) u) ∙ q.least common (none_model laws cs common e) v)
  total_here (Some c) common e u v f =
      let g = top_of common c e m p.model u in
      let k = top_of common c e n q.model v in
      total_step common c e g.0 k.0 g.1 k.1
      (λ j. f g.0 g.1.of_set (head_new laws cs common c e g.0 g.1.of_head) j.of_set)
      (cases_order g.0 k.0)

  total_from : (fuel : ℕ) (common : S) → missing L (L.bound m) common ≤ fuel → Within L common m → Within L common n →
      Either common
  total_from zero common l u v =
      total_here (first_broken L cs common) common refl u v
      (λ a h k j. absurd (omega (arith, missing_some laws (L.bound m) common a k (laws.has_bound m a h))))
  total_from (suc fuel) common l u v =
      total_here (first_broken L cs common) common refl u v
      (λ a h k j. total_from fuel (L.with common a)
      (omega (arith, missing_with laws (L.bound m) common a k (laws.has_bound m a h))) (with_within laws common m a u h)
      (with_within laws common n a v j))

  pub total : (m ≡ n) ⊎ (Precedes L cs m n ⊎ Precedes L cs n m)
  unfolding Either
  total =
      total_from (L.bound m) L.empty (missing_most laws (L.bound m) L.empty)
      (λ a h. absurd (both_ways (L.has L.empty a) (laws.has_empty a) h))
      (λ a h. absurd (both_ways (L.has L.empty a) (laws.has_empty a) h))
