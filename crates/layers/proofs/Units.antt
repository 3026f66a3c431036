-- When a set breaks the clause of one atom.
use Rattle.std.proofs.Common.{◌≡◌, ℕ, ◌^◌, ◌<◌, sym, refl, ap, ◌∙◌, subst, pow_pos}
use lib.Pow.{pow-lt}
use Rattle.std.proofs.lemmas.Bool.{eq-eqb, eqb-true}
use Rattle.atoms.specs.Atoms.{bits, set_of, width}
use Rattle.atoms.specs.Sets.{has, hasb}
use Rattle.atoms.proofs.Members.{empty_from_zero, hasb_pow, not_has}
use Rattle.atoms.proofs.Values.{bits-set_of}
use Rattle.clauses.specs.Clauses.{denial, fact, language}
use Rattle.clauses.specs.declared.origins.Origin.{Origin}
use Rattle.models.specs.Models.{Breaks}

-- the empty set
pub none_in_empty : (b : ℕ) → has (bits (set_of 0)) b → ⊥
none_in_empty b h = not_has (bits (set_of 0)) b (empty_from_zero (bits (set_of 0)) (bits-set_of 0 (pow_pos width)) b) h

module _ (s a : ℕ) (o : Origin) (small : a < width) where
  one : (b : ℕ) → hasb (bits (set_of (2 ^ a))) b ≡ hasb (2 ^ a) b
  one b = ap (λ x. hasb x b) (bits-set_of (2 ^ a) (pow-lt small))

  own : has (bits (set_of (2 ^ a))) a
  own = one a ∙ hasb_pow a a ∙ eq-eqb a a refl

  only : (b : ℕ) → has (bits (set_of (2 ^ a))) b → a ≡ b
  only b h = eqb-true a b (sym (hasb_pow a b) ∙ sym (one b) ∙ h)

  pub denial_broken : has s a → Breaks language s (denial a o)
  denial_broken h = record { whole = λ b k. subst (λ x. has s x) (only b k) h; none = λ b k i. none_in_empty b k }

  pub denial-breaks : Breaks language s (denial a o) → has s a
  denial-breaks b = b.whole a own

  pub fact_broken : (has s a → ⊥) → Breaks language s (fact a o)
  fact_broken n =
      record { whole = λ b k. absurd (none_in_empty b k); none = λ b k h. n (subst (λ x. has s x) (sym (only b k)) h) }

  pub fact-breaks : Breaks language s (fact a o) → has s a → ⊥
  fact-breaks b h = b.none a own h
