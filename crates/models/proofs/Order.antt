-- The list order is a strict order: irreflexive, asymmetric, transitive. (`Total` has that it is total on minimal models.)
use Rattle.std.proofs.Common.{◌≡◌, ℕ, ◌<◌, ◌≤◌, true, false, ◌&&◌, ◌⊎◌, List, Some, sym, ◌∙◌, subst, inl, inr, arith}
use Rattle.std.proofs.lemmas.Bool.{both_ways, and_parts, and_from}
use Rattle.models.specs.Language.{Language, Laws}
use Rattle.models.specs.Models.{In, Within, first_broken, Greatest, PrecedesFrom, differ, agree, Precedes}
use Rattle.models.proofs.Tests.{same_test, greatest_below}
use Rattle.models.proofs.Broken.{some_inj}

module _ {S C : Type 0} {L : Language S C} (laws : Laws L) where
  pub within_refl : (s : S) → Within L s s
  within_refl s a h = h

  pub within_trans : {s t u : S} → Within L s t → Within L t u → Within L s u
  within_trans p q a h = q a (p a h)

  -- sets within one another are one set
  pub same_set : (s t : S) → Within L s t → Within L t s → s ≡ t
  same_set s t p q = laws.ext s t (λ a. same_test (L.has s a) (L.has t a) (p a) (q a))

  -- the greatest atom is one
  pub greatest_one : {h m : S} {a b : ℕ} → Greatest L h m a → Greatest L h m b → a ≡ b
  greatest_one {h} {m} {a} {b} p q = omega (arith, p.top b q.of_head q.of_set, q.top a p.of_head p.of_set)

  -- where there is a common atom there is a greatest one
  pub greatest_of : (h m : S) (a : ℕ) → In L h a → In L m a → (b : ℕ) × Greatest L h m b × (a ≤ b)
  greatest_of h m a p q = go (greatest_below (L.bound m) (λ (x : ℕ). L.has h x && L.has m x))
    where
      both : (x : ℕ) → In L h x → In L m x → (L.has h x && L.has m x) ≡ true
      both x u v = and_from (L.has h x) (L.has m x) u v

      go : ((b : ℕ) × ((L.has h b && L.has m b) ≡ true) ×
          ((x : ℕ) → x < L.bound m → (L.has h x && L.has m x) ≡ true → x ≤ b)) ⊎
          ((x : ℕ) → x < L.bound m → (L.has h x && L.has m x) ≡ false) → (b : ℕ) × Greatest L h m b × (a ≤ b)
      go (inl r) =
          let k = and_parts (L.has h r.0) (L.has m r.0) r.1 in (
            r.0,
            record { of_head = k.0; of_set = k.1; top = λ x u v. r.2 x (laws.has_bound m x v) (both x u v) },
            r.2 a (laws.has_bound m a q) (both a p q),
          )
      go (inr f) = absurd (both_ways (L.has h a && L.has m a) (f a (laws.has_bound m a q)) (both a p q))

  module _ (cs : List C) where
    -- the greatest atom at the clause that a common set breaks first is one
    same_greatest : {m : S} {c d : C} {a b : ℕ} → c ≡ d → Greatest L (L.head c) m a → Greatest L (L.head d) m b → a ≡ b
    same_greatest {m} {c} {d} {a} {b} e p q = greatest_one p (subst (λ (x : C). Greatest L (L.head x) m b) (sym e) q)

    pub irreflexive_from : {m common : S} → PrecedesFrom L cs m m common → ⊥
    irreflexive_from (differ e p q l) = omega (arith, greatest_one p q)
    irreflexive_from (agree e p q r) = irreflexive_from r

    pub asymmetric_from : {m n common : S} → PrecedesFrom L cs m n common → PrecedesFrom L cs n m common → ⊥
    asymmetric_from (differ e p q l) (differ f u v k) =
        omega (arith, same_greatest (some_inj (sym e ∙ f)) p v, same_greatest (some_inj (sym e ∙ f)) q u)
    asymmetric_from (differ e p q l) (agree f u v k) =
        omega (arith, same_greatest (some_inj (sym e ∙ f)) p v, same_greatest (some_inj (sym e ∙ f)) q u)
    asymmetric_from (agree e p q r) (differ f u v k) =
        omega (arith, same_greatest (some_inj (sym e ∙ f)) p v, same_greatest (some_inj (sym e ∙ f)) q u)
    asymmetric_from {m} {n} (agree {common} e p q r) (agree f u v k) =
        asymmetric_from r
        (subst (λ (x : ℕ). PrecedesFrom L cs n m (L.with common x)) (sym (same_greatest (some_inj (sym e ∙ f)) p v)) k)

    pub transitive_from : {m n o common : S} → PrecedesFrom L cs m n common → PrecedesFrom L cs n o common →
        PrecedesFrom L cs m o common
    transitive_from {m} {n} {o} (differ {a = a} {b = b} e p q l) (differ {c = d} {a = x} {b = y} f u v k) =
        differ e p (subst (λ (z : C). Greatest L (L.head z) o y) (some_inj (sym f ∙ e)) v)
        (omega (arith, same_greatest (some_inj (sym e ∙ f)) q u))
    transitive_from {m} {n} {o} (differ {a = a} {b = b} e p q l) (agree {c = d} {a = x} f u v k) =
        differ e p (subst (λ (z : C). Greatest L (L.head z) o x) (some_inj (sym f ∙ e)) v)
        (omega (arith, same_greatest (some_inj (sym e ∙ f)) q u))
    transitive_from {m} {n} {o} (agree {a = a} e p q r) (differ {c = d} {a = x} {b = y} f u v k) =
        differ e p (subst (λ (z : C). Greatest L (L.head z) o y) (some_inj (sym f ∙ e)) v)
        (omega (arith, same_greatest (some_inj (sym e ∙ f)) q u))
    transitive_from {m} {n} {o} (agree {common} {c} {a} e p q r) (agree {c = d} {a = x} f u v k) =
        agree e p
        (subst (λ (z : ℕ). Greatest L (L.head c) o z) (sym (same_greatest (some_inj (sym e ∙ f)) q u))
        (subst (λ (z : C). Greatest L (L.head z) o x) (some_inj (sym f ∙ e)) v))
        (transitive_from r
        (subst (λ (z : ℕ). PrecedesFrom L cs n o (L.with common z)) (sym (same_greatest (some_inj (sym e ∙ f)) q u)) k))

    pub irreflexive : (m : S) → Precedes L cs m m → ⊥
    irreflexive m r = irreflexive_from r

    pub asymmetric : (m n : S) → Precedes L cs m n → Precedes L cs n m → ⊥
    asymmetric m n r k = asymmetric_from r k

    pub transitive : (m n o : S) → Precedes L cs m n → Precedes L cs n o → Precedes L cs m o
    transitive m n o r k = transitive_from r k

    -- where the greatest atoms are one atom, the order is that from the common set with it on
    pub past : {m n common : S} (c : C) (a : ℕ) → PrecedesFrom L cs m n common → first_broken L cs common ≡ Some c →
        Greatest L (L.head c) m a → Greatest L (L.head c) n a → PrecedesFrom L cs m n (L.with common a)
    past c a (differ e p q l) f u v =
        absurd (omega (arith, same_greatest (some_inj (sym e ∙ f)) p u, same_greatest (some_inj (sym e ∙ f)) q v))
    past {m} {n} c a (agree {common} e p q r) f u v =
        subst (λ (x : ℕ). PrecedesFrom L cs m n (L.with common x)) (same_greatest (some_inj (sym e ∙ f)) p u) r
