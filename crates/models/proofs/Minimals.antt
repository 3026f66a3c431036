-- Every model includes a minimal model. No walk is used here.
use Rattle.std.proofs.Common.{◌≡◌, ℕ, zero, suc, ◌<◌, ◌≤◌, Bool, true, false, ◌||◌, ◌⊎◌, List, Some, None, Option, sym, refl, ap, ◌∙◌, subst, inl, inr, arith}
use mathlib.Core.Bool.{or-false}
use mathlib.Core.List.{Memᴰ}
use Rattle.std.proofs.lemmas.Bool.{both_ways, cases_Bool, cases_order, ne_eqb}
use Rattle.models.specs.Language.{Language, Laws}
use Rattle.models.specs.Models.{Within, Breaks, Model, Minimal, first_broken}
use Rattle.models.proofs.Broken.{none_model, first_broken_lem, first_member, within_cases}
use Rattle.models.proofs.Regions.{with_new}

module _ {S C : Type 0} {L : Language S C} (laws : Laws L) (cs : List C) where
  -- a set is a model, or breaks a clause
  pub model_cases : (s : S) → Model L cs s ⊎ ((c : C) × Memᴰ c cs × Breaks L s c)
  model_cases s = go (first_broken L cs s) refl
    where
      go : (o : Option C) → first_broken L cs s ≡ o → Model L cs s ⊎ ((c : C) × Memᴰ c cs × Breaks L s c)
      go None e = inl (none_model laws cs s e)
      go (Some c) e = inr (c, first_member laws cs s e, first_broken_lem laws cs s e)

  module _ (t : S) where
    -- `u` is a model within `t` that has from `n` on the atoms of `s`
    record Like (n : ℕ) (s u : S) : Type 0 where
      model : Model L cs u
      inside : Within L u t
      agrees : (b : ℕ) → n ≤ b → L.has u b ≡ L.has s b

    other : (s : S) (a b : ℕ) → (a ≡ b → ⊥) → L.has (L.with s a) b ≡ L.has s b
    other s a b n = laws.has_with s a b ∙ (ap (λ (x : Bool). L.has s b || x) (ne_eqb a b n) ∙ or-false (L.has s b))

    -- the least of them as a binary number, which no other of them is within; or there is none
    abbrev Found : ℕ → S → Type 0
    Found n s = ((u : S) × Like n s u × ((v : S) → Like n s v → Within L v u → v ≡ u)) ⊎ ((u : S) → Like n s u → ⊥)

    wider : (n : ℕ) (s s' u : S) → ((b : ℕ) → suc n ≤ b → L.has s' b ≡ L.has s b) → Like n s' u → Like (suc n) s u
    wider n s s' u f l = record { model = l.model; inside = l.inside; agrees = λ b k. l.agrees b (omega arith) ∙ f b k }

    closer : (n : ℕ) (s s' u : S) → ((b : ℕ) → suc n ≤ b → L.has s' b ≡ L.has s b) → L.has u n ≡ L.has s' n →
        Like (suc n) s u → Like n s' u
    closer n s s' u f e l = record { model = l.model; inside = l.inside; agrees = λ b k. go b (cases_order n b) k }
      where
        go : (b : ℕ) → (n ≡ b) ⊎ ((n < b) ⊎ (b < n)) → n ≤ b → L.has u b ≡ L.has s' b
        go b (inl q) k = subst (λ (x : ℕ). L.has u x ≡ L.has s' x) q e
        go b (inr (inl h)) k = l.agrees b h ∙ sym (f b h)
        go b (inr (inr h)) k = absurd (omega arith)

    search_from : (n : ℕ) (s : S) → ((b : ℕ) → b < suc n → L.has s b ≡ false) → Found n s → Found n (L.with s n) →
        Found (suc n) s
    search_from n s low (inl r) w =
        inl (r.0, wider n s s r.0 (λ b k. refl) r.1, λ v l h. go v l h (cases_Bool (L.has v n)))
      where
        go : (v : S) → Like (suc n) s v → Within L v r.0 → (L.has v n ≡ true) ⊎ (L.has v n ≡ false) → v ≡ r.0
        go v l h (inl e) = absurd (both_ways (L.has r.0 n) (r.1.agrees n (omega arith) ∙ low n (omega arith)) (h n e))
        go v l h (inr e) = r.2 v (closer n s s v (λ b k. refl) (e ∙ sym (low n (omega arith))) l) h
    search_from n s low (inr never) (inl r) = inl
        (r.0, wider n s (L.with s n) r.0 same r.1, λ v l h. go v l h (cases_Bool (L.has v n)))
      where
        same : (b : ℕ) → suc n ≤ b → L.has (L.with s n) b ≡ L.has s b
        same b k = other s n b (λ e. omega arith)

        go : (v : S) → Like (suc n) s v → Within L v r.0 → (L.has v n ≡ true) ⊎ (L.has v n ≡ false) → v ≡ r.0
        go v l h (inl e) = r.2 v (closer n s (L.with s n) v same (e ∙ sym (with_new laws s n)) l) h
        go v l h (inr e) = absurd (never v (closer n s s v (λ b k. refl) (e ∙ sym (low n (omega arith))) l))
    search_from n s low (inr never) (inr none) = inr (λ u l. go u l (cases_Bool (L.has u n)))
      where
        go : (u : S) → Like (suc n) s u → (L.has u n ≡ true) ⊎ (L.has u n ≡ false) → ⊥
        go u l (inl e) =
            none u (closer n s (L.with s n) u (λ b k. other s n b (λ q. omega arith)) (e ∙ sym (with_new laws s n)) l)
        go u l (inr e) = never u (closer n s s u (λ b k. refl) (e ∙ sym (low n (omega arith))) l)

    same_all : (s u : S) → Like 0 s u → u ≡ s
    same_all s u l = laws.ext u s (λ b. l.agrees b (omega arith))

    seek : (n : ℕ) (s : S) → ((b : ℕ) → b < n → L.has s b ≡ false) → Found n s
    seek zero s low = go (model_cases s) (within_cases laws s t)
      where
        go : Model L cs s ⊎ ((c : C) × Memᴰ c cs × Breaks L s c) → Within L s t ⊎ ¬ Within L s t → Found 0 s
        go (inl m) (inl w) = inl (s, record { model = m; inside = w; agrees = λ b k. refl }, λ v l h. same_all s v l)
        go (inl m) (inr n) = inr (λ u l. n (subst (λ (x : S). Within L x t) (same_all s u l) l.inside))
        go (inr b) w = inr (λ u l. subst (λ (x : S). Model L cs x) (same_all s u l) l.model b.0 b.1 b.2)
    seek (suc n) s low = search_from n s low (seek n s (λ b k. low b (omega arith)))
        (seek n (L.with s n) (λ b k. other s n b (λ q. omega arith) ∙ low b (omega arith)))

    -- every model includes a minimal model
    pub includes_minimal : Model L cs t → (m : S) × Minimal L cs m × Within L m t
    includes_minimal h = go (seek (L.bound t) L.empty (λ b k. laws.has_empty b))
      where
        none : (u : S) → Within L u t → (b : ℕ) → L.bound t ≤ b → L.has u b ≡ L.has L.empty b
        none u w b k = out (cases_Bool (L.has u b))
          where
            out : (L.has u b ≡ true) ⊎ (L.has u b ≡ false) → L.has u b ≡ L.has L.empty b
            out (inl e) = absurd (omega (arith, laws.has_bound t b (w b e)))
            out (inr e) = e ∙ sym (laws.has_empty b)

        go : Found (L.bound t) L.empty → (m : S) × Minimal L cs m × Within L m t
        go (inl r) = (
          r.0,
          record {
            model = r.1.model;
            least =
                λ v k w. r.2 v
                (record {
                  model = k;
                  inside = λ a i. r.1.inside a (w a i);
                  agrees =
                      none v (λ a i. r.1.inside a (w a i));
                }) w;
          },
          r.1.inside,
        )
        go (inr never) = absurd (never t (record { model = h; inside = λ a i. i; agrees = none t (λ a i. i) }))
