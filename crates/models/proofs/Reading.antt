-- Explanations depend on clauses only through what they are read as.
use Rattle.std.proofs.Common.{◌≡◌, ℕ, true, false, ◌⊎◌, List, [], ◌∷◌, map, Some, sym, refl, ◌∙◌, subst, inl, inr}
use mathlib.Core.List.Memᴰ
use Rattle.models.proofs.Broken.{some≢none, some_inj}
use Rattle.models.proofs.Lister.{explanations_right}
use Rattle.models.proofs.Prefix.{explanations_one}
use Rattle.models.specs.Language.{Language, Laws, reading}
use Rattle.models.specs.Lister.{explanations}
use Rattle.models.specs.Models.{Pairwise, Breaks, Model, Minimal, breaks, first_broken, Greatest, PrecedesFrom, differ, agree, Precedes, Explanations}
use Rattle.std.proofs.lemmas.Bool.{cases_Bool, cond-true, cond-false}

module _ {S C D : Type 0} (f : C → D) {M : Language S D} (laws : Laws M) where
  pub reading_laws : Laws (reading f M)
  reading_laws = record { has_bound = laws.has_bound; ext = laws.ext; has_empty = laws.has_empty; has_with = laws.has_with }

  same_breaks : (s : S) (c : C) → breaks M s (f c) ≡ breaks (reading f M) s c
  unfolding breaks
  same_breaks s c = refl

  -- the first clause broken
  first_read : (cs : List C) (s : S) {d : D} → first_broken M (map f cs) s ≡ Some d →
      (c : C) × (first_broken (reading f M) cs s ≡ Some c) × (f c ≡ d)
  first_read [] s e = absurd (some≢none (sym e))
  first_read (x ∷ cs) s {d} e = go (cases_Bool (breaks M s (f x))) (first_read cs s)
    where
      go : (breaks M s (f x) ≡ true) ⊎ (breaks M s (f x) ≡ false) →
          (first_broken M (map f cs) s ≡ Some d → (c : C) × (first_broken (reading f M) cs s ≡ Some c) × (f c ≡ d)) →
          (c : C) × (first_broken (reading f M) (x ∷ cs) s ≡ Some c) × (f c ≡ d)
      go (inl h) k = (
        x,
        cond-true (breaks (reading f M) s x) (Some x) (first_broken (reading f M) cs s) (sym (same_breaks s x) ∙ h),
        some_inj (sym (cond-true (breaks M s (f x)) (Some (f x)) (first_broken M (map f cs) s) h) ∙ e),
      )
      go (inr h) k =
          let r = k (sym (cond-false (breaks M s (f x)) (Some (f x)) (first_broken M (map f cs) s) h) ∙ e) in (
            r.0,
            cond-false (breaks (reading f M) s x) (Some x) (first_broken (reading f M) cs s) (sym (same_breaks s x) ∙ h)
                ∙ r.1,
            r.2,
          )

  module _ (cs : List C) where
    model_read : (s : S) → Model M (map f cs) s → Model (reading f M) cs s
    model_read s h c k b = h (f c) (Memᴰ.map f k) (record { whole = b.whole; none = b.none })

    model_back : (s : S) → Model (reading f M) cs s → Model M (map f cs) s
    model_back s h d k b =
        let r = Memᴰ.of_map f cs k in
        let q : Breaks M s (f r.0) = subst (λ (x : D). Breaks M s x) (sym r.2) b in
        h r.0 r.1 (record { whole = q.whole; none = q.none })

    minimal_read : (s : S) → Minimal M (map f cs) s → Minimal (reading f M) cs s
    minimal_read s h = record { model = model_read s h.model; least = λ t k. h.least t (model_back t k) }

    minimal_back : (s : S) → Minimal (reading f M) cs s → Minimal M (map f cs) s
    minimal_back s h = record { model = model_back s h.model; least = λ t k. h.least t (model_read t k) }

    -- the list order
    top_read : (c : C) {d : D} (m : S) {a : ℕ} → f c ≡ d → Greatest M (M.head d) m a →
        Greatest (reading f M) (M.head (f c)) m a
    top_read c {d} m {a} e g =
        let k : Greatest M (M.head (f c)) m a = subst (λ (x : D). Greatest M (M.head x) m a) (sym e) g in
        record { of_head = k.of_head; of_set = k.of_set; top = k.top }

    order_read : {m n common : S} → PrecedesFrom M (map f cs) m n common → PrecedesFrom (reading f M) cs m n common
    order_read {m} {n} (differ {common} e g k l) =
        let r = first_read cs common e in
        differ {c = r.0} r.1 (top_read r.0 m r.2 g) (top_read r.0 n r.2 k) l
    order_read {m} {n} (agree {common} e g k o) =
        let r = first_read cs common e in
        agree {c = r.0} r.1 (top_read r.0 m r.2 g) (top_read r.0 n r.2 k) (order_read o)

    pairs_read : (ms : List S) → Pairwise (Precedes M (map f cs)) ms → Pairwise (Precedes (reading f M) cs) ms
    pairs_read [] p = tt
    pairs_read (m ∷ ms) p = ((λ n k. order_read (p.0 n k)), pairs_read ms p.1)

    -- the explanations of what the clauses are read as are theirs
    pub explanations_read : (ms : List S) → Explanations M (map f cs) ms → Explanations (reading f M) cs ms
    explanations_read ms e =
        record {
          only = λ m k. minimal_read m (e.only m k);
          all = λ m k. e.all m (minimal_back m k);
          ordered =
              pairs_read ms e.ordered;
        }

  -- clauses that are read as the same have the same explanations
  pub explanations_same : (cs ds : List C) → map f cs ≡ map f ds → (ms : List S) → Explanations (reading f M) cs ms →
      Explanations (reading f M) ds ms
  explanations_same cs ds e ms h =
      let list : List S = explanations M (map f cs) in
      let right : Explanations M (map f cs) (explanations M (map f cs)) = explanations_right laws (map f cs) in
      let q : explanations M (map f cs) ≡ ms = explanations_one reading_laws cs (explanations M (map f cs)) ms
      (explanations_read cs (explanations M (map f cs)) right) h in
      explanations_read ds ms
      (subst (λ (xs : List D). Explanations M xs ms) e (subst (λ (xs : List S). Explanations M (map f cs) xs) q right))
