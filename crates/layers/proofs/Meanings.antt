-- The models of what a layer means.
use Rattle.std.proofs.Common.{◌≡◌, ℕ, ◌+◌, ◌<◌, Bool, true, false, cond, ◌⊎◌, List, [], ◌∷◌, ◌++◌, map, Some, sym, refl, subst, inl, inr}
use mathlib.Core.List.Memᴰ
use mathlib.Core.List.{Memᴰ}
use Rattle.std.proofs.lemmas.Bool.{cases_Bool, cases_eq}
use Rattle.atoms.specs.Atoms.{bits, index, width}
use Rattle.atoms.specs.Sets.{◌⊆◌, has, hasb, meet}
use Rattle.atoms.specs.declared.AtomSet.{AtomSet}
use Rattle.atoms.proofs.Members.{has_meet, lacks, meet_sub_l, meet_sub_r, not_has, sub_antisym}
use Rattle.atoms.proofs.Values.{atom_below, index_below}
use Rattle.clauses.specs.Clauses.{denial, fact, language}
use Rattle.clauses.specs.Sources.{numbered}
use Rattle.clauses.specs.declared.clauses.Clause.{Clause}
use Rattle.models.specs.Models.{Breaks, Minimal, Model}
use Rattle.layers.specs.Caps.{cap_clauses, cap_origin, capped_over, denied, outside, whole}
use Rattle.layers.specs.Laws.{Agrees, Caps, Exactly, Proper, Satisfiable}
use Rattle.layers.specs.Observations.{clause_of, origin_at}
use Rattle.layers.specs.declared.observations.Observation.{Observation}
use Rattle.layers.proofs.Caps.{outside-has, outside_model}
use Rattle.layers.proofs.Units.{denial-breaks, denial_broken, fact-breaks, fact_broken, none_in_empty}

-- ---- observations

-- a set agrees with an observation exactly where it does not break its clause
module _ (t i : ℕ) (o : Observation) where
  abbrev unit : Bool → Clause
  unit present = cond present (fact (index o.atom) (origin_at i)) (denial (index o.atom) (origin_at i))

  pub agrees : ¬ Breaks language t (clause_of i o) → Agrees t o
  agrees = go o.present
    where
      go : (present : Bool) → ¬ Breaks language t (unit present) → hasb t (index o.atom) ≡ present
      go true n = held (cases_Bool (hasb t (index o.atom)))
        where
          held : (hasb t (index o.atom) ≡ true) ⊎ (hasb t (index o.atom) ≡ false) → has t (index o.atom)
          held (inl h) = h
          held (inr l) = absurd (n (fact_broken t (index o.atom) (origin_at i) (index_below o.atom) (not_has t (index o.atom) l)))
      go false n = lacks t (index o.atom) (λ h. n (denial_broken t (index o.atom) (origin_at i) (index_below o.atom) h))

  pub agreed : Agrees t o → ¬ Breaks language t (clause_of i o)
  agreed = go o.present
    where
      go : (present : Bool) → hasb t (index o.atom) ≡ present → ¬ Breaks language t (unit present)
      go true h b = fact-breaks t (index o.atom) (origin_at i) (index_below o.atom) b h
      go false l b = not_has t (index o.atom) l (denial-breaks t (index o.atom) (origin_at i) (index_below o.atom) b)

pub observed_models : (os : List Observation) (i : ℕ) (cs : List Clause) (t : ℕ)
    → Exactly (Model language (numbered clause_of i os ++ cs) t) (Model language cs t × ((o : Observation) → Memᴰ o os → Agrees t o))
observed_models [] i cs t = (λ h. (h, λ o m. absurd (Memᴰ.not-nil m)), λ h. h.0)
observed_models (x ∷ os) i cs t =
    let ih = observed_models os (i + 1) cs t in (
      λ h. let r = ih.0 (λ c m. h c (Memᴰ.tail m)) in
          (r.0, λ o m. first o (agrees t i x (h (clause_of i x) (Memᴰ.head refl))) (r.1 o) (Memᴰ.cases_cons m)),
      λ h c m. clause c (agreed t i x (h.1 x (Memᴰ.head refl))) (ih.1 (h.0, λ o k. h.1 o (Memᴰ.tail k)) c) (Memᴰ.cases_cons m),
    )
  where
    first : (o : Observation) → Agrees t x → (Memᴰ o os → Agrees t o) → (o ≡ x) ⊎ Memᴰ o os → Agrees t o
    first o here later (inl e) = subst (λ (y : Observation). Agrees t y) (sym e) here
    first o here later (inr m) = later m

    clause : (c : Clause) → ¬ Breaks language t (clause_of i x) → (Memᴰ c (numbered clause_of (i + 1) os ++ cs) → ¬ Breaks language t c)
        → (c ≡ clause_of i x) ⊎ Memᴰ c (numbered clause_of (i + 1) os ++ cs) → ¬ Breaks language t c
    clause c here later (inl e) b = here (subst (λ (y : Clause). Breaks language t y) e b)
    clause c here later (inr m) b = later m b

-- ---- caps

module _ (m : AtomSet) (cs : List Clause) where
  abbrev under : List Clause
  under = capped_over (Some m) cs

  -- a model of the clauses under the cap, of any width: of the atoms below the width it has only those of m, and not all of them
  record Capped (t : ℕ) : Type 0 where
    below : Model language cs t
    inside : (a : ℕ) → has t a → a < width → has (bits m) a
    partly : bits m ⊆ t → ⊥

  capped : (t : ℕ) → Model language under t → Capped t
  capped t h =
      record {
        below = λ c k. h c (Memᴰ.append_right (cap_clauses (Some m)) k);
        inside = inner;
        partly = λ w. h (whole m) last (record { whole = w; none = λ b k i. none_in_empty b k });
      }
    where
      last : Memᴰ (whole m) under
      last = Memᴰ.append_left cs (Memᴰ.append_right (map denied (outside (bits m))) (Memᴰ.head refl))

      inner : (a : ℕ) → has t a → a < width → has (bits m) a
      inner a k l = go (cases_Bool (hasb (bits m) a))
        where
          go : (hasb (bits m) a ≡ true) ⊎ (hasb (bits m) a ≡ false) → has (bits m) a
          go (inl e) = e
          go (inr n) =
              absurd (h (denied a) (Memᴰ.append_left cs (Memᴰ.append_left (whole m ∷ []) (outside-has (bits m) a l n))) (denial_broken t a (cap_origin a) l k))

  uncapped : (t : ℕ) → Capped t → Model language under t
  uncapped t h c k = go (Memᴰ.append_cases (cap_clauses (Some m)) k)
    where
      cap : Memᴰ c (map denied (outside (bits m))) ⊎ Memᴰ c (whole m ∷ []) → ¬ Breaks language t c
      cap (inl j) b = outside_model (bits m) t h.inside c j b
      cap (inr j) b = one (Memᴰ.cases_cons j)
        where
          one : (c ≡ whole m) ⊎ Memᴰ c [] → ⊥
          one (inl e) = h.partly (subst (λ (y : Clause). Breaks language t y) e b).whole
          one (inr i) = Memᴰ.not-nil i

      go : Memᴰ c (cap_clauses (Some m)) ⊎ Memᴰ c cs → ¬ Breaks language t c
      go (inl j) = cap (Memᴰ.append_cases (map denied (outside (bits m))) j)
      go (inr j) = h.below c j

  -- a proper subset of m that is a model below
  proper_capped : (t : ℕ) → Model language cs t → Proper t (bits m) → Capped t
  proper_capped t h p = record { below = h; inside = λ a k l. p.0 a k; partly = λ w. p.1 (sub_antisym t (bits m) p.0 w) }

  -- the atoms of m in a model are a model below, since no clause has an atom beyond the width
  narrowed : (t : ℕ) → Capped t → Model language cs (meet t (bits m))
  narrowed t h c k b =
      h.below c k
      (record {
        whole = λ a i. meet_sub_l t (bits m) a (b.whole a i);
        none = λ a i j. b.none a i (has_meet t (bits m) a j (h.inside a j (atom_below c.head a i)));
      })

  narrowed_proper : (t : ℕ) → Capped t → Proper (meet t (bits m)) (bits m)
  narrowed_proper t h = (meet_sub_r t (bits m), λ e. h.partly (λ a i. meet_sub_l t (bits m) a (subst (λ (x : ℕ). has x a) (sym e) i)))

  some_model : Exactly (Satisfiable under) ((t : ℕ) × Model language cs t × Proper t (bits m))
  some_model = (
    λ h. let k = capped h.0 h.1 in (meet h.0 (bits m), narrowed h.0 k, narrowed_proper h.0 k),
    λ h. (h.0, uncapped h.0 (proper_capped h.0 h.1 h.2)),
  )

  pub caps : Caps m cs under
  caps =
      record {
        models = λ t. (
          λ h. let k = capped (bits t) h in
              (k.below, ((λ a i. k.inside a i (atom_below t a i)), λ e. k.partly (λ a i. subst (λ (x : ℕ). has x a) (sym e) i))),
          λ h. uncapped (bits t) (proper_capped (bits t) h.0 h.1),
        );
        some = some_model;
        minimal = λ h. ((λ k s. let r = some_model.0 s in r.2.1 (k.least r.0 r.1 r.2.0)), least h);
      }
    where
      least : Model language cs (bits m) → (Satisfiable under → ⊥) → Minimal language cs (bits m)
      least h none = record { model = h; least = λ t k w. go t k w (cases_eq t (bits m)) }
        where
          go : (t : ℕ) → Model language cs t → t ⊆ bits m → (t ≡ bits m) ⊎ (t ≡ bits m → ⊥) → t ≡ bits m
          go t k w (inl e) = e
          go t k w (inr n) = absurd (none (some_model.1 (t, k, (w, n))))
