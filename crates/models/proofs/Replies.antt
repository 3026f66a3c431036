-- What was handed out, in terms of the list of explanations; and lists of clauses in a row.
use Rattle.std.proofs.Common.{◌≡◌, suc, ◌+◌, ◌<◌, ◌⊎◌, List, [], ◌∷◌, ◌++◌, length, get_or, drop, Some, None, Option, sym, refl, ap, ◌∙◌, subst, inl, inr, append_assoc, arith, length-append}
use mathlib.Core.List.Memᴰ
use mathlib.Core.List.{Memᴰ}
use Rattle.models.specs.Language.{Language, Laws}
use Rattle.models.specs.Models.{Pairwise, Breaks, Model, first_broken, Precedes, Explanations}
use Rattle.models.specs.Search.{Front}
use Rattle.models.proofs.Broken.{first_here, first_past, breaks_cases}
use Rattle.models.proofs.Order.{irreflexive}
use Rattle.models.proofs.Lister.{explanations_only, front_split}

-- two lists of clauses in a row: the first clause broken of the first, else of the second (`first_append`)
abbrev pub or_else : {X : Type 0} → Option X → Option X → Option X
or_else (Some c) o = Some c
or_else None o = o

pub get_or_middle : {X : Type 0} (xs : List X) (x : X) (ys : List X) (d : X) → get_or (xs ++ (x ∷ ys)) (length xs) d ≡ x
get_or_middle [] x ys d = refl
get_or_middle (z ∷ xs) x ys d = get_or_middle xs x ys d

module _ {S C : Type 0} {L : Language S C} (laws : Laws L) (cs : List C) (ms : List S) (list : Explanations L cs ms) where
  -- each explanation stands in the list once
  pub once : Pairwise (λ (x y : S). x ≡ y → ⊥) ms
  once = go ms list.ordered
    where
      go : (xs : List S) → Pairwise (Precedes L cs) xs → Pairwise (λ (x y : S). x ≡ y → ⊥) xs
      go [] p = tt
      go (x ∷ xs) p = ((λ y m e. irreflexive laws cs x (subst (λ (z : S). Precedes L cs x z) (sym e) (p.0 y m))), go xs p.1)

  -- what was handed out is a front of the list
  pub front_rest : (out : List S) → Front L cs out → ms ≡ out ++ drop (length out) ms
  front_rest out f =
      subst (λ (xs : List S). xs ≡ out ++ drop (length out) xs) (sym (explanations_only laws cs ms list))
      (front_split laws cs out f)

  -- the set handed out next is the next of the list
  pub next_reply : (out : List S) (m d : S) → Front L cs (out ++ (m ∷ [])) →
      (length out < length ms) × (get_or ms (length out) d ≡ m)
  next_reply out m d f =
      let rest : List S = drop (length (out ++ (m ∷ []))) ms in
      let e : ms ≡ out ++ (m ∷ rest) = front_rest (out ++ (m ∷ [])) f ∙ append_assoc out (m ∷ []) rest in
      let l : length ms ≡ length out + suc (length rest) = ap length e ∙ length-append out (m ∷ rest) in
      (omega arith, ap (λ (xs : List S). get_or xs (length out) d) e ∙ get_or_middle out m rest d)

  -- no more is left when all is handed out
  pub last_reply : (out : List S) → Explanations L cs out → out ≡ ms
  last_reply out e = explanations_only laws cs out e ∙ sym (explanations_only laws cs ms list)

module _ {S C : Type 0} {L : Language S C} (laws : Laws L) where
  pub first_append : (xs ys : List C) (s : S) → first_broken L (xs ++ ys) s ≡ or_else (first_broken L xs s) (first_broken L ys s)
  first_append [] ys s = refl
  first_append (x ∷ xs) ys s = go (breaks_cases laws s x) (first_append xs ys s)
    where
      go : Breaks L s x ⊎ ¬ Breaks L s x → first_broken L (xs ++ ys) s ≡ or_else (first_broken L xs s) (first_broken L ys s) →
          first_broken L (x ∷ (xs ++ ys)) s ≡ or_else (first_broken L (x ∷ xs) s) (first_broken L ys s)
      go (inl b) e = first_here laws x (xs ++ ys) s b
          ∙ ap (λ (o : Option C). or_else o (first_broken L ys s)) (sym (first_here laws x xs s b))
      go (inr n) e = first_past laws x (xs ++ ys) s n
          ∙ (e ∙ ap (λ (o : Option C). or_else o (first_broken L ys s)) (sym (first_past laws x xs s n)))

  pub model_append : (xs ys : List C) (s : S) → Model L xs s → Model L ys s → Model L (xs ++ ys) s
  model_append xs ys s p q c m = go (Memᴰ.append_cases xs m)
    where
      go : Memᴰ c xs ⊎ Memᴰ c ys → ¬ Breaks L s c
      go (inl k) = p c k
      go (inr k) = q c k
