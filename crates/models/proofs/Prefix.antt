-- A front is the beginning of the list of explanations, and there is at most one such list.
use Rattle.std.proofs.Common.{◌≡◌, ℕ, min, ◌⊎◌, List, [], ◌∷◌, ◌++◌, length, take, drop, sym, refl, ap, ◌∙◌, subst, ap₂, inl, inr, arith, take-append-drop, length-take}
use mathlib.Core.List.Memᴰ
use mathlib.Core.List.{Memᴰ}
use Rattle.models.specs.Language.{Language, Laws}
use Rattle.models.specs.Models.{Pairwise, Precedes, Explanations}
use Rattle.models.specs.Search.{Front}
use Rattle.models.proofs.Order.{irreflexive, asymmetric}

-- a list in strict order, all of another such list, that comes before the rest of it, is its beginning
module _ {X : Type 0} (R : X → X → Type 0) (irr : (x : X) → R x x → ⊥) (asym : (x y : X) → R x y → R y x → ⊥) where
  pub front_take : (out ms : List X) → Pairwise R out → Pairwise R ms → ((x : X) → Memᴰ x out → Memᴰ x ms) →
      ((y : X) → Memᴰ y ms → Memᴰ y out ⊎ ((x : X) → Memᴰ x out → R x y)) → out ≡ take (length out) ms
  front_take [] ms p q sub after = refl
  front_take (x ∷ out) [] p q sub after = absurd (Memᴰ.not-nil (sub x (Memᴰ.head refl)))
  front_take (x ∷ out) (y ∷ ms) p q sub after =
      ap₂ (λ (z : X) (zs : List X). z ∷ zs) same (front_take out ms p.1 q.1 sub' after')
    where
      heads : (x ≡ y) ⊎ Memᴰ x ms → Memᴰ y (x ∷ out) ⊎ ((z : X) → Memᴰ z (x ∷ out) → R z y) → x ≡ y
      heads (inl e) a = e
      heads (inr m) (inr f) = absurd (asym x y (f x (Memᴰ.head refl)) (q.0 x m))
      heads (inr m) (inl k) = go (Memᴰ.cases_cons k)
        where
          go : (y ≡ x) ⊎ Memᴰ y out → x ≡ y
          go (inl e) = sym e
          go (inr j) = absurd (asym x y (p.0 y j) (q.0 x m))

      same : x ≡ y
      same = heads (Memᴰ.cases_cons (sub x (Memᴰ.head refl))) (after y (Memᴰ.head refl))

      sub' : (z : X) → Memᴰ z out → Memᴰ z ms
      sub' z m = go (Memᴰ.cases_cons (sub z (Memᴰ.tail m)))
        where
          go : (z ≡ y) ⊎ Memᴰ z ms → Memᴰ z ms
          go (inl e) = absurd (irr x (subst (λ (w : X). R x w) (e ∙ sym same) (p.0 z m)))
          go (inr k) = k

      after' : (z : X) → Memᴰ z ms → Memᴰ z out ⊎ ((w : X) → Memᴰ w out → R w z)
      after' z m = go (after z (Memᴰ.tail m))
        where
          here : (z ≡ x) ⊎ Memᴰ z out → Memᴰ z out ⊎ ((w : X) → Memᴰ w out → R w z)
          here (inl e) = absurd (irr y (subst (λ (w : X). R y w) (e ∙ same) (q.0 z m)))
          here (inr k) = inl k

          go : Memᴰ z (x ∷ out) ⊎ ((w : X) → Memᴰ w (x ∷ out) → R w z) →
              Memᴰ z out ⊎ ((w : X) → Memᴰ w out → R w z)
          go (inl k) = here (Memᴰ.cases_cons k)
          go (inr f) = inr (λ w k. f w (Memᴰ.tail k))

pub take-length : {X : Type 0} (xs : List X) → take (length xs) xs ≡ xs
take-length [] = refl
take-length (x ∷ xs) = ap (λ (ys : List _). x ∷ ys) (take-length xs)

-- in a list in order the first part is in order, and comes before the rest
pub pairwise_parts : {X : Type 0} (R : X → X → Type 0) (xs ys : List X) → Pairwise R (xs ++ ys) →
    Pairwise R xs × ((x y : X) → Memᴰ x xs → Memᴰ y ys → R x y)
pairwise_parts R [] ys p = (tt, λ x y k. absurd (Memᴰ.not-nil k))
pairwise_parts {X} R (z ∷ xs) ys p = go (pairwise_parts R xs ys p.1)
  where
    go : Pairwise R xs × ((x y : X) → Memᴰ x xs → Memᴰ y ys → R x y) →
        Pairwise R (z ∷ xs) × ((x y : X) → Memᴰ x (z ∷ xs) → Memᴰ y ys → R x y)
    go r = (((λ y k. p.0 y (Memᴰ.append_left ys k)), r.0), λ x y k j. at x y (Memᴰ.cases_cons k) j)
      where
        at : (x y : X) → (x ≡ z) ⊎ Memᴰ x xs → Memᴰ y ys → R x y
        at x y (inl e) j = subst (λ (w : X). R w y) (sym e) (p.0 y (Memᴰ.append_right xs j))
        at x y (inr k) j = r.1 x y k j

module _ {S C : Type 0} {L : Language S C} (laws : Laws L) (cs : List C) where
  pub front_prefix : (out ms : List S) → Front L cs out → Explanations L cs ms → out ≡ take (length out) ms
  front_prefix out ms f e =
      front_take (Precedes L cs) (irreflexive laws cs) (asymmetric laws cs) out ms f.ordered e.ordered
      (λ m k. e.all m (f.minimal m k)) (λ n k. f.after n (e.only n k))

  -- and the beginning of the list is a front
  pub prefix_front : (out ms : List S) → out ≡ take (length out) ms → Explanations L cs ms → Front L cs out
  prefix_front out ms e h =
      record {
        minimal =
            λ m k. h.only m (subst (λ (xs : List S). Memᴰ m xs) (sym whole) (Memᴰ.append_left (drop (length out) ms) k));
        ordered = parts.0;
        after = λ n k. go n (Memᴰ.append_cases out (subst (λ (xs : List S). Memᴰ n xs) whole (h.all n k)));
      }
    where
      whole : ms ≡ out ++ drop (length out) ms
      whole = sym (take-append-drop (length out) ms) ∙ ap (λ (xs : List S). xs ++ drop (length out) ms) (sym e)

      parts : Pairwise (Precedes L cs) out ×
          ((m n : S) → Memᴰ m out → Memᴰ n (drop (length out) ms) → Precedes L cs m n)
      parts = pairwise_parts (Precedes L cs) out (drop (length out) ms) (subst (Pairwise (Precedes L cs)) whole h.ordered)

      go : (n : S) → Memᴰ n out ⊎ Memᴰ n (drop (length out) ms) →
          Memᴰ n out ⊎ ((m : S) → Memᴰ m out → Precedes L cs m n)
      go n (inl k) = inl k
      go n (inr k) = inr (λ m j. parts.1 m n j k)

  pub explanations_front : (ms : List S) → Explanations L cs ms → Front L cs ms
  explanations_front ms e = record { minimal = e.only; ordered = e.ordered; after = λ n k. inl (e.all n k) }

  pub explanations_one : (ms ns : List S) → Explanations L cs ms → Explanations L cs ns → ms ≡ ns
  explanations_one ms ns e f =
      let p : ms ≡ take (length ms) ns = front_prefix ms ns (explanations_front ms e) f in
      let q : ns ≡ take (length ns) ms = front_prefix ns ms (explanations_front ns f) e in
      let u : length ms ≡ min (length ms) (length ns) = ap length p ∙ length-take (length ms) ns in
      let w : length ns ≡ min (length ns) (length ms) = ap length q ∙ length-take (length ns) ms in
      let l : length ms ≡ length ns = omega arith in
      p ∙ (ap (λ (k : ℕ). take k ns) l ∙ take-length ns)
