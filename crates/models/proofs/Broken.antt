-- The tests of specs/Models say what they should: breaking a clause, and the first clause broken.
use Rattle.std.proofs.Common.{◌≡◌, ℕ, true, false, not, ◌&&◌, ◌⊎◌, List, [], ◌∷◌, ◌++◌, Some, None, Option, sym, refl, ap, ◌∙◌, subst, inl, inr, arith}
use mathlib.Core.List.Memᴰ
use mathlib.Core.List.{Memᴰ}
use Rattle.std.proofs.lemmas.Bool.{both_ways, cases_Bool, and_parts, and_cases, not-true, not-false, cond-true, cond-false}
use Rattle.models.specs.Language.{Language, Laws}
use Rattle.models.specs.Models.{In, Within, Apart, Breaks, Model, sticks_out, meets, breaks, first_broken, First}
use Rattle.models.proofs.Tests.{below_found, below_none}

pub some≢none : {X : Type 0} {x : X} → Path (Option X) (Some x) None → ⊥
some≢none {X} {x} e = let z : ◌≡◌ {A = ℕ} 0 1 = cc in omega arith

pub some_inj : {X : Type 0} {x y : X} → Path (Option X) (Some x) (Some y) → x ≡ y
some_inj e = cc

module _ {S C : Type 0} {L : Language S C} (laws : Laws L) where
  pub within_from : (s t : S) → sticks_out L s t ≡ false → Within L s t
  within_from s t e a h =
      go (and_cases (L.has s a) (not (L.has t a))
      (below_none (L.bound s) (λ b. L.has s b && not (L.has t b)) e a (laws.has_bound s a h)))
    where
      go : (L.has s a ≡ false) ⊎ (not (L.has t a) ≡ false) → In L t a
      go (inl f) = absurd (both_ways (L.has s a) f h)
      go (inr f) = not-false (L.has t a) f

  pub within_not : (s t : S) → sticks_out L s t ≡ true → Within L s t → ⊥
  within_not s t e w =
      let r = below_found (L.bound s) (λ b. L.has s b && not (L.has t b)) e in
      let q = and_parts (L.has s r.0) (not (L.has t r.0)) r.2 in
      both_ways (L.has t r.0) (not-true (L.has t r.0) q.1) (w r.0 q.0)

  pub within_cases : (s t : S) → Within L s t ⊎ ¬ Within L s t
  within_cases s t = go (cases_Bool (sticks_out L s t))
    where
      go : (sticks_out L s t ≡ true) ⊎ (sticks_out L s t ≡ false) → Within L s t ⊎ ¬ Within L s t
      go (inl e) = inr (within_not s t e)
      go (inr e) = inl (within_from s t e)

  pub apart_from : (s t : S) → meets L s t ≡ false → Apart L s t
  apart_from s t e a h k =
      go (and_cases (L.has s a) (L.has t a)
      (below_none (L.bound s) (λ b. L.has s b && L.has t b) e a (laws.has_bound s a h)))
    where
      go : (L.has s a ≡ false) ⊎ (L.has t a ≡ false) → ⊥
      go (inl f) = both_ways (L.has s a) f h
      go (inr f) = both_ways (L.has t a) f k

  pub meets_at : (s t : S) → meets L s t ≡ true → (a : ℕ) × In L s a × In L t a
  meets_at s t e =
      let r = below_found (L.bound s) (λ b. L.has s b && L.has t b) e in
      let q = and_parts (L.has s r.0) (L.has t r.0) r.2 in
      (r.0, q.0, q.1)

  pub breaks_true : (s : S) (c : C) → breaks L s c ≡ true → Breaks L s c
  unfolding breaks
  breaks_true s c e =
      let q = and_parts (not (sticks_out L (L.body c) s)) (not (meets L (L.head c) s)) e in
      record { whole = within_from (L.body c) s (not-true _ q.0); none = apart_from (L.head c) s (not-true _ q.1) }

  pub breaks_false : (s : S) (c : C) → breaks L s c ≡ false → ¬ Breaks L s c
  unfolding breaks
  breaks_false s c e b = go (and_cases (not (sticks_out L (L.body c) s)) (not (meets L (L.head c) s)) e)
    where
      go : (not (sticks_out L (L.body c) s) ≡ false) ⊎ (not (meets L (L.head c) s) ≡ false) → ⊥
      go (inl f) = within_not (L.body c) s (not-false _ f) b.whole
      go (inr f) = let r = meets_at (L.head c) s (not-false _ f) in b.none r.0 r.1 r.2

  pub breaks_from : (s : S) (c : C) → Breaks L s c → breaks L s c ≡ true
  breaks_from s c b = go (cases_Bool (breaks L s c))
    where
      go : (breaks L s c ≡ true) ⊎ (breaks L s c ≡ false) → breaks L s c ≡ true
      go (inl e) = e
      go (inr e) = absurd (breaks_false s c e b)

  pub breaks_not : (s : S) (c : C) → ¬ Breaks L s c → breaks L s c ≡ false
  breaks_not s c n = go (cases_Bool (breaks L s c))
    where
      go : (breaks L s c ≡ true) ⊎ (breaks L s c ≡ false) → breaks L s c ≡ false
      go (inl e) = absurd (n (breaks_true s c e))
      go (inr e) = e

  -- the first clause broken: one step of the list
  pub first_here : (c : C) (cs : List C) (s : S) → Breaks L s c → first_broken L (c ∷ cs) s ≡ Some c
  first_here c cs s b = cond-true (breaks L s c) (Some c) (first_broken L cs s) (breaks_from s c b)

  pub first_past : (c : C) (cs : List C) (s : S) → ¬ Breaks L s c → first_broken L (c ∷ cs) s ≡ first_broken L cs s
  first_past c cs s n = cond-false (breaks L s c) (Some c) (first_broken L cs s) (breaks_not s c n)

  pub breaks_cases : (s : S) (c : C) → Breaks L s c ⊎ ¬ Breaks L s c
  breaks_cases s c = go (cases_Bool (breaks L s c))
    where
      go : (breaks L s c ≡ true) ⊎ (breaks L s c ≡ false) → Breaks L s c ⊎ ¬ Breaks L s c
      go (inl e) = inl (breaks_true s c e)
      go (inr e) = inr (breaks_false s c e)

  -- no clause is broken exactly when the set is a model
  pub none_model : (cs : List C) (s : S) → first_broken L cs s ≡ None → Model L cs s
  none_model [] s e c m = absurd (Memᴰ.not-nil m)
  none_model (x ∷ cs) s e c m = go (breaks_cases s x) (Memᴰ.cases_cons m) (none_model cs s)
    where
      go : Breaks L s x ⊎ ¬ Breaks L s x → (c ≡ x) ⊎ Memᴰ c cs → (first_broken L cs s ≡ None → Model L cs s) →
          ¬ Breaks L s c
      go (inl b) k f = absurd (some≢none (sym (first_here x cs s b) ∙ e))
      go (inr n) (inl q) f = λ b. n (subst (λ (y : C). Breaks L s y) q b)
      go (inr n) (inr k) f = f (sym (first_past x cs s n) ∙ e) c k

  pub model_none : (cs : List C) (s : S) → Model L cs s → first_broken L cs s ≡ None
  model_none [] s h = refl
  model_none (x ∷ cs) s h = first_past x cs s (h x (Memᴰ.head refl)) ∙ model_none cs s (λ c m. h c (Memᴰ.tail m))

  -- past a front that the set does not break
  pub first_after : (front cs : List C) (s : S) → Model L front s → first_broken L (front ++ cs) s ≡ first_broken L cs s
  first_after [] cs s h = refl
  first_after (x ∷ front) cs s h = first_past x (front ++ cs) s (h x (Memᴰ.head refl))
      ∙ first_after front cs s (λ c m. h c (Memᴰ.tail m))

  pub first_some : (cs : List C) (s : S) (c : C) → first_broken L cs s ≡ Some c → First L cs s c
  first_some [] s c e = absurd (some≢none (sym e))
  first_some (x ∷ cs) s c e = go (breaks_cases s x) (first_some cs s c)
    where
      go : Breaks L s x ⊎ ¬ Breaks L s x → (first_broken L cs s ≡ Some c → First L cs s c) → First L (x ∷ cs) s c
      go (inl b) f =
          let q : x ≡ c = some_inj (sym (first_here x cs s b) ∙ e) in
          record {
            front = [];
            back = cs;
            place = ap (λ (y : C). y ∷ cs) q;
            before =
                λ d m. absurd (Memᴰ.not-nil m);
            broken = subst (λ (y : C). Breaks L s y) q b;
          }
      go (inr n) f =
          let r = f (sym (first_past x cs s n) ∙ e) in
          record {
            front = x ∷ r.front;
            back = r.back;
            place = ap (λ (ys : List C). x ∷ ys) r.place;
            before =
                λ d m. here r d (Memᴰ.cases_cons m);
            broken = r.broken;
          }
        where
          here : (r : First L cs s c) (d : C) → (d ≡ x) ⊎ Memᴰ d r.front → ¬ Breaks L s d
          here r d (inl q) = λ b. n (subst (λ (y : C). Breaks L s y) q b)
          here r d (inr m) = r.before d m

  pub first_from : (cs : List C) (s : S) (c : C) → First L cs s c → first_broken L cs s ≡ Some c
  first_from cs s c r =
      ap (λ (xs : List C). first_broken L xs s) r.place
      ∙ (first_after r.front (c ∷ r.back) s r.before ∙ first_here c r.back s r.broken)

  -- the first clause broken is broken, and it is of the list
  pub first_broken_lem : (cs : List C) (s : S) {c : C} → first_broken L cs s ≡ Some c → Breaks L s c
  first_broken_lem cs s {c} e = (first_some cs s c e).broken

  pub first_member : (cs : List C) (s : S) {c : C} → first_broken L cs s ≡ Some c → Memᴰ c cs
  first_member cs s {c} e = let r = first_some cs s c e in
      subst (λ (xs : List C). Memᴰ c xs) (sym r.place) (Memᴰ.append_right r.front (Memᴰ.head refl))
