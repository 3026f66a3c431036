-- With the atoms taken below `w` there are at most `w` frames; with all head atoms below `w`, minimal models have only atoms
-- below `w`.
use Rattle.std.proofs.Common.{◌≡◌, ℕ, zero, suc, ◌+◌, ◌<◌, ◌≤◌, Bool, false, ◌⊎◌, List, [], ◌∷◌, length, Some, None, Option, sym, refl, ap, subst, inl, inr, arith}
use mathlib.Core.List.{Memᴰ}
use Rattle.std.proofs.lemmas.Bool.{both_ways}
use Rattle.models.specs.Language.{Language, Laws}
use Rattle.models.specs.Models.{In, Within, Minimal, first_broken}
use Rattle.models.specs.Search.{unmarked, Frame, Leads}
use Rattle.models.proofs.Broken.{none_model, first_member}
use Rattle.models.proofs.Regions.{with_new, with_old, with_cases, with_within, head_met}
use Rattle.models.proofs.Count.{missing, missing_most, missing_with, missing_some, head_new}

module _ {S C : Type 0} {L : Language S C} (laws : Laws L) (cs : List C) (w : ℕ) where
  -- each frame has taken one atom, if those taken are below w
  pub depth : (fs : List (Frame S C)) (taken : S) (denied : ℕ → Bool) → Leads L cs fs taken denied →
      ((a : ℕ) → In L taken a → a < w) → length fs + missing L w taken ≡ missing L w L.empty
  depth [] taken denied l small = let e : missing L w taken ≡ missing L w L.empty = ap (missing L w) l.0 in omega arith
  depth (f ∷ fs) taken denied l small =
      let b = l.0 in
      let e : missing L w taken ≡ missing L w (L.with f.taken f.now) = ap (missing L w) b.takes in
      let k : f.now < w =
      small f.now (subst (λ (s : S). In L s f.now) (sym b.takes) (with_new laws f.taken f.now)) in
      omega (
        arith,
        depth fs f.taken f.denied l.1
            (λ a h. small a (subst (λ (s : S). In L s a) (sym b.takes) (with_old laws f.taken f.now a h))),
        missing_with laws w f.taken f.now (head_new laws cs f.taken f.clause b.first f.now b.of_head) k,
      )

  pub depth_most : (fs : List (Frame S C)) (taken : S) (denied : ℕ → Bool) → Leads L cs fs taken denied →
      ((a : ℕ) → In L taken a → a < w) → length fs ≤ w
  depth_most fs taken denied l small = omega (arith, depth fs taken denied l small, missing_most laws w L.empty)

  -- there is room for one more where the node breaks a clause that has a head atom below w
  pub depth_room : (fs : List (Frame S C)) (taken : S) (denied : ℕ → Bool) → Leads L cs fs taken denied →
      ((a : ℕ) → In L taken a → a < w) →
      (c : C) → first_broken L cs taken ≡ Some c → (h : ℕ) → In L (L.head c) h → h < w → length fs < w
  depth_room fs taken denied l small c e h p k =
      omega (
        arith,
        depth fs taken denied l small,
        missing_most laws w L.empty,
        missing_with laws w taken h (head_new laws cs taken c e h p) k,
      )

module _ {S C : Type 0} {L : Language S C} (laws : Laws L) (cs : List C) (w : ℕ)
    (below : (c : C) → Memᴰ c cs → (a : ℕ) → In L (L.head c) a → a < w) where
  module _ (m : S) (k : Minimal L cs m) where
    small_here : (o : Option C) (common : S) → first_broken L cs common ≡ o → Within L common m →
        ((a : ℕ) → In L common a → a < w) →
        ((h : ℕ) → In L m h → h < w → L.has common h ≡ false → (a : ℕ) → In L m a → a < w) → (a : ℕ) → In L m a → a < w
    small_here None common e u small f a p = small a
        (subst (λ (s : S). In L s a) (sym (k.least common (none_model laws cs common e) u)) p)
    small_here (Some c) common e u small f a p =
        let h = head_met laws cs common unmarked c e m k.model u in
        f h.0 h.2 (below c (first_member laws cs common e) h.0 h.1) (head_new laws cs common c e h.0 h.1) a p

    small_with : (common : S) (h : ℕ) → ((a : ℕ) → In L common a → a < w) → h < w → (a : ℕ) → In L (L.with common h) a → a < w
    small_with common h small l a p = go (with_cases laws common h a p)
      where
        go : (h ≡ a) ⊎ In L common a → a < w
        go (inl e) = omega arith
        go (inr q) = small a q

    small_from : (fuel : ℕ) (common : S) → missing L w common ≤ fuel → Within L common m → ((a : ℕ) → In L common a → a < w) →
        (a : ℕ) → In L m a → a < w
    small_from zero common few u small = small_here (first_broken L cs common) common refl u small
        (λ h q l n. absurd (omega (arith, missing_some laws w common h n l)))
    small_from (suc fuel) common few u small =
        small_here (first_broken L cs common) common refl u small
        (λ h q l n. small_from fuel (L.with common h) (omega (arith, missing_with laws w common h n l))
        (with_within laws common m h u q) (small_with common h small l))

    pub minimal_below : (a : ℕ) → In L m a → a < w
    minimal_below =
        small_from w L.empty (missing_most laws w L.empty)
        (λ a h. absurd (both_ways (L.has L.empty a) (laws.has_empty a) h))
        (λ a h. absurd (both_ways (L.has L.empty a) (laws.has_empty a) h))
