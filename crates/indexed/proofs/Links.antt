-- Where links lead, and that one set more keeps it so.
use Rattle.std.proofs.Common.{◌≡◌, ℕ, zero, suc, ◌+◌, ◌-◌, ◌<◌, ◌≤◌, cond, ◌≢◌, List, length, get_or, set, replicate, [], ◌∷◌, ◌++◌, sym, refl, ap, ◌∙◌, inl, inr, add-one, arith}
use Rattle.atoms.specs.Atoms.{width}
use Rattle.indexed.specs.Chains.{HeadsLead, LinksLead, blank, chain_at, chain_of, last, link_at}
use Rattle.indexed.specs.declared.record.ShelfRecord.{ShelfRecord}
use Rattle.std.proofs.lemmas.List.{get_or-append_right, get_or-replicate, get_or-set_other, get_or-set_same, get_or_append_left, length_push}
use Rattle.std.proofs.Math.Nat.{sub_self}
use Rattle.std.proofs.lemmas.Bool.{cases_eq, eq-eqb, ne_eqb}

module _ (rs : List ShelfRecord) (c : ℕ) where
  -- the last record is in the chain, or the link is as before it
  last_here : (n : ℕ) → chain_at rs n ≡ c → last rs c (suc n) ≡ suc n
  unfolding last
  last_here n e = ap (λ b. cond b (suc n) (last rs c n)) (eq-eqb (chain_at rs n) c e)

  last_before : (n : ℕ) → chain_at rs n ≢ c → last rs c (suc n) ≡ last rs c n
  unfolding last
  last_before n ne = ap (λ b. cond b (suc n) (last rs c n)) (ne_eqb (chain_at rs n) c ne)

  last_zero : last rs c 0 ≡ 0
  unfolding last
  last_zero = refl

  pub last_low : (n : ℕ) → last rs c n ≤ n
  last_low zero = omega (arith, last_zero)
  last_low (suc n) = elim (cases_eq (chain_at rs n) c) [
    | inl e ↦ omega (arith, last_here n e)
    | inr ne ↦ omega (arith, last_before n ne, last_low n)
  ]

  -- a link leads to a record of the chain
  pub last_on : (n : ℕ) → 0 < last rs c n → chain_at rs (last rs c n - 1) ≡ c
  last_on zero h = absurd (omega (arith, last_zero))
  last_on (suc n) h = elim (cases_eq (chain_at rs n) c) [
    | inl e ↦
        let at : last rs c (suc n) - 1 ≡ n = omega (arith, last_here n e) in
        ap (chain_at rs) at ∙ e
    | inr ne ↦
        let same = last_before n ne in
        let pos : 0 < last rs c n = omega arith in
        ap (λ v. chain_at rs (v - 1)) same ∙ last_on n pos
  ]

  -- and past no record of it
  pub last_skips : (n p : ℕ) → last rs c n ≤ p → p < n → chain_at rs p ≡ c → ⊥
  last_skips zero p le lt e = omega arith
  last_skips (suc n) p le lt e = elim (cases_eq (chain_at rs n) c) [
    | inl here ↦ omega (arith, last_here n here)
    | inr ne ↦ elim (cases_eq p n) [
      | inl q ↦ ne (sym (ap (chain_at rs) q) ∙ e)
      | inr nq ↦
          let low : last rs c n ≤ p = omega (arith, last_before n ne) in
          let below : p < n = omega arith in
          last_skips n p low below e
    ]
  ]

-- it depends on the records before it alone
pub last_same : (rs qs : List ShelfRecord) (c n : ℕ) → ((p : ℕ) → p < n → chain_at rs p ≡ chain_at qs p) → last rs c n ≡ last qs c n
last_same rs qs c zero h = last_zero rs c ∙ sym (last_zero qs c)
last_same rs qs c (suc n) h =
    let here = h n (omega arith) in
    let rest = last_same rs qs c n (λ p lt. h p (omega arith)) in
    elim (cases_eq (chain_at rs n) c) [
      | inl e ↦ last_here rs c n e ∙ sym (last_here qs c n (sym here ∙ e))
      | inr ne ↦ last_before rs c n ne ∙ rest ∙ sym (last_before qs c n (λ e. ne (here ∙ e)))
    ]

-- with no set, no head and no record leads anywhere
pub heads_none : HeadsLead (replicate 65 0) []
heads_none c le = get_or-replicate {A = ℕ} 65 c 0 0 (omega arith) ∙ sym (last_zero [] c)

pub links_none : LinksLead []
links_none p lt = absurd (omega arith)

-- the record `x` comes to stand at the end
module _ (rs : List ShelfRecord) (x : ShelfRecord) where
  pub old_at : (p : ℕ) → p < length rs → get_or (rs ++ x ∷ []) p blank ≡ get_or rs p blank
  old_at p h = get_or_append_left rs (x ∷ []) blank p h

  pub new_at : get_or (rs ++ x ∷ []) (length rs) blank ≡ x
  new_at = get_or-append_right rs (x ∷ []) (length rs) (length rs) blank refl (omega arith) ∙ ap (λ i. get_or (x ∷ []) i blank) (sub_self (length rs))

  chain_kept : (p : ℕ) → p < length rs → chain_at (rs ++ x ∷ []) p ≡ chain_at rs p
  chain_kept p h = ap (λ r. chain_of r.set) (old_at p h)

  chain_new : chain_at (rs ++ x ∷ []) (length rs) ≡ chain_of x.set
  chain_new = ap (λ r. chain_of r.set) new_at

  last_kept : (c m : ℕ) → m ≤ length rs → last (rs ++ x ∷ []) c m ≡ last rs c m
  last_kept c m le = last_same (rs ++ x ∷ []) rs c m (λ p lt. chain_kept p (omega arith))

  -- it becomes the head of its chain
  pub heads_more : (hs : List ℕ) (k n : ℕ) → k ≡ chain_of x.set → k < length hs → n ≡ length rs + 1 → HeadsLead hs rs
      → HeadsLead (set hs k n) (rs ++ x ∷ [])
  heads_more hs k n is wide count old c le =
      let end : length (rs ++ x ∷ []) ≡ suc (length rs) = length_push rs x ∙ add-one (length rs) in
      rw end (elim (cases_eq c k) [
        | inl e ↦
            ap (λ j. get_or (set hs k n) j 0) e ∙ get_or-set_same hs k n 0 wide
            ∙ count ∙ add-one (length rs) ∙ sym (last_here (rs ++ x ∷ []) c (length rs) (chain_new ∙ sym is ∙ sym e))
        | inr ne ↦
            get_or-set_other hs k c n 0 ne ∙ old c le ∙ sym (last_kept c (length rs) (omega arith))
            ∙ sym (last_before (rs ++ x ∷ []) c (length rs) (λ e. ne (sym e ∙ chain_new ∙ sym is)))
      ])

  -- and leads to the head that was
  pub links_more : (hs : List ℕ) → chain_of x.set ≤ width → x.link ≡ get_or hs (chain_of x.set) 0 → HeadsLead hs rs
      → LinksLead rs → LinksLead (rs ++ x ∷ [])
  links_more hs within is heads old p lt = elim (cases_eq p (length rs)) [
    | inl e ↦
        ap (λ q. link_at (rs ++ x ∷ []) q) e ∙ ap (λ r. r.link) new_at ∙ is ∙ heads (chain_of x.set) within
        ∙ sym (last_kept (chain_of x.set) (length rs) (omega arith))
        ∙ ap (λ c. last (rs ++ x ∷ []) c (length rs)) (sym chain_new)
        ∙ ap (λ m. last (rs ++ x ∷ []) (chain_at (rs ++ x ∷ []) m) m) (sym e)
    | inr ne ↦
        let below : p < length rs = omega (arith, length_push rs x) in
        ap (λ r. r.link) (old_at p below) ∙ old p below ∙ sym (last_kept (chain_at rs p) p (omega arith))
        ∙ ap (λ c. last (rs ++ x ∷ []) c p) (sym (chain_kept p below))
  ]
