-- Which atoms have a reason, and how the records of reasons grow.
use Rattle.std.proofs.Common.{◌≡◌, ℕ, ◌+◌, ◌<◌, ◌⊎◌, Bool, true, false, List, [], ◌∷◌, ◌++◌, map, length, get_or, is_some, Some, None, MatchBool, MatchOption, Option, sym, refl, ap, ◌∙◌, subst, ⊎_elim, inl, inr, arith, append_assoc, length-append}
use Rattle.std.specs.List.{AllWithin, HoldsAt}
use Rattle.std.proofs.lemmas.Bool.{both_ways}
use Rattle.std.proofs.lemmas.List.{append-nil, map-append}
use lib.ListN.{length-map}
use mathlib.Core.List.Memᴰ
use mathlib.Core.List.{Memᴰ}
use Rattle.atoms.proofs.Members.{minus_sub, remove_less}
use Rattle.atoms.specs.Atoms.{atom_of, bits, index}
use Rattle.atoms.specs.Members.{members}
use Rattle.atoms.specs.Sets.{has, remove, size}
use Rattle.atoms.specs.declared.Atom.{Atom}
use Rattle.atoms.specs.declared.AtomSet.{AtomSet}
use Rattle.clauses.proofs.Decided.{laws}
use Rattle.clauses.specs.Clauses.{language}
use Rattle.clauses.specs.declared.clauses.Clause.{Clause}
use Rattle.atoms.proofs.Rising.{has_member}
use Rattle.shelves.proofs.Held.{member_at, member_place}
use Rattle.judging.proofs.Members.{length-members, member_has}
use Rattle.judging.specs.Laws.{ReasonsLaw, Tight}
use Rattle.judging.specs.Reasons.{Complete, EachHasReason, HasReason, SomeLacksReason, Tells}
use Rattle.judging.specs.declared.records.Reason.{Reason}
use Rattle.models.proofs.Broken.{first_some, none_model}
use Rattle.models.specs.Models.{Minimal, Model, first_broken}

module _ (cs : List Clause) (s : ℕ) where
  -- an atom has no reason where the set without it is a model, and else it has one
  pub reason_none : (a : ℕ) → Model language cs (remove s a) → ¬ HasReason cs s a
  reason_none a m r =
      m r.0 (subst (Memᴰ r.0) (sym r.1.place) (Memᴰ.append_right r.1.front (Memᴰ.head refl))) r.1.broken

  pub reason_some : (a : ℕ) → ¬ Model language cs (remove s a) → HasReason cs s a
  reason_some a n = go (first_broken language cs (remove s a)) refl
    where
      go : (o : Option Clause) → first_broken language cs (remove s a) ≡ o → HasReason cs s a
      go None e = absurd (n (none_model laws cs (remove s a) e))
      go (Some c) e = (c, first_some laws cs (remove s a) c e)

  -- whether there is one, where it is told
  pub has_reason_told : (atom : Atom) (o : Option Reason) (r : Bool)
      → MatchOption o (Model language cs (remove s (index atom))) (λ x. (x.atom ≡ atom) × Tells cs s x)
      → r ≡ is_some o → MatchBool r (HasReason cs s (index atom)) (¬ HasReason cs s (index atom))
  has_reason_told atom None true t e = absurd (both_ways true e refl)
  has_reason_told atom None false t e = reason_none (index atom) t
  has_reason_told atom (Some x) true t e = subst (λ (a : Atom). HasReason cs s (index a)) t.0 (t.1.clause, t.1.first)
  has_reason_told atom (Some x) false t e = absurd (both_ways false refl e)

  -- where there is one, it is told
  pub reason_there : (atom : Atom) (o : Option Reason)
      → MatchOption o (Model language cs (remove s (index atom))) (λ x. (x.atom ≡ atom) × Tells cs s x)
      → HasReason cs s (index atom) → is_some o ≡ true
  reason_there atom None t h = absurd (reason_none (index atom) t h)
  reason_there atom (Some x) t h = refl

  -- a minimal model without one of its atoms is no model
  pub tight : Minimal language cs s → Tight cs s
  tight m a h k =
      let e = m.least (remove s a) k (minus_sub s _) in
      let l = remove_less s a h in
      absurd (omega arith)

  -- it has a reason for each atom
  pub reasons_minimal : Minimal language cs s → EachHasReason cs s
  reasons_minimal m a i = reason_some a (tight m a i)

-- ---- whether each atom has a reason, as the atoms of a set are gone through

-- the answer about the atoms of the list is one about the atoms of the set
pub each_told : (cs : List Clause) (m : AtomSet) (r : Bool)
    → MatchBool r (AllWithin (λ a. HasReason cs (bits m) (index a)) (members m) 0 (length (members m)))
    ((k : ℕ) × (k < length (members m)) × HoldsAt (λ a. ¬ HasReason cs (bits m) (index a)) (members m) k)
    → MatchBool r (EachHasReason cs (bits m)) (SomeLacksReason cs (bits m))
each_told cs m true all = λ a h.
    let x = has_member m a h in
    let at = member_place x.0 x.0 (members m) x.1 in
    subst (HasReason cs (bits m)) (ap index at.2 ∙ x.2) (all at.0 x.0 (omega arith) at.1)
each_told cs m false lacks =
    let a = get_or (members m) lacks.0 (atom_of 0) in
    (index a, member_has m a (member_at (members m) lacks.0 (atom_of 0) lacks.1), lacks.2 (atom_of 0))

-- ---- how the records of reasons grow

module _ (cs : List Clause) (m : AtomSet) where
  -- the records so far are the reasons of the atoms that are passed, in their order; the atoms `left` are still to come
  pub record Progress (left : List Atom) (rs : List Reason) : Type 0 where
    pub passed : map (λ (r : Reason). r.atom) rs ++ left ≡ members m
    pub told : (r : Reason) → Memᴰ r rs → Tells cs (bits m) r

  pub progress_none : (left : List Atom) (rs : List Reason) → left ≡ members m → rs ≡ [] → Progress left rs
  progress_none left rs e n =
      subst (λ (xs : List Reason). Progress left xs) (sym n) (record { passed = e; told = λ r k. absurd (Memᴰ.not-nil k) })

  -- one atom more: `left` begins with it, and its reason is put last
  pub progress_more : (left : List Atom) (a : Atom) (next : List Atom) (rs : List Reason) (r : Reason)
      → left ≡ a ∷ next → Progress left rs → (r.atom ≡ a) × Tells cs (bits m) r → Progress next (rs ++ r ∷ [])
  progress_more left a next rs r first p t =
      let atoms = map (λ (x : Reason). x.atom) rs in
      record {
        passed =
            ap (λ xs. xs ++ next) (map-append (λ (x : Reason). x.atom) rs (r ∷ [])) ∙ append_assoc atoms (r.atom ∷ []) next
            ∙ ap (λ x. atoms ++ x ∷ next) t.0 ∙ ap (λ xs. atoms ++ xs) (sym first) ∙ p.passed;
        told = λ x k. ⊎_elim (p.told x) (λ l. last x (Memᴰ.cases_cons l)) (Memᴰ.append_cases rs k);
      }
    where
      last : (x : Reason) → (x ≡ r) ⊎ Memᴰ x [] → Tells cs (bits m) x
      last x (inl same) = subst (Tells cs (bits m)) (sym same) t.1
      last x (inr k) = absurd (Memᴰ.not-nil k)

  -- that atom is in the set
  pub progress_has : (left : List Atom) (a : Atom) (next : List Atom) (rs : List Reason) → left ≡ a ∷ next → Progress left rs
      → has (bits m) (index a)
  progress_has left a next rs first p =
      let here : Memᴰ a left = subst (Memᴰ a) (sym first) (Memᴰ.head refl) in
      member_has m a (subst (Memᴰ a) p.passed (Memᴰ.append_right (map (λ (r : Reason). r.atom) rs) here))

  many : (left : List Atom) (rs : List Reason) → Progress left rs → length rs + length left ≡ size (bits m)
  many left rs p =
      let atoms = map (λ (r : Reason). r.atom) rs in
      omega (arith, ap length p.passed, length-append atoms left, length-map rs (λ (r : Reason). r.atom), length-members m)

  -- and there are fewer records than atoms
  pub progress_short : (left : List Atom) (a : Atom) (next : List Atom) (rs : List Reason) → left ≡ a ∷ next → Progress left rs
      → length rs < size (bits m)
  progress_short left a next rs first p = omega (arith, many left rs p, ap length first)

  -- where none is left, the records are the reasons
  pub progress_all : (left : List Atom) (rs : List Reason) → left ≡ [] → Progress left rs → Complete cs (bits m) rs
  progress_all left rs none p =
      let all = map (λ (r : Reason). r.atom) rs in
      let atoms : all ≡ members m = sym (append-nil all) ∙ ap (λ xs. all ++ xs) (sym none) ∙ p.passed in
      record {
        many = omega (arith, many left rs p, ap length none);
        each = λ r k. (member_has m r.atom (subst (Memᴰ r.atom) atoms (Memᴰ.map (λ (x : Reason). x.atom) k)), p.told r k);
        all = λ a h.
            let x = has_member m a h in
            let r = Memᴰ.of_map (λ (y : Reason). y.atom) rs (subst (Memᴰ x.0) (sym atoms) x.1) in
            (r.0, r.1, ap index r.2 ∙ x.2);
      }

-- ---- the law

pub reasons_law : ReasonsLaw
reasons_law cs s =
    record {
      each = (
        λ h a i m. reason_none cs s a m (h a i),
        λ t a i. reason_some cs s a (t a i),
      );
      minimal = reasons_minimal cs s;
    }
