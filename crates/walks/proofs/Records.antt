-- The records of a path, the deepest first.
use Rattle.std.proofs.Common.{◌≡◌, ℕ, ◌+◌, ◌-◌, ◌<◌, ◌≤◌, List, [], ◌∷◌, ◌++◌, length, Some, get_or, set, take, sym, refl, ap, ◌∙◌, subst, arith}
use Rattle.std.specs.Prelude.{reverse}
use Rattle.std.proofs.lemmas.Bool.{and_parts}
use Rattle.std.proofs.lemmas.List.{length-append, length-set, reverse-append, take_all, take_more, take_more_set}
use Rattle.std.proofs.Math.Seq.{take-append_seam}
use Rattle.arrayvec.specs.ArrayVec.{ArrayVec, array_vec_len, with_items}
use Rattle.arrayvec.proofs.ArrayVecLemmas.{items-with_items}
use Rattle.atoms.specs.Atoms.{bits, width}
use Rattle.atoms.specs.Sets.{hasb, meet, size, Dropped, ◌⊆◌}
use Rattle.atoms.proofs.Members.{disjoint_from_meet, least_from_members, meet_from_disjoint, size_zero}
use Rattle.atoms.proofs.Values.{bits_below}
use Rattle.walks.specs.Branches.{Apart, Each, Live, narrowed, Sized}
use Rattle.walks.specs.Walks.{Advanced, Here}
use Rattle.walks.specs.Walks.Advanced.{next, over, pop}
use Rattle.walks.specs.declared.branches.Branch.{Branch}
use Rattle.walks.specs.declared.branches.Node.{Node}
use Rattle.atoms.specs.declared.AtomSet.{AtomSet}
use Rattle.walks.proofs.Presents.{node-size, room_for}

cons_head : {x y : Branch} {xs ys : List Branch} → ◌≡◌ {A = List Branch} (x ∷ xs) (y ∷ ys) → x ≡ y
cons_head q = cc

cons_tail : {x y : Branch} {xs ys : List Branch} → ◌≡◌ {A = List Branch} (x ∷ xs) (y ∷ ys) → xs ≡ ys
cons_tail q = cc

-- what holds of each record, of those with one more, and of those below the top
module _ (P : Branch → List Branch → Type 0) (b : Branch) (st : List Branch) where
  pub each_push : P b st → Each P st → Each P (b ∷ st)
  each_push here each [] below c e =
      subst (λ (ys : List Branch). P c ys) (cons_tail e) (subst (λ (x : Branch). P x st) (cons_head e) here)
  each_push here each (a ∷ above) below c e = each above below c (cons_tail e)

  pub each_top : Each P (b ∷ st) → P b st
  each_top each = each [] st b refl

  pub each_pop : Each P (b ∷ st) → Each P st
  each_pop each above below c e = each (b ∷ above) below c (ap (λ (xs : List Branch). b ∷ xs) e)

-- what holds of each of no records
pub each_none : (P : Branch → List Branch → Type 0) (st : List Branch) → st ≡ [] → Each P st
each_none P st e above below b q = absurd (no_cons above (sym e ∙ q))
  where
    no_cons : (xs : List Branch) → ◌≡◌ {A = List Branch} [] (xs ++ b ∷ below) → ⊥
    no_cons [] r = cc
    no_cons (x ∷ xs) r = cc

-- the records ys are those of xs and then the deepest one, b
module _ (xs ys : List Branch) (b : Branch) (e : ys ≡ xs ++ b ∷ []) where
  pub deepest : reverse ys ≡ b ∷ reverse xs
  deepest = ap reverse e ∙ reverse-append xs (b ∷ [])

  pub each_deeper : (P : Branch → List Branch → Type 0) → P b (reverse xs) → Each P (reverse xs) → Each P (reverse ys)
  each_deeper P here each = subst (Each P) (sym deepest) (each_push P b (reverse xs) here each)

  pub each_above : (P : Branch → List Branch → Type 0) → Each P (reverse ys) → Each P (reverse xs)
  each_above P each = each_pop P b (reverse xs) (subst (Each P) deepest each)

  pub each_deepest : (P : Branch → List Branch → Type 0) → Each P (reverse ys) → P b (reverse xs)
  each_deepest P each = each_top P b (reverse xs) (subst (Each P) deepest each)

-- the records of a bounded list, as a slice ys lends them
module _ (v : ArrayVec Branch) (ys : List Branch) (is : ys ≡ v.items) where
  pub lent : (with_items v ys).items ≡ v.items
  lent = items-with_items v ys (ap length is) ∙ is

  -- those before the last
  abbrev pub front : List Branch
  front = take (length v.items - 1) v.items

  -- d is any default for a read
  module _ (d : Branch) (some : 1 ≤ length ys) where
    n : length v.items - 1 + 1 ≡ length v.items
    n = omega (arith, ap length is)

    pub last_of : v.items ≡ front ++ get_or ys (length ys - 1) d ∷ []
    last_of =
        sym (take_all (length v.items) v.items (omega arith)) ∙ ap (λ k. take k v.items) (sym n)
        ∙ take_more v.items (length v.items - 1) d (omega (arith, n)) ∙ ap (λ xs. front ++ get_or xs (length xs - 1) d ∷ []) (sym is)

    pub written : (r : Branch) → (with_items v (set ys (length ys - 1) r)).items ≡ front ++ r ∷ []
    written r =
        items-with_items v (set ys (length ys - 1) r) (length-set ys (length ys - 1) r ∙ ap length is)
        ∙ ap (λ xs. set xs (length xs - 1) r) is
        ∙ sym (take_all (length v.items) (set v.items (length v.items - 1) r) (omega (arith, length-set v.items (length v.items - 1) r)))
        ∙ ap (λ k. take k (set v.items (length v.items - 1) r)) (sym n)
        ∙ take_more_set v.items (length v.items - 1) r (omega (arith, n))

    -- what is left where the last is written and then dropped
    pub popped : (r : Branch) (xs : List Branch)
        → (let w = with_items v (set ys (length ys - 1) r) in xs ≡ take (array_vec_len w - 1) w.items) → xs ≡ front
    popped r xs e =
        let last : length (front ++ r ∷ []) - 1 ≡ length front = omega (arith, length-append front (r ∷ [])) in
        e ∙ ap (λ zs. take (length zs - 1) zs) (written r) ∙ ap (λ k. take k (front ++ r ∷ [])) last ∙ take-append_seam front (r ∷ [])

-- there are places for the records
pub short : (st : List Branch) → Live st → Sized st → Apart st → length st ≤ width
short [] live sized apart = omega arith
short (b ∷ below) live sized apart =
    let few = room_for width (bits b.node.taken) (bits b.left) (bits_below b.node.taken) (bits_below b.left)
    (disjoint_from_meet (bits b.node.taken) (bits b.left) (each_top (λ c st. meet (bits c.node.taken) (bits c.left) ≡ 0) b below apart))
    (each_top (λ c st. 0 < bits c.left) b below live) in
    omega (arith, few, each_top (λ c st. size (bits c.node.taken) ≡ length st) b below sized)

-- the node below the records has taken as many atoms as there are records
pub here_sized : (st : List Branch) (n : Node) → Live st → Sized st → Apart st → Here st (Some n) → size (bits n.taken) ≡ length st
here_sized [] n live sized apart h = ap size h.0 ∙ size_zero
here_sized (b ∷ below) n live sized apart h =
    let one = node-size b n h (live [] below b refl) (disjoint_from_meet (bits b.node.taken) (bits b.left) (apart [] below b refl)) in
    omega (arith, one, sized [] below b refl)

dropped_sub : (s r : ℕ) → Dropped s r → 0 < s → r ⊆ s
dropped_sub s r d pos b h =
    let l = least_from_members s pos in
    (and_parts (hasb s b) _ (sym (d.members l.0 b l.1) ∙ h)).0

-- the top record b without the atom that it takes: the atoms x are left
module _ (st below : List Branch) (b : Branch) (e : st ≡ b ∷ below) (x : AtomSet) (d : Dropped (bits b.left) (bits x)) where
  pub rest_apart : Live st → Apart st → meet (bits b.node.taken) (bits x) ≡ 0
  rest_apart live apart =
      meet_from_disjoint (bits b.node.taken) (bits x)
      (λ a h i. disjoint_from_meet (bits b.node.taken) (bits b.left) (apart [] below b e) a h
      (dropped_sub (bits b.left) (bits x) d (live [] below b e) a i))

  pub advanced_next : (st' : List Branch) → st' ≡ narrowed b x ∷ below → 0 < bits x → Advanced st st'
  advanced_next st' e' some =
      subst (λ (xs : List Branch). Advanced xs st') (sym e) (subst (λ (xs : List Branch). Advanced (b ∷ below) xs) (sym e') (next x d some))

  pub advanced_pop : (st' : List Branch) → bits x ≡ 0 → Advanced below st' → Advanced st st'
  advanced_pop st' none a = subst (λ (xs : List Branch). Advanced xs st') (sym e) (pop x d none a)

pub advanced_over : (st st' : List Branch) → st ≡ [] → st' ≡ [] → Advanced st st'
advanced_over st st' e e' =
    subst (λ (xs : List Branch). Advanced xs st') (sym e) (subst (λ (xs : List Branch). Advanced [] xs) (sym e') over)
