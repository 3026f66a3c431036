-- The present branch of a record.
use Rattle.std.proofs.Common.{◌≡◌, ℕ, ◌+◌, ◌^◌, ◌<◌, Bool, true, false, ◌||◌, ◌⊎◌, MatchBool, Some, sym, refl, ap, ◌∙◌, subst, inl, inr, arith}
use lib.Bits.{bit_and, and_comm}
use Rattle.std.proofs.lemmas.Bool.{eqb-true, eq-eqb}
use Rattle.atoms.specs.Atoms.{bits}
use Rattle.atoms.specs.Sets.{hasb, has, Disjoint, Dropped, insert, Least, minus, remove, size, union}
use Rattle.atoms.proofs.Members.{hasb-drop, hasb_or, hasb_pow, insert_cases, lacks, least_from_members, meet_from_sub, remove_is, size_below, size-insert, below_from_members, minus_sub, has-below}
use Rattle.models.specs.Rows.{Row, Present}
use Rattle.clauses.specs.Clauses.{language}
use Rattle.walks.specs.Branches.{row_of}
use Rattle.walks.specs.Nodes.{Leads}
use Rattle.walks.specs.declared.branches.Branch.{Branch}
use Rattle.walks.specs.declared.branches.Node.{Node}

-- a set without all but its least atom is that atom alone
least_only : (s a : ℕ) → Least s a → minus s (remove s a) ≡ 2 ^ a
least_only s a l =
    let r = remove s a in
    let m : bit_and s r ≡ r = and_comm s r ∙ meet_from_sub r s (minus_sub s (2 ^ a)) in
    omega (arith, m, remove_is s a l.0)

-- the node of a row that takes its least atom
pub present_row :
    (r : Row ℕ) (a : ℕ) → Least r.still a →
    Present language r a (insert r.taken a) (union r.denied (remove r.still a))
present_row r a l =
    record {
      least = l;
      takes = refl;
      marks = λ x. hasb_or r.denied (remove r.still a) x ∙ ap (λ (y : Bool). hasb r.denied x || y) (hasb-drop r.still a x l);
    }

-- the test whether the least atom is denied
clash_is : (c : Bool) (d a : ℕ) → MatchBool c ((x : ℕ) × has d x × has (2 ^ a) x) (Disjoint d (2 ^ a)) → c ≡ hasb d a
clash_is true d a w = sym (subst (λ (x : ℕ). has d x) (sym (eqb-true a w.0 (sym (hasb_pow a w.0) ∙ w.2))) w.1)
clash_is false d a w = sym (lacks d a (λ h. w a h (hasb_pow a a ∙ eq-eqb a a refl)))

-- what a record leads to: r tells whether it denies the atom that it takes
module _ (b : Branch) (later least : ℕ) (dropped : Dropped (bits b.left) later) (alone : least ≡ minus (bits b.left) later) (r : Bool)
    (clash : MatchBool r ((x : ℕ) × has (bits b.node.denied) x × has least x) (Disjoint (bits b.node.denied) least)) (a : ℕ)
    (l : Least (bits b.left) a) where
  one : least ≡ 2 ^ a
  one = alone ∙ ap (minus (bits b.left)) (dropped.value a l) ∙ least_only (bits b.left) a l

  pub denies : hasb (bits b.node.denied) a ≡ r
  denies =
      sym (clash_is r (bits b.node.denied) a
      (subst (λ (s : ℕ). MatchBool r ((x : ℕ) × has (bits b.node.denied) x × has s x) (Disjoint (bits b.node.denied) s)) one clash))

  pub leads : (t d : ℕ) → t ≡ union (bits b.node.taken) least → d ≡ union (bits b.node.denied) later → Present language (row_of b) a t d
  leads t d taken denied =
      let p = present_row (row_of b) a l in
      record {
        least = l;
        takes = taken ∙ ap (union (bits b.node.taken)) one;
        marks = λ x. ap (λ (s : ℕ). hasb s x) (denied ∙ ap (union (bits b.node.denied)) (dropped.value a l)) ∙ p.marks x;
      }

-- a set with an atom more than it has is one greater
pub one_more : (t l a : ℕ) → Disjoint t l → has l a → size (insert t a) ≡ size t + 1
one_more t l a d h = size-insert t a (lacks t a (λ k. d a k h))

-- a set apart from another that is not empty has fewer atoms than there are
pub room_for : (w t l : ℕ) → t < 2 ^ w → l < 2 ^ w → Disjoint t l → 0 < l → size t < w
room_for w t l p q d pos =
    let a = least_from_members l pos in
    let h = a.1.0 in
    omega (arith, one_more t l a.0 d h, size_below w (insert t a.0) (below_from_members w (insert t a.0) (λ x k. inside x a.0 h (insert_cases t a.0 x k))))
  where
    inside : (x a : ℕ) → has l a → has t x ⊎ (a ≡ x) → x < w
    inside x a h (inl k) = has-below w t x p k
    inside x a h (inr e) = omega (arith, e, has-below w l a q h)

-- the node of a record in use has taken one atom more
pub node-size :
    (b : Branch) (n : Node) → Leads b (Some n) → 0 < bits b.left → Disjoint (bits b.node.taken) (bits b.left) →
    size (bits n.taken) ≡ size (bits b.node.taken) + 1
node-size b n leads live apart =
    let l = least_from_members (bits b.left) live in
    ap size (leads l.0 l.1).0.takes ∙ one_more (bits b.node.taken) (bits b.left) l.0 apart l.1.0
