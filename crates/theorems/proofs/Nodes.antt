-- The minimal models of a node, of its children, and of a leaf.
use Rattle.std.proofs.Common.{◌≡◌, ℕ, ◌<◌, Bool, false, ◌⊎◌, List, Some, sym, refl, subst, inl, inr, arith}
use Rattle.models.proofs.Broken.{first_broken_lem}
use Rattle.models.proofs.Minimals.{includes_minimal}
use Rattle.models.proofs.Order.{greatest_of, irreflexive, same_set}
use Rattle.models.proofs.Regions.{with_within, head_met, up, branch_greatest, branches_cover, branches_apart, branches_order, branch_same}
use Rattle.models.specs.Language.{Language, Laws}
use Rattle.models.specs.Models.{In, Within, Model, Minimal, first_broken, Greatest, PrecedesFrom, differ, Precedes}
use Rattle.models.specs.Search.{unmarked, Clear, Region}
use Rattle.std.proofs.lemmas.Bool.{both_ways, cases_order}
use Rattle.theorems.specs.Splitting.{Node, root, child, MinimalAt, Split, Leaf}

module _ {S C : Type 0} {L : Language S C} (laws : Laws L) (cs : List C) where
  -- the minimal models of a node are of its region
  region : {taken : S} {absent : ℕ → Bool} {m : S} → MinimalAt L cs taken absent m → Region L cs taken absent m
  region h = record { model = h.minimal.model; holds = h.includes; clear = h.avoids }

  at : {taken : S} {absent : ℕ → Bool} {m : S} → Minimal L cs m → Region L cs taken absent m → MinimalAt L cs taken absent m
  at h r = record { minimal = h; includes = r.holds; avoids = r.clear }

  pub at_root : (m : S) → Minimal L cs m → MinimalAt L cs L.empty unmarked m
  at_root m h =
      record {
        minimal = h;
        includes = λ a k. absurd (both_ways (L.has L.empty a) (laws.has_empty a) k);
        avoids = λ b k. absurd (both_ways false refl k);
      }

  -- in the region of a node the order from the atoms taken on is the list order
  lifts : {taken : S} {absent : ℕ → Bool} → Node L cs taken absent → (m n : S) → Region L cs taken absent m →
      Region L cs taken absent n → PrecedesFrom L cs m n taken → Precedes L cs m n
  lifts root m n r s o = o
  lifts (child {taken} {absent} {c} {h} node e p) m n r s o =
      lifts node m n (up laws cs taken absent c e h m r) (up laws cs taken absent c e h n s)
      (branch_same laws cs taken absent c e h m n p r s o)

  pub node_splits : (taken : S) (absent : ℕ → Bool) (c : C) → Node L cs taken absent → first_broken L cs taken ≡ Some c →
      Split L cs taken absent c
  node_splits taken absent c node e =
      record {
        covers = λ m h. let k = branches_cover laws cs taken absent c e m (region h) in (k.0, k.1, at h.minimal k.2);
        inside = λ h m k. at k.minimal (up laws cs taken absent c e h m (region k));
        apart = λ h k m p q u v. branches_apart laws cs taken absent c e h k m p q (region u) (region v);
        ordered = λ h k m n p q l u v.
            lifts node m n (up laws cs taken absent c e h m (region u)) (up laws cs taken absent c e k n (region v))
            (branches_order laws cs taken absent c e h k m n p q l (region u) (region v));
        new = λ h p q. (first_broken_lem laws cs taken e).none h p q;
      }

  -- a model within a model of the node's region comes before it, or includes the atoms taken
  earlier : {taken : S} {absent : ℕ → Bool} → Node L cs taken absent → (t u : S) → Region L cs taken absent t → Model L cs u →
      Within L u t → Precedes L cs u t ⊎ Within L taken u
  earlier root t u r h w = inr (λ a k. absurd (both_ways (L.has L.empty a) (laws.has_empty a) k))
  earlier (child {taken} {absent} {c} {h} node e p) t u r k w = go (earlier node t u above k w)
    where
      above : Region L cs taken absent t
      above = up laws cs taken absent c e h t r

      top : Greatest L (L.head c) t h
      top = branch_greatest laws cs taken absent c e h t r p

      pick : Within L taken u → (g : ℕ) → Greatest L (L.head c) u g → (g ≡ h) ⊎ ((g < h) ⊎ (h < g)) →
          Precedes L cs u t ⊎ Within L (L.with taken h) u
      pick i g q (inl s) = inr (with_within laws taken u h i (subst (λ (x : ℕ). In L u x) s q.of_set))
      pick i g q (inr (inl l)) =
          inl (lifts node u t (record { model = k; holds = i; clear = λ b d j. above.clear b d (w b j) }) above
          (differ e q top l))
      pick i g q (inr (inr l)) = absurd (omega (arith, top.top g q.of_head (w g q.of_set)))

      go : Precedes L cs u t ⊎ Within L taken u → Precedes L cs u t ⊎ Within L (L.with taken h) u
      go (inl o) = inl o
      go (inr i) =
          let a = head_met laws cs taken absent c e u k i in
          let g = greatest_of laws (L.head c) u a.0 a.1 a.2 in
          pick i g.0 g.1 (cases_order g.0 h)

  pub node_leaf : (taken : S) (absent : ℕ → Bool) → Node L cs taken absent → Model L cs taken → Leaf L cs taken absent
  node_leaf taken absent node model =
      record { only = λ m h. sym (h.minimal.least taken model h.includes); when = (there, back) }
    where
      there : MinimalAt L cs taken absent taken →
          Clear L taken absent × ((m : S) → Minimal L cs m → Precedes L cs m taken → ¬ Within L m taken)
      there h = (
        h.avoids,
        λ m k o w. irreflexive laws cs taken
            (subst (λ (x : S). Precedes L cs x taken) (h.minimal.least m k.model w) o),
      )

      back : Clear L taken absent × ((m : S) → Minimal L cs m → Precedes L cs m taken → ¬ Within L m taken) →
          MinimalAt L cs taken absent taken
      back h = go (includes_minimal laws cs taken model)
        where
          go : (m : S) × Minimal L cs m × Within L m taken → MinimalAt L cs taken absent taken
          go k = pick
              (earlier node taken k.0 (record { model = model; holds = λ a i. i; clear = h.0 }) k.1.model k.2)
            where
              pick : Precedes L cs k.0 taken ⊎ Within L taken k.0 → MinimalAt L cs taken absent taken
              pick (inl o) = absurd (h.1 k.0 k.1 o k.2)
              pick (inr i) =
                  record {
                    minimal = subst (λ (x : S). Minimal L cs x) (same_set laws k.0 taken k.2 i) k.1;
                    includes = λ a j. j;
                    avoids = h.0;
                  }
