-- The region of a node that breaks a clause is the disjoint union of the regions of its branches, and earlier branches come first.
use Rattle.std.proofs.Common.{◌≡◌, ℕ, suc, ◌<◌, ◌≤◌, Bool, true, false, eqb, leb, ◌⊎◌, List, Some, sym, refl, ◌∙◌, subst, inl, inr, arith}
use Rattle.std.proofs.lemmas.Bool.{and_parts, and_from, or_cases, or_left, or_right, eqb-true, eq-eqb, le-leb, leb-true, cases_order, cases_Bool}
use Rattle.models.specs.Language.{Language, Laws}
use Rattle.models.specs.Models.{In, Within, Breaks, Model, first_broken, Greatest, PrecedesFrom, differ, agree, meets}
use Rattle.models.specs.Search.{from, marked, Region, Pending}
use Rattle.models.proofs.Broken.{first_broken_lem, first_member, meets_at, apart_from}
use Rattle.models.proofs.Order.{greatest_of, greatest_one, past}

module _ {S C : Type 0} {L : Language S C} (laws : Laws L) where
  -- the set with one more atom
  pub with_new : (s : S) (a : ℕ) → In L (L.with s a) a
  with_new s a = laws.has_with s a a ∙ or_right (L.has s a) (eqb a a) (eq-eqb a a refl)

  pub with_old : (s : S) (a b : ℕ) → In L s b → In L (L.with s a) b
  with_old s a b h = laws.has_with s a b ∙ or_left (L.has s b) (eqb a b) h

  pub with_cases : (s : S) (a b : ℕ) → In L (L.with s a) b → (a ≡ b) ⊎ In L s b
  with_cases s a b h = go (or_cases (L.has s b) (eqb a b) (sym (laws.has_with s a b) ∙ h))
    where
      go : (L.has s b ≡ true) ⊎ (eqb a b ≡ true) → (a ≡ b) ⊎ In L s b
      go (inl k) = inr k
      go (inr e) = inl (eqb-true a b e)

  pub with_within : (s t : S) (a : ℕ) → Within L s t → In L t a → Within L (L.with s a) t
  with_within s t a w h b k = go (with_cases s a b k)
    where
      go : (a ≡ b) ⊎ In L s b → In L t b
      go (inl e) = subst (λ (x : ℕ). In L t x) e h
      go (inr l) = w b l

  -- the atoms of a head from k on
  pub from_in : (c : C) (k b : ℕ) → In L (L.head c) b → k ≤ b → from L c k b ≡ true
  from_in c k b h l = and_from (L.has (L.head c) b) (leb k b) h (le-leb k b l)

  pub from_parts : (c : C) (k b : ℕ) → from L c k b ≡ true → In L (L.head c) b × (k ≤ b)
  from_parts c k b e = let r = and_parts (L.has (L.head c) b) (leb k b) e in (r.0, leb-true k b r.1)

  module _ (cs : List C) (taken : S) (denied : ℕ → Bool) (c : C) (first : first_broken L cs taken ≡ Some c) where
    -- a model that holds what the node has taken holds an atom of the head
    pub head_met : (m : S) → Model L cs m → Within L taken m → (a : ℕ) × In L (L.head c) a × In L m a
    head_met m model holds = go (cases_Bool (meets L (L.head c) m))
      where
        b : Breaks L taken c
        b = first_broken_lem laws cs taken first

        go : (meets L (L.head c) m ≡ true) ⊎ (meets L (L.head c) m ≡ false) → (a : ℕ) × In L (L.head c) a × In L m a
        go (inl e) = meets_at laws (L.head c) m e
        go (inr e) =
            absurd (model c (first_member laws cs taken first)
            (record { whole = λ x h. holds x (b.whole x h); none = apart_from laws (L.head c) m e }))

    -- the node's region is that of its branches from 0 on
    pub start : (m : S) → Region L cs taken denied m → Pending L cs taken denied c 0 m
    start m r =
        let k = head_met m r.model r.holds in
        record { region = r; atom = k.0; of_head = k.1; late = omega arith; of_set = k.2 }

    -- a model of the branch of h: it is in the node's region, and h is its greatest head atom
    module _ (h : ℕ) (m : S) (r : Region L cs (L.with taken h) (marked L denied c h) m) where
      pub up : Region L cs taken denied m
      up = record {
        model = r.model;
        holds = λ b k. r.holds b (with_old taken h b k);
        clear =
            λ b k. r.clear b (or_left (denied b) (from L c (suc h) b) k);
      }

      pub no_later : (b : ℕ) → In L (L.head c) b → In L m b → b ≤ h
      no_later b p q = go (cases_order b h)
        where
          go : (b ≡ h) ⊎ ((b < h) ⊎ (h < b)) → b ≤ h
          go (inl e) = omega arith
          go (inr (inl l)) = omega arith
          go (inr (inr g)) = absurd (r.clear b (or_right (denied b) (from L c (suc h) b) (from_in c (suc h) b p g)) q)

      pub branch_greatest : In L (L.head c) h → Greatest L (L.head c) m h
      branch_greatest p = record { of_head = p; of_set = r.holds h (with_new taken h); top = no_later }

    -- and every model of the region whose greatest head atom is h is of that branch
    pub down : (h : ℕ) (m : S) → Region L cs taken denied m → Greatest L (L.head c) m h →
        Region L cs (L.with taken h) (marked L denied c h) m
    down h m r g =
        record {
          model = r.model;
          holds = with_within taken m h r.holds g.of_set;
          clear =
              λ b k q. go b q (or_cases (denied b) (from L c (suc h) b) k);
        }
      where
        go : (b : ℕ) → In L m b → (denied b ≡ true) ⊎ (from L c (suc h) b ≡ true) → ⊥
        go b q (inl k) = r.clear b k q
        go b q (inr k) = let x = from_parts c (suc h) b k in omega (arith, x.1, g.top b x.0 q)

    -- the union: every model of the region is of the branch of a head atom
    pub branches_cover : (m : S) → Region L cs taken denied m →
        (h : ℕ) × In L (L.head c) h × Region L cs (L.with taken h) (marked L denied c h) m
    branches_cover m r =
        let k = head_met m r.model r.holds in
        let g = greatest_of laws (L.head c) m k.0 k.1 k.2 in
        (g.0, g.1.of_head, down g.0 m r g.1)

    -- it is disjoint
    pub branches_apart : (h k : ℕ) (m : S) → In L (L.head c) h → In L (L.head c) k →
        Region L cs (L.with taken h) (marked L denied c h) m → Region L cs (L.with taken k) (marked L denied c k) m → h ≡ k
    branches_apart h k m p q r s = greatest_one laws (branch_greatest h m r p) (branch_greatest k m s q)

    -- the order: models of an earlier branch precede those of a later one
    pub branches_order : (h k : ℕ) (m n : S) → In L (L.head c) h → In L (L.head c) k → h < k →
        Region L cs (L.with taken h) (marked L denied c h) m → Region L cs (L.with taken k) (marked L denied c k) n →
        PrecedesFrom L cs m n taken
    branches_order h k m n p q l r s = differ first (branch_greatest h m r p) (branch_greatest k n s q) l

    -- two models of one branch compare as they do from the common set of the branch on
    module _ (h : ℕ) (m n : S) (p : In L (L.head c) h) (r : Region L cs (L.with taken h) (marked L denied c h) m)
        (s : Region L cs (L.with taken h) (marked L denied c h) n) where
      pub branch_same : PrecedesFrom L cs m n (L.with taken h) → PrecedesFrom L cs m n taken
      branch_same o = agree first (branch_greatest h m r p) (branch_greatest h n s p) o

      pub branch_back : PrecedesFrom L cs m n taken → PrecedesFrom L cs m n (L.with taken h)
      branch_back o = past laws cs c h o first (branch_greatest h m r p) (branch_greatest h n s p)

    -- one branch and the later ones: h is the least head atom from k on
    pub split : (k h : ℕ) → In L (L.head c) h → k ≤ h → ((b : ℕ) → In L (L.head c) b → k ≤ b → h ≤ b) → (m : S) →
        Pending L cs taken denied c k m → Region L cs (L.with taken h) (marked L denied c h) m ⊎
        Pending L cs taken denied c (suc h) m
    split k h p l least m d =
        let g = greatest_of laws (L.head c) m d.atom d.of_head d.of_set in
        go g.0 g.1 (omega (arith, g.2, least d.atom d.of_head d.late)) (cases_order h g.0)
      where
        go : (a : ℕ) → Greatest L (L.head c) m a → h ≤ a → (h ≡ a) ⊎ ((h < a) ⊎ (a < h)) →
            Region L cs (L.with taken h) (marked L denied c h) m ⊎ Pending L cs taken denied c (suc h) m
        go a g u (inl e) = inl (down h m d.region (subst (λ (x : ℕ). Greatest L (L.head c) m x) (sym e) g))
        go a g u (inr (inl v)) =
            inr (record { region = d.region; atom = a; of_head = g.of_head; late = v; of_set = g.of_set })
        go a g u (inr (inr v)) = absurd (omega arith)

    -- a head with no atom from k on leaves nothing
    pub exhausted : (k : ℕ) → ((b : ℕ) → In L (L.head c) b → k ≤ b → ⊥) → (m : S) → Pending L cs taken denied c k m → ⊥
    exhausted k none m d = none d.atom d.of_head d.late

    -- a model of the branch of h precedes those of the later branches
    pub later_precedes : (h : ℕ) (m n : S) → In L (L.head c) h → Region L cs (L.with taken h) (marked L denied c h) m →
        Pending L cs taken denied c (suc h) n → PrecedesFrom L cs m n taken
    later_precedes h m n p r d =
        let g = greatest_of laws (L.head c) n d.atom d.of_head d.of_set in
        differ first (branch_greatest h m r p) g.1 (omega (arith, g.2, d.late))
