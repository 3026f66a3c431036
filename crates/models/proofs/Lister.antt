-- The computed list is the list of explanations: so there is one, it is the only one, and it is empty exactly where there is no
-- model.
use Rattle.std.proofs.Common.{◌≡◌, ℕ, zero, suc, ◌+◌, ◌<◌, ◌≤◌, max, Bool, true, false, not, ◌&&◌, ◌⊎◌, List, [], ◌∷◌, ◌++◌, length, take, drop, Some, None, Option, sym, refl, ap, ◌∙◌, subst, inl, inr, not-suc-le-zero, arith, take-append-drop}
use mathlib.Core.List.Memᴰ
use mathlib.Core.List.{Memᴰ}
use Rattle.std.proofs.lemmas.Bool.{both_ways, cases_order, or_cases, or_parts, or_left, not-true, not-false}
use Rattle.models.specs.Language.{Language, Laws}
use Rattle.models.specs.Models.{In, Within, Model, Minimal, sticks_out, first_broken, Explanations}
use Rattle.models.specs.Search.{unmarked, Frame, marked, from, Clear, Region, Pending, Leads, Left, Front, Covered, Visiting, Returning}
use Rattle.models.specs.Lister.{holds_within, width, Way, try, branches, node, visit, explanations}
use Rattle.models.proofs.Broken.{within_from, within_not, first_member}
use Rattle.models.proofs.Minimals as minimals
use Rattle.models.proofs.Regions.{start, split, with_new}
use Rattle.models.proofs.Walk.{clear_root, clear_branch, stack, begin, dead_marked, dead_covered, kept, kept_covered, finish}
use Rattle.models.proofs.Count.{missing, missing_most, missing_with, head_new}
use Rattle.models.proofs.Prefix.{explanations_one, front_prefix}

module _ {S C : Type 0} {L : Language S C} (laws : Laws L) where
  -- the test whether a set handed out is within `t`
  pub covered_true : (out : List S) (t : S) → holds_within L out t ≡ true → Covered L out t
  covered_true [] t e = absurd (both_ways false refl e)
  covered_true (x ∷ out) t e = go (or_cases (not (sticks_out L x t)) (holds_within L out t) e) (covered_true out t)
    where
      go : (not (sticks_out L x t) ≡ true) ⊎ (holds_within L out t ≡ true) → (holds_within L out t ≡ true → Covered L out t) →
          Covered L (x ∷ out) t
      go (inl h) f = (x, Memᴰ.head refl, within_from laws x t (not-true (sticks_out L x t) h))
      go (inr h) f = let r = f h in (r.0, Memᴰ.tail r.1, r.2)

  pub covered_false : (out : List S) (t : S) → holds_within L out t ≡ false → ¬ Covered L out t
  covered_false [] t e c = Memᴰ.not-nil c.1
  covered_false (x ∷ out) t e c = go (Memᴰ.cases_cons c.1) (covered_false out t parts.1)
    where
      parts : (not (sticks_out L x t) ≡ false) × (holds_within L out t ≡ false)
      parts = or_parts (not (sticks_out L x t)) (holds_within L out t) e

      go : (c.0 ≡ x) ⊎ Memᴰ c.0 out → ¬ Covered L out t → ⊥
      go (inl q) f = within_not laws x t (not-false (sticks_out L x t) parts.0) (subst (λ (s : S). Within L s t) q c.2)
      go (inr m) f = f (c.0, m, c.2)

  width_member : (cs : List C) (c : C) → Memᴰ c cs → L.bound (L.head c) ≤ width L cs
  width_member [] c m = absurd (Memᴰ.not-nil m)
  width_member (x ∷ cs) c m = go (Memᴰ.cases_cons m) (width_member cs c)
    where
      go : (c ≡ x) ⊎ Memᴰ c cs → (Memᴰ c cs → L.bound (L.head c) ≤ width L cs) →
          L.bound (L.head c) ≤ max (L.bound (L.head x)) (width L cs)
      go (inl e) f = let q : L.bound (L.head c) ≡ L.bound (L.head x) = ap (λ (z : C). L.bound (L.head z)) e in omega arith
      go (inr k) f = let q : L.bound (L.head c) ≤ width L cs = f k in omega arith

  module _ (cs : List C) where
    -- a branch lacks one atom less than its node
    pub branch_fewer : (s : S) (c : C) → first_broken L cs s ≡ Some c → (h : ℕ) → In L (L.head c) h →
        missing L (width L cs) (L.with s h) + 1 ≡ missing L (width L cs) s
    branch_fewer s c e h p =
        missing_with laws (width L cs) s h (head_new laws cs s c e h p)
        (omega (arith, laws.has_bound (L.head c) h p, width_member cs c (first_member laws cs s e)))

    -- a walk that is right at nodes that lack fewer than `fuel` atoms
    abbrev Good : ℕ → Way L → Type 0
    Good fuel way = (taken : S) (denied : ℕ → Bool) (out : List S) (fs : List (Frame S C)) →
        missing L (width L cs) taken < fuel → Visiting L cs out fs taken denied → Clear L taken denied →
        Returning L cs (way taken denied out) fs

    module _ (fuel : ℕ) (way : Way L) (good : Good fuel way) (taken : S) (denied : ℕ → Bool) (c : C) (fs : List (Frame S C))
        (first : first_broken L cs taken ≡ Some c) (few : missing L (width L cs) taken < suc fuel)
        (clear : Clear L taken denied) (leads : Leads L cs fs taken denied) where
      -- the branches from `k` on are left
      record From (k : ℕ) (out : List S) : Type 0 where
        front : Front L cs out
        complete : (t : S) → Minimal L cs t → Covered L out t ⊎ (Pending L cs taken denied c k t ⊎ Left L cs fs t)

      frame : ℕ → Frame S C
      frame k = record { taken = taken; denied = denied; clause = c; now = k }

      skip : (k : ℕ) (out : List S) → L.has (L.head c) k ≡ false → From k out → From (suc k) out
      skip k out e r = record { front = r.front; complete = λ t h. go t (r.complete t h) }
        where
          beyond : (t : S) (d : Pending L cs taken denied c k t) → (k ≡ d.atom) ⊎ ((k < d.atom) ⊎ (d.atom < k)) →
              Pending L cs taken denied c (suc k) t
          beyond t d (inl q) = absurd (both_ways (L.has (L.head c) k) e (ap (L.has (L.head c)) q ∙ d.of_head))
          beyond t d (inr (inl l)) =
              record { region = d.region; atom = d.atom; of_head = d.of_head; late = l; of_set = d.of_set }
          beyond t d (inr (inr l)) = absurd (omega (arith, d.late))

          go : (t : S) → Covered L out t ⊎ (Pending L cs taken denied c k t ⊎ Left L cs fs t) →
              Covered L out t ⊎ (Pending L cs taken denied c (suc k) t ⊎ Left L cs fs t)
          go t (inl h) = inl h
          go t (inr (inl d)) = inr (inl (beyond t d (cases_order k d.atom)))
          go t (inr (inr w)) = inr (inr w)

      enter : (k : ℕ) (out : List S) → In L (L.head c) k → From k out →
          Visiting L cs out (frame k ∷ fs) (L.with taken k) (marked L denied c k)
      unfolding frame
      enter k out p r =
          record {
            leads = (record { first = first; of_head = p; clear = clear; takes = refl; marks = λ b. refl }, leads);
            front = r.front;
            complete = λ t h. go t (r.complete t h);
          }
        where
          low : (t : S) → Region L cs (L.with taken k) (marked L denied c k) t ⊎ Pending L cs taken denied c (suc k) t →
              Covered L out t ⊎
              (Region L cs (L.with taken k) (marked L denied c k) t ⊎
              (Pending L cs taken denied c (suc k) t ⊎ Left L cs fs t))
          low t (inl x) = inr (inl x)
          low t (inr x) = inr (inr (inl x))

          go : (t : S) → Covered L out t ⊎ (Pending L cs taken denied c k t ⊎ Left L cs fs t) →
              Covered L out t ⊎
              (Region L cs (L.with taken k) (marked L denied c k) t ⊎
              (Pending L cs taken denied c (suc k) t ⊎ Left L cs fs t))
          go t (inl h) = inl h
          go t (inr (inl d)) = low t (split laws cs taken denied c first k k p (omega arith) (λ b q l. l) t d)
          go t (inr (inr w)) = inr (inr (inr w))

      resume : (k : ℕ) (out : List S) → Returning L cs out (frame k ∷ fs) → From (suc k) out
      unfolding frame
      resume k out r = record { front = r.front; complete = r.complete }

      try_right : (k : ℕ) (out : List S) → From k out → (x y : Bool) → L.has (L.head c) k ≡ x → denied k ≡ y →
          From (suc k) (try L way taken denied c k out (x && not y))
      unfolding frame
      try_right k out r false y p q = skip k out p r
      try_right k out r true true p q =
          resume k out
          (dead_marked laws cs out (frame k ∷ fs) (L.with taken k) (marked L denied c k) (enter k out p r) k
          (or_left (denied k) (from L c (suc k) k) q) (with_new laws taken k))
      try_right k out r true false p q =
          let v = enter k out p r in
          resume k (way (L.with taken k) (marked L denied c k) out)
          (good (L.with taken k) (marked L denied c k) out (frame k ∷ fs) (omega (arith, branch_fewer taken c first k p)) v
          (clear_branch laws cs (frame k) fs (L.with taken k) (marked L denied c k) v.leads q))

      branches_right : (j k : ℕ) (out : List S) → j + k ≡ L.bound (L.head c) → From k out →
          From (L.bound (L.head c)) (branches L way taken denied c j k out)
      branches_right zero k out e r = subst (λ (x : ℕ). From x out) (let z : k ≡ L.bound (L.head c) = omega arith in z) r
      branches_right (suc j) k out e r =
          branches_right j (suc k) (try L way taken denied c k out (L.has (L.head c) k && not (denied k))) (omega arith)
          (try_right k out r (L.has (L.head c) k) (denied k) refl refl)

      branches_end : (out : List S) → From (L.bound (L.head c)) out → Returning L cs out fs
      branches_end out r =
          record { stacked = stack laws cs fs taken denied leads; front = r.front; complete = λ t h. go t (r.complete t h) }
        where
          go : (t : S) → Covered L out t ⊎ (Pending L cs taken denied c (L.bound (L.head c)) t ⊎ Left L cs fs t) →
              Covered L out t ⊎ Left L cs fs t
          go t (inl h) = inl h
          go t (inr (inl d)) = absurd (omega (arith, d.late, laws.has_bound (L.head c) d.atom d.of_head))
          go t (inr (inr w)) = inr w

      branches_begin : (out : List S) → Visiting L cs out fs taken denied → From 0 out
      branches_begin out v = record { front = v.front; complete = λ t h. go t (v.complete t h) }
        where
          go : (t : S) → Covered L out t ⊎ (Region L cs taken denied t ⊎ Left L cs fs t) →
              Covered L out t ⊎ (Pending L cs taken denied c 0 t ⊎ Left L cs fs t)
          go t (inl h) = inl h
          go t (inr (inl r)) = inr (inl (start laws cs taken denied c first t r))
          go t (inr (inr w)) = inr (inr w)

      branches_all : (out : List S) → Visiting L cs out fs taken denied →
          Returning L cs (branches L way taken denied c (L.bound (L.head c)) 0 out) fs
      branches_all out v = branches_end (branches L way taken denied c (L.bound (L.head c)) 0 out)
          (branches_right (L.bound (L.head c)) 0 out (omega arith) (branches_begin out v))

    node_right : (fuel : ℕ) (way : Way L) → Good fuel way →
        (taken : S) (denied : ℕ → Bool) (out : List S) (fs : List (Frame S C)) → missing L (width L cs) taken < suc fuel →
        Visiting L cs out fs taken denied → Clear L taken denied →
        (b : Bool) (o : Option C) → holds_within L out taken ≡ b → first_broken L cs taken ≡ o →
        Returning L cs (node L way taken denied out b o) fs
    node_right fuel way good taken denied out fs few v clear true o p q =
        dead_covered laws cs out fs taken denied v (covered_true out taken p)
    node_right fuel way good taken denied out fs few v clear false None p q =
        dead_covered laws cs (out ++ (taken ∷ [])) fs taken denied
        (kept laws cs out fs taken denied v clear q (covered_false out taken p))
        (kept_covered laws cs out fs taken denied v clear q (covered_false out taken p))
    node_right fuel way good taken denied out fs few v clear false (Some c) p q =
        branches_all fuel way good taken denied c fs q few clear v.leads out v

    visit_good : (fuel : ℕ) → Good fuel (visit L cs fuel)
    visit_good zero taken denied out fs few v clear = absurd (not-suc-le-zero few)
    visit_good (suc fuel) taken denied out fs few v clear =
        node_right fuel (visit L cs fuel) (visit_good fuel) taken denied out fs few v clear (holds_within L out taken)
        (first_broken L cs taken) refl refl

    whole : Returning L cs (explanations L cs) []
    whole =
        visit_good (suc (width L cs)) L.empty unmarked [] [] (omega (arith, missing_most laws (width L cs) L.empty))
        (begin laws cs)
        (clear_root laws cs L.empty unmarked (begin laws cs).leads)

    -- the list exists: it is what is computed
    pub explanations_right : Explanations L cs (explanations L cs)
    explanations_right = finish laws cs (explanations L cs) whole

    -- and is the only one
    pub explanations_only : (ms : List S) → Explanations L cs ms → ms ≡ explanations L cs
    explanations_only ms e = explanations_one laws cs ms (explanations L cs) e explanations_right

    -- every model includes a minimal model
    pub includes_minimal : (t : S) → Model L cs t → (m : S) × Minimal L cs m × Within L m t
    includes_minimal t h = minimals.includes_minimal laws cs t h

    -- the list is empty exactly when there is no model at all
    pub empty_none : (ms : List S) → Explanations L cs ms → ms ≡ [] → (t : S) → ¬ Model L cs t
    empty_none ms e q t h = let r = includes_minimal t h in
        Memᴰ.not-nil (subst (λ (xs : List S). Memᴰ r.0 xs) q (e.all r.0 r.1))

    pub none_empty : (ms : List S) → Explanations L cs ms → ((t : S) → ¬ Model L cs t) → ms ≡ []
    none_empty [] e f = refl
    none_empty (m ∷ ms) e f = absurd (f m (e.only m (Memᴰ.head refl)).model)

    -- a front is the beginning of the list
    pub front_is : (out : List S) → Front L cs out → out ≡ take (length out) (explanations L cs)
    front_is out f = front_prefix laws cs out (explanations L cs) f explanations_right

    pub front_split : (out : List S) → Front L cs out → explanations L cs ≡ out ++ drop (length out) (explanations L cs)
    front_split out f =
        sym (take-append-drop (length out) (explanations L cs))
        ∙ ap (λ (xs : List S). xs ++ drop (length out) (explanations L cs)) (sym (front_is out f))

    -- a walk that has come to its end has handed out the list
    pub finish_is : (out : List S) → Returning L cs out [] → out ≡ explanations L cs
    finish_is out v = explanations_only out (finish laws cs out v)
