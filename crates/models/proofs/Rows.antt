-- The steps of a walk over rows of sets keep its invariant (specs/Rows: At, Back).
use Rattle.std.proofs.Common.{◌≡◌, ℕ, zero, suc, ◌<◌, ◌≤◌, Bool, false, ◌&&◌, ◌||◌, ltb, leb, List, [], ◌∷◌, ◌++◌, length, set, Some, None, sym, refl, ap, ◌∙◌, subst, ap₂, arith, get_or-set_other, get_or-set_same}
use Rattle.std.proofs.lemmas.Bool.{and_parts, and_from, le-leb, or_left}
use Rattle.models.specs.Language.{Language, Laws}
use Rattle.models.specs.Models.{In, Minimal, first_broken, Explanations}
use Rattle.models.specs.Search.{unmarked, Frame, from, marked, Clear, Front, Covered, Visiting, Returning}
use Rattle.models.specs.Rows.{Row, Least, Matches, At, Back, Present, Paired, stacked, Here, Standing}
use Rattle.models.proofs.Tests.{same_test}
use Rattle.models.proofs.Regions.{with_new, from_in, from_parts}
use Rattle.models.specs.Ahead.{Hopeless, Barren, Unsupported, Supports}
use Rattle.models.proofs.Ahead.{hopeless_barren, unsupported_barren, supports_barren}
use Rattle.models.proofs.Depth.{depth_room}
use Rattle.models.proofs.Walk

module _ {S C : Type 0} {L : Language S C} (laws : Laws L) (cs : List C) where
  -- the least still atom of a row is what its frame takes
  row_now : (r : Row S) (f : Frame S C) → Matches L r f → In L (L.head f.clause) f.now → (a : ℕ) →
      Least L r.still a → a ≡ f.now
  row_now r f m p a l =
      let q : f.now ≤ a = (from_parts laws f.clause f.now a (sym (m.still a) ∙ l.0)).1 in
      let k : a ≤ f.now = l.1 f.now (m.still f.now ∙ from_in laws f.clause f.now f.now p (omega arith)) in
      omega arith

  -- the still atoms after the least are the head atoms after it
  still_later : (still : S) (c : C) (a : ℕ) → ((b : ℕ) → L.has still b ≡ from L c a b) → (b : ℕ) →
      (L.has still b && ltb a b) ≡ from L c (suc a) b
  still_later still c a m b =
      same_test (L.has still b && ltb a b) (from L c (suc a) b)
      (λ e. let k = and_parts (L.has still b) (ltb a b) e in
      and_from (L.has (L.head c) b) (leb (suc a) b) (from_parts laws c a b (sym (m b) ∙ k.0)).0 k.1)
      (λ e. let k = from_parts laws c (suc a) b e in
      and_from (L.has still b) (ltb a b) (m b ∙ from_in laws c a b k.0 (omega (arith, k.1))) (le-leb (suc a) b k.1))

  -- the walk begins with no row
  pub at_begin : At L cs [] [] L.empty L.empty
  at_begin =
      record {
        frames = [];
        matched = tt;
        visiting = Walk.same_node laws cs [] [] L.empty L.empty unmarked (L.has L.empty) (Walk.begin laws cs) refl
            (λ b. sym (laws.has_empty b));
      }

  module _ (out : List S) (rows : List (Row S)) (taken denied : S) (v : At L cs out rows taken denied) where
    back : Returning L cs out v.frames → Back L cs out rows
    back r = record { frames = v.frames; matched = v.matched; returning = r }

    -- a set handed out is within what the node has taken
    pub at_covered : Covered L out taken → Back L cs out rows
    at_covered c = back (Walk.dead_covered laws cs out v.frames taken (L.has denied) v.visiting c)

    -- an atom taken is marked absent
    pub at_marked : (b : ℕ) → In L denied b → In L taken b → Back L cs out rows
    at_marked b k h = back (Walk.dead_marked laws cs out v.frames taken (L.has denied) v.visiting b k h)

    -- the head of the clause that it breaks has no atom
    pub at_empty : (c : C) → first_broken L cs taken ≡ Some c → ((b : ℕ) → In L (L.head c) b → ⊥) → Back L cs out rows
    at_empty c e n = back (Walk.dead_empty laws cs out v.frames taken (L.has denied) v.visiting c e n)

    -- looking ahead: no minimal model includes what it has taken and avoids what is marked absent
    pub at_barren : Barren L cs taken denied → Back L cs out rows
    at_barren f = back (Walk.dead_ahead laws cs out v.frames taken (L.has denied) v.visiting f)

    -- no model does so
    pub at_hopeless : Hopeless L cs taken denied → Back L cs out rows
    at_hopeless f = at_barren (hopeless_barren laws cs taken denied f)

    -- an atom taken has no clause that could be its reason
    pub at_unsupported : (a : ℕ) → In L taken a → Unsupported L cs taken denied a → Back L cs out rows
    at_unsupported a i n = at_barren (unsupported_barren laws cs taken denied a i n)

    -- the same, from the set of the atoms that may have one
    pub at_supports : (answer : S) → Supports L cs taken denied answer → (a : ℕ) → In L taken a → (In L answer a → ⊥) →
        Back L cs out rows
    at_supports answer f a i n = at_barren (supports_barren laws cs taken denied answer f a i n)

    module _ (clear : Clear L taken (L.has denied)) where
      -- it breaks no clause and includes nothing handed out: it is the next explanation, and the walk stays where it is
      pub at_found : first_broken L cs taken ≡ None → ¬ Covered L out taken → Minimal L cs taken
      at_found e n = Walk.found laws cs out v.frames taken (L.has denied) v.visiting clear e n

      pub at_kept : first_broken L cs taken ≡ None → ¬ Covered L out taken → At L cs (out ++ (taken ∷ [])) rows taken denied
      at_kept e n =
          record {
            frames = v.frames;
            matched = v.matched;
            visiting =
                Walk.kept laws cs out v.frames taken (L.has denied) v.visiting clear e n;
          }

      -- it breaks a clause: a row for its head is put on top
      pub at_push : (c : C) → first_broken L cs taken ≡ Some c → (a : ℕ) (taken' denied' : S) →
          Present L (record { taken = taken; denied = denied; still = L.head c }) a taken' denied' →
          At L cs out (record { taken = taken; denied = denied; still = L.head c } ∷ rows) taken' denied'
      at_push c e a taken' denied' p =
          record {
            frames = record { taken = taken; denied = L.has denied; clause = c; now = a } ∷ v.frames;
            matched = (record { taken = refl; denied = λ b. refl; still = whole }, v.matched);
            visiting =
                Walk.same_node laws cs out
                (record { taken = taken; denied = L.has denied; clause = c; now = a } ∷ v.frames)
                (L.with taken a) taken' (marked L (L.has denied) c a) (L.has denied')
                (Walk.push laws cs out v.frames taken (L.has denied) v.visiting clear c e a p.least.0 p.least.1)
                (sym p.takes)
                (λ b. sym (p.marks b ∙ ap (λ (x : Bool). L.has denied b || x) (still_later (L.head c) c a whole b)));
          }
        where
          whole : (b : ℕ) → L.has (L.head c) b ≡ from L c a b
          whole b = same_test (L.has (L.head c) b) (from L c a b) (λ h. from_in laws c a b h (p.least.1 b h))
              (λ h. (from_parts laws c a b h).0)

  -- what is taken is clear of the marks: at the root, and where the atom that the top row takes was not denied
  pub at_clear_root : (out : List S) (taken denied : S) → At L cs out [] taken denied → Clear L taken (L.has denied)
  at_clear_root out taken denied v = go v.frames v.matched v.visiting
    where
      go : (fs : List (Frame S C)) → Paired (Matches L) [] fs → Visiting L cs out fs taken (L.has denied) →
          Clear L taken (L.has denied)
      go [] m k = Walk.clear_root laws cs taken (L.has denied) k.leads
      go (f ∷ fs) m k = absurd m

  pub at_clear : (out : List S) (r : Row S) (rows : List (Row S)) (taken denied : S) → At L cs out (r ∷ rows) taken denied →
      (a : ℕ) → Least L r.still a → L.has r.denied a ≡ false → Clear L taken (L.has denied)
  at_clear out r rows taken denied v a l e = go v.frames v.matched v.visiting
    where
      go : (fs : List (Frame S C)) → Paired (Matches L) (r ∷ rows) fs → Visiting L cs out fs taken (L.has denied) →
          Clear L taken (L.has denied)
      go [] m k = absurd m
      go (f ∷ fs) m k =
          Walk.clear_branch laws cs f fs taken (L.has denied) k.leads
          (sym (m.0.denied f.now) ∙ (ap (L.has r.denied) (sym (row_now r f m.0 k.leads.0.of_head a l)) ∙ e))

  pub at_denied : (out : List S) (r : Row S) (rows : List (Row S)) (taken denied : S) → At L cs out (r ∷ rows) taken denied →
      (a : ℕ) → Least L r.still a → In L r.denied a → Back L cs out (r ∷ rows)
  at_denied out r rows taken denied v a l e = go v.frames v.matched v.visiting
    where
      go : (fs : List (Frame S C)) → Paired (Matches L) (r ∷ rows) fs → Visiting L cs out fs taken (L.has denied) →
          Back L cs out (r ∷ rows)
      go [] m k = absurd m
      go (f ∷ fs) m k =
          let b = k.leads.0 in
          let q : a ≡ f.now = row_now r f m.0 b.of_head a l in
          at_marked out (r ∷ rows) taken denied v a
          (b.marks a ∙ or_left (f.denied a) (from L f.clause (suc f.now) a) (sym (m.0.denied a) ∙ e))
          (subst (λ (s : S). In L s a) (sym b.takes)
          (subst (λ (x : ℕ). In L (L.with f.taken f.now) x) (sym q) (with_new laws f.taken f.now)))

  -- between nodes: the least atom that the top row still has is dropped
  module _ (out : List S) (r : Row S) (rows : List (Row S)) (v : Back L cs out (r ∷ rows)) (a : ℕ)
      (least : Least L r.still a) (still' : S) (dropped : (b : ℕ) → L.has still' b ≡ (L.has r.still b && ltb a b)) where
    -- the row with what is left
    abbrev next_row : Row S
    next_row = record { taken = r.taken; denied = r.denied; still = still' }

    later : (f : Frame S C) → Matches L r f → In L (L.head f.clause) f.now → (b : ℕ) →
        L.has still' b ≡ from L f.clause (suc f.now) b
    later f m p b =
        let q : a ≡ f.now = row_now r f m p a least in
        dropped b
        ∙ (still_later r.still f.clause a (λ x. m.still x ∙ ap (λ (y : ℕ). from L f.clause y x) (sym q)) b
        ∙ ap (λ (y : ℕ). from L f.clause (suc y) b) q)

    -- some are left: on to the branch of the next
    pub back_next : (h : ℕ) (taken' denied' : S) → Present L next_row h taken' denied' →
        At L cs out (next_row ∷ rows) taken' denied'
    back_next h taken' denied' p = go v.frames v.matched v.returning
      where
        go : (fs : List (Frame S C)) → Paired (Matches L) (r ∷ rows) fs → Returning L cs out fs →
            At L cs out (next_row ∷ rows) taken' denied'
        go [] m k = absurd m
        go (f ∷ fs) m k =
            record {
              frames = g ∷ fs;
              matched = (record { taken = m.0.taken; denied = m.0.denied; still = whole }, m.1);
              visiting =
                  Walk.same_node laws cs out (g ∷ fs) (L.with f.taken h) taken' (marked L f.denied f.clause h)
                  (L.has denied')
                  (Walk.next laws cs out f fs k h (parts h p.least.0).0 (parts h p.least.0).1
                  (λ b q l. p.least.1 b (left b ∙ from_in laws f.clause (suc f.now) b q l)))
                  (ap (λ (s : S). L.with s h) (sym m.0.taken) ∙ sym p.takes)
                  (λ b. sym (p.marks b ∙ ap₂ ◌||◌ (m.0.denied b) (still_later still' f.clause h whole b)));
            }
          where
            g : Frame S C
            g = record { taken = f.taken; denied = f.denied; clause = f.clause; now = h }

            left : (b : ℕ) → L.has still' b ≡ from L f.clause (suc f.now) b
            left = later f m.0 k.stacked.0.of_head

            parts : (b : ℕ) → In L still' b → In L (L.head f.clause) b × (f.now < b)
            parts b i = from_parts laws f.clause (suc f.now) b (sym (left b) ∙ i)

            whole : (b : ℕ) → L.has still' b ≡ from L f.clause h b
            whole b =
                same_test (L.has still' b) (from L f.clause h b)
                (λ i. from_in laws f.clause h b (parts b i).0 (p.least.1 b i))
                (λ i. let x = from_parts laws f.clause h b i in
                left b ∙ from_in laws f.clause (suc f.now) b x.0 (omega (arith, x.1, (parts h p.least.0).1)))

    -- none is left: the row is taken off
    pub back_pop : ((b : ℕ) → In L still' b → ⊥) → Back L cs out rows
    back_pop none = go v.frames v.matched v.returning
      where
        go : (fs : List (Frame S C)) → Paired (Matches L) (r ∷ rows) fs → Returning L cs out fs → Back L cs out rows
        go [] m k = absurd m
        go (f ∷ fs) m k =
            record {
              frames = fs;
              matched = m.1;
              returning = Walk.pop laws cs out f fs k
                  (λ b p l. none b (later f m.0 k.stacked.0.of_head b ∙ from_in laws f.clause (suc f.now) b p l));
            }

  -- no row is left: all is handed out
  pub back_finish : (out : List S) → Back L cs out [] → Explanations L cs out
  back_finish out v = go v.frames v.matched v.returning
    where
      go : (fs : List (Frame S C)) → Paired (Matches L) [] fs → Returning L cs out fs → Explanations L cs out
      go [] m k = Walk.finish laws cs out k
      go (f ∷ fs) m k = absurd m

-- the walk over the rows alone
module _ {S C : Type 0} {L : Language S C} (laws : Laws L) where
  least_one : (s : S) (a b : ℕ) → Least L s a → Least L s b → a ≡ b
  least_one s a b p q = omega (arith, p.1 b q.0, q.1 a p.0)

  -- the present branch of a row is one node
  pub present_one : (r : Row S) (a b : ℕ) (taken denied taken' denied' : S) → Present L r a taken denied →
      Present L r b taken' denied' → (taken ≡ taken') × (denied ≡ denied')
  present_one r a b taken denied taken' denied' p q =
      let e : a ≡ b = least_one r.still a b p.least q.least in (
        p.takes ∙ (ap (L.with r.taken) e ∙ sym q.takes),
        laws.ext denied denied'
            (λ x. p.marks x ∙ (ap (λ (y : ℕ). L.has r.denied x || (L.has r.still x && ltb y x)) e ∙ sym (q.marks x))),
      )

  module _ (cs : List C) (out : List S) where
    -- the node below the rows is where the walk stands
    pub standing_at : (rows : List (Row S)) (taken denied : S) → Standing L cs out rows → Here L rows taken denied →
        At L cs out rows taken denied
    standing_at [] taken denied v h =
        subst (λ (d : S). At L cs out [] taken d) (v.here.1 ∙ sym h.1)
        (subst (λ (t : S). At L cs out [] t v.denied) (v.here.0 ∙ sym h.0) v.at)
    standing_at (r ∷ rows) taken denied v h =
        let e = present_one r v.here.0 h.0 v.taken v.denied taken denied v.here.1 h.1 in
        subst (λ (d : S). At L cs out (r ∷ rows) taken d) e.1
        (subst (λ (t : S). At L cs out (r ∷ rows) t v.denied) e.0 v.at)

  pub standing_begin : (cs : List C) → Standing L cs [] []
  standing_begin cs = record { taken = L.empty; denied = L.empty; here = (refl, refl); at = at_begin laws cs }

  -- what was handed out is a front of the list, whatever the rows
  pub standing_front : (cs : List C) (out : List S) (rows : List (Row S)) → Standing L cs out rows → Front L cs out
  standing_front cs out rows v = v.at.visiting.front

-- with the atoms taken below `w` there is room for one more of `w` rows where the node breaks a clause that has a head atom
-- below `w`
module _ {S C : Type 0} {L : Language S C} (laws : Laws L) (cs : List C) (w : ℕ) where
  same_length : (rows : List (Row S)) (fs : List (Frame S C)) → Paired (Matches L) rows fs → length rows ≡ length fs
  same_length [] [] m = refl
  same_length [] (f ∷ fs) m = absurd m
  same_length (r ∷ rows) [] m = absurd m
  same_length (r ∷ rows) (f ∷ fs) m = ap suc (same_length rows fs m.1)

  pub at_room : (out : List S) (rows : List (Row S)) (taken denied : S) → At L cs out rows taken denied →
      ((a : ℕ) → In L taken a → a < w) → (c : C) → first_broken L cs taken ≡ Some c → (h : ℕ) → In L (L.head c) h → h < w →
      length rows < w
  at_room out rows taken denied v small c e h p k =
      omega (
        arith,
        same_length rows v.frames v.matched,
        depth_room laws cs w v.frames taken (L.has denied) v.visiting.leads small c e h p k,
      )

-- rows kept in an array: a write at or past the top leaves the rows below
pub stacked_set : {X : Type 0} (rows : List X) (i n : ℕ) (x d : X) → n ≤ i → stacked (set rows i x) n d ≡ stacked rows n d
stacked_set rows i zero x d l = refl
stacked_set rows i (suc n) x d l = ap₂ ◌∷◌ (get_or-set_other rows i n x d (λ e. omega arith))
    (stacked_set rows i n x d (omega arith))

pub stacked_push : {X : Type 0} (rows : List X) (n : ℕ) (x d : X) → n < length rows →
    stacked (set rows n x) (suc n) d ≡ x ∷ stacked rows n d
stacked_push rows n x d l = ap₂ ◌∷◌ (get_or-set_same rows n x d l) (stacked_set rows n n x d (omega arith))
