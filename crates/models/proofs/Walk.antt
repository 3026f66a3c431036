-- The steps of a walk through the nodes keep its invariant (specs/Search: Visiting, Returning).
use Rattle.std.proofs.Common.{◌≡◌, ℕ, suc, ◌<◌, ◌≤◌, Bool, true, false, ◌⊎◌, List, [], ◌∷◌, ◌++◌, Some, None, sym, refl, ap, ◌∙◌, subst, inl, inr, arith}
use mathlib.Core.Path.{fun_ext}
use mathlib.Core.List.Memᴰ
use mathlib.Core.List.{Memᴰ}
use Rattle.std.proofs.lemmas.Bool.{both_ways, or_cases, or_left, or_right}
use Rattle.models.specs.Language.{Language, Laws}
use Rattle.models.specs.Models.{Pairwise, In, Within, Minimal, first_broken, PrecedesFrom, Precedes, Explanations}
use Rattle.models.specs.Search.{unmarked, Frame, from, marked, Clear, Region, Pending, Branch, Leads, Left, Front, Covered, Visiting, Stacked, Returning}
use Rattle.models.proofs.Broken.{first_broken_lem, none_model}
use Rattle.models.proofs.Order.{same_set}
use Rattle.models.proofs.Minimals.{includes_minimal}
use Rattle.models.proofs.Regions.{with_cases, from_in, from_parts, start, up, branch_same, split, later_precedes, head_met}

pub pairwise_push : {X : Type 0} (R : X → X → Type 0) (xs : List X) (x : X) → Pairwise R xs →
    ((y : X) → Memᴰ y xs → R y x) → Pairwise R (xs ++ (x ∷ []))
pairwise_push R [] x p h = ((λ y m. absurd (Memᴰ.not-nil m)), tt)
pairwise_push {X} R (z ∷ xs) x p h =
    ((λ y m. go y (Memᴰ.append_cases xs m)), pairwise_push R xs x p.1 (λ y m. h y (Memᴰ.tail m)))
  where
    go : (y : X) → Memᴰ y xs ⊎ Memᴰ y (x ∷ []) → R z y
    go y (inl m) = p.0 y m
    go y (inr m) = subst (λ (w : X). R z w) (sym (Memᴰ.eq_of_singleton m)) (h z (Memᴰ.head refl))

module _ {S C : Type 0} {L : Language S C} (laws : Laws L) (cs : List C) where
  -- a model in the region of the present branch of a frame, as the frame has it
  inside : (f : Frame S C) (taken : S) (denied : ℕ → Bool) → Branch L cs f taken denied → (m : S) → Region L cs taken denied m →
      Region L cs (L.with f.taken f.now) (marked L f.denied f.clause f.now) m
  inside f taken denied b m r =
      record {
        model = r.model;
        holds = subst (λ (s : S). Within L s m) b.takes r.holds;
        clear =
            λ x k. r.clear x (b.marks x ∙ k);
      }

  above : (f : Frame S C) (taken : S) (denied : ℕ → Bool) → Branch L cs f taken denied → (m : S) → Region L cs taken denied m →
      Region L cs f.taken f.denied m
  above f taken denied b m r = up laws cs f.taken f.denied f.clause b.first f.now m (inside f taken denied b m r)

  -- in the region of a node the order from what it has taken is the list order
  pub lifts : (fs : List (Frame S C)) (taken : S) (denied : ℕ → Bool) → Leads L cs fs taken denied → (m n : S) →
      Region L cs taken denied m → Region L cs taken denied n →
      PrecedesFrom L cs m n taken → Precedes L cs m n
  lifts [] taken denied l m n r s o = subst (λ (x : S). PrecedesFrom L cs m n x) l.0 o
  lifts (f ∷ fs) taken denied l m n r s o =
      let b = l.0 in
      lifts fs f.taken f.denied l.1 m n (above f taken denied b m r) (above f taken denied b n s)
      (branch_same laws cs f.taken f.denied f.clause b.first f.now m n b.of_head
      (inside f taken denied b m r) (inside f taken denied b n s)
      (subst (λ (x : S). PrecedesFrom L cs m n x) b.takes o))

  -- the models of a node's region precede those left for later
  pub before : (fs : List (Frame S C)) (taken : S) (denied : ℕ → Bool) → Leads L cs fs taken denied → (m n : S) →
      Region L cs taken denied m → Left L cs fs n → Precedes L cs m n
  before [] taken denied l m n r w = absurd w
  before (f ∷ fs) taken denied l m n r (inl p) =
      let b = l.0 in
      lifts fs f.taken f.denied l.1 m n (above f taken denied b m r) p.region
      (later_precedes laws cs f.taken f.denied f.clause b.first f.now m n b.of_head
      (inside f taken denied b m r) p)
  before (f ∷ fs) taken denied l m n r (inr w) = before fs f.taken f.denied l.1 m n (above f taken denied l.0 m r) w

  -- a model left for later holds an atom that is marked absent at the node
  pub denies : (fs : List (Frame S C)) (taken : S) (denied : ℕ → Bool) → Leads L cs fs taken denied → (n : S) →
      Left L cs fs n → (b : ℕ) × (denied b ≡ true) × In L n b
  denies [] taken denied l n w = absurd w
  denies (f ∷ fs) taken denied l n (inl p) = (
    p.atom,
    l.0.marks p.atom ∙ or_right (f.denied p.atom) _
        (from_in laws f.clause (suc f.now) p.atom p.of_head p.late),
    p.of_set,
  )
  denies (f ∷ fs) taken denied l n (inr w) =
      let r = denies fs f.taken f.denied l.1 n w in
      (r.0, l.0.marks r.0 ∙ or_left (f.denied r.0) _ r.1, r.2)

  -- what a node has taken is clear of its marks: at the root, and at a branch whose own atom was not marked
  pub clear_root : (taken : S) (denied : ℕ → Bool) → Leads L cs [] taken denied → Clear L taken denied
  clear_root taken denied l b k h = both_ways (denied b) (l.1 b) k

  pub clear_branch : (f : Frame S C) (fs : List (Frame S C)) (taken : S) (denied : ℕ → Bool) →
      Leads L cs (f ∷ fs) taken denied → f.denied f.now ≡ false → Clear L taken denied
  clear_branch f fs taken denied l e b k h =
      go (with_cases laws f.taken f.now b (subst (λ (s : S). In L s b) l.0.takes h))
      (or_cases (f.denied b) _ (sym (l.0.marks b) ∙ k))
    where
      go : (f.now ≡ b) ⊎ In L f.taken b → (f.denied b ≡ true) ⊎ (from L f.clause (suc f.now) b ≡ true) → ⊥
      go (inl q) (inl d) = both_ways (f.denied b) (ap f.denied (sym q) ∙ e) d
      go (inl q) (inr d) = omega (arith, (from_parts laws f.clause (suc f.now) b d).1)
      go (inr t) (inl d) = l.0.clear b d t
      go (inr t) (inr d) = (first_broken_lem laws cs f.taken l.0.first).none b
          (from_parts laws f.clause (suc f.now) b d).0 t

  pub stack : (fs : List (Frame S C)) (taken : S) (denied : ℕ → Bool) → Leads L cs fs taken denied → Stacked L cs fs
  stack [] taken denied l = tt
  stack (f ∷ fs) taken denied l =
      (record { first = l.0.first; of_head = l.0.of_head; clear = l.0.clear; takes = refl; marks = λ b. refl }, l.1)

  -- the walk begins at the root
  pub begin : Visiting L cs [] [] L.empty unmarked
  begin =
      record {
        leads = (refl, λ b. refl);
        front = record {
          minimal = λ m k. absurd (Memᴰ.not-nil k);
          ordered = tt;
          after =
              λ n k. inr (λ m j. absurd (Memᴰ.not-nil j));
        };
        complete =
            λ t h. inr
            (inl (record {
              model = h.model;
              holds =
                  λ a k. absurd (both_ways (L.has L.empty a) (laws.has_empty a) k);
              clear =
                  λ b k. absurd (both_ways false refl k);
            }));
      }

  module _ (out : List S) (fs : List (Frame S C)) (taken : S) (denied : ℕ → Bool) (v : Visiting L cs out fs taken denied) where
    -- a node whose region adds no minimal model is left
    pub leave : ((t : S) → Minimal L cs t → Region L cs taken denied t → Covered L out t) → Returning L cs out fs
    leave f =
        record { stacked = stack fs taken denied v.leads; front = v.front; complete = λ t h. go t h (v.complete t h) }
      where
        go : (t : S) → Minimal L cs t → Covered L out t ⊎ (Region L cs taken denied t ⊎ Left L cs fs t) →
            Covered L out t ⊎ Left L cs fs t
        go t h (inl k) = inl k
        go t h (inr (inl r)) = inl (f t h r)
        go t h (inr (inr w)) = inr w

    -- it has taken an atom that is marked absent
    pub dead_marked : (b : ℕ) → denied b ≡ true → In L taken b → Returning L cs out fs
    dead_marked b k h = leave (λ t n r. absurd (r.clear b k (r.holds b h)))

    -- a set handed out is within what it has taken
    pub dead_covered : Covered L out taken → Returning L cs out fs
    dead_covered c = leave (λ t n r. (c.0, c.1, λ a h. r.holds a (c.2 a h)))

    -- it breaks a clause whose head has no atom
    pub dead_empty : (c : C) → first_broken L cs taken ≡ Some c → ((b : ℕ) → In L (L.head c) b → ⊥) → Returning L cs out fs
    dead_empty c e none =
        leave (λ t n r. let k = head_met laws cs taken denied c e t r.model r.holds in absurd (none k.0 k.1))

    -- no minimal model includes what it has taken and avoids what is marked absent
    pub dead_ahead : ((m : S) → Minimal L cs m → Within L taken m → Clear L m denied → ⊥) → Returning L cs out fs
    dead_ahead f = leave (λ t n r. absurd (f t n r.holds r.clear))

    module _ (clear : Clear L taken denied) where
      -- it breaks a clause: on to the branch of the least head atom
      pub push : (c : C) → first_broken L cs taken ≡ Some c → (h : ℕ) → In L (L.head c) h →
          ((b : ℕ) → In L (L.head c) b → h ≤ b) →
          Visiting L cs out (record { taken = taken; denied = denied; clause = c; now = h } ∷ fs) (L.with taken h)
          (marked L denied c h)
      push c e h p least =
          record {
            leads = (record { first = e; of_head = p; clear = clear; takes = refl; marks = λ b. refl }, v.leads);
            front = v.front;
            complete = λ t k. go t (v.complete t k);
          }
        where
          low : (t : S) → Region L cs (L.with taken h) (marked L denied c h) t ⊎ Pending L cs taken denied c (suc h) t →
              Covered L out t ⊎
              (Region L cs (L.with taken h) (marked L denied c h) t ⊎
              (Pending L cs taken denied c (suc h) t ⊎ Left L cs fs t))
          low t (inl r) = inr (inl r)
          low t (inr d) = inr (inr (inl d))

          go : (t : S) → Covered L out t ⊎ (Region L cs taken denied t ⊎ Left L cs fs t) →
              Covered L out t ⊎
              (Region L cs (L.with taken h) (marked L denied c h) t ⊎
              (Pending L cs taken denied c (suc h) t ⊎ Left L cs fs t))
          go t (inl k) = inl k
          go t (inr (inl r)) =
              low t (split laws cs taken denied c e 0 h p (omega arith) (λ b q j. least b q) t
              (start laws cs taken denied c e t r))
          go t (inr (inr w)) = inr (inr (inr w))

      module _ (e : first_broken L cs taken ≡ None) (new : ¬ Covered L out taken) where
        -- it breaks no clause, and no set handed out is within it: it is a minimal model
        pub found : Minimal L cs taken
        found = record {
          model = none_model laws cs taken e;
          least = λ t h w. let i = includes_minimal laws cs t h in
              same_set laws t taken w (λ a k. i.2 a (go i.0 (λ b j. w b (i.2 b j)) (v.complete i.0 i.1) a k));
        }
          where
            -- a minimal model within what is taken has all of it
            go : (t : S) → Within L t taken → Covered L out t ⊎ (Region L cs taken denied t ⊎ Left L cs fs t) → Within L taken t
            go t w (inl k) = absurd (new (k.0, k.1, λ a h. w a (k.2 a h)))
            go t w (inr (inl r)) = r.holds
            go t w (inr (inr d)) = let k = denies fs taken denied v.leads t d in
                absurd (clear k.0 k.1 (w k.0 k.2))

        -- and the next in the list: handed out, it is the last of a longer front
        pub found_front : Front L cs (out ++ (taken ∷ []))
        found_front =
            record {
              minimal = λ m k. least m (Memᴰ.append_cases out k);
              ordered = pairwise_push (Precedes L cs) out taken v.front.ordered (earlier (v.front.after taken found));
              after = λ n k. rest n k (v.complete n k) (v.front.after n k);
            }
          where
            least : (m : S) → Memᴰ m out ⊎ Memᴰ m (taken ∷ []) → Minimal L cs m
            least m (inl k) = v.front.minimal m k
            least m (inr k) = subst (λ (s : S). Minimal L cs s) (sym (Memᴰ.eq_of_singleton k)) found

            earlier : Memᴰ taken out ⊎ ((m : S) → Memᴰ m out → Precedes L cs m taken) → (m : S) → Memᴰ m out →
                Precedes L cs m taken
            earlier (inl k) = absurd (new (taken, k, λ a h. h))
            earlier (inr f) = f

            last : (n : S) → Precedes L cs taken n → ((m : S) → Memᴰ m out → Precedes L cs m n) → (m : S) →
                Memᴰ m out ⊎ Memᴰ m (taken ∷ []) → Precedes L cs m n
            last n p f m (inl k) = f m k
            last n p f m (inr k) = subst (λ (s : S). Precedes L cs s n) (sym (Memᴰ.eq_of_singleton k)) p

            rest : (n : S) → Minimal L cs n → Covered L out n ⊎ (Region L cs taken denied n ⊎ Left L cs fs n) →
                Memᴰ n out ⊎ ((m : S) → Memᴰ m out → Precedes L cs m n) →
                Memᴰ n (out ++ (taken ∷ [])) ⊎ ((m : S) → Memᴰ m (out ++ (taken ∷ [])) → Precedes L cs m n)
            rest n k c (inl j) = inl (Memᴰ.append_left (taken ∷ []) j)
            rest n k (inl c) (inr f) =
                inl (Memᴰ.append_left (taken ∷ [])
                (Memᴰ.cast (sym (k.least c.0 (v.front.minimal c.0 c.1).model c.2)) c.1))
            rest n k (inr (inl r)) (inr f) =
                inl (Memᴰ.append_right out (Memᴰ.head (sym (k.least taken (none_model laws cs taken e) r.holds))))
            rest n k (inr (inr w)) (inr f) =
                inr (λ m j. last n
                (before fs taken denied v.leads taken n
                (record { model = none_model laws cs taken e; holds = λ a h. h; clear = clear }) w) f m
                (Memᴰ.append_cases out j))

        -- the walk stays at the node, which now includes a set handed out
        pub kept : Visiting L cs (out ++ (taken ∷ [])) fs taken denied
        kept = record { leads = v.leads; front = found_front; complete = λ t h. go t (v.complete t h) }
          where
            go : (t : S) → Covered L out t ⊎ (Region L cs taken denied t ⊎ Left L cs fs t) →
                Covered L (out ++ (taken ∷ [])) t ⊎ (Region L cs taken denied t ⊎ Left L cs fs t)
            go t (inl k) = inl (k.0, Memᴰ.append_left (taken ∷ []) k.1, k.2)
            go t (inr w) = inr w

        pub kept_covered : Covered L (out ++ (taken ∷ [])) taken
        kept_covered = (taken, Memᴰ.append_right out (Memᴰ.head refl), λ a h. h)

  -- between nodes: on to the branch of the next head atom of the top frame
  module _ (out : List S) (f : Frame S C) (fs : List (Frame S C)) (v : Returning L cs out (f ∷ fs)) where
    pub next : (h : ℕ) → In L (L.head f.clause) h → f.now < h →
        ((b : ℕ) → In L (L.head f.clause) b → f.now < b → h ≤ b) →
        Visiting L cs out (record { taken = f.taken; denied = f.denied; clause = f.clause; now = h } ∷ fs)
        (L.with f.taken h) (marked L f.denied f.clause h)
    next h p g least =
        record {
          leads = (
            record {
              first = v.stacked.0.first;
              of_head = p;
              clear = v.stacked.0.clear;
              takes = refl;
              marks =
                  λ b. refl;
            },
            v.stacked.1,
          );
          front = v.front;
          complete = λ t k. go t (v.complete t k);
        }
      where
        low : (t : S) → Region L cs (L.with f.taken h) (marked L f.denied f.clause h) t ⊎
            Pending L cs f.taken f.denied f.clause (suc h) t →
            Covered L out t ⊎
            (Region L cs (L.with f.taken h) (marked L f.denied f.clause h) t ⊎
            (Pending L cs f.taken f.denied f.clause (suc h) t ⊎ Left L cs fs t))
        low t (inl r) = inr (inl r)
        low t (inr d) = inr (inr (inl d))

        go : (t : S) → Covered L out t ⊎ (Pending L cs f.taken f.denied f.clause (suc f.now) t ⊎ Left L cs fs t) →
            Covered L out t ⊎
            (Region L cs (L.with f.taken h) (marked L f.denied f.clause h) t ⊎
            (Pending L cs f.taken f.denied f.clause (suc h) t ⊎ Left L cs fs t))
        go t (inl k) = inl k
        go t (inr (inl d)) =
            low t (split laws cs f.taken f.denied f.clause v.stacked.0.first (suc f.now) h p g least t d)
        go t (inr (inr w)) = inr (inr (inr w))

    -- or back to the frame above, if there is none
    pub pop : ((b : ℕ) → In L (L.head f.clause) b → f.now < b → ⊥) → Returning L cs out fs
    pop none =
        record {
          stacked = stack fs f.taken f.denied v.stacked.1;
          front = v.front;
          complete =
              λ t k. go t (v.complete t k);
        }
      where
        go : (t : S) → Covered L out t ⊎ (Pending L cs f.taken f.denied f.clause (suc f.now) t ⊎ Left L cs fs t) →
            Covered L out t ⊎ Left L cs fs t
        go t (inl k) = inl k
        go t (inr (inl d)) = absurd (none d.atom d.of_head d.late)
        go t (inr (inr w)) = inr w

  -- no frame is left: what was handed out is the whole list, and every minimal model includes a set of it
  pub finish_covered : (out : List S) → Returning L cs out [] → (t : S) → Minimal L cs t → Covered L out t
  finish_covered out v t h = go (v.complete t h)
    where
      go : Covered L out t ⊎ ⊥ → Covered L out t
      go (inl k) = k
      go (inr w) = absurd w

  pub finish : (out : List S) → Returning L cs out [] → Explanations L cs out
  finish out v =
      record {
        only = v.front.minimal;
        all = λ m k. let c = finish_covered out v m k in
            Memᴰ.cast (sym (k.least c.0 (v.front.minimal c.0 c.1).model c.2)) c.1;
        ordered = v.front.ordered;
      }

  -- the same node, written another way
  pub same_node : (out : List S) (fs : List (Frame S C)) (taken taken' : S) (denied denied' : ℕ → Bool) →
      Visiting L cs out fs taken denied → taken ≡ taken' → ((b : ℕ) → denied b ≡ denied' b) →
      Visiting L cs out fs taken' denied'
  same_node out fs taken taken' denied denied' v p q =
      subst (λ (d : ℕ → Bool). Visiting L cs out fs taken' d) (fun_ext q) (subst (λ (s : S). Visiting L cs out fs s denied) p v)
