-- Looking ahead is sound: each atom of a minimal model has a reason, so where an atom taken can have none there is no minimal
-- model.
use Rattle.std.proofs.Common.{◌≡◌, ℕ, zero, suc, ◌<◌, Bool, true, false, not, ◌&&◌, eqb, ◌⊎◌, List, ◌++◌, sym, refl, ap, ◌∙◌, subst, inl, inr, not-suc-le-zero, arith}
use mathlib.Core.List.Memᴰ
use mathlib.Core.List.{Memᴰ}
use Rattle.std.proofs.lemmas.Bool.{both_ways, cases_Bool, cases_eq, cases_order, ne_eqb, eq-eqb, and_parts, and_from, not-true, not_from_false}
use Rattle.models.specs.Language.{Language, Laws}
use Rattle.models.specs.Models.{In, Within, Apart, Breaks, Model, Minimal, meets}
use Rattle.models.specs.Ahead.{Hopeless, Barren, Supports, Unsupported}
use Rattle.models.proofs.Broken.{meets_at, apart_from}
use Rattle.models.proofs.Regions.{with_new, with_old, with_cases, with_within}
use Rattle.models.proofs.Minimals.{model_cases}

module _ {S C : Type 0} (L : Language S C) where
  abbrev add : Bool → S → ℕ → S
  add true s n = L.with s n
  add false s n = s

  -- the atoms of s below n, without a
  abbrev less : ℕ → S → ℕ → S
  less zero s a = L.empty
  less (suc n) s a = add (L.has s n && not (eqb n a)) (less n s a) n

module _ {S C : Type 0} {L : Language S C} (laws : Laws L) where
  less_in : (n : ℕ) (s : S) (a b : ℕ) → b < n → In L s b → (b ≡ a → ⊥) → In L (less L n s a) b
  less_in zero s a b k h q = absurd (not-suc-le-zero k)
  less_in (suc n) s a b k h q = go (L.has s n && not (eqb n a)) refl (cases_order b n) (less_in n s a b)
    where
      go : (x : Bool) → (L.has s n && not (eqb n a)) ≡ x → (b ≡ n) ⊎ ((b < n) ⊎ (n < b)) →
          (b < n → In L s b → (b ≡ a → ⊥) → In L (less L n s a) b) → In L (add L x (less L n s a) n) b
      go true e (inl p) f = subst (λ (x : ℕ). In L (L.with (less L n s a) n) x) (sym p) (with_new laws (less L n s a) n)
      go false e (inl p) f =
          absurd (both_ways (L.has s n && not (eqb n a)) e
          (and_from (L.has s n) (not (eqb n a)) (ap (L.has s) (sym p) ∙ h)
          (not_from_false (eqb n a) (ne_eqb n a (λ r. q (p ∙ r))))))
      go true e (inr (inl l)) f = with_old laws (less L n s a) n b (f l h q)
      go false e (inr (inl l)) f = f l h q
      go x e (inr (inr l)) f = absurd (omega arith)

  less_out : (n : ℕ) (s : S) (a b : ℕ) → In L (less L n s a) b → In L s b × (b ≡ a → ⊥)
  less_out zero s a b h = absurd (both_ways (L.has L.empty b) (laws.has_empty b) h)
  less_out (suc n) s a b h = go (L.has s n && not (eqb n a)) refl h (less_out n s a b)
    where
      go : (x : Bool) → (L.has s n && not (eqb n a)) ≡ x → In L (add L x (less L n s a) n) b →
          (In L (less L n s a) b → In L s b × (b ≡ a → ⊥)) → In L s b × (b ≡ a → ⊥)
      go false e k f = f k
      go true e k f = at (with_cases laws (less L n s a) n b k)
        where
          at : (n ≡ b) ⊎ In L (less L n s a) b → In L s b × (b ≡ a → ⊥)
          at (inr j) = f j
          at (inl p) =
              let r = and_parts (L.has s n) (not (eqb n a)) e in
              (ap (L.has s) (sym p) ∙ r.0, λ q. both_ways (eqb n a) (not-true (eqb n a) r.1) (eq-eqb n a (p ∙ q)))

  module _ (cs : List C) where
    -- in a minimal model each atom has a clause whose body is in the model and whose head has this atom of it alone
    pub has_reason : (m : S) → Minimal L cs m → (a : ℕ) → In L m a →
        (c : C) × Memᴰ c cs × Within L (L.body c) m × In L (L.head c) a ×
        ((b : ℕ) → In L (L.head c) b → In L m b → b ≡ a)
    has_reason m h a i = go (model_cases laws cs (less L (L.bound m) m a))
      where
        out : (b : ℕ) → In L (less L (L.bound m) m a) b → In L m b × (b ≡ a → ⊥)
        out b k = less_out (L.bound m) m a b k

        into : (b : ℕ) → In L m b → (b ≡ a → ⊥) → In L (less L (L.bound m) m a) b
        into b k n = less_in (L.bound m) m a b (laws.has_bound m b k) k n

        go : Model L cs (less L (L.bound m) m a) ⊎ ((c : C) × Memᴰ c cs × Breaks L (less L (L.bound m) m a) c) →
            (c : C) × Memᴰ c cs × Within L (L.body c) m × In L (L.head c) a ×
            ((b : ℕ) → In L (L.head c) b → In L m b → b ≡ a)
        go (inl k) =
            absurd ((out a
            (subst (λ (s : S). In L s a) (sym (h.least (less L (L.bound m) m a) k (λ b j. (out b j).0))) i)).1 refl)
        go (inr k) = (k.0, k.1, body, at (cases_Bool (meets L (L.head k.0) m)), alone)
          where
            body : Within L (L.body k.0) m
            body b j = (out b (k.2.whole b j)).0

            alone : (b : ℕ) → In L (L.head k.0) b → In L m b → b ≡ a
            alone b p j = pick (cases_eq b a)
              where
                pick : (b ≡ a) ⊎ (b ≡ a → ⊥) → b ≡ a
                pick (inl q) = q
                pick (inr n) = absurd (k.2.none b p (into b j n))

            at : (meets L (L.head k.0) m ≡ true) ⊎ (meets L (L.head k.0) m ≡ false) → In L (L.head k.0) a
            at (inl e) = let r = meets_at laws (L.head k.0) m e in
                subst (λ (x : ℕ). In L (L.head k.0) x) (alone r.0 r.1 r.2) r.1
            at (inr e) = absurd (h.model k.0 k.1 (record { whole = body; none = apart_from laws (L.head k.0) m e }))

    -- an atom taken that can have no reason: no minimal model is there
    pub unsupported_barren : (taken absent : S) (a : ℕ) → In L taken a → Unsupported L cs taken absent a →
        Barren L cs taken absent
    unsupported_barren taken absent a i n m h w clear =
        let r = has_reason m h a (w a i) in
        n r.0 r.1 (record { of_head = r.3; alone = λ b p t. r.4 b p (w b t); possible = λ b p q. clear b q (r.2 b p) })

    pub supports_barren : (taken absent answer : S) → Supports L cs taken absent answer → (a : ℕ) → In L taken a →
        (In L answer a → ⊥) → Barren L cs taken absent
    supports_barren taken absent answer s a i n = unsupported_barren taken absent a i (s a i n)

    pub hopeless_barren : (taken absent : S) → Hopeless L cs taken absent → Barren L cs taken absent
    hopeless_barren taken absent f m h w clear = f m h.model w clear

    -- a clause whose body is taken and whose head is absent leaves no hope
    pub clause_hopeless : (taken absent : S) (c : C) → Memᴰ c cs → Within L (L.body c) taken →
        Within L (L.head c) absent → Hopeless L cs taken absent
    clause_hopeless taken absent c k p q m h w clear =
        h c k (record { whole = λ a i. w a (p a i); none = λ a i. clear a (q a i) })

    -- a clause whose body is taken and whose head is absent but for one atom: every model there has that atom too
    pub forced : (taken absent : S) (c : C) (b : ℕ) → Memᴰ c cs → Within L (L.body c) taken →
        ((a : ℕ) → In L (L.head c) a → (a ≡ b) ⊎ In L absent a) →
        (m : S) → Model L cs m → Within L taken m → Apart L absent m → Within L (L.with taken b) m
    forced taken absent c b k p q m h w clear = with_within laws taken m b w (go (cases_Bool (meets L (L.head c) m)))
      where
        at : (a : ℕ) → In L m a → (a ≡ b) ⊎ In L absent a → In L m b
        at a i (inl e) = subst (λ (x : ℕ). In L m x) e i
        at a i (inr j) = absurd (clear a j i)

        go : (meets L (L.head c) m ≡ true) ⊎ (meets L (L.head c) m ≡ false) → In L m b
        go (inl e) = let r = meets_at laws (L.head c) m e in at r.0 r.2 (q r.0 r.1)
        go (inr e) = absurd (h c k (record { whole = λ a i. w a (p a i); none = apart_from laws (L.head c) m e }))

    -- so the test may be made with that atom taken
    pub forced_hopeless : (taken absent : S) (c : C) (b : ℕ) → Memᴰ c cs → Within L (L.body c) taken →
        ((a : ℕ) → In L (L.head c) a → (a ≡ b) ⊎ In L absent a) →
        Hopeless L cs (L.with taken b) absent → Hopeless L cs taken absent
    forced_hopeless taken absent c b k p q f m h w clear = f m h (forced taken absent c b k p q m h w clear) clear

    pub forced_barren : (taken absent : S) (c : C) (b : ℕ) → Memᴰ c cs → Within L (L.body c) taken →
        ((a : ℕ) → In L (L.head c) a → (a ≡ b) ⊎ In L absent a) →
        Barren L cs (L.with taken b) absent → Barren L cs taken absent
    forced_barren taken absent c b k p q f m h w clear = f m h (forced taken absent c b k p q m h.model w clear) clear

  -- lists of clauses in a row: what leaves no hope in a list leaves none in one that has its clauses
  pub hopeless_more : (cs ds : List C) (taken absent : S) → ((c : C) → Memᴰ c cs → Memᴰ c ds) →
      Hopeless L cs taken absent → Hopeless L ds taken absent
  hopeless_more cs ds taken absent f h m model w clear = h m (λ c k. model c (f c k)) w clear

  pub hopeless_front : (cs ds : List C) (taken absent : S) → Hopeless L cs taken absent → Hopeless L (cs ++ ds) taken absent
  hopeless_front cs ds taken absent h = hopeless_more cs (cs ++ ds) taken absent (λ c k. Memᴰ.append_left ds k) h

  pub hopeless_rest : (cs ds : List C) (taken absent : S) → Hopeless L ds taken absent → Hopeless L (cs ++ ds) taken absent
  hopeless_rest cs ds taken absent h = hopeless_more ds (cs ++ ds) taken absent (λ c k. Memᴰ.append_right cs k) h

  -- a wider answer is as good
  pub supports_wider : (cs : List C) (taken absent answer wider : S) → Supports L cs taken absent answer →
      Within L answer wider → Supports L cs taken absent wider
  supports_wider cs taken absent answer wider f w a i n = f a i (λ h. n (w a h))

  -- the reasons of two lists in a row
  pub supports_append : (cs ds : List C) (taken absent front rest answer : S) → Supports L cs taken absent front →
      Supports L ds taken absent rest → Within L front answer → Within L rest answer →
      Supports L (cs ++ ds) taken absent answer
  supports_append cs ds taken absent front rest answer f g p q a i n c k r = go (Memᴰ.append_cases cs k)
    where
      go : Memᴰ c cs ⊎ Memᴰ c ds → ⊥
      go (inl j) = f a i (λ h. n (p a h)) c j r
      go (inr j) = g a i (λ h. n (q a h)) c j r

  -- an answer that has every atom taken is never wrong
  pub supports_all : (cs : List C) (taken absent answer : S) → Within L taken answer → Supports L cs taken absent answer
  supports_all cs taken absent answer w a i n c k r = n (w a i)
