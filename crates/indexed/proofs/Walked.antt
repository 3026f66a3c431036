-- A walk along a chain, from its head on.
use Rattle.std.proofs.Common.{◌≡◌, ℕ, ◌-◌, ◌<◌, ◌≤◌, List, length, get_or, sym, ap, ◌∙◌, subst, inl, inr, arith}
use mathlib.Core.List.{Memᴰ}
use Rattle.atoms.specs.Atoms.{bits}
use Rattle.atoms.specs.Sets.{◌⊆◌, has}
use Rattle.atoms.specs.declared.AtomSet.{AtomSet}
use Rattle.indexed.proofs.Links.{last_low, last_on, last_skips}
use Rattle.indexed.proofs.Kept.{read_at, sets_at}
use Rattle.indexed.proofs.Sharing.{RunOf, Runs}
use Rattle.indexed.specs.Chains.{LinksLead, NoneIn, blank, chain_at, chain_of, last, link_at, set_at}
use Rattle.indexed.specs.Shelved.{sets_of}
use Rattle.indexed.specs.declared.record.ShelfRecord.{ShelfRecord}
use Rattle.shelves.proofs.Held.{Outside, member_at, member_place, not_contained}
use Rattle.shelves.specs.Shelves.{Holds}
use Rattle.std.proofs.lemmas.Bool.{cases_eq, cases_lt}
use Rattle.std.proofs.lemmas.List.{length-map}

-- of the chain `c` the sets from the link `v` on are still to be looked at, and none of the others is contained in `s`
pub record Walked (rs : List ShelfRecord) (c : ℕ) (s : AtomSet) (v : ℕ) : Type 0 where
  pub low : v ≤ length rs
  pub on : 0 < v → chain_at rs (v - 1) ≡ c
  pub none : (p : ℕ) → v ≤ p → p < length rs → chain_at rs p ≡ c → bits (set_at rs p) ⊆ bits s → ⊥

module _ (rs : List ShelfRecord) (c : ℕ) (s : AtomSet) where
  pub walk_from_head : (v : ℕ) → v ≡ last rs c (length rs) → Walked rs c s v
  walk_from_head v e = record {
    low = omega (arith, last_low rs c (length rs));
    on = λ pos. ap (λ u. chain_at rs (u - 1)) e ∙ last_on rs c (length rs) (omega arith);
    none = λ p le lt is _. last_skips rs c (length rs) p (omega arith) lt is;
  }

  -- a link leads down
  pub walk_falls : (v : ℕ) → 0 < v → LinksLead rs → Walked rs c s v → link_at rs (v - 1) < v
  walk_falls v pos links w =
      let below : v - 1 < length rs = omega (arith, w.low) in
      omega (arith, links (v - 1) below, last_low rs (chain_at rs (v - 1)) (v - 1))

  -- the set at the link is not contained in `s`
  pub walk_on : (v : ℕ) → 0 < v → LinksLead rs → (bits (set_at rs (v - 1)) ⊆ bits s → ⊥) → Walked rs c s v
      → Walked rs c s (link_at rs (v - 1))
  walk_on v pos links out w =
      let p : ℕ = v - 1 in
      let below : p < length rs = omega (arith, w.low) in
      let next : link_at rs p ≡ last rs c p = links p below ∙ ap (λ d. last rs d p) (w.on pos) in
      let bound = last_low rs c p in
      record {
        low = omega arith;
        on = λ more. ap (λ u. chain_at rs (u - 1)) next ∙ last_on rs c p (omega arith);
        none = λ q le lt is sub. elim (cases_eq q p) [
          | inl e ↦ out (subst (λ j. bits (set_at rs j) ⊆ bits s) e sub)
          | inr ne ↦ elim (cases_lt q p) [
            | inl under ↦ last_skips rs c p q (omega arith) under is
            | inr over ↦ w.none q (omega arith) lt is sub
          ]
        ];
      }

  -- the atoms that the run at the link shares are not all in `s`
  pub walk_past : (v : ℕ) → 0 < v → Runs rs → (bits (get_or rs (v - 1) blank).common ⊆ bits s → ⊥) → Walked rs c s v
      → Walked rs c s (get_or rs (v - 1) blank).skip
  walk_past v pos runs out w =
      let p : ℕ = v - 1 in
      let below : p < length rs = omega (arith, w.low) in
      let run : RunOf rs p (get_or rs p blank) = runs p below in
      let here : chain_at rs p ≡ c = w.on pos in
      record {
        low = omega (arith, run.0.low);
        on = λ more. run.0.on more ∙ here;
        none = λ q le lt is sub. elim (cases_lt q p) [
          | inl under ↦ out (λ a h. sub a (run.0.all q le under (is ∙ sym here) a h))
          | inr over ↦ elim (cases_eq q p) [
            | inl e ↦ out (λ a h. sub a (subst (λ j. has (bits (set_at rs j)) a) (sym e) (run.1 a h)))
            | inr ne ↦ w.none q (omega arith) lt is sub
          ]
        ];
      }

  -- the set at the link is contained in `s`
  pub walk_finds : (v : ℕ) → 0 < v → bits (set_at rs (v - 1)) ⊆ bits s → Walked rs c s v → Holds (sets_of rs) s
  walk_finds v pos sub w =
      let below : v - 1 < length rs = omega (arith, w.low) in
      let within : v - 1 < length (sets_of rs) = omega (arith, length-map rs (λ r. r.set)) in (
        set_at rs (v - 1),
        subst (λ t. Memᴰ t (sets_of rs)) (sets_at rs (v - 1) (set_at rs (v - 1)) below) (member_at (sets_of rs) (v - 1) (set_at rs (v - 1)) within),
        sub,
      )

  -- the chain is at its end
  pub walk_ends : (v : ℕ) → v ≤ 0 → Walked rs c s v → NoneIn (sets_of rs) c s
  walk_ends v end w t among is sub =
      let place = member_place t t (sets_of rs) among in
      let below : place.0 < length rs = omega (arith, length-map rs (λ r. r.set), place.1) in
      let same : set_at rs place.0 ≡ t = sym (sets_at rs place.0 t below) ∙ place.2 in
      w.none place.0 (omega arith) below (ap chain_of same ∙ is) (subst (λ u. bits u ⊆ bits s) (sym same) sub)

-- at the link `v`, where the record `r` is read
module _ {rs xs : List ShelfRecord} {c v : ℕ} {s : AtomSet} {r : ShelfRecord} (same : xs ≡ rs) (pos : 0 < v) (w : Walked rs c s v) (is : r ≡ get_or xs (v - 1) r) where
  there : r ≡ get_or rs (v - 1) blank
  there = read_at xs rs (v - 1) r same (omega (arith, w.low)) is

  pub goes_on : LinksLead rs → Outside s r.set → Walked rs c s r.link
  goes_on links out = rw there (walk_on rs c s v pos links (not_contained s _ (subst (λ x. Outside s x.set) there out)) w)

  pub goes_past : Runs rs → Outside s r.common → Walked rs c s r.skip
  goes_past runs out = rw there (walk_past rs c s v pos runs (not_contained s _ (subst (λ x. Outside s x.common) there out)) w)

  pub link_falls : LinksLead rs → r.link < v
  link_falls links = rw there (walk_falls rs c s v pos links w)

  pub skip_falls : Runs rs → r.skip < v
  skip_falls runs =
      let below : v - 1 < length rs = omega (arith, w.low) in
      rw there (omega (arith, (runs (v - 1) below).0.low))

  pub finds : bits r.set ⊆ bits s → Holds (sets_of rs) s
  finds sub = walk_finds rs c s v pos (subst (λ x. bits x.set ⊆ bits s) there sub) w
