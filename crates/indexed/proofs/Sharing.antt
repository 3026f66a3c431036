-- Runs of a chain, and that one set more keeps what they share.
use Rattle.std.proofs.Common.{◌≡◌, ℕ, ◌-◌, ◌<◌, ◌≤◌, List, [], ◌∷◌, ◌++◌, length, get_or, replicate, set, sym, refl, ap, ◌∙◌, subst, inl, inr, arith}
use Rattle.atoms.specs.Atoms.{bits}
use Rattle.atoms.specs.Sets.{◌⊆◌, has}
use Rattle.atoms.specs.declared.AtomSet.{AtomSet}
use Rattle.indexed.proofs.Kept.{chain_below}
use Rattle.indexed.proofs.Links.{heads_more, heads_none, last_low, last_on, last_skips, links_more, links_none, new_at, old_at}
use Rattle.indexed.specs.Chains.{HeadsLead, LinksLead, RunsShare, Shared, SkipsFall, SkipsLead, blank, chain_at, chain_of, last, set_at}
use Rattle.indexed.specs.declared.IndexedShelf.{IndexedShelf}
use Rattle.indexed.specs.declared.record.ShelfRecord.{ShelfRecord}
use Rattle.lists.specs.Items.{items}
use Rattle.std.proofs.lemmas.List.{length_push}
use Rattle.std.proofs.lemmas.Bool.{cases_eq, cases_lt}

-- the run that ends with the record `r` at the position `p`: those before it, and its own set
abbrev pub RunOf : List ShelfRecord → ℕ → ShelfRecord → Type 0
RunOf rs p r = Shared rs (chain_of r.set) p r.common r.skip × (bits r.common ⊆ bits r.set)

-- and so for each record
abbrev pub Runs : List ShelfRecord → Type 0
Runs rs = (p : ℕ) → p < length rs → RunOf rs p (get_or rs p blank)

pub runs_from : (rs : List ShelfRecord) → SkipsFall rs → SkipsLead rs → RunsShare rs → Runs rs
runs_from rs falls leads shares p lt = (
  record {
    low = falls p lt;
    on = leads p lt;
    all = λ q since under is a h. shares (record { end = p; place = q; atom = a; within = lt; from = since; upto = omega arith; on = is; common = h });
  },
  λ a h. shares (record { end = p; place = p; atom = a; within = lt; from = falls p lt; upto = omega arith; on = refl; common = h }),
)

pub falls_from : (rs : List ShelfRecord) → Runs rs → SkipsFall rs
falls_from rs runs p lt = (runs p lt).0.low

pub leads_from : (rs : List ShelfRecord) → Runs rs → SkipsLead rs
leads_from rs runs p lt = (runs p lt).0.on

pub shares_from : (rs : List ShelfRecord) → Runs rs → RunsShare rs
shares_from rs runs w = elim (cases_eq w.place w.end) [
  | inl e ↦ subst (λ j. has (bits (set_at rs j)) w.atom) (sym e) ((runs w.end w.within).1 w.atom w.common)
  | inr ne ↦ (runs w.end w.within).0.all w.place w.from (omega (arith, w.upto)) w.on w.atom w.common
]

module _ (rs : List ShelfRecord) (c : ℕ) where
  -- no set of the chain stands after its last
  pub run_none : (k : AtomSet) (v : ℕ) → v ≡ last rs c (length rs) → Shared rs c (length rs) k v
  run_none k v e = record {
    low = omega (arith, last_low rs c (length rs));
    on = λ pos. ap (λ u. chain_at rs (u - 1)) e ∙ last_on rs c (length rs) (omega arith);
    all = λ p le lt is. absurd (last_skips rs c (length rs) p (omega arith) lt is);
  }

  module _ (runs : Runs rs) (k : AtomSet) (v : ℕ) (s : Shared rs c (length rs) k v) (pos : 0 < v) where
    before : ShelfRecord
    before = get_or rs (v - 1) blank

    below : v - 1 < length rs
    below = omega (arith, s.low)

    pub run_low : (get_or rs (v - 1) blank).skip < v
    run_low = omega (arith, (runs (v - 1) below).0.low)

    -- the run before it is taken in
    pub run_more : (j : AtomSet) → bits j ⊆ bits k → bits j ⊆ bits (get_or rs (v - 1) blank).common
        → Shared rs c (length rs) j (get_or rs (v - 1) blank).skip
    run_more j of_k of_run =
        let run : RunOf rs (v - 1) (get_or rs (v - 1) blank) = runs (v - 1) below in
        let here : chain_at rs (v - 1) ≡ c = s.on pos in
        record {
          low = omega (arith, run.0.low);
          on = λ more. run.0.on more ∙ here;
          all = λ p le lt is a h. elim (cases_lt p (v - 1)) [
            | inl under ↦ run.0.all p le under (is ∙ sym here) a (of_run a h)
            | inr over ↦ elim (cases_eq p (v - 1)) [
              | inl e ↦ subst (λ i. has (bits (set_at rs i)) a) (sym e) (run.1 a (of_run a h))
              | inr ne ↦ s.all p (omega arith) lt is a (of_k a h)
            ]
          ];
        }

-- with no set, there is no run
pub runs_none : Runs []
runs_none p lt = absurd (omega arith)

-- the record `x` comes to stand at the end
module _ (rs : List ShelfRecord) (x : ShelfRecord) where
  -- the sets before it are as they were
  run_kept : (c m : ℕ) (k : AtomSet) (v : ℕ) → m ≤ length rs → Shared rs c m k v → Shared (rs ++ x ∷ []) c m k v
  run_kept c m k v le s = record {
    low = s.low;
    on = λ pos. ap (λ r. chain_of r.set) (old_at rs x (v - 1) (omega (arith, s.low))) ∙ s.on pos;
    all = λ p from lt is a h.
        let same = old_at rs x p (omega arith) in
        subst (λ r. has (bits r.set) a) (sym same) (s.all p from lt (sym (ap (λ r. chain_of r.set) same) ∙ is) a h);
  }

  pub runs_more : RunOf rs (length rs) x → Runs rs → Runs (rs ++ x ∷ [])
  runs_more new old p lt = elim (cases_eq p (length rs)) [
    | inl e ↦
        subst (λ i. RunOf (rs ++ x ∷ []) i (get_or (rs ++ x ∷ []) i blank)) (sym e)
        (subst (RunOf (rs ++ x ∷ []) (length rs)) (sym (new_at rs x))
        (run_kept (chain_of x.set) (length rs) x.common x.skip (omega arith) new.0, new.1))
    | inr ne ↦
        let below : p < length rs = omega (arith, length_push rs x) in
        let r : ShelfRecord = get_or rs p blank in
        subst (RunOf (rs ++ x ∷ []) p) (sym (old_at rs x p below))
        (run_kept (chain_of r.set) p r.common r.skip (omega arith) (old p below).0, (old p below).1)
  ]

-- what the heads and the records of a shelf keep
abbrev pub Chained : List ℕ → List ShelfRecord → Type 0
Chained hs rs = record { first : HeadsLead hs rs; further : LinksLead rs; falls : SkipsFall rs; back : SkipsLead rs; shared : RunsShare rs }

pub chained_of : (s : IndexedShelf) → Chained s.heads (items s.records)
chained_of s = record { first = s.first; further = s.further; falls = s.falls; back = s.back; shared = s.shared }

pub runs_of : (s : IndexedShelf) → Runs (items s.records)
runs_of s = runs_from (items s.records) s.falls s.back s.shared

pub chained_none : (rs : List ShelfRecord) → rs ≡ [] → Chained (replicate 65 0) rs
chained_none rs e =
    subst (Chained (replicate 65 0)) (sym e) (record {
      first = heads_none;
      further = links_none;
      falls = falls_from [] runs_none;
      back = leads_from [] runs_none;
      shared = shares_from [] runs_none;
    })

-- the record `x` comes to stand at the end
pub chained_more : (hs : List ℕ) (rs after : List ShelfRecord) (k n : ℕ) (x : ShelfRecord) → after ≡ rs ++ x ∷ [] → n ≡ length after → length hs ≡ 65 → k ≡ chain_of x.set
    → x.link ≡ get_or hs k 0 → RunOf rs (length rs) x → Chained hs rs → Chained (set hs k n) after
chained_more hs rs after k n x e count wide is leads run old =
    let below : k < length hs = omega (arith, chain_below x.set) in
    let runs = runs_more rs x run (runs_from rs old.falls old.back old.shared) in
    let all = rs ++ x ∷ [] in
    subst (Chained (set hs k n)) (sym e) (record {
      first = heads_more rs x hs k n is below (count ∙ ap length e ∙ length_push rs x) old.first;
      further = links_more rs x hs (chain_below x.set) (leads ∙ ap (λ j. get_or hs j 0) is) old.first old.further;
      falls = falls_from all runs;
      back = leads_from all runs;
      shared = shares_from all runs;
    })
