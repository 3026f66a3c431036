-- The list of reasons in the memory of its lender.
use Rattle.std.proofs.Common.{◌≡◌, ℕ, ◌<◌, List, [], ◌++◌, length, take, drop, sym, refl, ap, ◌∙◌, subst, arith}
use Rattle.clauses.specs.declared.clauses.Clause.{Clause}
use Rattle.judging.specs.Reasons.{Complete, Front}
use Rattle.judging.specs.declared.records.Reason.{Reason}
use Rattle.lists.proofs.Fills.{filled_push, front_is}
use Rattle.lists.specs.Items.{Filled, Pushed, cells, items, room}
use Rattle.lists.specs.declared.BoundedList.{BoundedList}
use Rattle.std.proofs.lemmas.List.Prefix.{front_rest}

-- an empty list has its memory as it was
pub filled_none : {T : Type 0} (l : BoundedList T) → items l ≡ [] → Filled (cells l) (items l) l
filled_none {T} l e =
    record { holds = refl; memory = subst (λ (xs : List T). cells l ≡ xs ++ drop (length xs) (cells l)) (sym e) refl }

-- one push more, in the memory of the list `first`
pub filled_more : {T : Type 0} (first l m : BoundedList T) (x : T) → room l ≡ room first
    → Filled (cells first) (items l) l → Pushed l x m → Filled (cells first) (items m) m
filled_more {T} first l m x same f p =
    let place = p.had_place in
    let lt : length (items l) < length (cells first) = omega arith in
    subst (λ (xs : List T). Filled (cells first) xs m) (sym p.at_end) (filled_push (cells first) (items l) l m x lt f p)

-- what the lender finds: the list, and past it the memory as it was
pub front_found : (cs : List Clause) (s : ℕ) (before after : List Reason) (l : BoundedList Reason) (n : ℕ)
    → after ≡ cells l → n ≡ length (items l) → Filled before (items l) l → Complete cs s (items l) → Front cs s before after n
front_found cs s before after l n e k f complete =
    let front : take n after ≡ items l =
    ap (λ (i : ℕ). take i after) k ∙ ap (λ (xs : List Reason). take (length (items l)) xs) e ∙ front_is l (items l) refl in
    let rest : drop n after ≡ drop n before =
    ap (λ (i : ℕ). drop i after) k
    ∙ front_rest after (items l) (drop (length (items l)) before) (e ∙ f.memory)
    ∙ ap (λ (i : ℕ). drop i before) (sym k) in
    record {
      count = k ∙ complete.many;
      reasons = subst (λ (xs : List Reason). Complete cs s xs) (sym front) complete;
      rest = rest;
    }
