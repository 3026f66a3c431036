-- What a lender knows of its memory, and the step of a loop that pushes.
use Rattle.std.proofs.Common.{◌≡◌, ◌+◌, ◌<◌, ◌≤◌, List, [], ◌∷◌, ◌++◌, length, take, drop, set, sym, refl, ap, ◌∙◌, arith}
use Rattle.lists.specs.Items.{Filled, Pushed, cells, items}
use Rattle.lists.specs.declared.BoundedList.{BoundedList}
use Rattle.std.proofs.lemmas.List.{append_assoc, drop_more, length_push, length-take-le, set_at}

-- the memory begins with the list
pub front_is : {T : Type 0} (l : BoundedList T) (xs : List T) → items l ≡ xs → take (length xs) (cells l) ≡ xs
front_is l xs e =
    let within : l.len ≤ length (cells l) = let fits = l.fits in omega arith in
    ap (λ n. take n (cells l)) (sym (ap length e) ∙ length-take-le l.len (cells l) within) ∙ e

-- a memory that begins with `xs`, written at the place after them
written_next : {T : Type 0} (before xs : List T) (x : T) → length xs < length before
    → set (xs ++ drop (length xs) before) (length xs) x ≡ (xs ++ x ∷ []) ++ drop (length (xs ++ x ∷ [])) before
written_next before xs x h =
    ap (λ rest. set (xs ++ rest) (length xs) x) (drop_more before (length xs) x h)
    ∙ set_at xs _ (drop (length xs + 1) before) x (length xs) refl
    ∙ sym (append_assoc xs (x ∷ []) (drop (length xs + 1) before))
    ∙ ap (λ n. (xs ++ x ∷ []) ++ drop n before) (sym (length_push xs x))

-- one push more
pub filled_push : {T : Type 0} (before xs : List T) (l m : BoundedList T) (x : T)
    → length xs < length before → Filled before xs l → Pushed l x m → Filled before (xs ++ x ∷ []) m
filled_push before xs l m x h f p = record {
  holds = p.at_end ∙ ap (λ ys. ys ++ x ∷ []) f.holds;
  memory = p.written
      ∙ ap (λ ys. set (cells l) (length ys) x) f.holds
      ∙ ap (λ ys. set ys (length xs) x) f.memory
      ∙ written_next before xs x h;
}
