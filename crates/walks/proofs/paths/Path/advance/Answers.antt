use Rattle.std.proofs.Common.{◌≡◌, ◌<◌, ◌-◌, [], ◌∷◌, ◌++◌, length, get_or, sym, ap, ◌∙◌, arith}
use Rattle.std.specs.Prelude.{reverse}
use Rattle.std.proofs.lemmas.Bool.{eqb-false, eqb-true}
use Rattle.std.proofs.lemmas.List.{nil_from_length}
use Rattle.atoms.specs.Atoms.{bits}
use Rattle.atoms.specs.Sets.{meet, size}
use Rattle.walks.specs.Branches.{narrowed}
use Rattle.walks.specs.Walks.{stack}
use Rattle.walks.proofs.Records.{advanced_next, advanced_over, advanced_pop, deepest, each_above, each_deeper, each_deepest, front, last_of, lent, popped, rest_apart, written}
use Rattle.walks.proofs.paths.Path.advance.Goals as goal

pub invariant_of-self-then-not-is_empty : goal.invariant_of-self-then-not-is_empty
invariant_of-self-then-not-is_empty c =
    let p = c.loop-self.self in
    let v = p.branches in
    let ys = c.as_mut_slice.result.now in
    let is = c.as_mut_slice.ensures.value in
    let d = c.index-top.result in
    let b = get_or ys (length ys - 1) d in
    let x = c.without_least-top.result in
    let some = c.in-len1-up.len_at_least in
    let xs = front v ys is in
    let e = last_of v ys is d some in
    let r = narrowed b x in
    let e' = written v ys is d some r in
    let left : 0 < bits x = omega (arith, eqb-false (bits x) 0 (sym c.if-not-is_empty.ensures.value)) in
    record {
      live = each_deeper xs _ r e' (λ x st. 0 < bits x.left) left (each_above xs _ b e (λ x st. 0 < bits x.left) p.live);
      sized = each_deeper xs _ r e' (λ x st. size (bits x.node.taken) ≡ length st) (each_deepest xs _ b e (λ x st. size (bits x.node.taken) ≡ length st) p.sized) (each_above xs _ b e (λ x st. size (bits x.node.taken) ≡ length st) p.sized);
      apart =
          each_deeper xs _ r e' (λ x st. meet (bits x.node.taken) (bits x.left) ≡ 0) (rest_apart (stack p) (reverse xs) b (deepest xs v.items b e) x c.without_least-top.ensures p.live p.apart)
          (each_above xs _ b e (λ x st. meet (bits x.node.taken) (bits x.left) ≡ 0) p.apart);
    }

pub returns-then-not-is_empty-clause-records : goal.returns-then-not-is_empty-clause-records
returns-then-not-is_empty-clause-records c =
    let p = c.loop-self.self in
    let v = p.branches in
    let ys = c.as_mut_slice.result.now in
    let is = c.as_mut_slice.ensures.value in
    let d = c.index-top.result in
    let b = get_or ys (length ys - 1) d in
    let x = c.without_least-top.result in
    let some = c.in-len1-up.len_at_least in
    let xs = front v ys is in
    let e = last_of v ys is d some in
    let left : 0 < bits x = omega (arith, eqb-false (bits x) 0 (sym c.if-not-is_empty.ensures.value)) in
    c.loop-self.invariant _
    (advanced_next (stack p) (reverse xs) b (deepest xs v.items b e) x c.without_least-top.ensures _
    (deepest xs _ (narrowed b x) (written v ys is d some (narrowed b x))) left)

pub invariant_of-self-in-len1-up : goal.invariant_of-self-in-len1-up
invariant_of-self-in-len1-up c =
    let p = c.loop-self.self in
    let v = p.branches in
    let ys = c.as_mut_slice.result.now in
    let is = c.as_mut_slice.ensures.value in
    let d = c.index-top.result in
    let b = get_or ys (length ys - 1) d in
    let x = c.without_least-top.result in
    let some = c.in-len1-up.len_at_least in
    let xs = front v ys is in
    let e = last_of v ys is d some in
    let e' = e ∙ ap (λ zs. zs ++ b ∷ []) (sym (popped v ys is d some (narrowed b x) _ c.pop.ensures.rest)) in
    record { live = each_above _ _ b e' (λ x st. 0 < bits x.left) p.live; sized = each_above _ _ b e' (λ x st. size (bits x.node.taken) ≡ length st) p.sized; apart = each_above _ _ b e' (λ x st. meet (bits x.node.taken) (bits x.left) ≡ 0) p.apart }

pub loop-self-preserved : goal.loop-self-preserved
loop-self-preserved c =
    let p = c.loop-self.self in
    let v = p.branches in
    let ys = c.as_mut_slice.result.now in
    let is = c.as_mut_slice.ensures.value in
    let d = c.index-top.result in
    let b = get_or ys (length ys - 1) d in
    let x = c.without_least-top.result in
    let some = c.in-len1-up.len_at_least in
    let xs = front v ys is in
    let e = last_of v ys is d some in
    let e' = e ∙ ap (λ zs. zs ++ b ∷ []) (sym (popped v ys is d some (narrowed b x) _ c.pop.ensures.rest)) in
    let none = eqb-true (bits x) 0 (sym c.if-not-is_empty.ensures.value) in
    λ st a. c.loop-self.invariant st (advanced_pop (stack p) _ b (deepest _ v.items b e') x c.without_least-top.ensures st none a)

pub returns-clause-records : goal.returns-clause-records
returns-clause-records c =
    let p = c.loop-self.self in
    let v = p.branches in
    let ys = c.as_mut_slice.result.now in
    let is = c.as_mut_slice.ensures.value in
    let none = ap reverse (nil_from_length v.items (omega (arith, ap length is, c.in_default.len_below))) in
    c.loop-self.invariant _ (advanced_over (stack p) _ none (ap reverse (lent v ys is) ∙ none))
