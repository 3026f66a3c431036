-- Each turn pushes one element more; at the end the list is all of them.
use Rattle.std.proofs.Common.{◌<◌, length, get_or, take, sym, ap, ◌∙◌, subst, arith, rules}
use Rattle.lists.proofs.Fills.{filled_push}
use Rattle.lists.specs.Items.{Filled, cells}
use Rattle.shelf_tests.proofs.callers.list_all.Goals as goal
use Rattle.std.proofs.lemmas.List.{take_all, take_more}

pub loop-element-preserved : goal.loop-element-preserved
loop-element-preserved c =
    let xs = c.args.elements.now in
    let i = c.loop-element.element-index in
    let before = cells c.new-list.result in
    let list = c.loop-element.list in
    let after = c.push.new.self in
    let inv = c.loop-element.invariant in
    let pushed = c.in_ok-push.ensures.answer in
    let same = ap length inv.0.holds in
    let place : length (take i xs) < length before = omega (arith, pushed.had_place, inv.1) in
    let filled = filled_push before (take i xs) list after (get_or xs i 0) place inv.0 pushed in (
      subst (λ ys. Filled before ys after) (sym (take_more xs i 0 c.loop-element-test.true)) filled,
      c.push.ensures.places ∙ inv.1,
      c.push.ensures.lender ∙ inv.2,
    )

pub returns : goal.returns
returns c =
    let all = take_all c.loop-element.element-index c.args.elements.now c.loop-element-test.false in
    let memory = c.loop-element.invariant.0.memory in
    let lender = c.loop-element.invariant.2 in
    search rules
