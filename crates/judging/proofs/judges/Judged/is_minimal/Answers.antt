use Rattle.std.proofs.Common.{List, ap, ◌∙◌, subst}
use Rattle.clauses.specs.declared.clauses.Clause.{Clause}
use Rattle.judging.proofs.Asked.{minimal_searched}
use Rattle.judging.specs.Standing.{judged_by}
use Rattle.layers.specs.Capped.{capped_clauses}
use Rattle.layers.specs.Laws.{Caps}
use Rattle.layers.specs.Standing.{observed_clauses}
use Rattle.lists.specs.Items.{items}
use Rattle.judging.proofs.judges.Judged.is_minimal.Goals as goal

pub returns : goal.returns
returns g c =
    let f = g.S.Source.clauses in
    let set = c.args.self.now.set in
    let cs = judged_by f c.args.self.now in
    let under = capped_clauses (λ s. observed_clauses f s.now) c.set_cap.new.self in
    let below = ap (λ s. observed_clauses f s.now) (c.set_cap.ensures.below ∙ c.new-capped.ensures.below) ∙ ap (observed_clauses f) c.observed.ensures in
    minimal_searched set cs under (subst (λ (ds : List Clause). Caps set ds under) below c.set_cap.ensures.models)
    (c.is_model.ensures.0 c.if-not-is_model.false)
    (items c.new-shelf.result) c.next.result c.is_none.result c.new-walk.result c.next.new.self c.new-shelf.ensures.empty
    c.is_none.ensures c.next.ensures.fresh (c.new-walk.ensures under) c.next.ensures.reached
