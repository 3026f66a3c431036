use Rattle.std.proofs.Common.{◌≡◌, ℕ, ◌<◌, List, length, get_or, take, Option, sym, refl, ap, ◌∙◌, subst, arith}
use Rattle.std.proofs.Math.Seq.{map-set_same}
use Rattle.clauses.specs.declared.clauses.Clause.{Clause}
use Rattle.histories.specs.Answers.{call_of}
use Rattle.histories.specs.Phases.{onwards, Phase, phase_after, Right, Rightly}
use Rattle.histories.specs.States.{Agrees, below_of}
use Rattle.histories.specs.declared.calls.Answer.{Answer}
use Rattle.histories.specs.declared.calls.Call.{Call}
use Rattle.histories.specs.declared.calls.Entry.{Entry}
use Rattle.histories.specs.declared.states.State.TheVariants.{AtRest}
use Rattle.histories.proofs.Replayed.{lawful_set, phase_set, rest_set}
use Rattle.histories.proofs.replays.run.Goals as goal

pub loop-i-preserved : goal.loop-i-preserved
loop-i-preserved g c =
    let f = g.S.Source.clauses in
    let h = g.H.Shelf in
    let l = c.loop-i in
    let q = c.perform-next in
    let r = c.in-Some.answer in
    let call : Call = (get_or l.entries l.i c.index-entries-i.result).call in
    let e : Entry = record { call = call; answer = r } in
    let within : l.i < length l.entries = omega (arith, c.loop-i-test.true, l.auto.entries) in
    let p = phase_after (take l.i l.entries) in
    let below : below_of q.result.0 ≡ below_of l.state = q.ensures.below in
    let cs = f (below_of (AtRest c.new.result)) in
    let places = h.room c.args.shelf.now in
    let right : Right cs places p call r =
    subst (λ (n : ℕ). Right cs n p call r) l.invariant.1
    (subst (λ (xs : List Clause). Right xs (h.room l.shelf) p call r) (ap f l.invariant.0)
    (subst (λ (o : Option Answer). Rightly (f (below_of l.state)) (h.room l.shelf) p call o) c.in-Some.is (q.ensures.right p l.invariant.6))) in (
      below ∙ l.invariant.0,
      q.ensures.room ∙ l.invariant.1,
      q.ensures.lender ∙ l.invariant.2,
      map-set_same call_of l.entries l.i e c.index-entries-i.result refl ∙ l.invariant.3,
      rest_set l.entries c.args.entries.now l.i e l.invariant.4,
      lawful_set l.entries l.i e within cs places l.invariant.5 right,
      subst (λ (x : Phase). Agrees f q.result.0 (h.sets q.new.shelf) x) (sym (phase_set l.entries l.i e within))
          (subst (λ (o : Option Answer). Agrees f q.result.0 (h.sets q.new.shelf) (onwards p call o)) c.in-Some.is (q.ensures.agrees p l.invariant.6)),
    )
