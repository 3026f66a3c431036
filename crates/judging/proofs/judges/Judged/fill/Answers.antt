use Rattle.std.proofs.Common.{List, sym, refl, ap, ◌∙◌, subst, arith, rules}
use Rattle.atoms.proofs.Values.{size_at_most}
use Rattle.atoms.specs.Atoms.{bits, index}
use Rattle.atoms.specs.Members.{atoms_left}
use Rattle.judging.proofs.Filling.{filled_more, filled_none, front_found}
use Rattle.judging.proofs.Reasoned.{Progress, progress_all, progress_has, progress_more, progress_none, progress_short, reason_there}
use Rattle.judging.specs.Standing.{judged_by}
use Rattle.judging.specs.declared.records.Reason.{Reason}
use Rattle.lists.specs.Items.{Filled, items}
use Rattle.judging.proofs.judges.Judged.fill.Goals as goal

pub loop-atom-init : goal.loop-atom-init
loop-atom-init g c =
    let cs = judged_by g.S.Source.clauses c.args.self.now in
    let list = c.new-list.result in
    record {
      growing =
          progress_none cs c.args.self.now.set _ (items list)
          (ap atoms_left c.into_iter-atom-iterator.ensures.into_iter_gives ∙ c.iter-atom-items.ensures) c.new-list.ensures.empty;
      filled = filled_none list c.new-list.ensures.empty;
      room = refl;
      lender = refl;
    }

pub loop-atom-preserved : goal.loop-atom-preserved
loop-atom-preserved g c =
    let cs = judged_by g.S.Source.clauses c.args.self.now in
    let set = c.args.self.now.set in
    let list = c.loop-atom.list in
    let pushed = c.in_ok-push.ensures in
    let more =
    progress_more cs set _ c.in-Some.atom (atoms_left c.next.new.self) (items list) c.unwrap.result c.in-Some.ensures.steps
    c.loop-atom.invariant.growing (rw c.unwrap.ensures at c.reason_of.ensures) in
    record {
      growing =
          subst (λ (rs : List Reason). Progress cs set (atoms_left c.next.new.self) rs) (sym pushed.answer.at_end) more;
      filled =
          filled_more c.new-list.result list c.push.new.self c.unwrap.result c.loop-atom.invariant.room c.loop-atom.invariant.filled
          pushed.answer;
      room = pushed.places ∙ c.loop-atom.invariant.room;
      lender = pushed.lender ∙ c.loop-atom.invariant.lender;
    }

-- each atom has a reason
pub unwrap-requires : goal.unwrap-requires
unwrap-requires g c =
    let cs = judged_by g.S.Source.clauses c.args.self.now in
    let set = c.args.self.now.set in
    let atom = c.in-Some.atom in
    let here = progress_has cs set _ atom _ (items c.loop-atom.list) c.in-Some.ensures.steps c.loop-atom.invariant.growing in
    reason_there cs (bits set) atom c.reason_of.result c.reason_of.ensures (c.requires.reasons (index atom) here)

-- there is a place for each
pub returns-in_err-push : goal.returns-in_err-push
returns-in_err-push g c =
    let cs = judged_by g.S.Source.clauses c.args.self.now in
    let set = c.args.self.now.set in
    let list = c.loop-atom.list in
    let short = progress_short cs set _ c.in-Some.atom _ (items list) c.in-Some.ensures.steps c.loop-atom.invariant.growing in
    let full = c.in_err-push.ensures.answer.was_full in
    let same = c.loop-atom.invariant.room in
    let places = c.new-list.ensures.places in
    let fits = c.requires.room in
    absurd (omega (arith, size_at_most set))

pub returns : goal.returns
returns g c =
    let cs = judged_by g.S.Source.clauses c.args.self.now in
    let set = c.args.self.now.set in
    let list = c.loop-atom.list in
    let names = c.loop-atom.invariant.lender ∙ c.new-list.ensures.lender in
    let filled : Filled c.args.records.now (items list) list =
    subst (λ (before : List Reason). Filled before (items list) list) c.new-list.ensures.untouched c.loop-atom.invariant.filled in
    front_found cs (bits set) c.args.records.now _ list c.len.result (search rules) c.len.ensures filled
    (progress_all cs set _ (items list) c.in-None.ensures.steps.0 c.loop-atom.invariant.growing)
