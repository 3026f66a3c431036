use Rattle.std.proofs.Common.{◌≡◌}
use Rattle.atoms.specs.Members.{atoms_left}
use Rattle.judging.proofs.Reasoned.{Progress}
use Rattle.judging.specs.Standing.{judged_by}
use Rattle.lists.specs.Items.{Filled, cells, items, lender, room}
use Rattle.judging.proofs.judges.Judged.fill.Given as goal

-- the list has the reasons of the atoms that are passed, and past it the memory is as it was
abbrev pub invariant-loop-atom : goal.invariant-loop-atom
invariant-loop-atom g l = record {
  growing : Progress (judged_by g.S.Source.clauses l.self) l.self.set (atoms_left l.atom-iterator) (items l.list);
  filled : Filled (cells l.initial.list) (items l.list) l.list;
  room : room l.list ≡ room l.initial.list;
  lender : lender l.list ≡ lender l.initial.list;
}
