use Rattle.std.proofs.Common.{◌∙◌}
use Rattle.atoms.specs.Atoms.{bits}
use Rattle.walks.proofs.Presents.{denies, leads}
use Rattle.walks.proofs.branches.Branch.present.Goals as goal

pub returns-then-intersects : goal.returns-then-intersects
returns-then-intersects c a l =
    denies c.args.self.now (bits c.without_least-later.result) (bits c.difference-least.result) c.without_least-later.ensures
    c.difference-least.ensures.value c.intersects.result c.intersects.ensures a l ∙ c.if-intersects.true

pub returns : goal.returns
returns c a l =
    let b = c.args.self.now in
    let later = bits c.without_least-later.result in
    let least = bits c.difference-least.result in (
      leads b later least c.without_least-later.ensures c.difference-least.ensures.value c.intersects.result c.intersects.ensures a l
          (bits c.union.result) (bits c.union-2.result) c.union.ensures.value c.union-2.ensures.value,
      denies b later least c.without_least-later.ensures c.difference-least.ensures.value c.intersects.result c.intersects.ensures a l
          ∙ c.if-intersects.false,
    )
