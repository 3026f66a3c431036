use Rattle.std.proofs.Common.{[], ◌∷◌, rules}
use Rattle.lists.proofs.Fills.{front_is}
use Rattle.shelf_tests.proofs.callers.lend.Goals as goal

pub returns : goal.returns
returns c =
    let front = front_is c.keep_alone.new.shelf (c.args.set ∷ []) c.in_ok-keep_alone.ensures.answer in
    search rules
