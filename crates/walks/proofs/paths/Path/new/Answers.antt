use Rattle.std.proofs.Common.{ap}
use Rattle.std.specs.Prelude.{reverse}
use Rattle.walks.proofs.Records.{each_none}
use Rattle.walks.proofs.paths.Path.new.Goals as goal

pub invariant_of-result : goal.invariant_of-result
invariant_of-result c =
    let none = ap reverse c.new.ensures in
    record { live = each_none _ _ none; sized = each_none _ _ none; apart = each_none _ _ none }
