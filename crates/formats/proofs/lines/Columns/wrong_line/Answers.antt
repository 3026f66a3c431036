use Rattle.std.proofs.Common.{◌*◌, arith, rules, tests}
use Rattle.std.proofs.lemmas.Iterator.{IsFirst-from_position}
use Rattle.formats.proofs.Cells.{LineOf, first_wrong}
use Rattle.formats.proofs.Pieces.{YieldsList-from_chunks}
use Rattle.formats.proofs.lines.Columns.wrong_line.Goals as goal

pub returns : goal.returns
returns c =
    let n = c.args.self.names in
    let text = c.args.text.now in
    first_wrong n text (omega arith) c.position.result
    (IsFirst-from_position _ _ c.position.result (λ l. LineOf n l → ⊥) (LineOf n) c.position.ensures.ran (YieldsList-from_chunks (2 * n) (omega arith) text (cc) (cc))
    (λ x q k. search (rules, tests)) (λ x q k. search (rules, tests)))
