use Rattle.std.proofs.Common.{◌≡◌, length, take, drop, ap, ◌∙◌, arith}
use Rattle.std.proofs.lemmas.List.{take_at}
use Rattle.explaining.proofs.Printed.{is_written, prints}
use Rattle.explaining.proofs.printing.print_report.Goals as goal

pub unwrap-size-requires : goal.unwrap-size-requires
unwrap-size-requires g c =
    let line = (rw c.unwrap-names.ensures at c.names_line.ensures).1 in
    is_written c.requires.0 _ c.requires.1 c.unwrap-names.result.now line c.deref_mut.result.now c.write_report.new.out
    c.write_report.result (omega (arith, c.deref_mut.ensures.len, c.in_ok-out.ensures.len)) c.write_report.ensures

pub returns : goal.returns
returns g c =
    let line = (rw c.unwrap-names.ensures at c.names_line.ensures).1 in
    let out = c.in_ok-out.out in
    let after = c.write_report.new.out in
    let long : length after ≡ out.len = omega (arith, c.write_report.auto.out, c.deref_mut.ensures.len) in
    prints c.requires.0 _ c.requires.1 c.unwrap-names.result.now line c.deref_mut.result.now after c.truncate.new.self.items
    c.write_report.result c.unwrap-size.result c.unwrap-size.ensures c.write_report.ensures
    (c.truncate.ensures.items ∙ ap (take c.unwrap-size.result) (take_at after (drop (length after) out.items) out.len long))
