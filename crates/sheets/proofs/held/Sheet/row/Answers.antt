use Rattle.std.proofs.Common.{◌+◌, ◌*◌, arith}
use Rattle.std.proofs.lemmas.List.Edits.{length-between}
use Rattle.sheets.proofs.Parts.{row_place, row_within, row_values, row_part}
use Rattle.sheets.proofs.held.Sheet.row.Goals as goal

pub overflow_add-at : goal.overflow_add-at
overflow_add-at c = omega (arith, row_within c.args.self.now c.args.i c.requires, c.args.self.now.short)

pub overflow_add-result : goal.overflow_add-result
overflow_add-result c = omega (arith, row_within c.args.self.now c.args.i c.requires, c.args.self.now.short)

pub slice_bounds-result-end : goal.slice_bounds-result-end
slice_bounds-result-end c = omega (arith, row_within c.args.self.now c.args.i c.requires, c.args.self.now.short)

pub returns : goal.returns
returns c =
    let s = c.args.self.now in
    let p = row_place s c.args.i in
    record {
      part = row_part s c.args.i c.requires;
      values = row_values s c.args.i c.requires;
      size = omega (arith, length-between s.text.now p (p + 2 * s.layout.names) (row_within s c.args.i c.requires));
    }
