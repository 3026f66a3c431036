use Rattle.std.proofs.Common.{◌≡◌, ◌+◌, ◌*◌, ◌<◌, ◌≤◌, length, refl, rules, arith}
use Rattle.std.proofs.lemmas.Result.{err_from_is_err_and}
use Rattle.std.specs.Iterator.Adapters.{copied_source}
use Rattle.std.specs.Slice.Iter.{iter_rest}
use Rattle.std.proofs.iter.Yields.{Copied-slice}
use Rattle.writers.specs.Documents.Document.{sheet}
use Rattle.writers.specs.declared.refusals.WriteRefusal.TheVariants.{Long}
use Rattle.formats.specs.Format.{longest}
use Rattle.writers.specs.Documents.{lines_under, value_of}
use Rattle.writers.proofs.Written.{lines_are, lines_size, refused_atoms, refused_long, refused_room, written}
use Rattle.writers.proofs.sheets.write_sheet.Goals as goal

pub returns-in_err-heading : goal.returns-in_err-heading
returns-in_err-heading c =
    let p = err_from_is_err_and c.from_residual.result c.from_residual.ensures.1 in
    rw (p.1, p.2) (c.in_err-heading.ensures (sheet c.args.clauses.now) (length c.args.out.now), refl)

pub any_unfit-requires-whole : goal.any_unfit-requires-whole
any_unfit-requires-whole c =
    λ κs. (search rules, (search rules, record { asked = search rules; yields = Copied-slice c.copied.result; ends = search rules }))

pub returns-then-any_unfit : goal.returns-then-any_unfit
returns-then-any_unfit c =
    let u = rw (c.copied.ensures.source, c.iter.ensures.rest) at c.if-any_unfit.ensures in
    (refused_atoms c.args.names.now c.in_ok-heading.heading.count (sheet c.args.clauses.now) c.in_ok-heading.ensures.1 (length c.args.out.now) u, refl)

pub returns-in_err-size : goal.returns-in_err-size
returns-in_err-size c =
    let t = c.args.names.now in
    let o = c.in_ok-heading.heading in
    let cs = c.args.clauses.now in
    let h = c.in_ok-heading.ensures in
    let u = rw (c.copied.ensures.source, c.iter.ensures.rest) at c.if-any_unfit.ensures in
    let p = err_from_is_err_and c.from_residual-in_err-size.result c.from_residual-in_err-size.ensures.1 in
    let r : c.in_err-size.field-0.0 ≡ Long = search rules in
    let l : longest < length o.line.now + length cs * (2 * o.count) = search rules in
    rw (p.1, p.2, r) (
      refused_long t o.count (sheet cs) h.1 u (lines_under value_of o.line.now o.count cs) (lines_are value_of t o.line.now o.count h.0 h.1 cs) (length c.args.out.now)
          (omega (arith, lines_size value_of t o.line.now o.count h.0 h.1 cs)),
      refl,
    )

pub returns-then-out-size : goal.returns-then-out-size
returns-then-out-size c =
    let t = c.args.names.now in
    let o = c.in_ok-heading.heading in
    let cs = c.args.clauses.now in
    let h = c.in_ok-heading.ensures in
    let u = rw (c.copied.ensures.source, c.iter.ensures.rest) at c.if-any_unfit.ensures in
    let w : (c.in_ok-size.size ≡ length o.line.now + length cs * (2 * o.count)) × (c.in_ok-size.size ≤ longest) = search rules in
    let z = lines_size value_of t o.line.now o.count h.0 h.1 cs in (
      refused_room t o.count (sheet cs) h.1 u (lines_under value_of o.line.now o.count cs) (lines_are value_of t o.line.now o.count h.0 h.1 cs)
          (λ l. omega (arith, z, w, l)) (length c.args.out.now) (omega (arith, z, w)),
      refl,
    )

pub put-requires-whole : goal.put-requires-whole
put-requires-whole c =
    let o = c.in_ok-heading.heading in
    let cs = c.args.clauses.now in
    let w : c.in_ok-size.size ≡ length o.line.now + length cs * (2 * o.count) = search rules in
    let e : iter_rest (copied_source c.copied-2.result) ≡ cs = search rules in
    λ κs. (search rules, (search rules, (record { asked = search rules; yields = Copied-slice c.copied-2.result; ends = search rules }, rw e (omega (arith, w)))))

pub returns : goal.returns
returns c =
    let t = c.args.names.now in
    let o = c.in_ok-heading.heading in
    let cs = c.args.clauses.now in
    let h = c.in_ok-heading.ensures in
    let u = rw (c.copied.ensures.source, c.iter.ensures.rest) at c.if-any_unfit.ensures in
    let p = rw (c.copied-2.ensures.source, c.iter-2.ensures.rest) at c.put.ensures in
    let w : (c.in_ok-size.size ≡ length o.line.now + length cs * (2 * o.count)) × (c.in_ok-size.size ≤ longest) = search rules in
    let z = lines_size value_of t o.line.now o.count h.0 h.1 cs in
    written t o.count (sheet cs) h.1 u (lines_under value_of o.line.now o.count cs) (lines_are value_of t o.line.now o.count h.0 h.1 cs)
    (λ l. omega (arith, z, w, l)) c.args.out.now _ _ (length o.line.now + length cs * (2 * o.count)) (omega (arith, z, w)) (omega arith) (omega (arith, w)) p
