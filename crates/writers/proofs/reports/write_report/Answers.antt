use Rattle.std.proofs.Common.{◌+◌, ◌++◌, length, refl, rules, sym, ap, arith}
use Rattle.std.proofs.lemmas.Result.{err_from_is_err_and}
use Rattle.std.proofs.lemmas.Iterator.Consumers.{YieldsList-from_first}
use Rattle.std.specs.Iterator.{AlwaysYields, YieldsFirst}
use Rattle.shelves.specs.Left.{sets_left}
use Rattle.writers.specs.Documents.Document.{report}
use Rattle.writers.specs.Documents.{lines_under, mark_of}
use Rattle.writers.proofs.Fills.{put_last}
use Rattle.writers.proofs.Written.{lines_size, refused_atoms, refused_room, report_is, report_size, written}
use Rattle.writers.proofs.reports.write_report.Given.{Over}
use Rattle.writers.proofs.reports.write_report.Goals as goal

pub returns-in_err-heading : goal.returns-in_err-heading
returns-in_err-heading g c =
    let p = err_from_is_err_and c.from_residual.result c.from_residual.ensures.1 in
    rw (p.1, p.2) (c.in_err-heading.ensures (report (g.H.Shelf.sets c.args.shelf.now) c.args.complete) (length c.args.out.now), refl {a = c.args.out.now})

-- the sets that a shelf hands out
given : (g : Over) (r : _) → AlwaysYields (YieldsFirst (sets_left g.H.Shelf.sets)) (λ x. x) r (sets_left g.H.Shelf.sets r)
given g r = (YieldsList-from_first (λ x. x) (sets_left g.H.Shelf.sets) (sets_left g.H.Shelf.sets r) refl).runs

pub any_unfit-requires-whole : goal.any_unfit-requires-whole
any_unfit-requires-whole g c =
    λ κs l. ((search rules, tt), (search rules, (search rules, record { asked = search rules; yields = given g c.iter.result; ends = search rules })))

pub returns-then-any_unfit : goal.returns-then-any_unfit
returns-then-any_unfit g c =
    let u = rw c.iter.ensures at c.if-any_unfit.ensures in
    (refused_atoms c.args.names.now c.in_ok-heading.heading.count (report (g.H.Shelf.sets c.args.shelf.now) c.args.complete) c.in_ok-heading.ensures.1 (length c.args.out.now) u, refl)

pub returns-then-out-size : goal.returns-then-out-size
returns-then-out-size g c =
    let t = c.args.names.now in
    let o = c.in_ok-heading.heading in
    let ss = g.H.Shelf.sets c.args.shelf.now in
    let last = c.last_line-last.result.now in
    let h = c.in_ok-heading.ensures in
    let u = rw c.iter.ensures at c.if-any_unfit.ensures in
    let z = report_size t o.line.now o.count h.0 h.1 ss last in (
      refused_room t o.count (report ss c.args.complete) h.1 u (lines_under mark_of o.line.now o.count ss ++ last)
          (report_is t o.line.now o.count h.0 h.1 ss c.args.complete last c.last_line-last.ensures)
          (λ f. f) (length c.args.out.now) (omega (arith, z, ap length h.0, rw (c.len.ensures.value, c.width.ensures) at c.if-out-size.true)),
      refl,
    )

pub put-requires-whole : goal.put-requires-whole
put-requires-whole g c =
    λ κs l. (
      (search rules, tt),
      (
        search rules,
        (
          search rules,
          (
            record { asked = search rules; yields = given g c.iter-2.result; ends = search rules },
            rw c.iter-2.ensures (omega (arith, ap length c.in_ok-heading.ensures.0, rw (c.len.ensures.value, c.width.ensures) at c.if-out-size.false)),
          ),
        ),
      ),
    )

pub returns : goal.returns
returns g c =
    let t = c.args.names.now in
    let o = c.in_ok-heading.heading in
    let ss = g.H.Shelf.sets c.args.shelf.now in
    let last = c.last_line-last.result.now in
    let h = c.in_ok-heading.ensures in
    let u = rw c.iter.ensures at c.if-any_unfit.ensures in
    let p = rw c.iter-2.ensures at c.put.ensures in
    let lines = lines_under mark_of o.line.now o.count ss in
    let z = lines_size mark_of t o.line.now o.count h.0 h.1 ss in
    written t o.count (report ss c.args.complete) h.1 u (lines ++ last) (report_is t o.line.now o.count h.0 h.1 ss c.args.complete last c.last_line-last.ensures)
    (λ f. f) c.args.out.now _ _ (length lines + length last)
    (rw (c.len.ensures.value, c.width.ensures) (omega (arith, ap length h.0, report_size t o.line.now o.count h.0 h.1 ss last)))
    (omega arith)
    (rw (c.len.ensures.value, c.width.ensures) (omega (arith, ap length h.0, z)))
    (rw c.copy_from_slice.ensures.after (put_last lines last c.args.out.now c.put.new.out _ _ _ p (sym z) (rw (c.len.ensures.value, c.width.ensures) (omega (arith, ap length h.0, z))) (omega arith)))
