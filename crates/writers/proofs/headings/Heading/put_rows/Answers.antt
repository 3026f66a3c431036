use Rattle.std.proofs.Common.{◌+◌, ◌*◌, ◌≤◌, length, length-append, rules, arith}
use Rattle.writers.proofs.Enumerated.{enumerated, enumerated_all}
use Rattle.writers.proofs.Fills.{filled_all, filled_more, room_at}
use Rattle.writers.proofs.headings.Heading.put_rows.Goals as goal

room : (g : _) (c : goal.In-Some g) → c.in-Some.k * c.width-width.result + c.width-width.result ≤ length g.xs * (2 * c.args.self.now.count)
room g c =
    let w =
    enumerated g.I.Iterator.next_gives g.xs c.into_iter-k-iterator.result (search rules) (search rules) c.loop-k.yielded _ c.loop-k.yielded_by _ _ c.next.ensures.steps
    c.in-Some.k c.in-Some.row c.in-Some.is in
    room_at (length c.loop-k.yielded) c.in-Some.k c.width-width.result (2 * c.args.self.now.count) (length g.xs) w.0 w.1 c.width-width.ensures

pub overflow_mul-at : goal.overflow_mul-at
overflow_mul-at g c = omega (arith, room g c)

pub overflow_add-line : goal.overflow_add-line
overflow_add-line g c = omega (arith, room g c)

pub slice_bounds-line-end : goal.slice_bounds-line-end
slice_bounds-line-end g c = omega (arith, room g c)

pub loop-k-preserved : goal.loop-k-preserved
loop-k-preserved g c =
    let w =
    enumerated g.I.Iterator.next_gives g.xs c.into_iter-k-iterator.result (search rules) (search rules) c.loop-k.yielded _ c.loop-k.yielded_by _ _ c.next.ensures.steps
    c.in-Some.k c.in-Some.row c.in-Some.is in (
      search rules,
      search rules,
      filled_more g.R.Row.byte c.args.self.now.count (omega arith) c.args.out.now c.loop-k.out g.xs (length c.loop-k.yielded) c.in-Some.row c.put_row.new.out
          c.in-Some.k c.width-width.result _ w.0 w.1 w.2 c.width-width.ensures (omega (arith, length-append c.loop-k.yielded)) c.put_row.ensures c.loop-k.invariant.2,
    )

pub returns : goal.returns
returns g c =
    filled_all g.R.Row.byte c.args.self.now.count (omega arith) c.args.out.now c.loop-k.out g.xs (length c.loop-k.yielded)
    (enumerated_all g.I.Iterator.next_gives g.xs c.into_iter-k-iterator.result (search rules) (search rules) c.loop-k.yielded _ c.loop-k.yielded_by _ _ c.next.ensures.steps c.in-None.is)
    c.loop-k.invariant.2
