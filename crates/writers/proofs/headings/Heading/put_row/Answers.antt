use Rattle.std.proofs.Common.{◌≡◌, rules, arith}
use Rattle.std.proofs.lemmas.Bool.Decides.{nat_tests}
use Rattle.atoms.specs.Atoms.{index}
use Rattle.formats.specs.Places.{gap}
use Rattle.writers.proofs.Pairs.{pairs_more, line_is}
use Rattle.writers.proofs.headings.Heading.put_row.Goals as goal

pub loop-k-preserved : goal.loop-k-preserved
loop-k-preserved g c =
    let number : index c.unwrap.result ≡ c.loop-k.k = search rules in
    let after : c.if-k-self.out ≡ gap c.args.self.now.count c.loop-k.k = grind (arith, nat_tests) in
    let value : c.value.result ≡ g.R.Row.byte c.args.row.now c.loop-k.k = rw number at c.value.ensures in
    pairs_more (g.R.Row.byte c.args.row.now) c.args.self.now.count c.loop-k.k c.value.result c.if-k-self.out c.loop-k.out
    (omega arith) value after c.loop-k.invariant

pub returns : goal.returns
returns g c =
    let e : c.loop-k.k ≡ c.args.self.now.count = omega arith in
    line_is (g.R.Row.byte c.args.row.now) c.args.self.now.count c.loop-k.out (omega arith) (omega arith) (rw e at c.loop-k.invariant)
