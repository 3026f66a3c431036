use Rattle.std.proofs.Common.{length, sym, ap, subst, arith}
use Rattle.formats.specs.Places.{FirstAt, Lacks}
use Rattle.sheets.specs.Sheets.{names}
use Rattle.sheets.proofs.Parts.{atom_found, no_names, some_names, names-count}
use Rattle.sheets.proofs.held.Sheet.atom_of.Goals as goal

pub returns-then-self-eq0 : goal.returns-then-self-eq0
returns-then-self-eq0 c = λ i h. absurd (omega (arith, ap length (no_names c.args.self.now c.if-self-eq0.true)))

pub returns-in_err-k : goal.returns-in_err-k
returns-in_err-k c =
    rw c.from_residual.ensures
    (subst (λ ws. Lacks ws c.args.name.now) (sym (some_names c.args.self.now c.if-self-eq0.false)) c.in_err-k.ensures)

pub returns : goal.returns
returns c =
    let s = c.args.self.now in
    let w = c.args.name.now in
    let k = c.in_ok-k.k in
    atom_found c.new.result (names s) w k (omega (arith, names-count s, s.few))
    (subst (λ ws. FirstAt ws w k) (sym (some_names s c.if-self-eq0.false)) c.in_ok-k.ensures) c.new.ensures
