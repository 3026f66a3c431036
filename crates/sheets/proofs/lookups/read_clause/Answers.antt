use Rattle.std.proofs.Common.{◌≡◌, ℕ, ◌+◌, ◌*◌, ◌<◌, ◌≤◌, get_or, sym, subst, arith}
use Rattle.std.proofs.lemmas.Option.{MatchOption-at_some}
use Rattle.atoms.specs.Atoms.{bits, index, width}
use Rattle.atoms.specs.Sets.{hasb}
use Rattle.atoms.specs.declared.AtomSet.{AtomSet}
use Rattle.sheets.proofs.Marks.{Added, Marked, marked_none, marked_hit, marked_miss, marked_all}
use Rattle.sheets.proofs.lookups.read_clause.Goals as goal
use Rattle.sheets.proofs.lookups.read_clause.Goals.{in-98, in-104, in_default}

pub loop-k-init : goal.loop-k-init
loop-k-init c =
    let f : ℕ → ℕ = λ j. get_or c.args.line.now (2 * j) 0 in
    (marked_none f 98 (hasb (bits c.empty-body.result)) c.empty-body.ensures.members, marked_none f 104 (hasb (bits c.empty-head.result)) c.empty-head.ensures.members)

pub loop-k-preserved : goal.loop-k-preserved
loop-k-preserved c =
    let f : ℕ → ℕ = λ j. get_or c.args.line.now (2 * j) 0 in
    let k = c.loop-k.k in
    let a = c.unwrap-atom.result in
    let e : index a ≡ k = (MatchOption-at_some (width ≤ k) (λ x. (k < width) × (index x ≡ k)) a c.unwrap-atom.ensures c.new.ensures).1 in
    let M : ℕ → AtomSet → Type 0 = λ v s. Marked (hasb (bits s)) f v (k + 1) in
    let old_body = hasb (bits c.loop-k.body) in
    let old_head = hasb (bits c.loop-k.head) in
    elim c.match-line-k.branch [
      | in-98 w ↦ (
        subst (M 98) (sym w.body-is) (marked_hit f 98 k old_body (hasb (bits w.with-body.result)) w.in-98.is (subst (Added (bits c.loop-k.body) (bits w.with-body.result)) e w.with-body.ensures.members) c.loop-k.invariant.0),
        subst (M 104) (sym w.head-is) (marked_miss f 104 k old_head (λ z. omega (arith, w.in-98.is)) c.loop-k.invariant.1),
      )
      | in-104 w ↦ (
        subst (M 98) (sym w.body-is) (marked_miss f 98 k old_body (λ z. omega (arith, w.in-104.is)) c.loop-k.invariant.0),
        subst (M 104) (sym w.head-is) (marked_hit f 104 k old_head (hasb (bits w.with-head.result)) w.in-104.is (subst (Added (bits c.loop-k.head) (bits w.with-head.result)) e w.with-head.ensures.members) c.loop-k.invariant.1),
      )
      | in_default w ↦ (
        subst (M 98) (sym w.body-is) (marked_miss f 98 k old_body (λ z. omega arith) c.loop-k.invariant.0),
        subst (M 104) (sym w.head-is) (marked_miss f 104 k old_head (λ z. omega arith) c.loop-k.invariant.1),
      )
    ]

pub returns : goal.returns
returns c =
    let e : c.loop-k.k ≡ c.args.n = omega arith in
    let f : ℕ → ℕ = λ j. get_or c.args.line.now (2 * j) 0 in
    let body = marked_all c.args.n 98 c.args.line.now c.loop-k.body (λ z. omega arith) (subst (Marked (hasb (bits c.loop-k.body)) f 98) e c.loop-k.invariant.0) in
    let head = marked_all c.args.n 104 c.args.line.now c.loop-k.head (λ z. omega arith) (subst (Marked (hasb (bits c.loop-k.head)) f 104) e c.loop-k.invariant.1) in
    cc
