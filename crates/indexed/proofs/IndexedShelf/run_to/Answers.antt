-- Runs before the set are taken in one after another.
use Rattle.std.proofs.Common.{ℕ, ◌-◌, ◌<◌, length, sym, ◌∙◌, subst, arith}
use Rattle.atoms.specs.Atoms.{bits}
use Rattle.atoms.specs.Sets.{◌⊆◌, has, hasb}
use Rattle.indexed.proofs.IndexedShelf.run_to.Goals as goal
use Rattle.indexed.proofs.Kept.{read_at}
use Rattle.indexed.proofs.Sharing.{run_more, run_none, runs_of}
use Rattle.indexed.specs.Chains.{chain_of}
use Rattle.lists.specs.Items.{items}
use Rattle.std.proofs.lemmas.Bool.{and_parts}

pub loop-skip-init : goal.loop-skip-init
loop-skip-init c =
    let rs = items c.args.self.now.records in
    (run_none rs (chain_of c.args.set) c.args.set c.args.link c.requires, λ a h. h)

pub loop-skip-preserved : goal.loop-skip-preserved
loop-skip-preserved c =
    let s = c.args.self.now in
    let rs = items s.records in
    let v = c.loop-skip.skip in
    let k = c.loop-skip.common in
    let j = c.intersection-common.result in
    let b = c.index-records-skip.result in
    let below : v - 1 < length rs = omega (arith, c.loop-skip.invariant.0.low) in
    let read = read_at c.as_slice-records.result.now rs (v - 1) b c.as_slice-records.ensures below c.index-records-skip.is in
    let both = λ (a : ℕ) (h : has (bits j) a). and_parts (hasb (bits k) a) (hasb (bits b.common) a) (sym (c.intersection-common.ensures.members a) ∙ h) in
    let of_k : bits j ⊆ bits k = λ a h. (both a h).0 in
    let of_run : bits j ⊆ bits b.common = λ a h. (both a h).1 in
    let more =
    run_more rs (chain_of c.args.set) (runs_of s) k v c.loop-skip.invariant.0 c.loop-skip-test.true j of_k
    (subst (λ r. bits j ⊆ bits r.common) read of_run) in
    (rw read more, λ a h. c.loop-skip.invariant.1 a (of_k a h))
