-- The walk goes from link to link until a set is contained, or the chain ends.
use Rattle.std.proofs.Common.{◌≤◌, get_or, ap, ◌∙◌, arith}
use Rattle.atoms.specs.Atoms.{width}
use Rattle.indexed.proofs.IndexedShelf.chain_holds.Goals as goal
use Rattle.indexed.proofs.Sharing.{runs_of}
use Rattle.indexed.proofs.Walked.{finds, goes_on, goes_past, link_falls, skip_falls, walk_ends, walk_from_head}
use Rattle.indexed.specs.Chains.{slot_of}
use Rattle.lists.specs.Items.{items}

pub loop-link-init : goal.loop-link-init
loop-link-init c =
    let s = c.args.self.now in
    let is = c.slot.ensures.value in
    let within : slot_of c.args.least ≤ width = omega (arith, is, c.slot.ensures.bound) in
    walk_from_head (items s.records) (slot_of c.args.least) c.args.set (get_or s.heads c.slot.result 0)
    (ap (λ j. get_or s.heads j 0) is ∙ s.first (slot_of c.args.least) within)

pub loop-link-preserved : goal.loop-link-preserved
loop-link-preserved c =
    goes_on c.as_slice-records.ensures c.loop-link-test.true c.loop-link.invariant c.index-records-link.is c.args.self.now.further c.if-is_subset.ensures

-- the run is passed over
pub loop-link-preserved-then-not-is_subset : goal.loop-link-preserved-then-not-is_subset
loop-link-preserved-then-not-is_subset c =
    goes_past c.as_slice-records.ensures c.loop-link-test.true c.loop-link.invariant c.index-records-link.is (runs_of c.args.self.now) c.if-not-is_subset.ensures

pub loop-link-smaller : goal.loop-link-smaller
loop-link-smaller c =
    link_falls c.as_slice-records.ensures c.loop-link-test.true c.loop-link.invariant c.index-records-link.is c.args.self.now.further

pub loop-link-smaller-then-not-is_subset : goal.loop-link-smaller-then-not-is_subset
loop-link-smaller-then-not-is_subset c =
    skip_falls c.as_slice-records.ensures c.loop-link-test.true c.loop-link.invariant c.index-records-link.is (runs_of c.args.self.now)

pub returns-then-is_subset : goal.returns-then-is_subset
returns-then-is_subset c =
    finds c.as_slice-records.ensures c.loop-link-test.true c.loop-link.invariant c.index-records-link.is c.if-is_subset.ensures

pub returns : goal.returns
returns c = walk_ends (items c.args.self.now.records) (slot_of c.args.least) c.args.set c.loop-link.link c.loop-link-test.false c.loop-link.invariant
