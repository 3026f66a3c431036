use Rattle.std.proofs.Common.{◌≡◌, ◌<◌, length, arith}
use Rattle.std.proofs.lemmas.List.{length-reverse}
use Rattle.atoms.specs.Atoms.{bits, width}
use Rattle.atoms.specs.Sets.{meet, size}
use Rattle.atoms.proofs.Members.{meet_from_disjoint}
use Rattle.atoms.proofs.Values.{bits_below}
use Rattle.walks.proofs.Presents.{room_for}
use Rattle.walks.proofs.Records.{each_deeper}
use Rattle.walks.proofs.paths.Path.push.Goals as goal

pub push-requires : goal.push-requires
push-requires c =
    let b = c.args.branch in
    let few = room_for width (bits b.node.taken) (bits b.left) (bits_below b.node.taken) (bits_below b.left) c.requires.apart c.requires.live in
    (omega arith, omega (arith, few, c.requires.sized, length-reverse c.args.self.now.branches.items))

pub invariant_of-self : goal.invariant_of-self
invariant_of-self c =
    let p = c.args.self.now in
    let b = c.args.branch in
    let e = c.push.ensures.items in
    record {
      live = each_deeper p.branches.items _ b e (λ x st. 0 < bits x.left) c.requires.live p.live;
      sized = each_deeper p.branches.items _ b e (λ x st. size (bits x.node.taken) ≡ length st) c.requires.sized p.sized;
      apart =
          each_deeper p.branches.items _ b e (λ x st. meet (bits x.node.taken) (bits x.left) ≡ 0)
          (meet_from_disjoint (bits b.node.taken) (bits b.left) c.requires.apart) p.apart;
    }
