use Rattle.std.proofs.Common.{map, sym, ◌∙◌}
use Rattle.atoms.specs.Atoms.{bits}
use Rattle.walks.proofs.Soundness.{model_fresh, sound_at, sound_dead, sound_model, sound_over, sound_split, split_apart, split_room, split_sized, split_some}
use Rattle.walks.proofs.Weights.{advance_falls, measure_at, push_falls, weight_pos}
use Rattle.walks.proofs.Walk.next.Goals as goal

pub returns-in-Model : goal.returns-in-Model
returns-in-Model g c =
    let cs = g.S.Source.clauses c.args.source.now in
    let ts = g.H.Shelf.sets c.args.shelf.now in
    record {
      fresh = model_fresh cs ts c.in-Some.path c.in-Model.set c.in-Model.ensures;
      reached =
          λ v. let stands = (c.loop-self.invariant v).goes_on c.in-Some.path c.in-Some.is in
          (sound_at cs (map bits ts) c.in-Some.path stands, sound_model cs ts c.in-Some.path stands c.in-Model.set c.in-Model.ensures);
    }

pub push-requires : goal.push-requires
push-requires g c =
    let cs = g.S.Source.clauses c.args.source.now in
    let ts = g.H.Shelf.sets c.args.shelf.now in
    let k = c.in-Split.ensures in
    record {
      live = split_some cs ts c.in-Some.path c.in-Split.branch k;
      sized = split_sized cs ts c.in-Some.path c.in-Split.branch k;
      apart = split_apart cs ts c.in-Some.path c.in-Split.branch k;
    }

pub loop-self-smaller-in-Split : goal.loop-self-smaller-in-Split
loop-self-smaller-in-Split g c =
    let cs = g.S.Source.clauses c.args.source.now in
    let ts = g.H.Shelf.sets c.args.shelf.now in
    let p = c.in-Some.path in
    measure_at c.loop-self.self p _ c.in-Some.is
    (push_falls p c.push.new.self c.in-Split.branch c.push.ensures (split_room cs ts p c.in-Split.branch c.in-Split.ensures))

pub loop-self-preserved-in-Split : goal.loop-self-preserved-in-Split
loop-self-preserved-in-Split g c =
    let cs = g.S.Source.clauses c.args.source.now in
    let ts = g.H.Shelf.sets c.args.shelf.now in
    let p = c.in-Some.path in
    λ v. sound_split cs ts p ((c.loop-self.invariant v).goes_on p c.in-Some.is) c.in-Split.branch c.in-Split.ensures c.push.new.self c.push.ensures

pub loop-self-smaller-then-not-advance : goal.loop-self-smaller-then-not-advance
loop-self-smaller-then-not-advance g c = measure_at c.loop-self.self c.in-Some.path _ c.in-Some.is (weight_pos c.in-Some.path)

pub loop-self-preserved-then-not-advance : goal.loop-self-preserved-then-not-advance
loop-self-preserved-then-not-advance g c =
    let cs = g.S.Source.clauses c.args.source.now in
    let ts = g.H.Shelf.sets c.args.shelf.now in
    let p = c.in-Some.path in
    λ v. sound_over cs ts p ((c.loop-self.invariant v).goes_on p c.in-Some.is) c.in-Dead.ensures c.advance.new.self c.advance.ensures.records (sym c.advance.ensures.more ∙ c.if-not-advance.true)

pub loop-self-smaller : goal.loop-self-smaller
loop-self-smaller g c =
    measure_at c.loop-self.self c.in-Some.path _ c.in-Some.is (advance_falls c.in-Some.path c.advance.new.self c.advance.ensures.records (sym c.advance.ensures.more ∙ c.if-not-advance.false))

pub loop-self-preserved : goal.loop-self-preserved
loop-self-preserved g c =
    let cs = g.S.Source.clauses c.args.source.now in
    let ts = g.H.Shelf.sets c.args.shelf.now in
    let p = c.in-Some.path in
    λ v. sound_dead cs ts p ((c.loop-self.invariant v).goes_on p c.in-Some.is) c.in-Dead.ensures c.advance.new.self c.advance.ensures.records (sym c.advance.ensures.more ∙ c.if-not-advance.false)
