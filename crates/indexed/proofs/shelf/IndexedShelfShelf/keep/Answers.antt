use Rattle.std.proofs.Common.{length, get_or, set, refl, sym, ap, ◌∙◌, rules}
use Rattle.indexed.proofs.shelf.IndexedShelfShelf.keep.Goals as goal
use Rattle.indexed.proofs.Kept.{slot_is}
use Rattle.indexed.proofs.Same.{same_shelf}
use Rattle.indexed.proofs.Sharing.{chained_more, chained_of}
use Rattle.indexed.specs.Chains.{last}
use Rattle.indexed.specs.declared.record.ShelfRecord.{ShelfRecord}
use Rattle.lists.specs.Items.{cells, items}
use Rattle.std.proofs.lemmas.List.{length-map}

-- the head of the set's chain
pub run_to-run-requires : goal.run_to-run-requires
run_to-run-requires c =
    let s = c.args.self.now in
    let rs = items s.records in
    let is = c.slot-chain.ensures.value ∙ slot_is c.args.set _ c.least.ensures in
    s.first c.slot-chain.result c.slot-chain.ensures.bound ∙ ap (λ j. last rs j (length rs)) is

pub invariant_of-self : goal.invariant_of-self
invariant_of-self c = rw c.in_err-push.ensures.answer.unchanged (chained_of c.args.self.now)

pub invariant_of-self-2 : goal.invariant_of-self-2
invariant_of-self-2 c =
    let s = c.args.self.now in
    let rs = items s.records in
    let run = c.run_to-run.result in
    let is = c.slot-chain.ensures.value ∙ slot_is c.args.set _ c.least.ensures in
    let x : ShelfRecord = record { set = c.args.set; common = run.common; link = get_or s.heads c.slot-chain.result 0; skip = run.skip } in
    chained_more s.heads rs (items c.push.new.self) c.slot-chain.result c.len-2.result x c.in_ok-push.ensures.answer.at_end c.len-2.ensures (search rules) is refl
    (c.run_to-run.ensures.shared, c.run_to-run.ensures.own) (chained_of s)

pub returns-clause-memory : goal.returns-clause-memory
returns-clause-memory c =
    let s = c.args.self.now in
    let run = c.run_to-run.result in
    let x : ShelfRecord = record { set = c.args.set; common = run.common; link = get_or s.heads c.slot-chain.result 0; skip = run.skip } in
    (x, refl, c.in_ok-push.ensures.answer.written ∙ ap (λ p. set (cells s.records) p x) (sym (length-map (items s.records) (λ r. r.set))))

pub returns-in_err-push-clause-answer : goal.returns-in_err-push-clause-answer
returns-in_err-push-clause-answer c =
    let refused = c.in_err-push.ensures.answer in
    let count = length-map (items c.args.self.now.records) (λ r. r.set) in
    search (rules, same_shelf, count, refused)
