-- Two indexed shelves with the same records and heads are one.
use Rattle.std.proofs.Common.{◌≡◌, ℕ, List}
use mathlib.Core.HLevel.{is_prop→PathP}
use Rattle.indexed.specs.Chains.{HeadsLead, LinksLead, RunsShare, SkipsFall, SkipsLead}
use Rattle.indexed.specs.declared.IndexedShelf.{IndexedShelf}
use Rattle.indexed.specs.declared.record.ShelfRecord.{ShelfRecord}
use Rattle.lists.specs.Items.{items}
use Rattle.std.proofs.Props.{props}

first_prop : (hs : List ℕ) (rs : List ShelfRecord) → IsProp (HeadsLead hs rs)
first_prop hs rs = hlevel props

further_prop : (rs : List ShelfRecord) → IsProp (LinksLead rs)
further_prop rs = hlevel props

falls_prop : (rs : List ShelfRecord) → IsProp (SkipsFall rs)
falls_prop rs = hlevel props

back_prop : (rs : List ShelfRecord) → IsProp (SkipsLead rs)
back_prop rs = hlevel props

shared_prop : (rs : List ShelfRecord) → IsProp (RunsShare rs)
shared_prop rs = hlevel props

pub same_shelf : (s t : IndexedShelf) → s.records ≡ t.records → s.heads ≡ t.heads → s ≡ t
same_shelf s t e h = λ i. record {
  records = e i;
  heads = h i;
  first = is_prop→PathP (λ j. HeadsLead (h j) (items (e j))) (λ j. first_prop (h j) (items (e j))) s.first t.first i;
  further = is_prop→PathP (λ j. LinksLead (items (e j))) (λ j. further_prop (items (e j))) s.further t.further i;
  falls = is_prop→PathP (λ j. SkipsFall (items (e j))) (λ j. falls_prop (items (e j))) s.falls t.falls i;
  back = is_prop→PathP (λ j. SkipsLead (items (e j))) (λ j. back_prop (items (e j))) s.back t.back i;
  shared = is_prop→PathP (λ j. RunsShare (items (e j))) (λ j. shared_prop (items (e j))) s.shared t.shared i;
}
