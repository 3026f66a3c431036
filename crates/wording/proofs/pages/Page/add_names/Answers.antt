use Rattle.std.proofs.Common.{◌≡◌, [], map, rules, tests, sym, ap, ◌∙◌}
use Rattle.std.proofs.lemmas.Iterator.Consumers.{YieldsList-from_filter, YieldsList-from_first, YieldsList-at, YieldsList-end}
use Rattle.atoms.specs.Atoms.{bits}
use Rattle.atoms.specs.Members.{atoms_left, members}
use Rattle.sheets.specs.Sheets.{names}
use Rattle.wording.specs.Pages.{page_sheet, page_text}
use Rattle.wording.specs.Words.{names_of}
use Rattle.wording.proofs.Named.{is_named, name_at, names_are, names_told, none_left, of_runs, some_left}
use Rattle.wording.proofs.pages.Page.add_names.Goals as goal

pub returns-in_default : goal.returns-in_default
returns-in_default c =
    let ws = names (page_sheet c.args.self.now) in
    let n = c.name_count-count.result in
    let road = of_runs c.filter-named.ensures.runs (YieldsList-from_filter _ (is_named n) (YieldsList-from_first (λ x. x) atoms_left (members c.args.set) (cc)) c.filter-named.ensures.closure (λ x b q k. search (rules, tests))) in
    let none = none_left _ _ c.next.result c.next.ensures.steps _ road c.in_default.is in
    let e : names_of (bits c.args.set) 0 ws ≡ [] = sym (names_are ws c.args.set n c.name_count-count.ensures.value c.name_count-count.ensures.bound) ∙ ap (map (name_at ws)) none in
    (rw e c.add.ensures.0, c.add.ensures.1)

pub returns : goal.returns
returns c =
    let ws = names (page_sheet c.args.self.now) in
    let n = c.name_count-count.result in
    let road = of_runs c.filter-named.ensures.runs (YieldsList-from_filter _ (is_named n) (YieldsList-from_first (λ x. x) atoms_left (members c.args.set) (cc)) c.filter-named.ensures.closure (λ x b q k. search (rules, tests))) in
    let some = some_left _ _ c.next.result c.next.ensures.steps _ road c.in-Some.first c.in-Some.is in
    let all = YieldsList-end (YieldsList-at c.into_iter-atom-iterator.ensures.into_iter_gives some.2) c.loop-atom.yielded c.loop-atom.atom-iterator c.loop-atom.yielded_by c.next-in-loop-atom.result c.next-in-loop-atom.new.self c.in-None.is c.next-in-loop-atom.ensures.steps in (
      names_told ws c.args.set c.args.none.now c.args.gap.now (page_text c.args.self.now) (page_text c.add_name.new.self) (page_text c.loop-atom.self) c.in-Some.first some.0 c.loop-atom.yielded
          c.in_ok-add_name.ensures.0 (rw c.add_name.ensures.1 at c.loop-atom.invariant.0) all.0
          (sym (names_are ws c.args.set n c.name_count-count.ensures.value c.name_count-count.ensures.bound) ∙ ap (map (name_at ws)) some.1),
      c.loop-atom.invariant.1 ∙ c.add_name.ensures.1,
    )
