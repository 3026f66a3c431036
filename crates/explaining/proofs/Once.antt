-- For one text, one text is printed.
use Rattle.std.proofs.Common.{◌≡◌, ℕ, List, Option, sym, ap, ◌∙◌, subst, arith}
use Rattle.models.specs.Models.{Explanations}
use Rattle.models.proofs.Prefix.{explanations_one}
use Rattle.clauses.specs.Clauses.{language}
use Rattle.clauses.proofs.Decided.{laws}
use Rattle.formats.specs.Outcomes.Outcome.{accepted, refused}
use Rattle.formats.proofs.Once.{one_outcome}
use Rattle.sheets.specs.Meaning.{row_clauses}
use Rattle.explaining.specs.Explained.Explained.{a_sheet, no_sheet}
use Rattle.explaining.specs.Explained.{Listed, OnePrinted}
use Rattle.wording.specs.Words.{refusal_line}
use Rattle.explaining.specs.Reports.{report_text}

same_names : (names rows names' rows' : List (List ℕ)) → accepted names rows ≡ accepted names' rows' → names ≡ names'
same_names names rows names' rows' e = cc

same_rows : (names rows names' rows' : List (List ℕ)) → accepted names rows ≡ accepted names' rows' → rows ≡ rows'
same_rows names rows names' rows' e = cc

same_refusal : (n n' : ℕ) (l l' : Option ℕ) → refused n l ≡ refused n' l' → refusal_line n l ≡ refusal_line n' l'
same_refusal n n' l l' e = let p : n ≡ n' = cc in let q : l ≡ l' = cc in ap (λ x. refusal_line x l) p ∙ ap (refusal_line n') q

not_both : (names rows : List (List ℕ)) (n : ℕ) (l : Option ℕ) → accepted names rows ≡ refused n l → ⊥
not_both names rows n l e = let z : ◌≡◌ {A = ℕ} 0 1 = cc in omega arith

listed_once : (names rows names' rows' : List (List ℕ)) (p p' : List ℕ) → names ≡ names' → rows ≡ rows' → Listed names rows p
    → Listed names' rows' p' → p ≡ p'
listed_once names rows names' rows' p p' n r l l' =
    let same : l.ms ≡ l'.ms =
    explanations_one laws (row_clauses rows') l.ms l'.ms
    (subst (λ (x : List (List ℕ)). Explanations language (row_clauses x) l.ms) r l.explanations) l'.explanations in
    l.is ∙ ap (λ x. report_text x l.ms) n ∙ ap (report_text names') same ∙ sym l'.is

pub one_printed : OnePrinted
one_printed text p p' (a_sheet {names} {rows} s l) (a_sheet {names = names'} {rows = rows'} s' l') =
    let e = one_outcome text (accepted names rows) (accepted names' rows') s s' in
    listed_once names rows names' rows' p p' (same_names names rows names' rows' e) (same_rows names rows names' rows' e) l l'
one_printed text p p' (a_sheet {names} {rows} s l) (no_sheet {number} {named} s' e') =
    absurd (not_both names rows number named (one_outcome text (accepted names rows) (refused number named) s s'))
one_printed text p p' (no_sheet {number} {named} s e) (a_sheet {names} {rows} s' l') =
    absurd (not_both names rows number named (one_outcome text (accepted names rows) (refused number named) s' s))
one_printed text p p' (no_sheet {number} {named} s e) (no_sheet {number = number'} {named = named'} s' e') =
    e ∙ same_refusal number number' named named' (one_outcome text (refused number named) (refused number' named') s s') ∙ sym e'
