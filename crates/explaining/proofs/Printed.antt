-- The report of the first explanations of a sheet is written, and no refusal can come.
use Rattle.std.proofs.Common.{◌≡◌, ℕ, ◌≤◌, Bool, List, [], ◌∷◌, map, length, take, drop, Ok, Err, Result, IsOk, sym, refl, subst, ap, ◌∙◌, arith}
use lib.ListN.{length-map}
use Rattle.std.proofs.lemmas.List.{append-nil, length-take, take_at}
use Rattle.atoms.specs.Atoms.{bits, set_of}
use Rattle.atoms.specs.declared.AtomSet.{AtomSet}
use Rattle.atoms.proofs.Values.{value_is}
use Rattle.formats.specs.Format.{Content, line}
use Rattle.sheets.specs.Meaning.{row_clauses}
use Rattle.writers.specs.Documents.Document.{report}
use Rattle.writers.specs.Documents.{Document, text_of}
use Rattle.writers.specs.Refusals.{Due, IsLine}
use Rattle.writers.specs.Replies.{Reply, Written}
use Rattle.writers.specs.declared.refusals.WriteRefusal.{WriteRefusal}
use Rattle.writers.proofs.Turns.{names_once, nothing_wrong}
use Rattle.explaining.specs.Explained.{Listed}
use Rattle.explaining.specs.Firsts.{Firsts}
use Rattle.explaining.specs.Reports.{most, report_text}
use Rattle.explaining.proofs.Named.{named}
use Rattle.explaining.proofs.Sizes.{longest_report, report_short}

-- sets are the values of their numbers
back : (ts : List AtomSet) → map set_of (map bits ts) ≡ ts
back [] = refl
back (t ∷ ts) = ap (λ x. x ∷ map set_of (map bits ts)) (sym (value_is t (bits t) refl)) ∙ ap (λ xs. t ∷ xs) (back ts)

module _ {names rows : List (List ℕ)} (k : Content names rows) (sets : List AtomSet) {complete : Bool}
    (f : Firsts (row_clauses rows) most complete (map bits sets)) (text : List ℕ) (e : text ≡ line names) where
  abbrev doc : Document
  doc = report sets complete

  is_line : IsLine text names
  is_line = record { names_ok = k.names_ok; is = e ∙ sym (append-nil (line names)) }

  few : length sets ≤ most
  few = omega (arith, length-map sets bits, ap length f.out_is, length-take most f.ms)

  -- every atom has a name, and the buffer suffices
  pub never : (room : ℕ) → longest_report ≤ room → (g : WriteRefusal) → Due text doc room g → ⊥
  never room h g d =
      nothing_wrong text doc room names is_line k.apart (λ u. named names rows k sets most complete f u.0 u.1 u.2) (λ z. z)
      (omega (arith, report_short names k.names_ok sets few complete)) g d.wrong

  text_is : text_of names doc ≡ report_text names f.ms
  text_is =
      ap (λ xs. text_of names (report xs complete)) (sym (back sets) ∙ ap (map set_of) f.out_is)
      ∙ ap (λ b. text_of names (report (map set_of (take most f.ms)) b)) f.complete_is

  pub is_written : (before after : List ℕ) (r : Result ℕ WriteRefusal) → longest_report ≤ length before → Reply text doc before r after
      → IsOk r
  is_written before after (Ok size) h w = refl
  is_written before after (Err g) h w = absurd (never (length before) h g w.0)

  pub prints : (before after out : List ℕ) (r : Result ℕ WriteRefusal) (size : ℕ) → r ≡ Ok size → Reply text doc before r after
      → out ≡ take size after → Listed names rows out
  prints before after out r size e w q =
      let n : Written text doc before size after = subst (λ (x : Result ℕ WriteRefusal). Reply text doc before x after) e w in
      record {
        ms = f.ms;
        explanations = f.explanations;
        is =
            q ∙ ap (take size) n.is ∙ take_at (text_of n.names doc) (drop size before) size (sym n.size_is)
            ∙ ap (λ x. text_of x doc) (names_once text n.names names n.is_line is_line) ∙ text_is;
      }
