-- What the writing calls come to, once the names line is known.
use Rattle.std.proofs.Common.{◌≡◌, ℕ, ◌+◌, ◌*◌, ◌<◌, ◌≤◌, Bool, List, ◌++◌, length, drop, sym, ap, ◌∙◌, subst, arith}
use Rattle.std.proofs.lemmas.List.{append-nil, length-append}
use Rattle.atoms.specs.declared.AtomSet.{AtomSet}
use Rattle.formats.specs.Format.{line}
use Rattle.writers.specs.Documents.Document.{report}
use Rattle.writers.specs.Documents.{Document, TooLong, Unfit, last_line, lines_under, mark_of, text_of}
use Rattle.writers.specs.Refusals.{Due, Heading}
use Rattle.writers.specs.Replies.{Written}
use Rattle.writers.specs.declared.refusals.WriteRefusal.TheVariants.{Atoms, Long, Room}
use Rattle.writers.proofs.Fills.{length_text}
use Rattle.writers.proofs.Turns.{due_atoms, due_long, due_room, nothing_wrong}

-- ---- the lines under a names line

module _ {X : Type 0} (f : X → ℕ → ℕ) (text first : List ℕ) (n : ℕ) (s : first ≡ text) (h : Heading text n) (xs : List X) where
  pub lines_are : lines_under f first n xs ≡ lines_under f (line h.names) (length h.names) xs
  lines_are = rw (s, h.is_line.is, append-nil (line h.names), h.count)

  pub lines_size : length (lines_under f first n xs) ≡ length first + length xs * (2 * n)
  lines_size = length_text f n (omega (arith, h.is_line.names_ok.some, h.count)) first xs

-- ---- the lines of a report

module _ (text first : List ℕ) (n : ℕ) (s : first ≡ text) (h : Heading text n) (sets : List AtomSet) where
  pub report_is : (complete : Bool) (last : List ℕ) → last ≡ last_line complete → lines_under mark_of first n sets ++ last ≡ text_of h.names (report sets complete)
  report_is complete last e =
      ap (λ l. lines_under mark_of first n sets ++ l) e ∙ ap (λ l. l ++ last_line complete) (lines_are mark_of text first n s h sets)

  pub report_size : (last : List ℕ) → length (lines_under mark_of first n sets ++ last) ≡ length first + length sets * (2 * n) + length last
  report_size last = length-append (lines_under mark_of first n sets) last ∙ ap (λ k. k + length last) (lines_size mark_of text first n s h sets)

-- ---- a document whose text is `lines`

module _ (text : List ℕ) (n : ℕ) (doc : Document) (h : Heading text n) where
  pub refused_atoms : (room : ℕ) → Unfit n doc → Due text doc room Atoms
  refused_atoms room u = due_atoms text doc room h.names h.is_line h.apart (subst (λ m. Unfit m doc) (sym h.count) u)

  module _ (u : Unfit n doc → ⊥) (lines : List ℕ) (e : lines ≡ text_of h.names doc) where
    fit : Unfit (length h.names) doc → ⊥
    fit v = u (subst (λ m. Unfit m doc) h.count v)

    pub refused_long : (room : ℕ) → TooLong doc (length lines) → Due text doc room Long
    refused_long room t = due_long text doc room h.names h.is_line h.apart fit (subst (λ l. TooLong doc (length l)) e t)

    module _ (t : TooLong doc (length lines) → ⊥) where
      short : TooLong doc (length (text_of h.names doc)) → ⊥
      short v = t (subst (λ l. TooLong doc (length l)) (sym e) v)

      pub refused_room : (room : ℕ) → room < length lines → Due text doc room Room
      refused_room room r = due_room text doc room h.names h.is_line h.apart fit short (omega (arith, ap length e))

      pub written : (before after : List ℕ) (size k : ℕ) → size ≡ length lines → size ≤ length before → k ≡ size → after ≡ lines ++ drop k before → Written text doc before size after
      written before after size k s r z i = record {
        names = h.names;
        is_line = h.is_line;
        right = nothing_wrong text doc (length before) h.names h.is_line h.apart fit short (omega (arith, ap length e));
        size_is = s ∙ ap length e;
        room = r;
        is = i ∙ (ap (λ m. lines ++ drop m before) z ∙ ap (λ l. l ++ drop size before) e);
      }
