-- What `count_names` finds out of a names line.
use Rattle.std.proofs.Common.{◌≡◌, ℕ, List, [], length, drop, sym, ap, subst, arith}
use Rattle.std.proofs.lemmas.List.{drop_all, length-drop}
use Rattle.formats.specs.Format.{Apart, Begins}
use Rattle.formats.specs.Places.{FirstLine, words}
use Rattle.formats.specs.declared.names.NamesLine.{NamesLine}
use Rattle.formats.proofs.Splits.{begins_words, one_line}
use Rattle.writers.specs.Refusals.{Heading, IsLine, NamesRefused}
use Rattle.writers.specs.declared.refusals.WriteRefusal.TheVariants.{Names, Twice}
use Rattle.writers.proofs.Turns.{due_names, due_twice}

module _ (text : List ℕ) (l : NamesLine) (w : FirstLine text l) where
  pub more_after : (l.size ≡ length text → ⊥) → NamesRefused text Names
  more_after h doc room =
      due_names text doc room
      (λ names b.
      let p = one_line text (drop l.size text) [] w.names names w.begins b in
      h (omega (arith, ap length p.1, length-drop l.size text, w.within)))

  module _ (e : l.size ≡ length text) where
    whole : IsLine text w.names
    whole = subst (Begins text w.names) (drop_all l.size text (omega arith)) w.begins

    names_are : words text ≡ w.names
    names_are = begins_words text (drop l.size text) w.names w.begins

    pub repeated : (Apart (words text) → ⊥) → NamesRefused text Twice
    repeated h doc room = due_twice text doc room w.names whole (λ a. h (subst Apart (sym names_are) a))

    pub heading : Apart (words text) → Heading text l.count
    heading a = record { names = w.names; is_line = whole; apart = subst Apart names_are a; count = w.count_is }
