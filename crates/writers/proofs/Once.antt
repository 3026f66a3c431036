-- The writing calls have one reply.
use Rattle.std.proofs.Common.{◌≡◌, ℕ, ◌<◌, List, length, Ok, Err, sym, ap, ◌∙◌, ⊎_elim}
use Rattle.std.proofs.lemmas.Bool.{cases_order}
use Rattle.writers.specs.Documents.{Document, text_of}
use Rattle.writers.specs.Refusals.{Due, turn}
use Rattle.writers.specs.Replies.{OneReply}
use Rattle.writers.specs.declared.refusals.WriteRefusal.{WriteRefusal}
use Rattle.writers.proofs.Turns.{names_once, turn_once}

-- one refusal is due
pub due_once : (text : List ℕ) (doc : Document) (room : ℕ) (f g : WriteRefusal) → Due text doc room f → Due text doc room g → f ≡ g
due_once text doc room f g a b =
    ⊎_elim (turn_once f g)
    (⊎_elim (λ (h : turn f < turn g). absurd (b.first f h a.wrong)) (λ (h : turn g < turn f). absurd (a.first g h b.wrong)))
    (cases_order (turn f) (turn g))

pub one_reply : OneReply
one_reply text doc before (Ok k) (Ok m) after after' a b =
    let t : text_of a.names doc ≡ text_of b.names doc = ap (λ n. text_of n doc) (names_once text a.names b.names a.is_line b.is_line) in
    let e : k ≡ m = cc in (cc, cc)
one_reply text doc before (Ok k) (Err g) after after' a b = absurd (a.right g b.0.wrong)
one_reply text doc before (Err f) (Ok m) after after' a b = absurd (b.right f a.0.wrong)
one_reply text doc before (Err f) (Err g) after after' a b = (ap Err (due_once text doc (length before) f g a.0 b.0), a.1 ∙ sym b.1)
