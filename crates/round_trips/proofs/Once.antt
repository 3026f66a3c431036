-- The round trips have one reply.
use Rattle.std.proofs.Common.{◌≡◌, ℕ, zero, suc, List, length, Some, None, Ok, Err, sym, refl, ap, ◌∙◌, arith}
use Rattle.clauses.specs.declared.clauses.Clause.{Clause}
use Rattle.formats.specs.Format.{IsSheet}
use Rattle.formats.specs.Outcomes.Outcome.{accepted, refused}
use Rattle.formats.specs.Outcomes.{Outcome, Says, outcome_of}
use Rattle.formats.specs.declared.faults.SheetFault.{SheetFault}
use Rattle.formats.specs.declared.faults.SheetFault.TheVariants.{Long, Names, Twice, Clause as Line}
use Rattle.formats.proofs.Once.{one_outcome}
use Rattle.writers.specs.Documents.Document.{sheet}
use Rattle.writers.proofs.Once.{due_once, one_reply}
use Rattle.round_trips.specs.Laws.{OneRereadReply, OneRewriteReply}
use Rattle.round_trips.specs.Replies.{RereadDue, Reread, RewriteDue, Rewritten}
use Rattle.round_trips.specs.declared.refusals.RereadRefusal.{RereadRefusal}
use Rattle.round_trips.specs.declared.refusals.RereadRefusal.TheVariants.{Places as TooFew, Write}
use Rattle.round_trips.specs.declared.refusals.RewriteRefusal.{RewriteRefusal}
use Rattle.round_trips.specs.declared.refusals.RewriteRefusal.TheVariants.{Load, Places, Room}

-- ---- a text has one outcome

fault_in : Outcome → SheetFault
fault_in (accepted names rows) = Long
fault_in (refused n (Some at)) = Line at
fault_in (refused zero None) = Long
fault_in (refused (suc zero) None) = Long
fault_in (refused (suc (suc zero)) None) = Names
fault_in (refused (suc (suc (suc n))) None) = Twice

fault_back : (f : SheetFault) → fault_in (outcome_of f) ≡ f
unfolding fault_in
fault_back Long = refl
fault_back Names = refl
fault_back Twice = refl
fault_back (Line at) = refl

module _ (text : List ℕ) where
  pub rows_once : (names rows names' rows' : List (List ℕ)) → IsSheet text names rows → IsSheet text names' rows' → rows ≡ rows'
  rows_once names rows names' rows' a b = let e = one_outcome text (accepted names rows) (accepted names' rows') a b in cc

  pub sheet_not_refused : (names rows : List (List ℕ)) (f : SheetFault) → IsSheet text names rows → Says text (outcome_of f) → ⊥
  sheet_not_refused names rows f a b =
      let e = one_outcome text (accepted names rows) (outcome_of f) a b in
      let z : ◌≡◌ {A = ℕ} 0 1 = cc in omega arith

  fault_once : (f g : SheetFault) → Says text (outcome_of f) → Says text (outcome_of g) → f ≡ g
  fault_once f g a b = sym (fault_back f) ∙ (ap fault_in (one_outcome text (outcome_of f) (outcome_of g) a b) ∙ fault_back g)

-- ---- read and written

module _ (text : List ℕ) (places : List Clause) (before : List ℕ) where
  rewrite_not_due : (size : ℕ) (read : List Clause) (after : List ℕ) → Rewritten text places before size read after → (f : RewriteRefusal) → RewriteDue text (length places) (length before) f → ⊥
  rewrite_not_due size read after w (Load f) d = sheet_not_refused text w.names w.rows f w.is_sheet d
  rewrite_not_due size read after w Places d = omega (arith, w.fits, d.3, ap length (rows_once text w.names w.rows d.0 d.1 w.is_sheet d.2))
  rewrite_not_due size read after w Room d = omega (arith, w.room, w.size_is, d.4)

module _ (text : List ℕ) (places room : ℕ) where
  rewrite_due_once : (f g : RewriteRefusal) → RewriteDue text places room f → RewriteDue text places room g → f ≡ g
  rewrite_due_once (Load f) (Load g) a b = ap Load (fault_once text f g a b)
  rewrite_due_once (Load f) Places a b = absurd (sheet_not_refused text b.0 b.1 f b.2 a)
  rewrite_due_once (Load f) Room a b = absurd (sheet_not_refused text b.0 b.1 f b.2 a)
  rewrite_due_once Places (Load g) a b = absurd (sheet_not_refused text a.0 a.1 g a.2 b)
  rewrite_due_once Places Places a b = refl
  rewrite_due_once Places Room a b = absurd (omega (arith, a.3, b.3, ap length (rows_once text a.0 a.1 b.0 b.1 a.2 b.2)))
  rewrite_due_once Room (Load g) a b = absurd (sheet_not_refused text a.0 a.1 g a.2 b)
  rewrite_due_once Room Places a b = absurd (omega (arith, a.3, b.3, ap length (rows_once text a.0 a.1 b.0 b.1 a.2 b.2)))
  rewrite_due_once Room Room a b = refl

pub one_rewrite_reply : OneRewriteReply
one_rewrite_reply text places before (Ok k) (Ok m) read read' after after' a b =
    let r = rows_once text a.names a.rows b.names b.rows a.is_sheet b.is_sheet in
    let e : k ≡ m = cc in (cc, cc, cc)
one_rewrite_reply text places before (Ok k) (Err g) read read' after after' a b = absurd (rewrite_not_due text places before k read after a g b.0)
one_rewrite_reply text places before (Err f) (Ok m) read read' after after' a b = absurd (rewrite_not_due text places before m read' after' b f a.0)
one_rewrite_reply text places before (Err f) (Err g) read read' after after' a b =
    (ap Err (rewrite_due_once text (length places) (length before) f g a.0 b.0), a.1 ∙ sym b.1, a.2 ∙ sym b.2)

-- ---- written and read

module _ (text : List ℕ) (clauses : List Clause) (before : List ℕ) (places : List Clause) where
  reread_not_due : (count : ℕ) (after : List ℕ) (again : List Clause) → Reread text clauses before places count after again → (f : RereadRefusal) → RereadDue text clauses (length before) (length places) f → ⊥
  reread_not_due count after again w TooFew d = omega (arith, w.count_is, w.fits)
  reread_not_due count after again w (Write f) d = w.written.right f d.1.wrong

module _ (text : List ℕ) (clauses : List Clause) (room places : ℕ) where
  reread_due_once : (f g : RereadRefusal) → RereadDue text clauses room places f → RereadDue text clauses room places g → f ≡ g
  reread_due_once TooFew TooFew a b = refl
  reread_due_once TooFew (Write g) a b = absurd (omega (arith, b.0))
  reread_due_once (Write f) TooFew a b = absurd (omega (arith, a.0))
  reread_due_once (Write f) (Write g) a b = ap Write (due_once text (sheet clauses) room f g a.1 b.1)

pub one_reread_reply : OneRereadReply
one_reread_reply text clauses before places (Ok k) (Ok m) after after' again again' a b =
    let e : k ≡ m = cc in
    (cc, (one_reply text (sheet clauses) before (Ok a.size) (Ok b.size) after after' a.written b.written).1, cc)
one_reread_reply text clauses before places (Ok k) (Err g) after after' again again' a b = absurd (reread_not_due text clauses before places k after again a g b.0)
one_reread_reply text clauses before places (Err f) (Ok m) after after' again again' a b = absurd (reread_not_due text clauses before places m after' again' b f a.0)
one_reread_reply text clauses before places (Err f) (Err g) after after' again again' a b =
    (ap Err (reread_due_once text clauses (length before) (length places) f g a.0 b.0), a.1 ∙ sym b.1, a.2 ∙ sym b.2)
