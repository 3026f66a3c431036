-- A history whose answers are right, call by call, keeps the law.
use Rattle.std.specs.Prelude.{◌↔◌}
use Rattle.std.proofs.Common.{◌≡◌, ℕ, ◌+◌, ◌<◌, ◌≤◌, Bool, List, [], ◌∷◌, ◌++◌, length, get_or, take, Some, None, Ok, Err, sym, refl, ap, ◌∙◌, subst, append_assoc, arith, length-append}
use Rattle.std.proofs.lemmas.List.{append-nil, take_all, take_more}
use Rattle.atoms.specs.Atoms.{bits}
use Rattle.atoms.specs.declared.AtomSet.{AtomSet}
use Rattle.models.specs.Models.{Explanations}
use Rattle.models.proofs.Lister.{empty_none, none_empty}
use Rattle.clauses.specs.Clauses.{language}
use Rattle.clauses.specs.declared.clauses.Clause.{Clause}
use Rattle.clauses.proofs.Decided.{laws}
use Rattle.layers.specs.Standing.{observed_over}
use Rattle.layers.specs.declared.observations.Observation.{Observation}
use Rattle.cases.specs.Observing.{verdict, withdrawal}
use Rattle.cases.specs.Requests.{Answered, Reply}
use Rattle.cases.specs.declared.refusals.RequestRefusal.TheVariants.{WrongShelf, ShelfFull}
use Rattle.histories.specs.Answers.{handed, handed_by, told_observe, told_request, told_withdraw}
use Rattle.histories.specs.Histories.{Complete, Due, Listed, Requests, standing}
use Rattle.histories.specs.Phases.{after, Lawful, LawfulFrom, Phase, phase_after, Right, Told}
use Rattle.histories.specs.Phases.Phase.{resting, listing}
use Rattle.histories.specs.declared.calls.Answer.{Answer}
use Rattle.histories.specs.declared.calls.Answer.TheVariants.{Done, Explanation, NoMore, RequestRefused}
use Rattle.histories.specs.declared.calls.Call.{Call}
use Rattle.histories.specs.declared.calls.Call.TheVariants.{Observe, Withdraw, Open, Request, Close}
use Rattle.histories.specs.declared.calls.Entry.{Entry}
use Rattle.histories.proofs.Phased.{asked_lawful, lawful_back, lawful_front, rest_lawful, seen_by, standing_is, turn}

-- two different answers
abbrev pub Never : Type 0
Never = ◌≡◌ {A = ℕ} 0 1

pub never : Never → ⊥
never z = omega arith

module _ (ms out : List ℕ) (places : ℕ) where
  -- the sets handed out stay the first so many
  replied_front : (x : Reply) → Answered ms out places x → out ≡ take (length out) ms →
      out ++ handed_by (told_request x) ≡ take (length (out ++ handed_by (told_request x))) ms
  replied_front (Ok (Some s)) t f =
      let one : length (out ++ (bits s ∷ [])) ≡ length out + 1 = length-append out (bits s ∷ []) in
      sym (ap (λ (n : ℕ). take n ms) one ∙ take_more ms (length out) 0 t.0 ∙ ap (λ (xs : List ℕ). xs ++ (get_or ms (length out) 0 ∷ [])) (sym f)
      ∙ ap (λ (x : ℕ). out ++ (x ∷ [])) (sym t.2))
  replied_front (Ok None) t f = append-nil out ∙ f ∙ ap (λ (xs : List ℕ). take (length xs) ms) (sym (append-nil out))
  replied_front (Err e) t f = append-nil out ∙ f ∙ ap (λ (xs : List ℕ). take (length xs) ms) (sym (append-nil out))

  step_front : (r : Answer) → Told ms out places r → out ≡ take (length out) ms → out ++ handed_by r ≡ take (length (out ++ handed_by r)) ms
  step_front r t f =
      subst (λ (x : Answer). out ++ handed_by x ≡ take (length (out ++ handed_by x)) ms) (sym t.1) (replied_front t.0 t.2 f)

  module _ (front : out ≡ take (length out) ms) where
    pub whole : length ms ≤ length out → out ≡ ms
    whole e = front ∙ take_all (length out) ms e

    no_more : (x : Reply) → Answered ms out places x → (told_request x ≡ NoMore) ↔ (out ≡ ms)
    no_more (Ok (Some s)) t = ((λ e. absurd (never (cc))), λ e. absurd (omega (arith, t.0, ap length e)))
    no_more (Ok None) t = ((λ e. whole (omega (arith, t))), λ e. refl)
    no_more (Err WrongShelf) t = absurd t
    no_more (Err ShelfFull) t = ((λ e. absurd (never (cc))), λ e. absurd (omega (arith, t.0, ap length e)))

    full : (x : Reply) → Answered ms out places x → (told_request x ≡ RequestRefused ShelfFull) ↔ ((length out < length ms) × (places ≤ length out))
    full (Ok (Some s)) t = ((λ e. absurd (never (cc))), λ k. absurd (omega (arith, t.1, k.1)))
    full (Ok None) t = ((λ e. absurd (never (cc))), λ k. absurd (omega (arith, t, k.0)))
    full (Err WrongShelf) t = absurd t
    full (Err ShelfFull) t = ((λ e. t), λ k. refl)

    next : (x : Reply) → Answered ms out places x → (told_request x ≡ NoMore → ⊥) → (told_request x ≡ RequestRefused ShelfFull → ⊥) →
        (s : AtomSet) × (told_request x ≡ Explanation s) × (length out < length ms) × (bits s ≡ get_or ms (length out) 0)
    next (Ok (Some s)) k p q = (s, refl, k.0, k.2)
    next (Ok None) k p q = absurd (p refl)
    next (Err WrongShelf) k p q = absurd k
    next (Err ShelfFull) k p q = absurd (q refl)

    pub due : (cs : List Clause) → Explanations language cs ms → (r : Answer) → Told ms out places r → Due cs ms out places r
    due cs l r t =
        let n = no_more t.0 t.2 in
        subst (λ (x : Answer). Due cs ms out places x) (sym t.1) (record {
          no_more = n;
          none_at_first = λ e. ((λ k. empty_none laws cs ms l (sym (n.0 k) ∙ e)), λ k. n.1 (e ∙ sym (none_empty laws cs ms l k)));
          full = full t.0 t.2;
          next = next t.0 t.2;
        })

module _ (cs : List Clause) (places : ℕ) where
  pub fronted : (os : List Observation) (out : List ℕ) (d : List Entry) → Requests d → LawfulFrom cs places (listing os out) d →
      (ms : List ℕ) → Explanations language (observed_over os cs) ms → out ≡ take (length out) ms → out ++ handed d ≡ take (length (out ++ handed d)) ms
  fronted os out [] q l ms e f = append-nil out ∙ f ∙ ap (λ (xs : List ℕ). take (length xs) ms) (sym (append-nil out))
  fronted os out (x ∷ d) q l ms e f =
      let w : Right cs places (listing os out) Request x.answer = subst (λ (k : Call). Right cs places (listing os out) k x.answer) q.0 l.0 in
      let k : LawfulFrom cs places (listing os (out ++ handed_by x.answer)) d =
      subst (λ (c : Call). LawfulFrom cs places (after (listing os out) c x.answer) d) q.0 l.1 in
      subst (λ (xs : List ℕ). xs ≡ take (length xs) ms) (append_assoc out (handed_by x.answer) (handed d))
      (fronted os (out ++ handed_by x.answer) d q.1 k ms e (step_front ms out places x.answer (w ms e) f))

  module _ (h : List Entry) (l : Lawful cs places h) where
    first_so_many : (before during rest : List Entry) → Listed h before during rest →
        (ms : List ℕ) → Explanations language (observed_over (standing before) cs) ms → handed during ≡ take (length (handed during)) ms
    first_so_many before d rest x ms e =
        fronted (standing before) [] d x.asked (lawful_front cs places (listing (standing before) []) d rest (asked_lawful cs places h before d rest l x)) ms e refl

    module _ (before rest : List Entry) (e : Entry) (place : h ≡ before ++ (e ∷ rest)) where
      here : Lawful cs places (before ++ (e ∷ rest))
      here = subst (λ (es : List Entry). Lawful cs places es) place l

      earlier : Lawful cs places before
      earlier = lawful_front cs places (resting []) before (e ∷ rest) here

      right : Right cs places (phase_after before) e.call e.answer
      right = (lawful_back cs places (resting []) before (e ∷ rest) here).0

      right_at : (k : Call) → e.call ≡ k → Right cs places (phase_after before) k e.answer
      right_at k is = subst (λ (c : Call). Right cs places (phase_after before) c e.answer) is right

    observe_at : (p : Phase) (a : ℕ) (q : Bool) (r : Answer) → Right cs places p (Observe a q) r → r ≡ told_observe (verdict (seen_by p) a)
    observe_at (resting os) a q r w = w
    observe_at (listing os out) a q r w = absurd w

    withdraw_at : (p : Phase) (r : Answer) → Right cs places p Withdraw r → r ≡ told_withdraw (withdrawal (seen_by p))
    withdraw_at (resting os) r w = w
    withdraw_at (listing os out) r w = absurd w

    open_at : (p : Phase) (r : Answer) → Right cs places p Open r → r ≡ Done
    open_at (resting os) r w = w
    open_at (listing os out) r w = absurd w

    close_at : (p : Phase) (r : Answer) → Right cs places p Close r → r ≡ Done
    close_at (resting os) r w = absurd w
    close_at (listing os out) r w = w

    pub complete : Complete cs places h
    complete =
        record {
          first_so_many = first_so_many;
          requests =
              λ before d rest e x is ms k.
              due ms (handed d) places (first_so_many before d (e ∷ rest) x ms k) (observed_over (standing before) cs) k e.answer
              (subst (λ (c : Call). Right cs places (listing (standing before) (handed d)) c e.answer) is (rest_lawful cs places h before d (e ∷ rest) l x).0 ms k);
          observing =
              λ before rest e a q place is.
              observe_at (phase_after before) a q e.answer (right_at before rest e place (Observe a q) is)
              ∙ ap (λ (os : List Observation). told_observe (verdict os a)) (standing_is cs places before (earlier before rest e place));
          withdrawing =
              λ before rest e place is.
              withdraw_at (phase_after before) e.answer (right_at before rest e place Withdraw is)
              ∙ ap (λ (os : List Observation). told_withdraw (withdrawal os)) (standing_is cs places before (earlier before rest e place));
          opening = λ before rest e place is. open_at (phase_after before) e.answer (right_at before rest e place Open is);
          closing = λ before rest e place is. close_at (phase_after before) e.answer (right_at before rest e place Close is);
          in_turn = λ before rest e place. turn cs places before (earlier before rest e place) e.call e.answer (right before rest e place);
        }
