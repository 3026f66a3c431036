-- The law decides every answer, and a refused call leaves no trace.
use Rattle.std.proofs.Common.{◌≡◌, ℕ, ◌<◌, ◌≤◌, cond, ltb, ◌⊎◌, List, [], ◌∷◌, ◌++◌, map, length, get_or, take, Some, None, Ok, Err, sym, refl, ap, ◌∙◌, subst, ap₂, inl, inr, append_assoc, arith}
use Rattle.std.proofs.lemmas.List.{append-nil}
use Rattle.std.proofs.lemmas.Bool.{cases_lt, cond-false, cond-true, le-ltb, lt-ltb}
use Rattle.atoms.specs.Atoms.{set_of}
use Rattle.atoms.specs.declared.AtomSet.{AtomSet}
use Rattle.atoms.proofs.Values.{value_is}
use Rattle.models.specs.Lister.{explanations}
use Rattle.models.proofs.Lister.{explanations_right}
use Rattle.clauses.specs.Clauses.{language}
use Rattle.clauses.specs.declared.clauses.Clause.{Clause}
use Rattle.clauses.proofs.Decided.{laws}
use Rattle.layers.specs.Standing.{observed_over}
use Rattle.layers.specs.declared.observations.Observation.{Observation}
use Rattle.cases.specs.Requests.{Answered, Reply}
use Rattle.cases.specs.declared.refusals.RequestRefusal.TheVariants.{WrongShelf, ShelfFull}
use Rattle.histories.specs.Answers.{call_of, handed, handed_by, told_request}
use Rattle.histories.specs.Histories.{Complete, Due, if_done, InTurn, Listed, Opened, standing}
use Rattle.histories.specs.Phases.{after, Lawful, LawfulFrom, Phase, phase_after, Right, Told}
use Rattle.histories.specs.Phases.Phase.{resting, listing}
use Rattle.histories.specs.Theorems.{NoFreedom, NoTrace, Refused}
use Rattle.histories.specs.declared.calls.Answer.{Answer}
use Rattle.histories.specs.declared.calls.Answer.TheVariants.{Pending, Done, Explanation, NoMore, ObserveRefused, WithdrawRefused, RequestRefused}
use Rattle.histories.specs.declared.calls.Call.{Call}
use Rattle.histories.specs.declared.calls.Call.TheVariants.{Observe, Withdraw, Open, Request, Close}
use Rattle.histories.specs.declared.calls.Entry.{Entry}
use Rattle.histories.proofs.Completing.{complete, never, whole}
use Rattle.histories.proofs.Phased.{lawful_back, lawful_front, lawful_join, open_place, phase_join, phase_open, resting_is}

-- the one reply to a request
abbrev the_reply : List ℕ → List ℕ → ℕ → Reply
the_reply ms out places =
    cond (ltb (length out) (length ms)) (cond (ltb (length out) places) (Ok (Some (set_of (get_or ms (length out) 0)))) (Err ShelfFull)) (Ok None)

reply_is : (ms out : List ℕ) (places : ℕ) (x : Reply) → Answered ms out places x → x ≡ the_reply ms out places
reply_is ms out places (Ok (Some s)) t =
    sym (cond-true (ltb (length out) (length ms)) _ _ (lt-ltb (length out) (length ms) t.0) ∙ cond-true (ltb (length out) places) _ _ (lt-ltb (length out) places t.1)
    ∙ ap (λ (x : AtomSet). Ok (Some x)) (sym (value_is s (get_or ms (length out) 0) t.2)))
reply_is ms out places (Ok None) t = sym (cond-false (ltb (length out) (length ms)) _ _ (le-ltb (length out) (length ms) (omega (arith, t))))
reply_is ms out places (Err WrongShelf) t = absurd t
reply_is ms out places (Err ShelfFull) t =
    sym (cond-true (ltb (length out) (length ms)) _ _ (lt-ltb (length out) (length ms) t.0) ∙ cond-false (ltb (length out) places) _ _ (le-ltb (length out) places t.1))

told_is : (ms out : List ℕ) (places : ℕ) (r : Answer) → Told ms out places r → r ≡ told_request (the_reply ms out places)
told_is ms out places r t = t.1 ∙ ap told_request (reply_is ms out places t.0 t.2)

-- what is due is told
module _ (cs : List Clause) (ms out : List ℕ) (places : ℕ) (front : out ≡ take (length out) ms) (r : Answer) (d : Due cs ms out places r) where
  pub told : Told ms out places r
  told = left (cases_lt (length out) (length ms))
    where
      placed : length out < length ms → (length out < places) ⊎ (places ≤ length out) → Told ms out places r
      placed l (inl k) =
          let n = d.next (λ e. omega (arith, l, ap length (d.no_more.0 e))) (λ e. omega (arith, k, (d.full.0 e).1)) in
          (Ok (Some n.0), n.1, (l, k, n.3))
      placed l (inr k) = (Err ShelfFull, d.full.1 (l, k), (l, k))

      left : (length out < length ms) ⊎ (length ms ≤ length out) → Told ms out places r
      left (inl l) = placed l (cases_lt (length out) places)
      left (inr l) = let all : out ≡ ms = whole ms out places front l in (Ok None, d.no_more.1 all, ap length all)

module _ (cs : List Clause) (places : ℕ) where
  -- a history that keeps the law has right answers, call by call
  module _ (h : List Entry) (c : Complete cs places h) where
    module _ (pre : List Entry) (e : Entry) (t : List Entry) (place : h ≡ pre ++ (e ∷ t)) (l : Lawful cs places pre) where
      resting_right : (k : Call) → ¬ Opened pre → Right cs places (resting (standing pre)) k e.answer → Right cs places (phase_after pre) k e.answer
      resting_right k n w = subst (λ (p : Phase). Right cs places p k e.answer) (sym (resting_is cs places pre l n)) w

      listing_right : (k : Call) (x : Opened pre) → Right cs places (listing (standing x.0) (handed x.1)) k e.answer → Right cs places (phase_after pre) k e.answer
      listing_right k x w = subst (λ (p : Phase). Right cs places p k e.answer) (sym (phase_open cs places pre x.0 x.1 l x.2)) w

      asked : (x : Opened pre) → Listed h x.0 x.1 (e ∷ t)
      asked x =
          let m = x.2 in
          record {
            opening = m.opening;
            place =
                place ∙ ap (λ (es : List Entry). es ++ (e ∷ t)) (open_place pre x.0 x.1 m) ∙ append_assoc x.0 (m.opening ∷ x.1) (e ∷ t);
            opened = m.opened;
            asked = m.asked;
          }

      right_at : (k : Call) → e.call ≡ k → InTurn pre k → Right cs places (phase_after pre) k e.answer
      right_at (Observe a q) is n = resting_right (Observe a q) n (c.observing pre t e a q place is)
      right_at Withdraw is n = resting_right Withdraw n (c.withdrawing pre t e place is)
      right_at Open is n = resting_right Open n (c.opening pre t e place is)
      right_at Request is x =
          listing_right Request x
          (λ ms k. let os = observed_over (standing x.0) cs in
          told os ms (handed x.1) places (c.first_so_many x.0 x.1 (e ∷ t) (asked x) ms k) e.answer (c.requests x.0 x.1 t e (asked x) is ms k))
      right_at Close is x = listing_right Close x (c.closing pre t e place is)

      pub right : Right cs places (phase_after pre) e.call e.answer
      right = right_at e.call refl (c.in_turn pre t e place)

    lawful_rest : (t pre : List Entry) → h ≡ pre ++ t → Lawful cs places pre → LawfulFrom cs places (phase_after pre) t
    lawful_rest [] pre place l = tt
    lawful_rest (e ∷ t) pre place l =
        let w = right pre e t place l in
        let more : Lawful cs places (pre ++ (e ∷ [])) = lawful_join cs places (resting []) pre (e ∷ []) l (w, tt) in
        let next = lawful_rest t (pre ++ (e ∷ [])) (place ∙ sym (append_assoc pre (e ∷ []) t)) more in
        (w, subst (λ (p : Phase). LawfulFrom cs places p t) (phase_join (resting []) pre (e ∷ [])) next)

    pub lawful : Lawful cs places h
    lawful = lawful_rest h [] refl tt

  right_one : (p : Phase) (k : Call) (r r' : Answer) → Right cs places p k r → Right cs places p k r' → r ≡ r'
  right_one (resting os) (Observe a q) r r' w w' = w ∙ sym w'
  right_one (resting os) Withdraw r r' w w' = w ∙ sym w'
  right_one (resting os) Open r r' w w' = w ∙ sym w'
  right_one (resting os) Request r r' w w' = absurd w
  right_one (resting os) Close r r' w w' = absurd w
  right_one (listing os out) (Observe a q) r r' w w' = absurd w
  right_one (listing os out) Withdraw r r' w w' = absurd w
  right_one (listing os out) Open r r' w w' = absurd w
  right_one (listing os out) Request r r' w w' =
      let ms = explanations language (observed_over os cs) in
      let l = explanations_right laws (observed_over os cs) in
      told_is ms out places r (w ms l) ∙ sym (told_is ms out places r' (w' ms l))
  right_one (listing os out) Close r r' w w' = w ∙ sym w'

  lawful_one : (p : Phase) (h h' : List Entry) → LawfulFrom cs places p h → LawfulFrom cs places p h' → map call_of h ≡ map call_of h' → h ≡ h'
  lawful_one p [] [] l l' e = refl
  lawful_one p [] (y ∷ h') l l' e = absurd (never (cc))
  lawful_one p (x ∷ h) [] l l' e = absurd (never (cc))
  lawful_one p (x ∷ h) (y ∷ h') l l' e =
      let call : x.call ≡ y.call = cc in
      let calls : map call_of h ≡ map call_of h' = cc in
      let answer : x.answer ≡ y.answer = right_one p y.call x.answer y.answer (subst (λ (k : Call). Right cs places p k x.answer) call l.0) l'.0 in
      let same : x ≡ y = ap₂ (λ (k : Call) (r : Answer). record { call = k; answer = r }) call answer in
      ap₂ (λ (z : Entry) (es : List Entry). z ∷ es) same
      (lawful_one (after p y.call y.answer) h h' (subst (λ (z : Entry). LawfulFrom cs places (after p z.call z.answer) h) same l.1) l'.1 calls)

  -- a refusal takes no observation, and hands out nothing
  nothing_done : (r : Answer) (xs ys : List Observation) → Refused r → (if_done r xs ys ≡ ys) × (handed_by r ≡ [])
  nothing_done Pending xs ys f = absurd f
  nothing_done Done xs ys f = absurd f
  nothing_done (Explanation s) xs ys f = absurd f
  nothing_done NoMore xs ys f = absurd f
  nothing_done (ObserveRefused e) xs ys f = (refl, refl)
  nothing_done (WithdrawRefused e) xs ys f = (refl, refl)
  nothing_done (RequestRefused e) xs ys f = (refl, refl)

  -- a refused call leaves the phase as it was
  stays : (p : Phase) (k : Call) (r : Answer) → Right cs places p k r → Refused r → after p k r ≡ p
  stays (resting os) (Observe a q) r w f = ap resting (nothing_done r _ os f).0
  stays (resting os) Withdraw r w f = ap resting (nothing_done r _ os f).0
  stays (resting os) Open r w f = absurd (subst Refused w f)
  stays (resting os) Request r w f = absurd w
  stays (resting os) Close r w f = absurd w
  stays (listing os out) (Observe a q) r w f = absurd w
  stays (listing os out) Withdraw r w f = absurd w
  stays (listing os out) Open r w f = absurd w
  stays (listing os out) Request r w f = ap (listing os) (ap (λ (xs : List ℕ). out ++ xs) (nothing_done r [] [] f).1 ∙ append-nil out)
  stays (listing os out) Close r w f = absurd (subst Refused w f)

pub no_freedom : NoFreedom
no_freedom cs places h h' c c' e = lawful_one cs places (resting []) h h' (lawful cs places h c) (lawful cs places h' c') e

pub no_trace : NoTrace
no_trace cs places before rest e f c =
    let l = lawful cs places (before ++ (e ∷ rest)) c in
    let k = lawful_back cs places (resting []) before (e ∷ rest) l in
    let same = stays cs places (phase_after before) e.call e.answer k.0 f in
    complete cs places (before ++ rest)
    (lawful_join cs places (resting []) before rest (lawful_front cs places (resting []) before (e ∷ rest) l) (subst (λ (p : Phase). LawfulFrom cs places p rest) same k.1))
