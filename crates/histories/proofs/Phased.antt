-- The phases of a history that is lawful, by its listings.
use Rattle.std.proofs.Common.{◌≡◌, ℕ, ◌⊎◌, List, [], ◌∷◌, ◌++◌, sym, refl, ap, ◌∙◌, subst, ap₂, inl, inr, append_assoc}
use Rattle.std.proofs.lemmas.List.{append-nil}
use Rattle.clauses.specs.declared.clauses.Clause.{Clause}
use Rattle.layers.specs.declared.observations.Observation.{Observation}
use Rattle.histories.specs.Answers.{handed, handed_by}
use Rattle.histories.specs.Histories.{InTurn, Listed, Opened, Requests, standing, standing_from, stood, Turn}
use Rattle.histories.specs.Phases.{after, Barred, Going, Lawful, LawfulFrom, Phase, phase_after, phase_from, Right}
use Rattle.histories.specs.Phases.Phase.{resting, listing}
use Rattle.histories.specs.declared.calls.Answer.{Answer}
use Rattle.histories.specs.declared.calls.Call.{Call}
use Rattle.histories.specs.declared.calls.Call.TheVariants.{Observe, Withdraw, Open, Request, Close}
use Rattle.histories.specs.declared.calls.Entry.{Entry}

-- the observations of a phase
abbrev pub seen_by : Phase → List Observation
seen_by (resting os) = os
seen_by (listing os out) = os

pub phase_join : (p : Phase) (xs ys : List Entry) → phase_from p (xs ++ ys) ≡ phase_from (phase_from p xs) ys
phase_join p [] ys = refl
phase_join p (x ∷ xs) ys = phase_join (after p x.call x.answer) xs ys

-- requests in a listing
pub phase_requests : (os : List Observation) (out : List ℕ) (d : List Entry) → Requests d → phase_from (listing os out) d ≡ listing os (out ++ handed d)
phase_requests os out [] q = ap (listing os) (sym (append-nil out))
phase_requests os out (e ∷ d) q =
    ap (λ (k : Call). phase_from (after (listing os out) k e.answer) d) q.0
    ∙ phase_requests os (out ++ handed_by e.answer) d q.1
    ∙ ap (listing os) (append_assoc out (handed_by e.answer) (handed d))

-- whether a listing is open decides whose turn it is
same_turn : (P Q : Type 0) → (P → Q) → (Q → P) → (k : Call) → Turn P k → Turn Q k
same_turn P Q to from (Observe a p) t = λ q. t (from q)
same_turn P Q to from Withdraw t = λ q. t (from q)
same_turn P Q to from Open t = λ q. t (from q)
same_turn P Q to from Request t = to t
same_turn P Q to from Close t = to t

-- a history that ends in an open listing
pub open_place : (h before d : List Entry) (x : Listed h before d []) → h ≡ before ++ (x.opening ∷ d)
open_place h before d x = x.place ∙ ap (λ (es : List Entry). before ++ (x.opening ∷ es)) (append-nil d)

module _ (cs : List Clause) (places : ℕ) where
  pub lawful_front : (p : Phase) (xs ys : List Entry) → LawfulFrom cs places p (xs ++ ys) → LawfulFrom cs places p xs
  lawful_front p [] ys l = tt
  lawful_front p (x ∷ xs) ys l = (l.0, lawful_front (after p x.call x.answer) xs ys l.1)

  pub lawful_back : (p : Phase) (xs ys : List Entry) → LawfulFrom cs places p (xs ++ ys) → LawfulFrom cs places (phase_from p xs) ys
  lawful_back p [] ys l = l
  lawful_back p (x ∷ xs) ys l = lawful_back (after p x.call x.answer) xs ys l.1

  pub lawful_join : (p : Phase) (xs ys : List Entry) → LawfulFrom cs places p xs → LawfulFrom cs places (phase_from p xs) ys → LawfulFrom cs places p (xs ++ ys)
  lawful_join p [] ys l m = m
  lawful_join p (x ∷ xs) ys l m = (l.0, lawful_join (after p x.call x.answer) xs ys l.1 m)

  step_standing : (p : Phase) (k : Call) (r : Answer) → Right cs places p k r → seen_by (after p k r) ≡ stood (seen_by p) k r
  step_standing (resting os) (Observe a q) r w = refl
  step_standing (resting os) Withdraw r w = refl
  step_standing (resting os) Open r w = refl
  step_standing (resting os) Request r w = refl
  step_standing (resting os) Close r w = refl
  step_standing (listing os out) (Observe a q) r w = absurd w
  step_standing (listing os out) Withdraw r w = absurd w
  step_standing (listing os out) Open r w = refl
  step_standing (listing os out) Request r w = refl
  step_standing (listing os out) Close r w = refl

  standing_from_lem : (p : Phase) (es : List Entry) → LawfulFrom cs places p es → seen_by (phase_from p es) ≡ standing_from (seen_by p) es
  standing_from_lem p [] l = refl
  standing_from_lem p (e ∷ es) l =
      standing_from_lem (after p e.call e.answer) es l.1
      ∙ ap (λ (os : List Observation). standing_from os es) (step_standing p e.call e.answer l.0)

  -- the observations of the phase are those that stand
  pub standing_is : (h : List Entry) → Lawful cs places h → seen_by (phase_after h) ≡ standing h
  standing_is h l = standing_from_lem (resting []) h l

  open_rests : (q : Phase) (k : Call) (r : Answer) → k ≡ Open → Right cs places q k r → q ≡ resting (seen_by q)
  open_rests (resting os) k r e w = refl
  open_rests (listing os out) k r e w = absurd (subst (λ (x : Call). Right cs places (listing os out) x r) e w)

  -- the phase in a listing
  module _ (h before d rest : List Entry) (l : Lawful cs places h) (x : Listed h before d rest) where
    abbrev o : Entry
    o = x.opening

    placed : Lawful cs places (before ++ (o ∷ (d ++ rest)))
    placed = subst (λ (es : List Entry). Lawful cs places es) x.place l

    fronting : Lawful cs places before
    fronting = lawful_front (resting []) before (o ∷ (d ++ rest)) placed

    opening_right : LawfulFrom cs places (phase_after before) (o ∷ (d ++ rest))
    opening_right = lawful_back (resting []) before (o ∷ (d ++ rest)) placed

    rests : phase_after before ≡ resting (standing before)
    rests = open_rests (phase_after before) o.call o.answer x.opened opening_right.0 ∙ ap resting (standing_is before fronting)

    pub opens : after (phase_after before) o.call o.answer ≡ listing (standing before) []
    opens = ap₂ (λ (p : Phase) (k : Call). after p k o.answer) rests x.opened

    pub phase_listed : phase_after (before ++ (o ∷ d)) ≡ listing (standing before) (handed d)
    phase_listed =
        phase_join (resting []) before (o ∷ d) ∙ ap (λ (p : Phase). phase_from p d) opens ∙ phase_requests (standing before) [] d x.asked

    -- the requests are answered lawfully
    pub asked_lawful : LawfulFrom cs places (listing (standing before) []) (d ++ rest)
    asked_lawful = subst (λ (p : Phase). LawfulFrom cs places p (d ++ rest)) opens opening_right.1

    -- and so is what comes then
    pub rest_lawful : LawfulFrom cs places (listing (standing before) (handed d)) rest
    rest_lawful =
        subst (λ (p : Phase). LawfulFrom cs places p rest) (phase_requests (standing before) [] d x.asked)
        (lawful_back (listing (standing before) []) d rest asked_lawful)

  -- the phase in which a listing is open
  pub phase_open : (h before d : List Entry) → Lawful cs places h → Listed h before d [] → phase_after h ≡ listing (standing before) (handed d)
  phase_open h before d l x = ap phase_after (open_place h before d x) ∙ phase_listed h before d [] l x

  -- a listing is open exactly where the phase says so
  pub opened_going : (h : List Entry) → Lawful cs places h → Opened h → Going (phase_after h)
  opened_going h l x = subst Going (sym (phase_open h x.0 x.1 l x.2)) tt

  opened_cons : (e : Entry) (h : List Entry) → Opened h → Opened (e ∷ h)
  opened_cons e h x =
      (e ∷ x.0, x.1, record { opening = x.2.opening; place = ap (λ (es : List Entry). e ∷ es) x.2.place; opened = x.2.opened; asked = x.2.asked })

  abbrev Gate : Phase → List Entry → Type 0
  Gate (resting os) h = Opened h
  Gate (listing os out) h = Requests h ⊎ Opened h

  gate_step : (p : Phase) (e : Entry) (es : List Entry) (k : Call) (r : Answer) → e.call ≡ k → Right cs places p k r → Gate (after p k r) es → Gate p (e ∷ es)
  gate_step (resting os) e es (Observe a q) r is w g = opened_cons e es g
  gate_step (resting os) e es Withdraw r is w g = opened_cons e es g
  gate_step (resting os) e es Open r is w (inl all) =
      ([], es, record { opening = e; place = ap (λ (xs : List Entry). e ∷ xs) (sym (append-nil es)); opened = is; asked = all })
  gate_step (resting os) e es Open r is w (inr x) = opened_cons e es x
  gate_step (resting os) e es Request r is w g = absurd w
  gate_step (resting os) e es Close r is w g = absurd w
  gate_step (listing os out) e es (Observe a q) r is w g = absurd w
  gate_step (listing os out) e es Withdraw r is w g = absurd w
  gate_step (listing os out) e es Open r is w g = absurd w
  gate_step (listing os out) e es Request r is w (inl all) = inl (is, all)
  gate_step (listing os out) e es Request r is w (inr x) = inr (opened_cons e es x)
  gate_step (listing os out) e es Close r is w g = inr (opened_cons e es g)

  gate_from : (p : Phase) (h : List Entry) → LawfulFrom cs places p h → Going (phase_from p h) → Gate p h
  gate_from (resting os) [] l g = absurd g
  gate_from (listing os out) [] l g = inl tt
  gate_from p (e ∷ es) l g =
      gate_step p e es e.call e.answer refl l.0 (gate_from (after p e.call e.answer) es l.1 g)

  pub going_opened : (h : List Entry) → Lawful cs places h → Going (phase_after h) → Opened h
  going_opened h l g = gate_from (resting []) h l g

  -- a call that is answered rightly is in turn
  turn_in : (p : Phase) (k : Call) (r : Answer) → Right cs places p k r → Turn (Going p) k
  turn_in (resting os) (Observe a q) r w = λ going. going
  turn_in (resting os) Withdraw r w = λ going. going
  turn_in (resting os) Open r w = λ going. going
  turn_in (resting os) Request r w = absurd w
  turn_in (resting os) Close r w = absurd w
  turn_in (listing os out) (Observe a q) r w = absurd w
  turn_in (listing os out) Withdraw r w = absurd w
  turn_in (listing os out) Open r w = absurd w
  turn_in (listing os out) Request r w = tt
  turn_in (listing os out) Close r w = tt

  pub turn : (h : List Entry) → Lawful cs places h → (k : Call) (r : Answer) → Right cs places (phase_after h) k r → InTurn h k
  turn h l k r w = same_turn (Going (phase_after h)) (Opened h) (going_opened h l) (opened_going h l) k (turn_in (phase_after h) k r w)

  pub barred : (h : List Entry) → Lawful cs places h → (k : Call) → Barred (phase_after h) k → InTurn h k → ⊥
  barred h l k b t = b (same_turn (Opened h) (Going (phase_after h)) (opened_going h l) (going_opened h l) k t)

  -- where no listing is open, the phase is at rest
  pub resting_is : (h : List Entry) → Lawful cs places h → ¬ Opened h → phase_after h ≡ resting (standing h)
  resting_is h l n = go (phase_after h) refl ∙ ap resting (standing_is h l)
    where
      go : (p : Phase) → phase_after h ≡ p → phase_after h ≡ resting (seen_by (phase_after h))
      go (resting os) e = e ∙ ap (λ (q : Phase). resting (seen_by q)) (sym e)
      go (listing os out) e = absurd (n (going_opened h l (subst Going (sym e) tt)))
