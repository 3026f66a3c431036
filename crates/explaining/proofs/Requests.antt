-- A listing that is asked until it hands out no more.
use Rattle.std.proofs.Common.{◌≡◌, ℕ, ◌+◌, ◌-◌, ◌<◌, ◌≤◌, Bool, true, false, List, [], ◌∷◌, ◌++◌, map, length, take, Some, None, Ok, Err, Option, sym, refl, ap, ◌∙◌, subst, arith, length-append}
use lib.ListN.{length-map}
use Rattle.std.proofs.lemmas.List.{append-nil, take_all}
use Rattle.std.proofs.lemmas.Bool.{le-leb, lt-leb}
use Rattle.std.proofs.lemmas.Option.{none-some}
use Rattle.atoms.specs.Atoms.{bits}
use Rattle.atoms.specs.declared.AtomSet.{AtomSet}
use Rattle.models.specs.Lister.{explanations}
use Rattle.models.specs.Models.{Explanations}
use Rattle.models.proofs.Lister.{explanations_right}
use Rattle.models.proofs.Prefix.{front_prefix}
use Rattle.clauses.specs.Clauses.{language}
use Rattle.clauses.specs.declared.clauses.Clause.{Clause}
use Rattle.clauses.proofs.Decided.{laws}
use Rattle.walks.proofs.Soundness.{sound_front}
use Rattle.layers.specs.Standing.{below, observed_over, standing}
use Rattle.layers.specs.declared.observations.Observation.{Observation}
use Rattle.cases.specs.Cases.{clauses_of, listed, Sound}
use Rattle.cases.specs.Requests.{Answered, Reply, handed}
use Rattle.cases.specs.declared.Listing.{Listing}
use Rattle.cases.specs.declared.refusals.RequestRefusal.{RequestRefusal}
use Rattle.cases.specs.declared.refusals.RequestRefusal.TheVariants.{WrongShelf, ShelfFull}
use Rattle.explaining.specs.Firsts.{Firsts}

-- between requests: the clauses and the places are those of the beginning, and the shelf has what was handed out
pub record Going {S : Type 0} (f : S → List Clause) (cs : List Clause) (places : ℕ) (l : Listing S) (ts : List AtomSet) (room : ℕ) : Type 0 where
  pub clauses : clauses_of f l ≡ cs
  pub room_is : room ≡ places
  pub fits : length ts ≤ places
  pub sound : Sound cs l (map bits ts)

-- the observations and the source decide the clauses
pub same_clauses : {S : Type 0} (f : S → List Clause) (l l' : Listing S) → standing (listed l') ≡ standing (listed l)
    → below (listed l') ≡ below (listed l) → clauses_of f l' ≡ clauses_of f l
same_clauses {S} f l l' e k =
    ap (λ (os : List Observation). observed_over os (f (below (listed l')))) e
    ∙ ap (λ (s : S). observed_over (standing (listed l)) (f s)) k

pub begins : {S : Type 0} (f : S → List Clause) (cs : List Clause) (l : Listing S) (ts : List AtomSet) (room : ℕ)
    → clauses_of f l ≡ cs → Sound cs l [] → ts ≡ [] → Going f cs room l ts room
begins f cs l ts room same v none = record {
  clauses = same;
  room_is = refl;
  fits = omega (arith, ap length none);
  sound = subst (λ (xs : List AtomSet). Sound cs l (map bits xs)) (sym none) v;
}

-- the list of explanations
abbrev whole : List Clause → List ℕ
whole cs = explanations language cs

whole_right : (cs : List Clause) → Explanations language cs (whole cs)
whole_right = explanations_right laws

front : {S : Type 0} (cs : List Clause) (l : Listing S) (out : List ℕ) → Sound cs l out → out ≡ take (length out) (whole cs)
front cs l out v = front_prefix laws cs out (whole cs) (sound_front cs l.walk out v.stands) (whole_right cs)

module _ {S : Type 0} {f : S → List Clause} {cs : List Clause} {places : ℕ} {l : Listing S} {ts : List AtomSet} {room : ℕ}
    (g : Going f cs places l ts room) where
  -- what a request of the listing says of its reply
  abbrev Answers : Reply → Type 0
  Answers r =
      Sound (clauses_of f l) l (map bits ts) → (ms : List ℕ) → Explanations language (clauses_of f l) ms → Answered ms (map bits ts) room r

  pub told : Sound (clauses_of f l) l (map bits ts)
  told = subst (λ (d : List Clause). Sound d l (map bits ts)) (sym g.clauses) g.sound

  answered : (r : Reply) → Answers r → Answered (whole cs) (map bits ts) room r
  answered r a = a told (whole cs) (subst (λ (d : List Clause). Explanations language d (whole cs)) (sym g.clauses) (whole_right cs))

  -- one more set is on the shelf, and one place less is free
  pub goes_on : (o : Option AtomSet) (s : AtomSet) (l' : Listing S) (ts' : List AtomSet) (room' : ℕ)
      → o ≡ Some s → Answers (Ok o) → standing (listed l') ≡ standing (listed l) → below (listed l') ≡ below (listed l)
      → room' ≡ room → ts' ≡ ts ++ handed (Ok o) → (Sound (clauses_of f l) l (map bits ts) → Sound (clauses_of f l) l' (map bits ts'))
      → Going f cs places l' ts' room' × (places - length ts' < places - length ts)
  goes_on None s l' ts' room' z a same rest still more v = absurd (none-some s z)
  goes_on (Some t) s l' ts' room' z a same rest still more v =
      let k = answered (Ok (Some t)) a in
      let n : length ts' ≡ length ts + 1 = ap length more ∙ length-append ts (t ∷ []) in
      let few : length ts < places = omega (arith, k.1, length-map ts bits, g.room_is) in (
        record {
          clauses = same_clauses f l l' same rest ∙ g.clauses;
          room_is = still ∙ g.room_is;
          fits = omega (arith, n, few);
          sound = subst (λ (d : List Clause). Sound d l' (map bits ts')) g.clauses (v told);
        },
        omega (arith, n, few),
      )

  -- there are no more
  pub ends : (o : Option AtomSet) (ts' : List AtomSet) → o ≡ None → Answers (Ok o) → ts' ≡ ts ++ handed (Ok o)
      → Firsts cs places true (map bits ts')
  ends (Some s) ts' z a same = absurd (none-some s (sym z))
  ends None ts' z a same =
      let k = answered (Ok None) a in
      let short : length (whole cs) ≤ places = omega (arith, k, length-map ts bits, g.fits) in
      let all : take (length (map bits ts)) (whole cs) ≡ whole cs = take_all (length (map bits ts)) (whole cs) (omega (arith, k)) in
      record {
        ms = whole cs;
        explanations = whole_right cs;
        out_is =
            ap (map bits) (same ∙ append-nil ts) ∙ front cs l (map bits ts) g.sound ∙ all
            ∙ sym (take_all places (whole cs) short);
        complete_is = sym (le-leb (length (whole cs)) places short);
      }

  -- there is one more, and no place for it
  pub stops : (e : RequestRefusal) (ts' : List AtomSet) → Answers (Err e) → ts' ≡ ts ++ [] → Firsts cs places false (map bits ts')
  stops WrongShelf ts' a same = absurd (answered (Err WrongShelf) a)
  stops ShelfFull ts' a same =
      let k = answered (Err ShelfFull) a in
      let n : length (map bits ts) ≡ places = omega (arith, k.1, length-map ts bits, g.fits, g.room_is) in
      record {
        ms = whole cs;
        explanations = whole_right cs;
        out_is = ap (map bits) (same ∙ append-nil ts) ∙ front cs l (map bits ts) g.sound ∙ ap (λ (i : ℕ). take i (whole cs)) n;
        complete_is = sym (lt-leb (length (whole cs)) places (omega (arith, k.0, n)));
      }

-- with no observation, the clauses are those of the source
pub of_source : {S : Type 0} (f : S → List Clause) (l : Listing S) (s : S) {places places' : ℕ} {complete : Bool} {out : List ℕ}
    → standing (listed l) ≡ [] → below (listed l) ≡ s → places' ≡ places → Firsts (clauses_of f l) places' complete out
    → Firsts (f s) places complete out
of_source {S} f l s {places} {places'} {complete} {out} none e p h =
    let same : clauses_of f l ≡ f s =
    ap (λ (os : List Observation). observed_over os (f (below (listed l)))) none ∙ ap f e in
    subst (λ (n : ℕ). Firsts (f s) n complete out) p (subst (λ (d : List Clause). Firsts d places' complete out) same h)
