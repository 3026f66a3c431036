-- Which refusal is due, by what was found of the names line and the document.
use Rattle.std.proofs.Common.{◌≡◌, ℕ, zero, suc, ◌<◌, ◌≤◌, List, [], length, sym, refl, ap, ◌∙◌, subst, ⊎_elim, arith}
use Rattle.std.proofs.lemmas.Bool.{cases_lt}
use Rattle.formats.specs.Format.{Apart}
use Rattle.formats.proofs.Splits.{one_line}
use Rattle.writers.specs.Documents.{Document, TooLong, Unfit, text_of}
use Rattle.writers.specs.Refusals.{Due, IsLine, Wrong, turn}
use Rattle.writers.specs.declared.refusals.WriteRefusal.{WriteRefusal}
use Rattle.writers.specs.declared.refusals.WriteRefusal.TheVariants.{Names, Twice, Atoms, Long, Room}

-- ---- the turns

at_turn : ℕ → WriteRefusal
at_turn zero = Names
at_turn (suc zero) = Twice
at_turn (suc (suc zero)) = Atoms
at_turn (suc (suc (suc zero))) = Long
at_turn (suc (suc (suc (suc k)))) = Room

turn_back : (f : WriteRefusal) → at_turn (turn f) ≡ f
unfolding at_turn
turn_back Names = refl
turn_back Twice = refl
turn_back Atoms = refl
turn_back Long = refl
turn_back Room = refl

pub turn_once : (f g : WriteRefusal) → turn f ≡ turn g → f ≡ g
turn_once f g e = sym (turn_back f) ∙ (ap at_turn e ∙ turn_back g)

turn_below : (f : WriteRefusal) → turn f < 5
turn_below Names = omega arith
turn_below Twice = omega arith
turn_below Atoms = omega arith
turn_below Long = omega arith
turn_below Room = omega arith

-- a names line has one list of names
pub names_once : (text : List ℕ) (names names' : List (List ℕ)) → IsLine text names → IsLine text names' → names ≡ names'
names_once text names names' l l' = (one_line text [] [] names names' l l').0

-- ---- the conditions, one after another

module _ (text : List ℕ) (doc : Document) (room : ℕ) where
  -- nothing is wrong whose turn comes before turn k
  abbrev Clear : ℕ → Type 0
  Clear k = (g : WriteRefusal) → turn g < k → Wrong text doc room g → ⊥

  clear_none : Clear 0
  clear_none g h w = omega arith

  clear_more : (f : WriteRefusal) → Clear (turn f) → (Wrong text doc room f → ⊥) → Clear (suc (turn f))
  clear_more f c n g h w =
      ⊎_elim
      (λ (l : turn g < turn f). c g l w)
      (λ (l : turn f ≤ turn g). n (subst (Wrong text doc room) (turn_once g f (omega arith)) w))
      (cases_lt (turn g) (turn f))

  pub due_names : Wrong text doc room Names → Due text doc room Names
  due_names w = record { wrong = w; first = clear_none }

  module _ (names : List (List ℕ)) (l : IsLine text names) where
    past_names : Clear 1
    past_names = clear_more Names clear_none (λ w. w names l)

    pub due_twice : (Apart names → ⊥) → Due text doc room Twice
    due_twice h = record { wrong = (names, l, h); first = past_names }

    module _ (a : Apart names) where
      past_twice : Clear 2
      past_twice = clear_more Twice past_names (λ w. w.2 (subst Apart (names_once text names w.0 l w.1) a))

      pub due_atoms : Unfit (length names) doc → Due text doc room Atoms
      due_atoms h = record { wrong = (names, l, h); first = past_twice }

      module _ (u : Unfit (length names) doc → ⊥) where
        past_atoms : Clear 3
        past_atoms = clear_more Atoms past_twice (λ w. u (subst (λ n. Unfit (length n) doc) (names_once text w.0 names w.1 l) w.2))

        pub due_long : TooLong doc (length (text_of names doc)) → Due text doc room Long
        due_long h = record { wrong = (names, l, h); first = past_atoms }

        module _ (s : TooLong doc (length (text_of names doc)) → ⊥) where
          past_long : Clear 4
          past_long = clear_more Long past_atoms (λ w. s (subst (λ n. TooLong doc (length (text_of n doc))) (names_once text w.0 names w.1 l) w.2))

          pub due_room : room < length (text_of names doc) → Due text doc room Room
          due_room h = record { wrong = (names, l, h); first = past_long }

          pub nothing_wrong : length (text_of names doc) ≤ room → (f : WriteRefusal) → Wrong text doc room f → ⊥
          nothing_wrong r f w =
              clear_more Room past_long
              (λ v. omega (arith, v.2, ap (λ n. length (text_of n doc)) (names_once text v.0 names v.1 l)))
              f (turn_below f) w
