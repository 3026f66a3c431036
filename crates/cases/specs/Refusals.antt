-- The numbers by which refusals are told to other programs, and their words.
use Rattle.std.specs.Prelude.{ℕ, List, codes}
use Rattle.cases.specs.declared.refusals.ObserveRefusal.{ObserveRefusal}
use Rattle.cases.specs.declared.refusals.ObserveRefusal.TheVariants.{NoSuchAtom, AlreadyObserved}
use Rattle.cases.specs.declared.refusals.RequestRefusal.{RequestRefusal}
use Rattle.cases.specs.declared.refusals.RequestRefusal.TheVariants.{WrongShelf, ShelfFull}
use Rattle.cases.specs.declared.refusals.WithdrawRefusal.{WithdrawRefusal}
use Rattle.cases.specs.declared.refusals.WithdrawRefusal.TheVariants.{NothingObserved}

abbrev pub observe_number : ObserveRefusal → ℕ
observe_number NoSuchAtom = 5
observe_number AlreadyObserved = 6

abbrev pub withdraw_number : WithdrawRefusal → ℕ
withdraw_number NothingObserved = 7

abbrev pub request_number : RequestRefusal → ℕ
request_number WrongShelf = 8
request_number ShelfFull = 9

-- the words in which each refusal is printed
abbrev pub observe_words : ObserveRefusal → List ℕ
observe_words NoSuchAtom = codes "there is no such atom"
observe_words AlreadyObserved = codes "it is observed already"

abbrev pub withdraw_words : WithdrawRefusal → List ℕ
withdraw_words NothingObserved = codes "nothing is observed"

abbrev pub request_words : RequestRefusal → List ℕ
request_words WrongShelf = codes "the shelf has another number of sets"
request_words ShelfFull = codes "the shelf is full, and an explanation is left"
