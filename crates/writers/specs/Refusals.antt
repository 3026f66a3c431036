-- When a text is not written.
use Rattle.std.specs.Prelude.{◌≡◌, ℕ, ◌<◌, List, [], length}
use Rattle.formats.specs.Format.{Apart, Begins}
use Rattle.writers.specs.Documents.{Document, TooLong, Unfit, text_of}
use Rattle.writers.specs.declared.refusals.WriteRefusal.{WriteRefusal}
use Rattle.writers.specs.declared.refusals.WriteRefusal.TheVariants.{Names, Twice, Atoms, Long, Room}

-- the number of each refusal
abbrev pub number_of : WriteRefusal → ℕ
number_of Names = 2
number_of Twice = 3
number_of Atoms = 14
number_of Long = 1
number_of Room = 13

-- the place of each refusal in the order of the checks
abbrev pub turn : WriteRefusal → ℕ
turn Names = 0
turn Twice = 1
turn Atoms = 2
turn Long = 3
turn Room = 4

-- the text is the line of these names and nothing more; a name may stand twice
abbrev pub IsLine : List ℕ → List (List ℕ) → Type 0
IsLine text names = Begins text names []

-- the condition of each refusal of a document under a names line, for a buffer of `room` bytes
abbrev pub Wrong : List ℕ → Document → ℕ → WriteRefusal → Type 0
Wrong text doc room Names = (names : List (List ℕ)) → IsLine text names → ⊥
Wrong text doc room Twice = (names : List (List ℕ)) × IsLine text names × (Apart names → ⊥)
Wrong text doc room Atoms = (names : List (List ℕ)) × IsLine text names × Unfit (length names) doc
Wrong text doc room Long = (names : List (List ℕ)) × IsLine text names × TooLong doc (length (text_of names doc))
Wrong text doc room Room = (names : List (List ℕ)) × IsLine text names × (room < length (text_of names doc))

-- a refusal is due where its condition holds and that of no earlier one does
pub record Due (text : List ℕ) (doc : Document) (room : ℕ) (f : WriteRefusal) : Type 0 where
  pub wrong : Wrong text doc room f
  pub first : (g : WriteRefusal) → turn g < turn f → Wrong text doc room g → ⊥

-- the text is the line of n names, and no name stands twice
pub record Heading (text : List ℕ) (n : ℕ) : Type 0 where
  pub names : List (List ℕ)
  pub is_line : IsLine text names
  pub apart : Apart names
  pub count : length names ≡ n

-- a refusal that the names line alone decides
abbrev pub NamesRefused : List ℕ → WriteRefusal → Type 0
NamesRefused text f = (doc : Document) (room : ℕ) → Due text doc room f
