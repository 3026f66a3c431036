-- What an argument asks.
use Rattle.std.specs.Prelude.{◌≡◌, ℕ, ◌⊎◌, List, codes}

-- the argument is one of the two that ask for help
abbrev pub ForHelp : List ℕ → Type 0
ForHelp w = (w ≡ codes "--help") ⊎ (w ≡ codes "-h")
