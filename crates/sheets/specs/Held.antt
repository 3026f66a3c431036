-- What holds of the fields of every sheet. A sheet with no names is the empty one.
use Rattle.std.specs.Prelude.{◌≡◌, ℕ, ◌≤◌, List, length}
use Rattle.formats.specs.Format.{line, render}
use Rattle.formats.specs.Places.{words, rows_in, place}
use Rattle.formats.specs.declared.layouts.Layout.{Layout}

-- the clause lines go to the end of the text
abbrev pub Ends : List ℕ → Layout → Type 0
Ends text l = place l.start l.names l.clauses ≡ length text

-- with no names there are no clauses
abbrev pub Bare : Layout → Type 0
Bare l = l.names ≡ 0 → l.clauses ≡ 0

-- line 1 has as many names, and the clause lines start after it
abbrev pub Named : List ℕ → Layout → Type 0
Named text l = 1 ≤ l.names → length (words text) ≡ l.names

abbrev pub Starts : List ℕ → Layout → Type 0
Starts text l = 1 ≤ l.names → length (line (words text)) ≡ l.start

-- the text is that of the names and the clauses
abbrev pub Whole : List ℕ → Layout → Type 0
Whole text l = 1 ≤ l.names → text ≡ render (words text) (rows_in l text)
