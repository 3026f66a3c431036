-- The parts of a sheet's text by their places.
use Rattle.std.specs.Prelude.{◌≡◌, ℕ, zero, suc, ◌+◌, ◌*◌, ◌<◌, ◌≤◌, cond, ◌⊎◌, List, [], ◌∷◌, ◌++◌, length, get_or, drop, ◌==◌, ◌≢◌, slice_index, slice_index_or, Option}
use Rattle.std.specs.Borrow.{Bor}
use Rattle.std.specs.Option.{option_map_or}
use Rattle.formats.specs.Format.{Value, Begins, line, render}
use Rattle.formats.specs.declared.layouts.Layout.{Layout}
use Rattle.formats.specs.declared.names.NamesLine.{NamesLine}
use Rattle.formats.specs.declared.words.LineWords.{LineWords}

-- line 1 is as described, and has so many names and bytes
pub record FirstLine (text : List ℕ) (l : NamesLine) : Type 0 where
  pub names : List (List ℕ)
  pub begins : Begins text names (drop l.size text)
  pub count_is : length names ≡ l.count
  pub size_is : length (line names) ≡ l.size
  pub within : l.size ≤ length text

-- what stands after value k of n: a space, or byte 10 after the last
abbrev pub gap : ℕ → ℕ → ℕ
gap n k = cond (k + 1 == n) 10 32

-- value k of n and what stands after it, in the line at place p
abbrev pub ValueAt : List ℕ → ℕ → ℕ → ℕ → Type 0
ValueAt text n p k = Value (slice_index text (p + 2 * k)) × (slice_index text (p + 2 * k + 1) ≡ gap n k)

-- a value, and what stands after it
pub record Cell (after : ℕ) (cell : List ℕ) : Type 0 where
  pub size : length cell ≡ 2
  pub value : Value (slice_index cell 0)
  pub then : slice_index cell 1 ≡ after

-- a clause line for n names stands at place p
abbrev pub RowAt : List ℕ → ℕ → ℕ → Type 0
RowAt text n p = (k : ℕ) → k < n → ValueAt text n p k

-- the n values of the clause line that a text begins with
abbrev pub values : ℕ → List ℕ → List ℕ
values zero t = []
values (suc n) t = slice_index t 0 ∷ values n (drop 2 t)

-- the first count clause lines that a text begins with, each for n names
abbrev pub rows_of : ℕ → ℕ → List ℕ → List (List ℕ)
rows_of n zero t = []
rows_of n (suc count) t = values n t ∷ rows_of n count (drop (2 * n) t)

-- the place of clause line i, where the clause lines begin at start and have 2 * n bytes each
abbrev pub place : ℕ → ℕ → ℕ → ℕ
place start n i = start + i * (2 * n)

-- clause lines stand one after another from start, count of them
abbrev pub RowsAt : List ℕ → ℕ → ℕ → ℕ → Type 0
RowsAt text n start count = (i : ℕ) → i < count → RowAt text n (place start n i)

-- after count clause lines comes line `at`, which is none
pub record Stops (text : List ℕ) (n start at : ℕ) : Type 0 where
  pub count : ℕ
  pub at_is : at ≡ count + 2
  pub rows : RowsAt text n start count
  pub more : place start n count < length text
  pub none : RowAt text n (place start n count) → ⊥

-- the words of the line that a text begins with, after cur
abbrev pub words_from : List ℕ → List ℕ → List (List ℕ)
words_from cur [] = cur ∷ []
words_from cur (b ∷ t) = cond (b == 10) (cur ∷ []) (cond (b == 32) (cur ∷ words_from [] t) (words_from (cur ++ b ∷ []) t))

-- the words of the line that a text begins with: between two of them stands one space
abbrev pub words : List ℕ → List (List ℕ)
words t = words_from [] t

-- a byte after a word
abbrev pub Ends : ℕ → Type 0
Ends b = (b ≡ 10) ⊎ (b ≡ 32)

-- the byte at place e is the first that passes
pub record FirstOf (Is : ℕ → Type 0) (text : List ℕ) (e : ℕ) : Type 0 where
  pub within : e < length text
  pub is : Is (slice_index text e)
  pub before : (k : ℕ) → k < e → Is (slice_index text k) → ⊥

-- no byte passes
abbrev pub NoneOf : (ℕ → Type 0) → List ℕ → Type 0
NoneOf Is text = (k : ℕ) → k < length text → Is (slice_index text k) → ⊥

-- the words of what is left of a line, where it goes on
abbrev pub words_of : Option (Bor (List ℕ)) → List (List ℕ)
words_of rest = option_map_or (λ t. words t.now) rest []

-- the words that are not handed out yet
abbrev pub words_left : LineWords → List (List ℕ)
words_left w = words_of w.rest

-- no word is w
abbrev pub Lacks : List (List ℕ) → List ℕ → Type 0
Lacks ws w = (i : ℕ) → i < length ws → slice_index_or ws i [] ≢ w

-- w is word k, and none before it
pub record FirstAt (ws : List (List ℕ)) (w : List ℕ) (k : ℕ) : Type 0 where
  pub within : k < length ws
  pub is : get_or ws k [] ≡ w
  pub first : (i : ℕ) → i < k → slice_index_or ws i [] ≢ w

-- w is word k
pub record WordIs (ws : List (List ℕ)) (k : ℕ) (w : List ℕ) : Type 0 where
  pub within : k < length ws
  pub is : w ≡ slice_index_or ws k []

-- the names and the clauses that a layout finds in a text; with no names there are none
abbrev pub names_in : Layout → List ℕ → List (List ℕ)
names_in l text = cond (l.names == 0) [] (words text)

abbrev pub rows_in : Layout → List ℕ → List (List ℕ)
rows_in l text = rows_of l.names l.clauses (drop l.start text)

-- the text of a sheet lies as the layout says
pub record Lies (text : List ℕ) (l : Layout) : Type 0 where
  pub some : 1 ≤ l.names
  pub few : l.names ≤ 64
  pub named : length (words text) ≡ l.names
  pub starts : length (line (words text)) ≡ l.start
  pub ends : place l.start l.names l.clauses ≡ length text
  pub whole : text ≡ render (words text) (rows_in l text)
