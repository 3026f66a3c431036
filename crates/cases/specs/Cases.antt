-- What a case and a listing hold.
use Rattle.std.specs.Prelude.{◌≡◌, ℕ, List, length}
use Rattle.clauses.specs.declared.clauses.Clause.{Clause}
use Rattle.layers.specs.Standing.{Observed, observed_clauses}
use Rattle.walks.specs.Walks as walks
use Rattle.cases.specs.declared.Case.{Case}
use Rattle.cases.specs.declared.Listing.{Listing}

-- the source of a case at rest with the observations that stand
abbrev pub resting : {S : Type 0} → Case S → Observed S
resting c = c.source

-- the source of a listing with the observations that stand
abbrev pub listed : {S : Type 0} → Listing S → Observed S
listed l = resting l.case

-- the clauses of a listing: of the observations that stand, and then those of the source, which f gives
abbrev pub clauses_of : {S : Type 0} → (S → List Clause) → Listing S → List Clause
clauses_of f l = observed_clauses f (listed l)

-- how many sets a listing has handed out
abbrev pub count : {S : Type 0} → Listing S → ℕ
count l = l.given

-- a listing between requests: with the clauses cs, it has handed out the sets `out`, and its walk stands where the next is
-- to be found
pub record Sound {S : Type 0} (cs : List Clause) (l : Listing S) (out : List ℕ) : Type 0 where
  pub counted : count l ≡ length out
  pub stands : walks.Sound cs l.walk out
