-- The words of looking ahead: when the atoms taken and the atoms marked absent leave nothing to find.
-- Nothing here speaks of a search.
use Rattle.std.specs.Prelude.{◌≡◌, ℕ, List}
use mathlib.Core.List.{Memᴰ}
use Rattle.models.specs.Language.{Language}
use Rattle.models.specs.Models.{In, Within, Apart, Model, Minimal}

module _ {S C : Type 0} (L : Language S C) where
  -- no model includes `taken` and avoids `absent`
  abbrev pub Hopeless : List C → S → S → Type 0
  Hopeless cs taken absent = (m : S) → Model L cs m → Within L taken m → Apart L absent m → ⊥

  -- no minimal model includes `taken` and avoids `absent`
  abbrev pub Barren : List C → S → S → Type 0
  Barren cs taken absent = (m : S) → Minimal L cs m → Within L taken m → Apart L absent m → ⊥

  -- the clause `c` could be the reason why a minimal model that includes `taken` and avoids `absent` has the atom `a`:
  -- `a` is in its head, no other atom of its head is taken, and no atom of its body is absent
  pub record Reason (taken absent : S) (a : ℕ) (c : C) : Type 0 where
    pub of_head : In L (L.head c) a
    pub alone : (b : ℕ) → In L (L.head c) b → In L taken b → b ≡ a
    pub possible : Apart L (L.body c) absent

  -- no clause could be the reason for the atom `a`
  abbrev pub Unsupported : List C → S → S → ℕ → Type 0
  Unsupported cs taken absent a = (c : C) → Memᴰ c cs → Reason taken absent a c → ⊥

  -- each atom of `taken` for which some clause could be the reason is in `answer`
  abbrev pub Supports : List C → S → S → S → Type 0
  Supports cs taken absent answer =
      (a : ℕ) → In L taken a → (In L answer a → ⊥) → (c : C) → Memᴰ c cs → Reason taken absent a c → ⊥
