-- A loop over the elements of a list, each with its place.
use Rattle.std.proofs.Common.{◌≡◌, ℕ, ◌+◌, ◌<◌, List, length, get_or, None, Some, Option, ap, ◌∙◌, arith}
use Rattle.std.specs.Iterator.{AlwaysYields, Yields}
use Rattle.std.specs.Iterator.Adapters.{enumerate_count, enumerate_source, enumerate_steps}
use Rattle.std.specs.List.{enumerate_from}
use Rattle.std.proofs.lemmas.Iterator.{YieldsList}
use Rattle.std.proofs.lemmas.Iterator.Consumers.{YieldsList-end, YieldsList-from_enumerate, YieldsList-turn}
use Rattle.std.proofs.lemmas.List.FromFn.{get_or-enumerate_from, length-enumerate_from}

-- the elements xs are to come from s, and ys have come so far, up to t
module _ {S A : Type 0} (steps : S → Option A → S → Type 0) (xs : List A) (s : _) (e : AlwaysYields steps (λ x. x) (enumerate_source s) xs) (z : enumerate_count s ≡ 0)
    (ys : List (ℕ × A)) (t : _) (y : Yields (enumerate_steps steps) s ys t) (r : Option (ℕ × A)) (u : _) (n : enumerate_steps steps t r u) where
  road : YieldsList {B = ℕ × A} (enumerate_steps steps) (λ p. (p.0, p.1)) s (enumerate_from 0 xs)
  road = YieldsList-from_enumerate {steps = steps} (record { runs = e }) z

  pub enumerated : (k : ℕ) (x : A) → r ≡ Some (k, x) → (length ys < length xs) × (k ≡ length ys) × (x ≡ get_or xs (length ys) x)
  enumerated k x h =
      let w = YieldsList-turn road ys t y r u (k, x) h n in
      let l : length ys < length xs = omega (arith, w.0, length-enumerate_from 0 xs) in
      let p = w.1 ∙ get_or-enumerate_from 0 xs (length ys) (k, x) l in
      let i : k ≡ 0 + length ys = ap (λ (q : ℕ × A). q.0) p in
      (l, omega arith, ap (λ (q : ℕ × A). q.1) p)

  pub enumerated_all : r ≡ None → length ys ≡ length xs
  enumerated_all h = (YieldsList-end road ys t y r u h n).1 ∙ length-enumerate_from 0 xs
