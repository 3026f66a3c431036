use Rattle.std.proofs.Common.{◌≡◌, ℕ, Bool, true, false, ◌||◌, MatchBool, ◌∙◌}
use Rattle.std.proofs.lemmas.Bool.{or_left, or_right}
use Rattle.atoms.specs.Atoms.{bits}
use Rattle.atoms.specs.Sets.{Disjoint, has, hasb}
use Rattle.atoms.specs.declared.AtomSet.{AtomSet}
use Rattle.clauses.specs.declared.clauses.Clause.{Clause}
use Rattle.writers.specs.Documents.Misfit.{in_body, in_head, in_both}
use Rattle.writers.specs.Documents.{Misfit, Unnamed}
use Rattle.writers.proofs.rows.ClauseRow.is_unfit.Goals as goal

-- u has the atoms of body and head
module _ (n : ℕ) (c : Clause) (u : AtomSet) (m : (a : ℕ) → hasb (bits u) a ≡ (hasb (bits c.body) a || hasb (bits c.head) a)) where
  fits : (Unnamed n u → ⊥) → Disjoint (bits c.body) (bits c.head) → Misfit n c → ⊥
  fits e d (in_body w) = e (w.0, m w.0 ∙ or_left (hasb (bits c.body) w.0) (hasb (bits c.head) w.0) w.1, w.2)
  fits e d (in_head w) = e (w.0, m w.0 ∙ or_right (hasb (bits c.body) w.0) (hasb (bits c.head) w.0) w.1, w.2)
  fits e d (in_both k x y) = d k x y

  by_both : (Unnamed n u → ⊥) → (r : Bool) → MatchBool r ((k : ℕ) × has (bits c.body) k × has (bits c.head) k) (Disjoint (bits c.body) (bits c.head)) → MatchBool r (Misfit n c) (Misfit n c → ⊥)
  by_both e true w = in_both w.0 w.1 w.2
  by_both e false w = fits e w

pub returns-else-is_unfit : goal.returns-else-is_unfit
returns-else-is_unfit c =
    by_both c.args.n c.args.self.now c.union.result c.union.ensures.members c.if-is_unfit.ensures c.intersects.result c.intersects.ensures
