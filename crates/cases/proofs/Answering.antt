-- What a listing that is sound answers.
use Rattle.std.proofs.Common.{◌≡◌, ℕ, ◌<◌, ◌≤◌, List, [], ◌∷◌, ◌++◌, map, length, get_or, Ok, Err, sym, ap, subst}
use Rattle.std.specs.Result.{IsErrAnd}
use Rattle.atoms.specs.Atoms.{bits}
use Rattle.atoms.specs.declared.AtomSet.{AtomSet}
use Rattle.models.specs.Models.{Explanations}
use Rattle.models.proofs.Replies.{last_reply, next_reply}
use Rattle.clauses.specs.Clauses.{language}
use Rattle.clauses.specs.declared.clauses.Clause.{Clause}
use Rattle.clauses.proofs.Decided.{laws}
use Rattle.walks.specs.Walks as walks
use Rattle.walks.specs.declared.Walk.{Walk}
use Rattle.walks.proofs.Soundness.{sound_front}
use Rattle.cases.specs.Requests.{Answered, Reply}
use Rattle.cases.specs.declared.refusals.RequestRefusal.{RequestRefusal}
use Rattle.cases.specs.declared.refusals.RequestRefusal.TheVariants.{ShelfFull}

module _ (cs : List Clause) (ts : List AtomSet) where
  module _ (w : Walk) (s : AtomSet) (v : walks.Sound cs w (map bits ts ++ (bits s ∷ []))) where
    -- the set that the walk stands at is the next explanation
    pub next_is : (ms : List ℕ) → Explanations language cs ms → (length (map bits ts) < length ms) × (get_or ms (length (map bits ts)) 0 ≡ bits s)
    next_is ms e = next_reply laws cs ms e (map bits ts) (bits s) 0 (sound_front cs w (map bits ts ++ (bits s ∷ [])) v)

  -- all are handed out
  pub none_left : Explanations language cs (map bits ts) → (ms : List ℕ) → Explanations language cs ms → length (map bits ts) ≡ length ms
  none_left e ms l = ap length (last_reply laws cs ms l (map bits ts) e)

-- a shelf that is full is told so
pub full_is : (out ms : List ℕ) (places : ℕ) (r : Reply) → IsErrAnd r (λ e. e ≡ ShelfFull) → (length out < length ms) × (places ≤ length out) → Answered ms out places r
full_is out ms places (Ok o) k full = absurd k
full_is out ms places (Err e) k full = subst (λ (x : RequestRefusal). Answered ms out places (Err x)) (sym k) full
