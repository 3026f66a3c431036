-- The steps of a walk keep it sound.
use Rattle.std.proofs.Common.{◌≡◌, ℕ, ◌<◌, true, false, not, eqb, List, [], ◌∷◌, ◌++◌, map, length, Some, None, Option, sym, refl, ap, ◌∙◌, subst, arith}
use mathlib.Core.List.{Memᴰ}
use Rattle.std.proofs.lemmas.Bool.{both_ways, ne_eqb}
use Rattle.atoms.specs.Atoms.{bits, width}
use Rattle.atoms.specs.Sets.{hasb, size, ◌⊆◌, Disjoint, union, insert, remove}
use Rattle.atoms.specs.declared.AtomSet.{AtomSet}
use Rattle.atoms.proofs.Members.{least_from_members}
use Rattle.atoms.proofs.Values.{bits_below}
use Rattle.models.specs.Models.{Explanations, Model}
use Rattle.models.specs.Rows as rows
use Rattle.models.specs.Rows.{At, Back, Standing}
use Rattle.models.specs.Search.{Clear, Covered, Front}
use Rattle.models.proofs.Broken.{first_broken_lem, none_model, some_inj, some≢none}
use Rattle.models.proofs.Numerals.{not_zero}
use Rattle.models.proofs.Prefix.{explanations_front}
use Rattle.models.proofs.Rows.{at_clear, at_clear_root, at_covered, at_denied, at_empty, at_kept, at_push, back_finish, back_next, back_pop, standing_at, standing_begin, standing_front}
use Rattle.clauses.specs.Clauses.{language}
use Rattle.clauses.specs.declared.clauses.Clause.{Clause}
use Rattle.clauses.proofs.Decided.{laws}
use Rattle.shelves.specs.Shelves.{Holds}
use Rattle.walks.specs.Branches.{narrowed, row_of, Live}
use Rattle.walks.specs.Nodes.{Ended, Found, Splits, Visited}
use Rattle.walks.specs.Nodes.Ended.{clashes, covered, headless}
use Rattle.walks.specs.Walks.{Advanced, Fresh, Here, Sound, Visits, stack}
use Rattle.walks.specs.Walks.Advanced.{over, next, pop}
use Rattle.walks.specs.declared.Walk.{Walk}
use Rattle.walks.specs.declared.branches.Branch.{Branch}
use Rattle.walks.specs.declared.branches.Node.{Node}
use Rattle.walks.specs.declared.branches.Visit.{Visit}
use Rattle.walks.specs.declared.branches.Visit.TheVariants.{Dead, Model as AModel, Split}
use Rattle.walks.specs.declared.paths.Path.{Path}
use Rattle.walks.proofs.Presents.{present_row, room_for}
use Rattle.walks.proofs.Records.{each_pop, each_top, here_sized}

-- a record in use has a branch left, and so have those below it
top_live : (b : Branch) (st : List Branch) → Live (b ∷ st) → 0 < bits b.left
top_live b st live = each_top (λ c below. 0 < bits c.left) b st live

below_live : (b : Branch) (st : List Branch) → Live (b ∷ st) → Live st
below_live b st live = each_pop (λ c below. 0 < bits c.left) b st live

-- sets of a shelf, as the theory speaks of them
mem_map : (t : AtomSet) (ts : List AtomSet) → Memᴰ t ts → Memᴰ (bits t) (map bits ts)
mem_map t [] m = elim m [ ]
mem_map t (x ∷ ts) (Memᴰ.head e) = Memᴰ.head (ap bits e)
mem_map t (x ∷ ts) (Memᴰ.tail m) = Memᴰ.tail (mem_map t ts m)

from_map : (x : ℕ) (ts : List AtomSet) → Memᴰ x (map bits ts) → (t : AtomSet) × Memᴰ t ts × (x ≡ bits t)
from_map x [] m = elim m [ ]
from_map x (t ∷ ts) (Memᴰ.head e) = (t, Memᴰ.head refl, e)
from_map x (t ∷ ts) (Memᴰ.tail m) = let k = from_map x ts m in (k.0, Memᴰ.tail k.1, k.2)

holds_covered : (ts : List AtomSet) (s : AtomSet) → Holds ts s → Covered language (map bits ts) (bits s)
holds_covered ts s h = (bits h.0, mem_map h.0 ts h.1, h.2)

covered_holds : (ts : List AtomSet) (s : AtomSet) → Covered language (map bits ts) (bits s) → Holds ts s
covered_holds ts s c =
    let k = from_map c.0 ts c.1 in
    (k.0, k.1, subst (λ (x : ℕ). x ⊆ bits s) k.2 c.2)

-- the node at which a search stands
node_here : (st : List Branch) (n : Node) → Live st → Here st (Some n) → rows.Here language (map row_of st) (bits n.taken) (bits n.denied)
node_here [] n live h = h
node_here (b ∷ st) n live h = let l = least_from_members (bits b.left) (top_live b st live) in (l.0, (h l.0 l.1).0)

module _ (cs : List Clause) (out : List ℕ) where
  -- after a dead end: the next branch, or all is handed out
  abbrev pub Onward : List Branch → Type 0
  Onward [] = Explanations language cs out
  Onward (b ∷ st) = Standing language cs out (map row_of (b ∷ st))

  pub advance_here : (st : List Branch) {st' : List Branch} → Live st → Back language cs out (map row_of st) → Advanced st st' → Onward st'
  advance_here [] live v over = back_finish laws cs out v
  advance_here (b ∷ below) live v (next x e some) =
      let l = least_from_members (bits b.left) (top_live b below live) in
      let m = least_from_members (bits x) some in
      let p = present_row (row_of (narrowed b x)) m.0 m.1 in
      let t = insert (bits b.node.taken) m.0 in
      let d = union (bits b.node.denied) (remove (bits x) m.0) in
      record {
        taken = t;
        denied = d;
        here = (m.0, p);
        at = back_next laws cs out (row_of b) (map row_of below) v l.0 l.1 (bits x) (λ y. e.members l.0 y l.1) m.0 t d p;
      }
  advance_here (b ∷ below) live v (pop x e none further) =
      let l = least_from_members (bits b.left) (top_live b below live) in
      advance_here below (below_live b below live)
      (back_pop laws cs out (row_of b) (map row_of below) v l.0 l.1 (bits x) (λ y. e.members l.0 y l.1) (λ y h. not_zero (bits x) y h none))
      further

  clear_here :
      (st : List Branch) (n : Node) → Live st → Here st (Some n) → At language cs out (map row_of st) (bits n.taken) (bits n.denied) →
      Clear language (bits n.taken) (hasb (bits n.denied))
  clear_here [] n live h v = at_clear_root laws cs out (bits n.taken) (bits n.denied) v
  clear_here (b ∷ st) n live h v =
      let l = least_from_members (bits b.left) (top_live b st live) in
      at_clear laws cs out (row_of b) (map row_of st) (bits n.taken) (bits n.denied) v l.0 l.1 (h l.0 l.1).1

  denied_here : (st : List Branch) → Live st → Here st None → Standing language cs out (map row_of st) → Back language cs out (map row_of st)
  denied_here [] live h v = absurd h
  denied_here (b ∷ st) live h v =
      let l = least_from_members (bits b.left) (top_live b st live) in
      at_denied laws cs out (row_of b) (map row_of st) v.taken v.denied v.at l.0 l.1 (h l.0 l.1)

-- what a broken clause has in its head is not taken
pub head_apart : (cs : List Clause) (n : Node) (b : Branch) → Splits cs n b → Disjoint (bits b.node.taken) (bits b.left)
head_apart cs n b k =
    subst (λ (x : Branch). Disjoint (bits x.node.taken) (bits x.left)) (sym k.begun)
    (λ a p q. (first_broken_lem laws cs (bits n.taken) k.first).none a q p)

pub split_live : (cs : List Clause) (n : Node) (b : Branch) → Splits cs n b → 0 < bits b.left
split_live cs n b k = subst (λ (x : Branch). 0 < bits x.left) (sym k.begun) k.some

pub found_model : (cs : List Clause) (ts : List AtomSet) (n : Node) (s : AtomSet) → Found cs ts n s → Model language cs (bits s)
found_model cs ts n s k = subst (λ (x : AtomSet). Model language cs (bits x)) (sym k.set) (none_model laws cs (bits n.taken) k.model)

pub dead_here :
    (cs : List Clause) (ts : List AtomSet) (st : List Branch) (o : Option Node) → Live st → Here st o → Standing language cs (map bits ts) (map row_of st) →
    Ended cs ts o → Back language cs (map bits ts) (map row_of st)
dead_here cs ts st None live h v clashes = denied_here cs (map bits ts) st live h v
dead_here cs ts st (Some n) live h v (covered c) =
    at_covered laws cs (map bits ts) (map row_of st) (bits n.taken) (bits n.denied)
    (standing_at laws cs (map bits ts) (map row_of st) (bits n.taken) (bits n.denied) v (node_here st n live h)) (holds_covered ts n.taken c)
dead_here cs ts st (Some n) live h v (headless c first none) =
    at_empty laws cs (map bits ts) (map row_of st) (bits n.taken) (bits n.denied)
    (standing_at laws cs (map bits ts) (map row_of st) (bits n.taken) (bits n.denied) v (node_here st n live h)) c first
    (λ b k. not_zero (bits c.head) b k none)

module _ (cs : List Clause) (ts : List AtomSet) (st : List Branch) (n : Node) (live : Live st) (h : Here st (Some n))
    (v : Standing language cs (map bits ts) (map row_of st)) where
  abbrev here : At language cs (map bits ts) (map row_of st) (bits n.taken) (bits n.denied)
  here = standing_at laws cs (map bits ts) (map row_of st) (bits n.taken) (bits n.denied) v (node_here st n live h)

  pub model_here : (s : AtomSet) → Found cs ts n s → Standing language cs (map bits ts ++ (bits s ∷ [])) (map row_of st)
  model_here s k =
      subst (λ (x : AtomSet). Standing language cs (map bits ts ++ (bits x ∷ [])) (map row_of st)) (sym k.set)
      (record {
        taken = bits n.taken;
        denied = bits n.denied;
        here = node_here st n live h;
        at =
            at_kept laws cs (map bits ts) (map row_of st) (bits n.taken) (bits n.denied) here (clear_here cs (map bits ts) st n live h here) k.model
            (λ c. k.fresh (covered_holds ts n.taken c));
      })

  pub split_here : (b : Branch) → Splits cs n b → Standing language cs (map bits ts) (map row_of (b ∷ st))
  split_here b k =
      let c = k.clause in
      let l = least_from_members (bits c.head) k.some in
      let r : Branch = record { node = n; left = c.head } in
      let t = insert (bits n.taken) l.0 in
      let d = union (bits n.denied) (remove (bits c.head) l.0) in
      let p = present_row (row_of r) l.0 l.1 in
      subst (λ (x : Branch). Standing language cs (map bits ts) (map row_of (x ∷ st))) (sym k.begun)
      (record {
        taken = t;
        denied = d;
        here = (l.0, p);
        at =
            at_push laws cs (map bits ts) (map row_of st) (bits n.taken) (bits n.denied) here (clear_here cs (map bits ts) st n live h here) c k.first
            l.0 t d p;
      })

-- the same at a walk: done, or at the end of a path
abbrev pub at : Path → Walk
at p = record { path = Some p }

abbrev pub done : Walk
done = record { path = None }

module _ (cs : List Clause) (out : List ℕ) where
  pub sound_at : (p : Path) → Standing language cs out (map row_of (stack p)) → Sound cs (at p) out
  sound_at p v =
      record {
        goes_on = λ q e. subst (λ (x : Path). Standing language cs out (map row_of (stack x))) (some_inj e) v;
        ended = λ e. absurd (some≢none e);
      }

  pub sound_done : Explanations language cs out → Sound cs done out
  sound_done v = record { goes_on = λ q e. absurd (some≢none (sym e)); ended = λ e. v }

pub sound_begin : (cs : List Clause) (p : Path) → stack p ≡ [] → Sound cs (at p) []
sound_begin cs p e = sound_at cs [] p (subst (λ (st : List Branch). Standing language cs [] (map row_of st)) (sym e) (standing_begin laws cs))

-- what is found below records: nothing where no node is there, and else what is found at the node
pub visits : (cs : List Clause) (ts : List AtomSet) (st : List Branch) (o : Option Node) (v : Visit) → Here st o → (o ≡ None → v ≡ Dead)
    → ((n : Node) → o ≡ Some n → Visited cs ts (Some n) v) → Visits cs ts st v
visits cs ts st None v h none some = (None, h, subst (Visited cs ts None) (sym (none refl)) clashes)
visits cs ts st (Some n) v h none some = (Some n, h, some n refl)

-- what is found at a node that is there
pub node_found : (cs : List Clause) (ts : List AtomSet) (st : List Branch) (s : AtomSet) → Visits cs ts st (AModel s)
    → (n : Node) × Here st (Some n) × Found cs ts n s
node_found cs ts st s (None, h, k) = absurd k
node_found cs ts st s (Some n, h, k) = (n, h, k)

pub node_splits : (cs : List Clause) (ts : List AtomSet) (st : List Branch) (b : Branch) → Visits cs ts st (Split b)
    → (n : Node) × Here st (Some n) × Splits cs n b
node_splits cs ts st b (None, h, k) = absurd k
node_splits cs ts st b (Some n, h, k) = (n, h, k)

module _ (cs : List Clause) (ts : List AtomSet) (p : Path) where
  pub model_fresh : (s : AtomSet) → Visits cs ts (stack p) (AModel s) → Fresh cs ts (Some s)
  model_fresh s k =
      let f = node_found cs ts (stack p) s k in
      (found_model cs ts f.0 s f.2, λ h. f.2.fresh (subst (Holds ts) f.2.set h))

  module _ (v : Standing language cs (map bits ts) (map row_of (stack p))) where
    module _ (k : Visits cs ts (stack p) Dead) (p' : Path) (e : Advanced (stack p) (stack p')) where
      onward : Onward cs (map bits ts) (stack p')
      onward = advance_here cs (map bits ts) (stack p) p.live (dead_here cs ts (stack p) k.0 p.live k.1 v k.2) e

      pub sound_dead : not (eqb (length (stack p')) 0) ≡ true → Sound cs (at p') (map bits ts)
      sound_dead more = sound_at cs (map bits ts) p' (go (stack p') more onward)
        where
          go : (st : List Branch) → not (eqb (length st) 0) ≡ true → Onward cs (map bits ts) st → Standing language cs (map bits ts) (map row_of st)
          go [] m w = absurd (both_ways true (sym m) refl)
          go (b ∷ st) m w = w

      pub sound_over : not (eqb (length (stack p')) 0) ≡ false → Sound cs done (map bits ts)
      sound_over none = sound_done cs (map bits ts) (go (stack p') none onward)
        where
          go : (st : List Branch) → not (eqb (length st) 0) ≡ false → Onward cs (map bits ts) st → Explanations language cs (map bits ts)
          go [] m w = w
          go (b ∷ st) m w =
              absurd (both_ways (not (eqb (length (b ∷ st)) 0)) m (ap not (ne_eqb (length (b ∷ st)) 0 (λ z. omega arith))))

    pub sound_split : (b : Branch) → Visits cs ts (stack p) (Split b) → (p' : Path) → stack p' ≡ b ∷ stack p → Sound cs (at p') (map bits ts)
    sound_split b k p' e =
        let f = node_splits cs ts (stack p) b k in
        sound_at cs (map bits ts) p'
        (subst (λ (st : List Branch). Standing language cs (map bits ts) (map row_of st)) (sym e)
        (split_here cs ts (stack p) f.0 p.live f.1 v b f.2))

    pub sound_model : (s : AtomSet) → Visits cs ts (stack p) (AModel s) → Sound cs (at p) (map bits ts ++ (bits s ∷ []))
    sound_model s k =
        let f = node_found cs ts (stack p) s k in
        sound_at cs (map bits ts ++ (bits s ∷ [])) p (model_here cs ts (stack p) f.0 p.live f.1 v s f.2)

-- a record that is found has a place
module _ (cs : List Clause) (ts : List AtomSet) (p : Path) (b : Branch) (k : Visits cs ts (stack p) (Split b)) where
  pub split_apart : Disjoint (bits b.node.taken) (bits b.left)
  split_apart = let f = node_splits cs ts (stack p) b k in head_apart cs f.0 b f.2

  pub split_sized : size (bits b.node.taken) ≡ length (stack p)
  split_sized =
      let f = node_splits cs ts (stack p) b k in
      ap (λ (x : Branch). size (bits x.node.taken)) f.2.begun ∙ here_sized (stack p) f.0 p.live p.sized p.apart f.1

  pub split_some : 0 < bits b.left
  split_some = let f = node_splits cs ts (stack p) b k in split_live cs f.0 b f.2

  pub split_room : length (stack p) < width
  split_room =
      omega (arith, split_sized, room_for width (bits b.node.taken) (bits b.left) (bits_below b.node.taken) (bits_below b.left) split_apart split_some)

-- what a sound walk has handed out is a front of the list of explanations
pub sound_front : (cs : List Clause) (w : Walk) (out : List ℕ) → Sound cs w out → Front language cs out
sound_front cs w out v = go w.path refl
  where
    go : (o : Option Path) → w.path ≡ o → Front language cs out
    go None e = explanations_front laws cs out (v.ended e)
    go (Some p) e = standing_front laws cs out (map row_of (stack p)) (v.goes_on p e)
