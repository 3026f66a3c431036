-- The theorems over any language, at our clauses.
use Rattle.std.proofs.Common.{◌≡◌, ℕ, ◌≢◌, ◌⊎◌, inl, inr}
use Rattle.clauses.proofs.Decided.{laws}
use Rattle.clauses.specs.Clauses.{language}
use Rattle.models.proofs.Broken.{none_model, model_none, first_some, first_from}
use Rattle.models.proofs.Lister.{explanations_right, explanations_only, empty_none, none_empty}
use Rattle.models.proofs.Minimals.{includes_minimal}
use Rattle.models.proofs.Order.{irreflexive, transitive}
use Rattle.models.proofs.Prefix.{front_prefix, prefix_front}
use Rattle.models.proofs.Total.{total}
use Rattle.models.specs.Lister.{explanations}
use Rattle.models.specs.Models.{Precedes}
use Rattle.theorems.proofs.Nodes.{at_root, node_splits, node_leaf}
use Rattle.theorems.specs.Lists.{StrictOrder, OneList, ComputedList, MinimalInside, EmptyList, FirstBroken, Fronts}
use Rattle.theorems.specs.Splitting.{Splitting}

pub first_broken_lem : FirstBroken
first_broken_lem cs s =
    record {
      none = (none_model laws cs s, model_none laws cs s);
      some = λ c. (first_some laws cs s c, first_from laws cs s c);
    }

pub strict_order : StrictOrder
strict_order cs =
    record {
      irreflexive = irreflexive laws cs;
      transitive = transitive laws cs;
      decides =
          λ m n p q d. go m n d (total laws cs m n p q);
    }
  where
    go : (m n : ℕ) → m ≢ n → (m ≡ n) ⊎ (Precedes language cs m n ⊎ Precedes language cs n m) →
        Precedes language cs m n ⊎ Precedes language cs n m
    go m n d (inl e) = absurd (d e)
    go m n d (inr o) = o

pub computed_list : ComputedList
computed_list cs = explanations_right laws cs

pub one_list : OneList
one_list cs = (explanations language cs, explanations_right laws cs, explanations_only laws cs)

pub minimal_inside : MinimalInside
minimal_inside cs = includes_minimal laws cs

pub empty_list : EmptyList
empty_list cs ms h = (empty_none laws cs ms h, none_empty laws cs ms h)

pub fronts : Fronts
fronts cs ms out h = ((λ f. front_prefix laws cs out ms f h), λ e. prefix_front laws cs out ms e h)

pub splitting : Splitting
splitting cs =
    record { all = at_root laws cs; split = node_splits laws cs; leaf = node_leaf laws cs }
