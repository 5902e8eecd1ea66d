-- What a verdict on a tree for a gate word says of the admissible activations.
use Rattle.std.specs.Prelude.{◌↔◌}
use Rattle.std.proofs.Common.{◌≡◌, ℤ, pos, ◌-ℤ◌, ◌≤ℤ◌, Bool, List, length, subst, sym, ◌∙◌}
use Rattle.mari_market.specs.declared.market.Market.{Market}
use Rattle.mari_market.specs.declared.prefix.Prefix.{Prefix}
use Rattle.mari_market.specs.declared.activation.Activation.{Activation}
use Rattle.mari_market.specs.declared.certificate.TreeItem.{TreeItem}
use Rattle.mari_market.specs.Activation.{gate_word_of, welfare_of}
use Rattle.mari_market.specs.First.{ComesBefore, IsFirst}
use Rattle.mari_market.specs.Market.{IsValid}
use Rattle.mari_market.specs.Optimal.{IsAdmissible, IsOptimal}
use Rattle.mari_market.specs.Prefix.{word_of}
use Rattle.mari_market.specs.Tree.{LeafHoldsFor, TreeHolds, TreeHoldsFor}
use Rattle.mari_market.proofs.Search.{optimal_by_tree, tree_sound}
use Rattle.mari_market.proofs.Ties.{earlier_is_worse, first_by_tree, tree_holds_plain}
use Rattle.mari_proofs.specs.declared.trees.TreeVerdict.{TreeVerdict}
use Rattle.mari_proofs.specs.declared.trees.TreeVerdict.TheVariants.{Holds}
use Rattle.mari_proofs.specs.Places.{IsTreeVerdict}
use Rattle.mari_proofs.proofs.TreeWalk.{holds_by_verdict}
use Rattle.mari_gates.proofs.Decisions.{length-decisions}

pub first_for : (m : Market) (w : ℤ) (gates : List Bool) (items : List TreeItem) (a : Activation) → IsValid m
    → TreeHoldsFor m w gates items → IsAdmissible m a → welfare_of m a ≡ w → gate_word_of m a ≡ gates → IsFirst m a
first_for m w gates items a v t adm e g =
    first_by_tree m a items v adm
    (subst (λ (u : ℤ). TreeHoldsFor m u (gate_word_of m a) items) (sym e) (subst (λ (gs : List Bool). TreeHoldsFor m w gs items) (sym g) t))

-- what a verdict on a tree shows
pub record Shows (m : Market) (cutoff : ℤ) (word : Prefix) (items : List TreeItem) (v : TreeVerdict) : Type 0 where
  pub holds : (v ≡ Holds) ↔ TreeHoldsFor m cutoff (word_of word) items
  pub bounds : v ≡ Holds → (a : Activation) → IsAdmissible m a → welfare_of m a ≤ℤ cutoff
  pub optimal : v ≡ Holds → (a : Activation) → IsAdmissible m a → welfare_of m a ≡ cutoff → IsOptimal m a
  pub earlier : v ≡ Holds → (a : Activation) → IsAdmissible m a → ComesBefore (gate_word_of m a) (word_of word) → welfare_of m a ≤ℤ (cutoff -ℤ pos 1)
  pub first : v ≡ Holds → (a : Activation) → IsAdmissible m a → welfare_of m a ≡ cutoff → gate_word_of m a ≡ word_of word → IsFirst m a

pub shown : (m : Market) (cutoff : ℤ) (word : Prefix) (items : List TreeItem) (v : TreeVerdict) → IsValid m → word.length ≡ length m.gates
    → IsTreeVerdict m (LeafHoldsFor m cutoff (word_of word)) items v → Shows m cutoff word items v
shown m cutoff word items v valid full is = record {
  holds = verdict;
  bounds = λ e a adm. tree_sound m cutoff items a valid (plain e) adm;
  optimal = λ e a adm w. optimal_by_tree m a items valid adm (subst (λ (u : ℤ). TreeHolds m u items) (sym w) (plain e));
  earlier = λ e a adm before. earlier_is_worse m cutoff (word_of word) items a valid (length-decisions word word.length ∙ full) (verdict.0 e) adm before;
  first = λ e a adm w g. first_for m cutoff (word_of word) items a valid (verdict.0 e) adm w g;
}
  where
    verdict : (v ≡ Holds) ↔ TreeHoldsFor m cutoff (word_of word) items
    verdict = holds_by_verdict m (LeafHoldsFor m cutoff (word_of word)) items v is

    plain : v ≡ Holds → TreeHolds m cutoff items
    plain e = tree_holds_plain m cutoff (word_of word) items (verdict.0 e)
