-- A growth at its start, and one whose mark is on.
use Rattle.std.proofs.Common.{◌≡◌, ◌≢◌, ◌⊎◌, inl, Bool, false, ℕ, suc, ◌<◌, ◌≤◌, nat_lt, if◌then◌else◌, List, [], ◌∷◌, ◌++◌, length, take, get_or, arith, refl, sym, subst, length-append}
use Rattle.std.specs.Prelude.{AllPairs}
use Rattle.std.specs.List.{All}
use Rattle.std.proofs.lemmas.Bool.Decides.{nat_tests}
use Rattle.std.proofs.lemmas.List.{get_or-take, length-map, length-take-le}
use Rattle.std.proofs.lemmas.List.Elements.{All-cons, All-nil}
use Rattle.mari_market.specs.declared.market.Market.{Market}
use Rattle.mari_market.specs.Clearing.{IsBudget}
use Rattle.mari_market.specs.Market.{IsValid}
use Rattle.mari_market.specs.Prefix.{children}
use Rattle.mari_market.specs.SearchTree.{IsNode, AreNodes, IsLarger}
use Rattle.mari_core.specs.Nodes.{TreeNode, new_node, words_of}
use Rattle.mari_core.specs.Preorder.{occurs}
use Rattle.mari_core.specs.Growth.{Grown, seed, IsGrowth, IsCrowded, IsNext, HasChildren, HasParent, HoldsAtCutoff}
use Rattle.mari_core.proofs.Children.{nodes_with_children}

empty_node : (m : Market) → IsNode m []
empty_node m = record {
  feasible = record {
    decided = omega arith;
    rules = record { parents = λ g h e p. absurd (cc); groups = λ g h k e f p q. absurd (cc) };
  };
  prefixes = λ k l. absurd (omega arith);
}

one_counted : (z : ℕ) → occurs z (0 ∷ []) ≡ (if nat_lt z 1 then 1 else 0)
one_counted z = grind (arith, nat_tests)

-- the empty word alone is a growth
pub seed_grows : (m : Market) (budget : ℕ) → IsValid m → IsBudget budget → IsGrowth (seed m budget)
seed_grows m budget v b = record {
  valid = v;
  budget_is = b;
  nodes_are = record {
    nodes = All-cons (IsNode m) [] [] (empty_node m) (All-nil (IsNode m));
    distinct = λ i j d l h. absurd (omega arith);
  };
  root = refl;
  within_budget = b.0;
  have_children = All-cons (λ (n : TreeNode). HasChildren m (words_of (seed m budget).nodes) n.word n.state) (new_node []) [] tt
      (All-nil (λ (n : TreeNode). HasChildren m (words_of (seed m budget).nodes) n.word n.state));
  have_parents = All-cons (λ (n : TreeNode). (n.word ≡ []) ⊎ HasParent (seed m budget).nodes n.word) (new_node []) [] (inl refl)
      (All-nil (λ (n : TreeNode). (n.word ≡ []) ⊎ HasParent (seed m budget).nodes n.word));
  hold = All-cons (λ (n : TreeNode). HoldsAtCutoff m n.word n.state) (new_node []) [] tt (All-nil (λ (n : TreeNode). HoldsAtCutoff m n.word n.state));
  preorder = record { numbers = 0 ∷ []; preorder = record { walk = (refl, tt); once = one_counted; all = refl } };
  crowded = λ e. absurd (cc);
}

-- and it waits
pub seed_waits : IsNext (new_node [] ∷ []) 0
seed_waits = record { within = omega arith; none_before = λ y l. absurd (omega arith); waits = λ l. refl }

-- the growth of one node, however its word is written
pub seed_by : (m : Market) (budget : ℕ) (word : List Bool) → word ≡ [] → IsValid m → IsBudget budget
    → IsGrowth (record { market = m; budget = budget; nodes = new_node word ∷ []; full = false }) × IsNext (new_node word ∷ []) 0
seed_by m budget word e v b =
    subst (λ (w : List Bool). IsGrowth (record { market = m; budget = budget; nodes = new_node w ∷ []; full = false }) × IsNext (new_node w ∷ []) 0)
    (sym e) (seed_grows m budget v b, seed_waits)

-- ---- a search tree that is larger than the budget

all_take : {X : Type 0} (P : X → Type 0) (n : ℕ) (xs : List X) → n ≤ length xs → All P xs → All P (take n xs)
all_take P n xs l a = λ k d h. subst P (sym (get_or-take n xs k d (omega (arith, h, length-take-le n xs l)))) (a k d (omega (arith, h, length-take-le n xs l)))

pairs_take : {X : Type 0} (R : X → X → Type 0) (n : ℕ) (xs : List X) → n ≤ length xs → AllPairs R xs → AllPairs R (take n xs)
pairs_take {X = X} R n xs l a = λ i j d h k.
    let short : length (take n xs) ≡ n = length-take-le n xs l in
    subst (λ (x : X). R x (get_or (take n xs) j d)) (sym (get_or-take n xs i d (omega (arith, h, k, short))))
    (subst (λ (x : X). R (get_or xs i d) x) (sym (get_or-take n xs j d (omega (arith, k, short)))) (a i j d h (omega (arith, k, short))))

pub larger_by : (m : Market) (n : ℕ) (words : List (List Bool)) → AreNodes m words → n < length words → IsLarger m n
larger_by m n words a l = record {
  words = take (suc n) words;
  nodes = record {
    nodes = all_take (IsNode m) (suc n) words (omega arith) a.nodes;
    distinct = pairs_take (λ (x y : List Bool). x ≢ y) (suc n) words (omega arith) a.distinct;
  };
  count = length-take-le (suc n) words (omega arith);
}

-- where some leaf could branch but for the budget, the search tree is larger than that
pub crowded_is_larger : (g : Grown) → IsGrowth g → IsCrowded g → IsLarger g.market g.budget
crowded_is_larger g k c =
    larger_by g.market g.budget (words_of g.nodes ++ children g.market.gates c.node.word)
    (nodes_with_children g c.number c.node k c.there c.leaf c.crowded.undecided c.crowded.promising)
    (omega (arith, c.crowded.more, length-append (words_of g.nodes) (children g.market.gates c.node.word), length-map g.nodes (λ (n : TreeNode). n.word)))
