-- What a finding allows: to close its node, or to branch it.
use Rattle.std.proofs.Common.{◌≡◌, Bool, true, false, ℕ, ◌<◌, ◌≤◌, pos, List, length, Option, Some, None, arith, sym, subst}
use Rattle.std.specs.Prelude.{slice_get, nat_le, IfSome}
use Rattle.std.proofs.lemmas.Bool.Decides.{nat_tests}
use Rattle.mari_market.specs.declared.market.Market.{Market}
use Rattle.mari_market.specs.declared.certificate.Leaf.{Leaf}
use Rattle.mari_market.specs.declared.finding.Finding.{Finding}
use Rattle.mari_market.specs.Finding.{IsFinding}
use Rattle.mari_market.specs.Tree.{LeafHolds}
use Rattle.mari_core.specs.declared.node.NodeState.TheVariants.{Taken}
use Rattle.mari_core.specs.Nodes.{TreeNode, word_at, state_at}
use Rattle.mari_core.specs.Growth.{Grown, IsGrowth, IsCutoff, MayClose, MayBranch, MaySettle, RelaxedExceeds, IsReached, closing_leaf}
use Rattle.mari_core.proofs.Changes.{IsAt, node_at, word_of_node}
use Rattle.mari_core.proofs.Entries.{feasible_word}

pub le_by_test : (a b : ℕ) → nat_le a b ≡ true → a ≤ b
le_by_test a b e = grind (arith, nat_tests)

pub gt_by_test : (a b : ℕ) → nat_le a b ≡ false → b < a
gt_by_test a b e = grind (arith, nat_tests)

-- the certificate by which a finding closes its node holds at the cutoff
pub closing_leaf_holds : (m : Market) (word : List Bool) (cutoff : ℕ) (finding : Finding) (leaf : Leaf)
    → IsFinding m word finding → length word ≤ length m.gates → closing_leaf cutoff finding ≡ Some leaf
    → LeafHolds m (pos cutoff) word leaf
closing_leaf_holds m word cutoff finding leaf f l e = grind arith

-- what is left where a finding doesn't close its node
pub record MustBranch (m : Market) (word : List Bool) (cutoff : ℕ) : Type 0 where
  pub undecided : length word < length m.gates
  pub exceeds : RelaxedExceeds m word cutoff

pub must_branch : (m : Market) (word : List Bool) (cutoff : ℕ) (finding : Finding) → IsFinding m word finding
    → length word ≤ length m.gates → IsReached m word cutoff finding → closing_leaf cutoff finding ≡ None
    → MustBranch m word cutoff
must_branch m word cutoff finding f l reached e = grind arith

settle_at : (g : Grown) (x cutoff : ℕ) (finding : Finding) (n : TreeNode) → slice_get g.nodes x ≡ Some n
    → IfSome (slice_get g.nodes x) (MaySettle g.market cutoff finding) → MaySettle g.market cutoff finding n
settle_at g x cutoff finding n e h = subst (λ (o : Option TreeNode). IfSome o (MaySettle g.market cutoff finding)) e h

-- a taken node is closed by the certificate of its finding
pub may_close : (g : Grown) (k x cutoff : ℕ) (finding : Finding) (leaf : Leaf) → IsGrowth g → IsCutoff g.market cutoff
    → IfSome (slice_get g.nodes x) (MaySettle g.market cutoff finding) → state_at g.nodes x ≡ Some (Taken k)
    → closing_leaf cutoff finding ≡ Some leaf → MayClose g k x leaf cutoff
may_close g k x cutoff finding leaf grows above h taken e =
    let at : IsAt g.nodes x (Taken k) = node_at g.nodes x (Taken k) taken in
    let may : MaySettle g.market cutoff finding at.node = settle_at g x cutoff finding at.node at.there h in
    record {
      taken = taken;
      holds = subst (λ (w : List Bool). LeafHolds g.market (pos cutoff) w leaf) (sym (word_of_node g.nodes x at.node at.there))
          (closing_leaf_holds g.market at.node.word cutoff finding leaf may.finding_is (feasible_word g x at.node grows at.there).decided e);
      cutoff_is = above;
    }

-- and branches where there is none
pub may_branch : (g : Grown) (k x cutoff : ℕ) (finding : Finding) → IsGrowth g → IsCutoff g.market cutoff
    → IfSome (slice_get g.nodes x) (MaySettle g.market cutoff finding) → state_at g.nodes x ≡ Some (Taken k)
    → closing_leaf cutoff finding ≡ None → MayBranch g k x cutoff
may_branch g k x cutoff finding grows above h taken e =
    let at : IsAt g.nodes x (Taken k) = node_at g.nodes x (Taken k) taken in
    let may : MaySettle g.market cutoff finding at.node = settle_at g x cutoff finding at.node at.there h in
    let must : MustBranch g.market at.node.word cutoff = must_branch g.market at.node.word cutoff finding may.finding_is (feasible_word g x at.node grows at.there).decided may.reached e in
    let word : at.node.word ≡ word_at g.nodes x = sym (word_of_node g.nodes x at.node at.there) in
    record {
      taken = taken;
      undecided = subst (λ (w : List Bool). length w < length g.market.gates) word must.undecided;
      exceeds = subst (λ (w : List Bool). RelaxedExceeds g.market w cutoff) word must.exceeds;
      cutoff_is = above;
    }
