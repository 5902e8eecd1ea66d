use Rattle.std.proofs.Common.{◌≡◌, ℕ, Bool, List, Some, slice_get, get_or, length, arith, ap, sym, subst, ◌∙◌}
use Rattle.mari_market.specs.Prefix.{word_of, child_words, children}
use Rattle.mari_gates.proofs.Decisions.{length-decisions}
use Rattle.mari_core.specs.Nodes.{TreeNode, word_at}
use Rattle.mari_core.specs.Growth.{Grown, CanBranch, children_at}
use Rattle.mari_core.proofs.Changes.{word_of_node}
use Rattle.mari_core.proofs.Entries.{there_by, feasible_prefix, within_nodes}
use Rattle.mari_core.proofs.growth.Growth.next_gate.Goals as goal

-- a node that may be branched, as it was read
there : (g : Grown) (x : ℕ) (n : TreeNode) → CanBranch g x → n ≡ get_or g.nodes x n → slice_get g.nodes x ≡ Some n
there g x n can read = there_by g.nodes x n (within_nodes g.nodes x _ can.may.taken) read

pub may_branch_up-may_open-requires-clause-prefix : goal.may_branch_up-may_open-requires-clause-prefix
may_branch_up-may_open-requires-clause-prefix c =
    let can = subst (λ (g : Grown). CanBranch g c.args.node) (sym c.self.view_is) c.requires in
    feasible_prefix _ c.args.node c.index.result.now c.prefix-prefix.result c.self.invariant.0 (there _ c.args.node c.index.result.now can c.index.ensures) c.prefix-prefix.ensures.word
    c.prefix-prefix.ensures.cleared

pub may_branch_up-may_open-requires-clause-undecided : goal.may_branch_up-may_open-requires-clause-undecided
may_branch_up-may_open-requires-clause-undecided c =
    let can = subst (λ (g : Grown). CanBranch g c.args.node) (sym c.self.view_is) c.requires in
    omega (
      arith,
      can.may.undecided,
      length-decisions c.prefix-prefix.result c.prefix-prefix.result.length,
      ap length c.prefix-prefix.ensures.word,
      ap length (word_of_node c.self.inside.nodes.items c.args.node c.index.result.now (there _ c.args.node c.index.result.now can c.index.ensures)),
    )

pub index-requires : goal.index-requires
index-requires c =
    let can = subst (λ (g : Grown). CanBranch g c.args.node) (sym c.self.view_is) c.requires in
    omega (arith, within_nodes c.self.inside.nodes.items c.args.node _ can.may.taken, c.self.inside.nodes.ok.0)

pub returns-clause-word : goal.returns-clause-word
returns-clause-word c =
    let can = subst (λ (g : Grown). CanBranch g c.args.node) (sym c.self.view_is) c.requires in
    subst (λ (g : Grown). word_of c.prefix-prefix.result ≡ word_at g.nodes c.args.node) c.self.view_is
    (c.prefix-prefix.ensures.word ∙ sym (word_of_node c.self.inside.nodes.items c.args.node c.index.result.now (there _ c.args.node c.index.result.now can c.index.ensures)))

pub returns-clause-children : goal.returns-clause-children
returns-clause-children c =
    let can = subst (λ (g : Grown). CanBranch g c.args.node) (sym c.self.view_is) c.requires in
    let word = word_of_node c.self.inside.nodes.items c.args.node c.index.result.now (there _ c.args.node c.index.result.now can c.index.ensures) ∙ sym c.prefix-prefix.ensures.word in
    subst (λ (g : Grown). children_at g c.args.node ≡ child_words (word_of c.prefix-prefix.result) c.may_branch_up-may_open.result) c.self.view_is
    (ap (λ (w : List Bool). children c.self.inside.market.now.gates w) word ∙ c.may_branch_up-may_open.ensures.children)
