use Rattle.std.proofs.Common.{◌≡◌, ◌+◌, ◌≤◌, Bool, true, false, List, [], ◌∷◌, ◌++◌, length, arith, refl, ap, sym, subst, ◌∙◌}
use Rattle.mari_market.specs.Prefix.{word_of, child_words}
use Rattle.mari_gates.proofs.Decisions.{length-decisions}
use Rattle.mari_core.specs.Nodes.{TreeNode, new_node}
use Rattle.mari_core.specs.Growth.{Grown, CanBranch, children_at}
use Rattle.mari_core.proofs.Entries.{BranchKept, branch_entry, both_pushed, closed_pushed}
use Rattle.std.specs.Bool.{then_some}
use Rattle.mari_core.proofs.growth.Growth.branch.Goals as goal

some_child : (w : List Bool) (may : Bool) → 1 ≤ length (child_words w may)
some_child w true = omega arith
some_child w false = omega arith

pub child_of-requires-clause-room : goal.child_of-requires-clause-room
child_of-requires-clause-room c =
    omega (
      arith,
      length-decisions c.args.prefix.now c.args.prefix.now.length,
      ap length c.requires.prefix.0,
      c.requires.may.may.undecided,
      c.self.invariant.0.valid.few_gates,
      ap (λ (g : Grown). length g.market.gates) c.self.view_is,
    )

pub child_of-requires-then-may_open-clause-room : goal.child_of-requires-then-may_open-clause-room
child_of-requires-then-may_open-clause-room c =
    omega (
      arith,
      length-decisions c.args.prefix.now c.args.prefix.now.length,
      ap length c.requires.prefix.0,
      c.requires.may.may.undecided,
      c.self.invariant.0.valid.few_gates,
      ap (λ (g : Grown). length g.market.gates) c.self.view_is,
    )

pub push_reserved-requires : goal.push_reserved-requires
push_reserved-requires c =
    let fits = subst (λ (g : Grown). length g.nodes + length (children_at g c.args.node) ≤ g.budget) (sym c.self.view_is) c.requires.fits in
    let kids = subst (λ (g : Grown). children_at g c.args.node ≡ child_words (word_of c.args.prefix.now) c.args.may_open) (sym c.self.view_is) c.requires.may_open in
    omega (arith, fits, ap length kids, some_child (word_of c.args.prefix.now) c.args.may_open, c.self.invariant.2, c.self.inside.nodes.ok.0, c.set_state.ensures.count, c.set_state.ensures.room)

pub push_reserved-requires-then-may_open : goal.push_reserved-requires-then-may_open
push_reserved-requires-then-may_open c =
    let fits = subst (λ (g : Grown). length g.nodes + length (children_at g c.args.node) ≤ g.budget) (sym c.self.view_is) c.requires.fits in
    let kids = subst (λ (g : Grown). children_at g c.args.node ≡ child_words (word_of c.args.prefix.now) c.args.may_open) (sym c.self.view_is) c.requires.may_open in
    let two : length (child_words (word_of c.args.prefix.now) c.args.may_open) ≡ 2 = ap (λ (b : Bool). length (child_words (word_of c.args.prefix.now) b)) c.if-may_open.true in
    omega
    (arith, fits, ap length kids, two, c.self.invariant.2, c.self.inside.nodes.ok.0, c.set_state.ensures.count, c.set_state.ensures.room, c.push_reserved.ensures.len, c.push_reserved.ensures.capacity)

-- both children are pushed
both_kept : (c : goal.After-push_reserved-then-may_open)
    → BranchKept
    (record { market = c.self.inside.market.now; budget = c.self.inside.budget; nodes = c.self.inside.nodes.items; full = c.self.inside.full })
    c.args.node c.self.inside.next c.push_reserved-then-may_open.new.self.items
both_kept c =
    let can = subst (λ (g : Grown). CanBranch g c.args.node) (sym c.self.view_is) c.requires.may in
    let kids = subst (λ (g : Grown). children_at g c.args.node ≡ child_words (word_of c.args.prefix.now) c.args.may_open) (sym c.self.view_is) c.requires.may_open in
    let fits = subst (λ (g : Grown). length g.nodes + length (children_at g c.args.node) ≤ g.budget) (sym c.self.view_is) c.requires.fits in
    let first : c.len-first.result ≡ length c.self.inside.nodes.items = c.len-first.ensures ∙ c.self.inside.nodes.ok.0 in
    branch_entry _ c.args.node c.self.inside.next (word_of c.args.prefix.now) true c.push_reserved-then-may_open.new.self.items c.self.invariant.0 c.self.invariant.1 can
    (kids ∙ ap (λ (b : Bool). child_words (word_of c.args.prefix.now) b) c.if-may_open.true) fits
    (c.push_reserved-then-may_open.ensures.items
    ∙ ap (λ (ns : List TreeNode). ns ++ c.new-then-may_open.result ∷ []) c.push_reserved.ensures.items
    ∙ ap (λ (n : TreeNode). (c.set_state.new.nodes.items ++ n ∷ []) ++ c.new-then-may_open.result ∷ []) c.new.ensures
    ∙ ap (λ (n : TreeNode). (c.set_state.new.nodes.items ++ new_node (word_of c.child_of.result) ∷ []) ++ n ∷ []) c.new-then-may_open.ensures
    ∙ both_pushed c.self.inside.nodes.items c.self.inside.nodes.items c.set_state.new.nodes.items c.args.node c.len-first.result
    c.then_some-opened.result (word_of c.args.prefix.now) (word_of c.child_of.result) (word_of c.child_of-then-may_open.result)
    refl first (c.then_some-opened.ensures
    ∙ ap (λ (b : Bool). then_some b (c.len-first.result + 1)) c.if-may_open.true) c.set_state.ensures.nodes c.child_of.ensures.word c.child_of-then-may_open.ensures.word)

-- the closed child is pushed
closed_kept : (c : goal.Else-may_open)
    → BranchKept
    (record { market = c.self.inside.market.now; budget = c.self.inside.budget; nodes = c.self.inside.nodes.items; full = c.self.inside.full })
    c.args.node c.self.inside.next c.push_reserved.new.self.items
closed_kept c =
    let can = subst (λ (g : Grown). CanBranch g c.args.node) (sym c.self.view_is) c.requires.may in
    let kids = subst (λ (g : Grown). children_at g c.args.node ≡ child_words (word_of c.args.prefix.now) c.args.may_open) (sym c.self.view_is) c.requires.may_open in
    let fits = subst (λ (g : Grown). length g.nodes + length (children_at g c.args.node) ≤ g.budget) (sym c.self.view_is) c.requires.fits in
    let first : c.len-first.result ≡ length c.self.inside.nodes.items = c.len-first.ensures ∙ c.self.inside.nodes.ok.0 in
    branch_entry _ c.args.node c.self.inside.next (word_of c.args.prefix.now) false c.push_reserved.new.self.items c.self.invariant.0 c.self.invariant.1 can
    (kids ∙ ap (λ (b : Bool). child_words (word_of c.args.prefix.now) b) c.if-may_open.false) fits
    (c.push_reserved.ensures.items
    ∙ ap (λ (n : TreeNode). c.set_state.new.nodes.items ++ n ∷ []) c.new.ensures
    ∙ closed_pushed c.self.inside.nodes.items c.self.inside.nodes.items c.set_state.new.nodes.items c.args.node c.len-first.result
    c.then_some-opened.result (word_of c.args.prefix.now) (word_of c.child_of.result)
    refl first (c.then_some-opened.ensures ∙ ap (λ (b : Bool). then_some b (c.len-first.result + 1)) c.if-may_open.false) c.set_state.ensures.nodes c.child_of.ensures.word)

pub invariant_of-self : goal.invariant_of-self
invariant_of-self c =
    let k = both_kept c in (k.grows, k.next_is, omega (arith, c.self.invariant.2, c.set_state.ensures.room, c.push_reserved.ensures.capacity, c.push_reserved-then-may_open.ensures.capacity))

pub invariant_of-self-else-may_open : goal.invariant_of-self-else-may_open
invariant_of-self-else-may_open c = let k = closed_kept c in (k.grows, k.next_is, omega (arith, c.self.invariant.2, c.set_state.ensures.room, c.push_reserved.ensures.capacity))

pub returns-then-may_open-clause-facts : goal.returns-then-may_open-clause-facts
returns-then-may_open-clause-facts c = (both_kept c).grows

pub returns-else-may_open-clause-facts : goal.returns-else-may_open-clause-facts
returns-else-may_open-clause-facts c = (closed_kept c).grows
