use Rattle.std.proofs.Common.{◌≡◌, ◌+◌, ◌<◌, ◌≤◌, Bool, length, arith, ap, sym, ◌∙◌}
use Rattle.mari_market.specs.Prefix.{word_of, child_words}
use Rattle.mari_core.specs.Growth.{Grown, children_at, grown, in_journal}
use Rattle.mari_core.proofs.Entries.{settles_by_branch, settles_by_mark}
use Rattle.mari_core.proofs.growth.Growth.branch_or_mark.Goals as goal
use Rattle.mari_core.proofs.growth.Growth.branch_or_mark.Goals.{then-may_open, else-may_open}

pub branch-self-requires-clause-fits : goal.branch-self-requires-clause-fits
branch-self-requires-clause-fits c =
    let p = c.next_gate-may_open.result.0 in
    let made : c.if-may_open.made ≡ length (child_words (word_of p) c.next_gate-may_open.result.1) = elim c.if-may_open.branch [
      | then-may_open w ↦ w.made-is ∙ sym (ap (λ (b : Bool). length (child_words (word_of p) b)) w.if-may_open.true)
      | else-may_open w ↦ w.made-is ∙ sym (ap (λ (b : Bool). length (child_words (word_of p) b)) w.if-may_open.false)
    ] in
    let count : length (children_at c.args.self.now c.args.node) ≡ c.if-may_open.made = ap length c.next_gate-may_open.ensures.children ∙ sym made in
    let nodes : c.len.result ≡ length c.args.self.now.nodes = c.len.ensures ∙ c.self.inside.nodes.ok.0 ∙ ap (λ (g : Grown). length g.nodes) c.self.view_is in
    let budget : c.self.inside.budget ≡ c.args.self.now.budget = ap (λ (g : Grown). g.budget) c.self.view_is in
    omega (arith, count, nodes, budget, c.if-len-made.true)

pub mark-requires-clause-full : goal.mark-requires-clause-full
mark-requires-clause-full c =
    let p = c.next_gate-may_open.result.0 in
    let made : c.if-may_open.made ≡ length (child_words (word_of p) c.next_gate-may_open.result.1) = elim c.if-may_open.branch [
      | then-may_open w ↦ w.made-is ∙ sym (ap (λ (b : Bool). length (child_words (word_of p) b)) w.if-may_open.true)
      | else-may_open w ↦ w.made-is ∙ sym (ap (λ (b : Bool). length (child_words (word_of p) b)) w.if-may_open.false)
    ] in
    let count : length (children_at c.args.self.now c.args.node) ≡ c.if-may_open.made = ap length c.next_gate-may_open.ensures.children ∙ sym made in
    let nodes : c.len.result ≡ length c.args.self.now.nodes = c.len.ensures ∙ c.self.inside.nodes.ok.0 ∙ ap (λ (g : Grown). length g.nodes) c.self.view_is in
    let budget : c.self.inside.budget ≡ c.args.self.now.budget = ap (λ (g : Grown). g.budget) c.self.view_is in
    omega (arith, count, nodes, budget, c.if-len-made.false)

pub returns-then-len-made-clause-change : goal.returns-then-len-made-clause-change
returns-then-len-made-clause-change c =
    let p = c.next_gate-may_open.result.0 in
    let made : c.if-may_open.made ≡ length (child_words (word_of p) c.next_gate-may_open.result.1) = elim c.if-may_open.branch [
      | then-may_open w ↦ w.made-is ∙ sym (ap (λ (b : Bool). length (child_words (word_of p) b)) w.if-may_open.true)
      | else-may_open w ↦ w.made-is ∙ sym (ap (λ (b : Bool). length (child_words (word_of p) b)) w.if-may_open.false)
    ] in
    let count : length (children_at c.args.self.now c.args.node) ≡ c.if-may_open.made = ap length c.next_gate-may_open.ensures.children ∙ sym made in
    let nodes : c.len.result ≡ length c.args.self.now.nodes = c.len.ensures ∙ c.self.inside.nodes.ok.0 ∙ ap (λ (g : Grown). length g.nodes) c.self.view_is in
    let budget : c.self.inside.budget ≡ c.args.self.now.budget = ap (λ (g : Grown). g.budget) c.self.view_is in
    let fits : length c.args.self.now.nodes + length (children_at c.args.self.now c.args.node) ≤ c.args.self.now.budget = omega (arith, count, nodes, budget, c.if-len-made.true) in
    c.branch-self.ensures.change c.args.actor c.args.cutoff ∙ ap (grown c.args.self.now) (sym (settles_by_branch c.args.self.now c.args.actor c.args.node c.args.cutoff fits))

pub returns-else-len-made-clause-change : goal.returns-else-len-made-clause-change
returns-else-len-made-clause-change c =
    let p = c.next_gate-may_open.result.0 in
    let made : c.if-may_open.made ≡ length (child_words (word_of p) c.next_gate-may_open.result.1) = elim c.if-may_open.branch [
      | then-may_open w ↦ w.made-is ∙ sym (ap (λ (b : Bool). length (child_words (word_of p) b)) w.if-may_open.true)
      | else-may_open w ↦ w.made-is ∙ sym (ap (λ (b : Bool). length (child_words (word_of p) b)) w.if-may_open.false)
    ] in
    let count : length (children_at c.args.self.now c.args.node) ≡ c.if-may_open.made = ap length c.next_gate-may_open.ensures.children ∙ sym made in
    let nodes : c.len.result ≡ length c.args.self.now.nodes = c.len.ensures ∙ c.self.inside.nodes.ok.0 ∙ ap (λ (g : Grown). length g.nodes) c.self.view_is in
    let budget : c.self.inside.budget ≡ c.args.self.now.budget = ap (λ (g : Grown). g.budget) c.self.view_is in
    let more : c.args.self.now.budget < length c.args.self.now.nodes + length (children_at c.args.self.now c.args.node) = omega (arith, count, nodes, budget, c.if-len-made.false) in
    c.mark.ensures.change c.args.actor c.args.cutoff ∙ ap (grown c.args.self.now) (sym (settles_by_mark c.args.self.now c.args.actor c.args.node c.args.cutoff more))

pub returns-then-len-made-clause-entry : goal.returns-then-len-made-clause-entry
returns-then-len-made-clause-entry c =
    let p = c.next_gate-may_open.result.0 in
    let made : c.if-may_open.made ≡ length (child_words (word_of p) c.next_gate-may_open.result.1) = elim c.if-may_open.branch [
      | then-may_open w ↦ w.made-is ∙ sym (ap (λ (b : Bool). length (child_words (word_of p) b)) w.if-may_open.true)
      | else-may_open w ↦ w.made-is ∙ sym (ap (λ (b : Bool). length (child_words (word_of p) b)) w.if-may_open.false)
    ] in
    let count : length (children_at c.args.self.now c.args.node) ≡ c.if-may_open.made = ap length c.next_gate-may_open.ensures.children ∙ sym made in
    let nodes : c.len.result ≡ length c.args.self.now.nodes = c.len.ensures ∙ c.self.inside.nodes.ok.0 ∙ ap (λ (g : Grown). length g.nodes) c.self.view_is in
    let budget : c.self.inside.budget ≡ c.args.self.now.budget = ap (λ (g : Grown). g.budget) c.self.view_is in
    let fits : length c.args.self.now.nodes + length (children_at c.args.self.now c.args.node) ≤ c.args.self.now.budget = omega (arith, count, nodes, budget, c.if-len-made.true) in
    sym (ap in_journal (settles_by_branch c.args.self.now c.args.actor c.args.node c.args.cutoff fits))

pub returns-else-len-made-clause-entry : goal.returns-else-len-made-clause-entry
returns-else-len-made-clause-entry c =
    let p = c.next_gate-may_open.result.0 in
    let made : c.if-may_open.made ≡ length (child_words (word_of p) c.next_gate-may_open.result.1) = elim c.if-may_open.branch [
      | then-may_open w ↦ w.made-is ∙ sym (ap (λ (b : Bool). length (child_words (word_of p) b)) w.if-may_open.true)
      | else-may_open w ↦ w.made-is ∙ sym (ap (λ (b : Bool). length (child_words (word_of p) b)) w.if-may_open.false)
    ] in
    let count : length (children_at c.args.self.now c.args.node) ≡ c.if-may_open.made = ap length c.next_gate-may_open.ensures.children ∙ sym made in
    let nodes : c.len.result ≡ length c.args.self.now.nodes = c.len.ensures ∙ c.self.inside.nodes.ok.0 ∙ ap (λ (g : Grown). length g.nodes) c.self.view_is in
    let budget : c.self.inside.budget ≡ c.args.self.now.budget = ap (λ (g : Grown). g.budget) c.self.view_is in
    let more : c.args.self.now.budget < length c.args.self.now.nodes + length (children_at c.args.self.now c.args.node) = omega (arith, count, nodes, budget, c.if-len-made.false) in
    sym (ap in_journal (settles_by_mark c.args.self.now c.args.actor c.args.node c.args.cutoff more))
