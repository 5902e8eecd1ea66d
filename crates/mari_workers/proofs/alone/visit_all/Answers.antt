use Rattle.std.proofs.Common.{◌∙◌, ℕ, ◌<◌, true≢false, subst, sym}
use Rattle.mari_market.specs.Prefix.{word_of}
use Rattle.mari_workers.proofs.Visits.{as_far, at_node, done_by, fewer_left, has_word, may_admit, not_marked, still_after, still_left, still_next, visit_same}
use Rattle.mari_workers.proofs.alone.visit_all.Goals as goal

pub unreachable-requires : goal.unreachable-requires
unreachable-requires c =
    has_word c.args.market.now c.loop-node.search c.loop-node.queue c.take_first.new.self c.in-Some.node c.loop-node.invariant.still.under_way c.in-Some.ensures
    (sym c.in_default-prefix_of.ensures.word)

pub visit-requires-clause-waits : goal.visit-requires-clause-waits
visit-requires-clause-waits c = at_node c.args.market.now c.loop-node.search c.loop-node.queue c.take_first.new.self c.in-Some.node c.loop-node.invariant.still.under_way c.in-Some.ensures

pub returns-then-is_full : goal.returns-then-is_full
returns-then-is_full c =
    let same = visit_same c.args.market.now c.loop-node.search c.visit.new.search c.in-Some.node (word_of c.in-Some-prefix_of.prefix) c.in_ok-key.key c.in_ok-key.ensures.visited in
    record {
      closed = λ closed. absurd (true≢false (sym closed));
      spent = λ _. sym c.is_full.ensures.full ∙ c.if-is_full.true;
      market = same.0 ∙ c.loop-node.invariant.still.under_way.market;
      budget = same.1 ∙ c.loop-node.invariant.still.budget_is;
    }

pub admit-requires : goal.admit-requires
admit-requires c =
    let may = may_admit c.args.market.now c.loop-node.search c.visit.new.search c.in-Some.node
    (word_of c.in-Some-prefix_of.prefix) c.in_ok-key.key c.loop-node.queue c.take_first.new.self c.loop-node.invariant.still.under_way c.in-Some.ensures c.in_ok-key.ensures.visited in
    record { facts = c.visit.ensures.facts; room = may.room; made = may.made; waiting = may.waiting }

pub loop-node-smaller : goal.loop-node-smaller
loop-node-smaller c =
    fewer_left c.args.market.now c.args.search.now.tree.budget c.loop-node.search c.visit.new.search c.in-Some.node
    (word_of c.in-Some-prefix_of.prefix) c.in_ok-key.key c.loop-node.queue c.take_first.new.self c.admit.new.queue
    c.loop-node.invariant.still c.in-Some.ensures c.in_ok-key.ensures.visited c.visit.ensures.facts (not_marked c.is_full.ensures.full c.if-is_full.false) c.admit.ensures

pub loop-node-preserved : goal.loop-node-preserved
loop-node-preserved c = record {
  still = still_next c.args.market.now c.args.search.now.tree.budget c.loop-node.search c.visit.new.search c.in-Some.node
      (word_of c.in-Some-prefix_of.prefix) c.in_ok-key.key c.loop-node.queue c.take_first.new.self c.admit.new.queue
      c.loop-node.invariant.still c.in-Some.ensures c.in_ok-key.ensures.visited c.visit.ensures.facts (not_marked c.is_full.ensures.full c.if-is_full.false) c.admit.ensures;
  workspace = c.visit.ensures.workspace;
}

-- where the root branched, its optimum is rounded: the tree stays
pub loop-node-smaller-then-len-gt1 : goal.loop-node-smaller-then-len-gt1
loop-node-smaller-then-len-gt1 c =
    let fewer =
    fewer_left c.args.market.now c.args.search.now.tree.budget c.loop-node.search c.visit.new.search c.in-Some.node
    (word_of c.in-Some-prefix_of.prefix) c.in_ok-key.key c.loop-node.queue c.take_first.new.self c.admit.new.queue
    c.loop-node.invariant.still c.in-Some.ensures c.in_ok-key.ensures.visited c.visit.ensures.facts (not_marked c.is_full.ensures.full c.if-is_full.false) c.admit.ensures in
    subst (λ (left : ℕ). left < still_left c.args.search.now.tree.budget c.loop-node.search c.loop-node.queue)
    (sym (as_far c.args.search.now.tree.budget c.visit.new.search c.offer_rounded.new.search c.admit.new.queue c.in_ok-offer_rounded.ensures.tree))
    fewer

pub loop-node-preserved-then-len-gt1 : goal.loop-node-preserved-then-len-gt1
loop-node-preserved-then-len-gt1 c =
    let still =
    still_next c.args.market.now c.args.search.now.tree.budget c.loop-node.search c.visit.new.search c.in-Some.node
    (word_of c.in-Some-prefix_of.prefix) c.in_ok-key.key c.loop-node.queue c.take_first.new.self c.admit.new.queue
    c.loop-node.invariant.still c.in-Some.ensures c.in_ok-key.ensures.visited c.visit.ensures.facts (not_marked c.is_full.ensures.full c.if-is_full.false) c.admit.ensures in
    record {
      still = still_after c.args.market.now c.args.search.now.tree.budget c.visit.new.search c.offer_rounded.new.search c.admit.new.queue still
          c.in_ok-offer_rounded.ensures.tree c.in_ok-offer_rounded.ensures.first c.offer_rounded.ensures.facts;
      workspace = c.visit.ensures.workspace;
    }

pub returns : goal.returns
returns c = record {
  closed = λ _. done_by c.args.market.now c.loop-node.search c.loop-node.queue c.take_first.new.self c.loop-node.invariant.still.under_way c.in_default.ensures;
  spent = λ closed. absurd (true≢false closed);
  market = c.loop-node.invariant.still.under_way.market;
  budget = c.loop-node.invariant.still.budget_is;
}
