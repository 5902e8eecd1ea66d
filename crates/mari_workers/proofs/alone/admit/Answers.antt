use Rattle.std.proofs.Common.{◌≡◌, ◌∙◌, ◌+◌, ◌-◌, length, arith, sym, subst, ℕ}
use Rattle.mari_pool.specs.Queued.{IsMore}
use Rattle.mari_pool.proofs.Queues.{length_more, length_waiting, more_one}
use Rattle.mari_workers.proofs.Visits.{node_past, node_there}
use Rattle.mari_workers.proofs.alone.admit.Goals as goal

pub add-requires-clause-waiting : goal.add-requires-clause-waiting
add-requires-clause-waiting c =
    let there = node_there c.args.search.now.tree.nodes c.len.result c.prefix_of.result c.prefix_of.ensures.word (sym c.is_some.ensures ∙ c.loop-queue-test.true) in
    omega (
      arith,
      there,
      c.len.ensures.len,
      c.requires.facts.tree.within_budget,
      c.requires.room,
      c.requires.waiting,
      c.loop-queue.invariant.longer,
      c.loop-queue.invariant.more.room,
      length_waiting c.args.key (length c.loop-queue.queue.keys - length c.args.queue.now.keys) c.args.queue.now c.loop-queue.queue c.loop-queue.invariant.more,
    )

pub loop-queue-smaller : goal.loop-queue-smaller
loop-queue-smaller c =
    let there = node_there c.args.search.now.tree.nodes c.len.result c.prefix_of.result c.prefix_of.ensures.word (sym c.is_some.ensures ∙ c.loop-queue-test.true) in
    omega (arith, there, c.len.ensures.len, length_more c.args.key 1 c.loop-queue.queue c.add.new.self c.add.ensures)

pub loop-queue-preserved : goal.loop-queue-preserved
loop-queue-preserved c =
    let there = node_there c.args.search.now.tree.nodes c.len.result c.prefix_of.result c.prefix_of.ensures.word (sym c.is_some.ensures ∙ c.loop-queue-test.true) in
    let one : length c.add.new.self.keys ≡ length c.loop-queue.queue.keys + 1 = length_more c.args.key 1 c.loop-queue.queue c.add.new.self c.add.ensures in
    record {
      more =
          more_one c.args.key (length c.loop-queue.queue.keys - length c.args.queue.now.keys)
          (length c.add.new.self.keys - length c.args.queue.now.keys) c.args.queue.now c.loop-queue.queue c.add.new.self c.loop-queue.invariant.more
          c.add.ensures
          (omega (arith, one, c.loop-queue.invariant.longer));
      longer = omega (arith, one, c.loop-queue.invariant.longer);
      made = omega (arith, one, there, c.len.ensures.len);
    }

pub returns : goal.returns
returns c =
    let past = node_past c.args.search.now.tree.nodes c.len.result c.prefix_of.result c.prefix_of.ensures.word (sym c.is_some.ensures ∙ c.loop-queue-test.false) in
    let all : length c.loop-queue.queue.keys - length c.args.queue.now.keys ≡ length c.args.search.now.tree.nodes - length c.args.queue.now.keys =
    omega (arith, past, c.len.ensures.len, c.loop-queue.invariant.made) in
    subst (λ (n : ℕ). IsMore c.args.key n c.args.queue.now c.loop-queue.queue) all c.loop-queue.invariant.more
