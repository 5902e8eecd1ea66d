use Rattle.std.proofs.Common.{◌≡◌, ◌∙◌, ◌+◌, ◌-◌, ◌*◌, ◌++◌, length, refl, ap, arith, rules}
use Rattle.mari_blocks.proofs.JointBids.{numbers-there}
use Rattle.mari_blocks.proofs.Quarters.{has-run}
use Rattle.mari_blocks.proofs.joint.assemble.Goals as goal

pub joint_orders-requires-clause-bids : goal.joint_orders-requires-clause-bids
joint_orders-requires-clause-bids c =
    rw (c.deref-2.ensures.value, c.requires.content.numbers)
    (numbers-there c.args.books.now c.requires.accepted c.args.blocks.now c.args.first c.args.last c.requires.book c.requires.runs)

pub reference_of-requires-clause-there : goal.reference_of-requires-clause-there
reference_of-requires-clause-there c = has-run c.args.books.now c.requires.accepted c.args.first c.args.last c.requires.runs c.args.first (omega arith) c.requires.in_order

pub returns : goal.returns
returns c =
    let books = c.args.books.now in
    let blocks = c.args.blocks.now in
    let first = c.args.first in
    let last = c.args.last in
    let content = c.requires.content in
    let put : c.extend_from_slice.new.self.items ≡ c.in_ok-orders.orders.items ++ c.deref-3.result.now = search rules in
    let count : c.len-demands.result ≡ length c.args.content.parts.demands.items = search rules in
    let zones = ap (λ n. (last + 1 - first) * n) c.len.ensures.len in
    let borders = c.of.ensures ∙ content.parts.borders in
    let orders =
    c.of-2.ensures ∙ put ∙ rw (c.in_ok-orders.ensures, c.deref.ensures.value, c.deref-2.ensures.value, c.deref-3.ensures.value, content.gates, content.numbers, content.parts.demands) refl in
    let gates = c.of-3.ensures ∙ c.in_ok-infos.ensures ∙ rw (c.as_slice.ensures, c.deref-4.ensures.value, content.gates) refl in
    let bids = c.of-4.ensures ∙ content.numbers in
    let demands = count ∙ ap length content.parts.demands in
    λ i. record {
      market = record { zones = zones i; borders = borders i; orders = orders i; gates = gates i; reference = c.reference_of.ensures i };
      bids = bids i;
      demands = demands i;
    }
