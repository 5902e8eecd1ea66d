use Rattle.std.proofs.Common.{◌≡◌, ℕ, ◌+ℤ◌, ◌<◌, length}
use Rattle.std.specs.List.{AllZip}
use Rattle.mari_market.specs.Sums.{int_at, sum_along}
use Rattle.mari_market.specs.Activation.{IsWithinLimits, carried_out}
use Rattle.mari_network.specs.Slots.{at_zone}
use Rattle.mari_network.specs.Chain.{HasRoom, hop_at}
use Rattle.mari_network.proofs.chain.push_chain.Given as goal

abbrev pub invariant-loop-place : goal.invariant-loop-place
invariant-loop-place l = record {
  there : l.place < length l.hops;
  within : AllZip IsWithinLimits l.borders l.flows;
  room : HasRoom l.borders l.flows l.hops l.most l.place;
  others : (i : ℕ) → ((k : ℕ) → 0 < k → k < length l.hops → (hop_at l.hops k).border ≡ i → ⊥) → int_at l.flows i ≡ int_at l.fn.flows i;
  carried : (z : ℕ)
      → (sum_along (carried_out z) l.borders l.flows +ℤ at_zone z (hop_at l.hops l.place).zone l.most) ≡ sum_along (carried_out z) l.borders l.fn.flows +ℤ at_zone z (hop_at l.hops l.at).zone l.most;
}

abbrev pub decreases-loop-place : goal.decreases-loop-place
decreases-loop-place l = l.place
