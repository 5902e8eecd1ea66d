use Rattle.std.proofs.Common.{◌<◌, length, ap, arith, refl}
use borrow.Author.Count.{below_more}
use Rattle.mari_market.specs.Market.{IsValidGate}
use Rattle.mari_market.proofs.market.Market.gates_fit.Goals as goal

pub returns-then-not-gate_fits : goal.returns-then-not-gate_fits
returns-then-not-gate_fits c = (
  λ t. absurd (cc),
  λ all. let bound : c.loop-gate.gate < length c.args.self.now.gates = omega (arith, ap length c.as_slice-gate-end.ensures) in
      rw c.if-not-gate_fits.true at (c.gate_fits.ensures.1 (all c.loop-gate.gate bound)),
)

pub loop-gate-preserved : goal.loop-gate-preserved
loop-gate-preserved c = below_more (IsValidGate c.args.self.now) c.loop-gate.gate c.loop-gate.invariant (c.gate_fits.ensures.0 c.if-not-gate_fits.false)

pub returns : goal.returns
returns c = (λ t. λ g there. c.loop-gate.invariant g (omega (arith, ap length c.as_slice-gate-end.ensures)), λ all. refl)
