use Rattle.std.proofs.Common.{◌≡◌, ◌*◌, ◌≤◌, take}
use Rattle.std.specs.Prelude.{unsigned_abs}
use Rattle.mari_market.specs.Sums.{sum_along}
use Rattle.mari_settle.specs.Ledger.{operator_at, rent_of, share_of}
use Rattle.mari_settle.proofs.operators.operator_rent.Given as goal

abbrev pub invariant-loop-i : goal.invariant-loop-i
invariant-loop-i l = record {
  sum : l.total ≡ sum_along (λ b f. share_of (operator_at l.zones b.from) (operator_at l.zones b.to) l.operator (rent_of l.prices b f)) (take l.i l.market.borders) (take l.i l.activation.flow);
  small : unsigned_abs l.total ≤ 8000000000000 * l.i;
}
