use Rattle.std.proofs.Common.{arith, ◌≡◌, pos, get_or, to_z, of_z, to_z-of_z, w64, FitsSigned, rules}
use Rattle.std.specs.Int.{int_max}
use Rattle.std.proofs.lemmas.Int.{ints, clamps}
use Rattle.mari_prices.proofs.Tight.{raise_to, raised_at}
use Rattle.mari_prices.proofs.bounds.raise.Goals as goal

pub returns-then-is_set_by : goal.returns-then-is_set_by
returns-then-is_set_by c =
    let o = c.args.order.now in
    let values = c.args.bounds.now in
    let old_fits : FitsSigned w64 (get_or values o.zone (pos 0)) = search rules in
    let new_fits : FitsSigned w64 c.max.result = search rules in
    let old_read : to_z w64 (of_z w64 (get_or values o.zone (pos 0))) ≡ get_or values o.zone (pos 0) = to_z-of_z old_fits in
    let new_read : to_z w64 (of_z w64 c.max.result) ≡ c.max.result = to_z-of_z new_fits in
    let greater : to_z w64 (of_z w64 c.max.result) ≡ int_max (get_or values o.zone (pos 0)) c.signed.result = omega (arith, ints, clamps, c.max.ensures.value) in
    raised_at c.args.end o c.args.mw values _ c.requires.zone (raise_to c.args.end o c.args.mw _ c.signed.result _ c.signed.ensures (c.is_set_by.ensures.0 c.if-is_set_by.true) greater)
