use Rattle.std.proofs.Common.{◌≡◌, ℤ, pos, ◌+ℤ◌, to_z, of_z, ap, subst, rules, FitsSigned, w64, arith, get_or, set}
use Rattle.std.proofs.lemmas.Int.{ints}
use Rattle.mari_network.specs.declared.slots.Slot.{Slot}
use Rattle.mari_network.specs.Orders.{stand_in_of}
use Rattle.mari_paths.proofs.changes.stand_for.Goals as goal

pub returns-clause-slots : goal.returns-clause-slots
returns-clause-slots c =
    let old : ℤ = get_or c.args.amounts.now c.args.place (pos 0) in
    let fits : FitsSigned w64 old = search rules in
    let new : to_z w64 (of_z w64 (to_z w64 (of_z w64 old) +ℤ to_z w64 (of_z w64 c.args.more))) ≡ old +ℤ c.args.more = omega (arith, ints) in
    ap (λ (s : Slot). set c.args.slots.now c.args.place s) (subst (λ (d : ℤ). c.stand_in.result ≡ stand_in_of c.args.zone d) new c.stand_in.ensures)
