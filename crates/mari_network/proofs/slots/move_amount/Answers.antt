use Rattle.std.proofs.Common.{◌≡◌, ℤ, pos, ◌+ℤ◌, to_z, of_z, sym, ap, ◌∙◌, rules, FitsSigned, w64, arith, get_or, set, subst}
use Rattle.std.proofs.lemmas.Int.{ints}
use Rattle.std.specs.List.{AllZip}
use Rattle.mari_market.specs.Sums.{sum_along}
use Rattle.mari_network.specs.Slots.{slot_into, slot_gain, IsWithinSlot}
use Rattle.mari_network.proofs.Chains.{moved_within, moved_into, moved_worth}
use Rattle.mari_network.proofs.slots.move_amount.Goals as goal

pub returns-clause-within : goal.returns-clause-within
returns-clause-within c = λ all.
    let old : ℤ = get_or c.args.amounts.now c.args.at (pos 0) in
    let fits : FitsSigned w64 old = search rules in
    let new : to_z w64 (of_z w64 (to_z w64 (of_z w64 old) +ℤ to_z w64 (of_z w64 c.args.more))) ≡ old +ℤ c.args.more = omega (arith, ints) in
    subst (λ (v : ℤ). AllZip IsWithinSlot c.args.slots.now (set c.args.amounts.now c.args.at v)) (sym new)
    (moved_within c.args.slots.now c.args.amounts.now c.args.at c.args.more c.requires.at c.requires.moved all)

pub returns-clause-into : goal.returns-clause-into
returns-clause-into c = λ z.
    let old : ℤ = get_or c.args.amounts.now c.args.at (pos 0) in
    let fits : FitsSigned w64 old = search rules in
    let new : to_z w64 (of_z w64 (to_z w64 (of_z w64 old) +ℤ to_z w64 (of_z w64 c.args.more))) ≡ old +ℤ c.args.more = omega (arith, ints) in
    ap (λ (v : ℤ). sum_along (slot_into z) c.args.slots.now (set c.args.amounts.now c.args.at v)) new
    ∙ moved_into z c.args.slots.now c.args.amounts.now c.args.at c.args.more c.requires.at (omega arith)

pub returns-clause-worth : goal.returns-clause-worth
returns-clause-worth c =
    let old : ℤ = get_or c.args.amounts.now c.args.at (pos 0) in
    let fits : FitsSigned w64 old = search rules in
    let new : to_z w64 (of_z w64 (to_z w64 (of_z w64 old) +ℤ to_z w64 (of_z w64 c.args.more))) ≡ old +ℤ c.args.more = omega (arith, ints) in
    ap (λ (v : ℤ). sum_along slot_gain c.args.slots.now (set c.args.amounts.now c.args.at v)) new
    ∙ moved_worth c.args.slots.now c.args.amounts.now c.args.at c.args.more c.requires.at (omega arith)
