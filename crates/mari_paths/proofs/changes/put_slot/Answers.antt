use Rattle.std.proofs.Common.{◌≡◌, ℤ, ◌-ℤ◌, to_z, of_z, to_z-of_z, FitsSigned, w64, ap, sym, subst, ◌∙◌, arith, set}
use Rattle.std.proofs.lemmas.Int.{ints}
use Rattle.mari_market.specs.Sums.{int_at}
use Rattle.mari_network.specs.declared.slots.Slot.{Slot}
use Rattle.mari_network.specs.Slots.{IsSmallSlot, IsWithinSlot}
use Rattle.mari_paths.specs.Starts.{most_moved, IsNear}
use Rattle.mari_paths.proofs.changes.put_slot.Goals as goal

-- what a slot may put in fits 64 bits
within_fits : (s : Slot) (next : ℤ) → IsSmallSlot s → IsWithinSlot s next → FitsSigned w64 next
within_fits s next small within = omega (arith, ints, small.low, small.high, within.least, within.most)

-- an amount without what it loses, as 64 bits have them
without_lost : (s : Slot) (now next : ℤ) → IsNear most_moved now → IsSmallSlot s → IsWithinSlot s next
    → now -ℤ to_z w64 (of_z w64 (to_z w64 (of_z w64 now) -ℤ to_z w64 (of_z w64 next))) ≡ next
without_lost s now next near small within =
    let before : FitsSigned w64 now = omega (arith, ints, near.low, near.high) in
    let after : FitsSigned w64 next = within_fits s next small within in
    let lost : FitsSigned w64 (now -ℤ next) = omega (arith, ints, near.low, near.high, small.low, small.high, within.least, within.most) in
    rw (to_z-of_z before, to_z-of_z after, to_z-of_z lost) (omega (arith, ints))

pub returns-clause-amounts : goal.returns-clause-amounts
returns-clause-amounts c =
    let next = c.nearest_within-next.result in
    let within = c.nearest_within-next.ensures in
    let left = without_lost c.args.slot (int_at c.args.amounts.now c.args.place) next c.requires.near c.requires.small within in
    ap (λ (x : ℤ). set c.args.amounts.now c.args.place x) (to_z-of_z (within_fits c.args.slot next c.requires.small within) ∙ sym left)

pub returns-clause-within : goal.returns-clause-within
returns-clause-within c =
    let within = c.nearest_within-next.ensures in
    let left = without_lost c.args.slot (int_at c.args.amounts.now c.args.place) c.nearest_within-next.result c.requires.near c.requires.small within in
    subst (λ (x : ℤ). IsWithinSlot c.args.slot x) (sym left) within
