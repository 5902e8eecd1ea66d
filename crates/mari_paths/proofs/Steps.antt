-- What all amounts are worth together, moved by one step, as the code has it.
use Rattle.std.proofs.Common.{◌≡◌, ◌*◌, ℤ, pos, ◌+ℤ◌, ◌-ℤ◌, neg_ℤ, ◌≤ℤ◌, to_z, of_z, to_z-of_z, FitsSigned, arith, sym, subst}
use Rattle.std.specs.Int.{w128}
use Rattle.std.proofs.lemmas.Int.{ints}

-- by a rise
pub rise_step : (worth sum rise new : ℤ) → FitsSigned w128 sum → FitsSigned w128 rise → worth ≡ sum → new ≡ sum +ℤ rise
    → to_z w128 (of_z w128 worth) +ℤ to_z w128 (of_z w128 rise) ≡ new
rise_step worth sum rise new f r e g =
    let w : FitsSigned w128 worth = subst (λ (x : ℤ). FitsSigned w128 x) (sym e) f in
    rw (to_z-of_z w, to_z-of_z r) (omega (arith, ints, e, g))

-- by what a change makes of a small part
pub change_step : (worth sum new before after first last : ℤ) → FitsSigned w128 sum → worth ≡ sum → first ≡ before → last ≡ after → new +ℤ before ≡ sum +ℤ after
    → (neg_ℤ (pos (40000000 * 1099511627776)) ≤ℤ before) × (before ≤ℤ pos (40000000 * 1099511627776))
    → (neg_ℤ (pos (40000000 * 1099511627776)) ≤ℤ after) × (after ≤ℤ pos (40000000 * 1099511627776))
    → to_z w128 (of_z w128 worth) +ℤ to_z w128 (of_z w128 (to_z w128 (of_z w128 last) -ℤ to_z w128 (of_z w128 first))) ≡ new
change_step worth sum new before after first last f e g h moved low high =
    let w : FitsSigned w128 worth = subst (λ (x : ℤ). FitsSigned w128 x) (sym e) f in
    let a : FitsSigned w128 first = omega (arith, ints, g, low.0, low.1) in
    let b : FitsSigned w128 last = omega (arith, ints, h, high.0, high.1) in
    let d : FitsSigned w128 (last -ℤ first) = omega (arith, ints, g, h, low.0, low.1, high.0, high.1) in
    rw (to_z-of_z w, to_z-of_z a, to_z-of_z b, to_z-of_z d) (omega (arith, ints, e, g, h, moved))
