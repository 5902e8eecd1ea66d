use Rattle.std.proofs.Common.{◌≡◌, ◌∙◌, ℕ, ℤ, List, length, subst, sym, arith, ap}
use Rattle.mari_islands.specs.Cleared.{IsJoinedOf}
use Rattle.mari_islands.specs.Placing.{activation_of}
use Rattle.mari_islands.proofs.Cleared.{placed_joined}
use Rattle.mari_islands.proofs.Placing.{written}
use Rattle.mari_islands.proofs.join.activation_of.Goals as goal

pub returns : goal.returns
returns c =
    let m = c.args.market.now in
    let islands = c.args.islands.now in
    let clearings = c.args.clearings.now in
    let mws = c.place_all.new.mw in
    let flows = c.place_all.new.flow in
    let orders : length mws ≡ length m.orders =
    omega (arith, c.place_all.auto.mw, ap length c.deref_mut.ensures.value, c.deref_mut.ensures.len, c.in_ok-mw.ensures.len, ap length c.as_slice.ensures) in
    let borders : length flows ≡ length m.borders =
    omega (arith, c.place_all.auto.flow, ap length c.deref_mut-2.ensures.value, c.deref_mut-2.ensures.len, c.in_ok-flow.ensures.len, ap length c.as_slice-2.ensures) in
    let mw : c.of.result ≡ mws = c.of.ensures ∙ written c.in_ok-mw.mw.len mws c.in_ok-mw.mw.items (omega (arith, c.place_all.auto.mw, c.deref_mut.ensures.len)) in
    let flow : c.of-2.result ≡ flows = c.of-2.ensures ∙ written c.in_ok-flow.flow.len flows c.in_ok-flow.flow.items (omega (arith, c.place_all.auto.flow, c.deref_mut-2.ensures.len)) in
    subst (λ (qs : List ℕ). IsJoinedOf m islands clearings (activation_of qs c.of-2.result)) (sym mw)
    (subst (λ (fs : List ℤ). IsJoinedOf m islands clearings (activation_of mws fs)) (sym flow) (placed_joined m islands clearings mws flows orders borders c.place_all.ensures))
