use Rattle.std.proofs.Common.{◌≡◌, ◌<◌, ℤ, pos, ◌+ℤ◌, to_z-of_z, sym, ap, ◌∙◌, rules, FitsSigned, w64, arith, get_or, set, subst, length}
use Rattle.std.specs.List.{AllZip}
use Rattle.mari_market.specs.Sums.{sum_along}
use Rattle.mari_market.specs.Activation.{IsWithinLimits, carried_out}
use Rattle.mari_network.specs.Network.{no_border}
use Rattle.mari_network.specs.Chain.{more_flow}
use Rattle.mari_network.proofs.Chains.{hop_all_within, hop_carried}
use Rattle.mari_network.proofs.chain.push_hop.Goals as goal
use Rattle.mari_market.proofs.Sums.{AllZip-at}

pub flow_after-requires-clause-within : goal.flow_after-requires-clause-within
flow_after-requires-clause-within c =
    let old : ℤ = get_or c.args.flows.now c.args.hop.border (pos 0) in
    let fits : FitsSigned w64 old = search rules in
    rw to_z-of_z (AllZip-at IsWithinLimits c.args.borders.now c.args.flows.now c.args.hop.border no_border (pos 0) c.requires.there c.requires.within)

pub returns-clause-within : goal.returns-clause-within
returns-clause-within c =
    let old : ℤ = get_or c.args.flows.now c.args.hop.border (pos 0) in
    let fits : FitsSigned w64 old = search rules in
    let out : FitsSigned w64 c.flow_after.result = search rules in
    let value : c.flow_after.result ≡ old +ℤ more_flow c.args.hop.forth c.args.more = rw (to_z-of_z fits, to_z-of_z c.ranges.more) at c.flow_after.ensures in
    subst (λ (v : ℤ). AllZip IsWithinLimits c.args.borders.now (set c.args.flows.now c.args.hop.border v)) (sym (to_z-of_z out ∙ value))
    (hop_all_within c.args.borders.now c.args.flows.now c.args.hop c.args.more c.requires.there c.requires.within c.requires.more c.requires.room)

pub returns-clause-carried : goal.returns-clause-carried
returns-clause-carried c = λ z.
    let old : ℤ = get_or c.args.flows.now c.args.hop.border (pos 0) in
    let fits : FitsSigned w64 old = search rules in
    let out : FitsSigned w64 c.flow_after.result = search rules in
    let value : c.flow_after.result ≡ old +ℤ more_flow c.args.hop.forth c.args.more = rw (to_z-of_z fits, to_z-of_z c.ranges.more) at c.flow_after.ensures in
    let there : c.args.hop.border < length c.args.flows.now = omega arith in
    ap (λ (v : ℤ). sum_along (carried_out z) c.args.borders.now (set c.args.flows.now c.args.hop.border v)) (to_z-of_z out ∙ value)
    ∙ hop_carried z c.args.borders.now c.args.flows.now c.args.hop c.args.more c.requires.there there
