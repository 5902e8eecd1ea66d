use Rattle.std.proofs.Common.{ℤ, pos, to_z-of_z, ap, ◌∙◌, rules, FitsSigned, w64, get_or}
use Rattle.mari_market.specs.Activation.{IsWithinLimits}
use Rattle.mari_network.specs.Network.{no_border, border_at}
use Rattle.mari_network.specs.Chain.{room_of}
use Rattle.mari_network.proofs.chain.room_at.Goals as goal
use Rattle.mari_market.proofs.Sums.{AllZip-at}

pub room_over-requires : goal.room_over-requires
room_over-requires c =
    let old : ℤ = get_or c.args.flows.now c.args.hop.border (pos 0) in
    let fits : FitsSigned w64 old = search rules in
    rw to_z-of_z (AllZip-at IsWithinLimits c.args.borders.now c.args.flows.now c.args.hop.border no_border (pos 0) c.requires.there c.requires.within)

pub returns : goal.returns
returns c =
    let old : ℤ = get_or c.args.flows.now c.args.hop.border (pos 0) in
    let fits : FitsSigned w64 old = search rules in
    let out : FitsSigned w64 c.room_over.result = search rules in
    to_z-of_z out ∙ c.room_over.ensures.value ∙ ap (λ (v : ℤ). room_of c.args.hop.forth (border_at c.args.borders.now c.args.hop.border) v) (to_z-of_z fits)
