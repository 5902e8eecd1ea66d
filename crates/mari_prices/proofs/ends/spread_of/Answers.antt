use Rattle.std.proofs.Common.{length, ◌≡◌, ◌∙◌, ap, sym}
use Rattle.std.proofs.lemmas.Slice.Zip.{AllZip-long}
use Rattle.mari_prices.proofs.ends.spread_of.Goals as goal

pub spread-requires-clause-lengths : goal.spread-requires-clause-lengths
spread-requires-clause-lengths c =
    let a = c.requires.bounded.0 in
    let h = c.requires.bounded.1 in
    let long : length a.flow ≡ length c.args.market.now.borders = AllZip-long _ c.args.market.now.borders a.flow h.feasible.borders in
    let here : length c.args.flow.now ≡ length c.args.market.now.borders = ap length (sym h.flows) ∙ long in
    rw (c.as_slice.ensures) here
