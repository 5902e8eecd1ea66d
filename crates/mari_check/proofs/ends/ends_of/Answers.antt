use Rattle.std.proofs.Common.{◌≡◌, sym, subst, List, ℕ}
use Rattle.std.proofs.lemmas.Slice.Zip.{AllZip-long}
use Rattle.mari_check.specs.Ends.{ArePricesOf, along_of}
use Rattle.mari_check.specs.Spread.{AreSmall, IsSpread}
use Rattle.mari_market.specs.Along.{LeadsTo}
use Rattle.mari_market.specs.declared.along.Along.{Along}
use Rattle.mari_check.proofs.Bounds.{tight_small}
use Rattle.mari_check.proofs.EndPrices.{end-prices}
use Rattle.mari_check.proofs.Spreads.{spread-small}
use Rattle.mari_check.proofs.ends.ends_of.Goals as goal

pub spread-heights-requires-clause-lengths : goal.spread-heights-requires-clause-lengths
spread-heights-requires-clause-lengths c = rw (c.as_slice-borders.ensures, c.as_slice-flow.ensures) (AllZip-long _ c.args.market.now.borders c.args.activation.now.flow c.requires.feasible.borders)

pub spread-heights-requires-clause-small : goal.spread-heights-requires-clause-small
spread-heights-requires-clause-small c =
    tight_small c.args.end c.args.market.now c.args.activation.now.mw c.args.bounds.items c.requires.valid c.requires.bounds

pub prices_of_heights-requires : goal.prices_of_heights-requires
prices_of_heights-requires c =
    let small = tight_small c.args.end c.args.market.now c.args.activation.now.mw c.args.bounds.items c.requires.valid c.requires.bounds in
    subst AreSmall (sym c.deref.ensures.value) (spread-small _ c.args.bounds.items c.spread-heights.result.items c.spread-heights.ensures small)

pub returns : goal.returns
returns c =
    let along : c.along.result ≡ along_of c.args.end = c.along.ensures in
    let spread = subst (λ (w : Along). IsSpread (LeadsTo w c.args.market.now.borders c.args.activation.now.flow) c.args.bounds.items c.spread-heights.result.items) along
    (rw (c.as_slice-borders.ensures, c.as_slice-flow.ensures) at c.spread-heights.ensures) in
    end-prices c.args.market.now c.args.activation.now c.requires.valid c.requires.feasible c.args.bounds.items c.spread-heights.result.items
    c.in_ok-prices.prices.items c.requires.some c.requires.bounds.one_each
    c.args.end c.requires.bounds.each spread
    (subst (λ (xs : List ℕ). ArePricesOf c.args.end xs c.in_ok-prices.prices.items) c.deref.ensures.value c.in_ok-prices.ensures)
