-- What was computed of a run has one entry for each zone, border, bid, operator and provider.
use Rattle.std.proofs.Common.{◌∙◌, List, length, Option, ap, arith}
use Rattle.std.proofs.lemmas.List.FromFn.{length-map-range_with_len}
use Rattle.mari_units.specs.declared.numbers.Cents.{Cents}
use Rattle.mari_market.specs.declared.clearing.Clearing.{Clearing}
use Rattle.mari_market.specs.Activation.{IsWithinLimits}
use Rattle.mari_market.specs.Optimal.{IsFeasible}
use Rattle.mari_remain.specs.declared.books.Books.{Books}
use Rattle.mari_remain.specs.declared.market.RunMarket.{RunMarket}
use Rattle.mari_market.proofs.Sizes.{as_many}
use Rattle.std.proofs.lemmas.Slice.Zip.{AllZip-long}
use Rattle.mari_progress.specs.Runs.{IsMarketOf}
use Rattle.mari_progress.proofs.Lists.{along-length}
use Rattle.mari_day.specs.Assembled.{HasShapes, IsPriced}
use Rattle.mari_day.specs.declared.block.Priced.{Priced}

module _ (books : Books) (made : RunMarket) (is : IsMarketOf books made) (also : Option (List Cents)) where
  pub shapes : (clearing : Clearing) (priced : Priced) → IsPriced books made also clearing priced → IsFeasible made.market clearing.activation → HasShapes books made.bids clearing priced
  shapes clearing priced p f =
      let flow = AllZip-long IsWithinLimits made.market.borders clearing.activation.flow f.borders in
      let mw = as_many made.market clearing.activation f in
      record {
        published = p.prices.published.one_each ∙ is.zones;
        least = p.prices.intervals.least.one_each ∙ is.zones;
        greatest = p.prices.intervals.greatest.one_each ∙ is.zones;
        areas = p.prices.areas.one_each ∙ is.zones;
        flow = flow ∙ is.borders;
        rents = ap length p.rents ∙ along-length _ made.market.borders clearing.activation.flow flow ∙ is.borders;
        mw = omega (arith, mw, is.orders);
        operators = ap length p.operators ∙ length-map-range_with_len _ 0 (length books.zones.operators);
        providers = ap length p.providers ∙ length-map-range_with_len _ 0 (length books.bids.providers);
        small = p.balanced.small;
      }
