-- What a published block states of its zones' prices.
use Rattle.std.specs.Prelude.{ℕ, List}
use Rattle.mari_units.specs.declared.numbers.Cents.{Cents}
use Rattle.mari_market.specs.declared.activation.Activation.{Activation}
use Rattle.mari_market.specs.declared.market.Market.{Market}
use Rattle.mari_market.specs.Area.{AreAreas}
use Rattle.mari_market.specs.Interval.{AreIntervals, ArePublishedPrices}
use Rattle.mari_market.specs.Optimal.{IsConsistent}
use Rattle.mari_publish.specs.declared.publication.FullBlock.{FullBlock}
use Rattle.mari_progress.specs.Reported.{activation_of, areas_of, greatest_reported, least_reported, prices_of}

-- for an activation each zone has its published price, which together are consistent with it; its least and its
-- greatest consistent price; and the number of its area
pub record AreZonePrices (m : Market) (a : Activation) (ps lows highs : List Cents) (numbers : List ℕ) : Type 0 where
  pub published : ArePublishedPrices m a ps
  pub consistent : IsConsistent m a ps
  pub intervals : AreIntervals m a lows highs
  pub areas : AreAreas m a numbers

-- so it is reported
abbrev pub HasPrices : Market → FullBlock → Type 0
HasPrices m b = AreZonePrices m (activation_of b) (prices_of b) (least_reported b) (greatest_reported b) (areas_of b)
