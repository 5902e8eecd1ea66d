-- Hops along which one chain after another may improve.
use Rattle.std.specs.Prelude.{◌≡◌, ℕ, ◌<◌, ◌<ℤ◌, List, length, Some}
use Rattle.mari_market.specs.declared.market.Border.{Border}
use Rattle.mari_network.specs.declared.chain.Hop.{Hop}
use Rattle.mari_network.specs.declared.margins.Margin.{Margin}
use Rattle.mari_paths.specs.declared.drains.Ends.{Ends}
use Rattle.mari_network.specs.declared.slots.Slot.{Slot}
use Rattle.mari_network.specs.Slots.{price_of}
use Rattle.mari_network.specs.Margins.{cheapest_at}
use Rattle.mari_network.specs.Chain.{hop_at, IsTrace}

-- hops between these zones
pub record AreHops (zones : ℕ) (bs : List Border) (hops : List Hop) : Type 0 where
  pub trace : IsTrace bs hops
  pub some : 0 < length hops
  pub within : (k : ℕ) → k < length hops → (hop_at hops k).zone < zones

-- a cheapest slot of a hop's zone, cheaper than the sink
pub record AreEnds (slots : List Slot) (margins : List Margin) (hops : List Hop) (sink : ℕ) (e : Ends) : Type 0 where
  pub same : e.sink ≡ sink
  pub there : e.at < length hops
  pub source : cheapest_at margins (hop_at hops e.at).zone ≡ Some e.source
  pub cheaper : price_of slots e.source <ℤ price_of slots sink
