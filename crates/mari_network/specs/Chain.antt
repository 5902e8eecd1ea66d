-- Chains of borders along which energy can be moved.
use Rattle.std.specs.Prelude.{◌≡◌, ◌≢◌, Bool, true, false, ℕ, ◌<◌, ℤ, pos, ◌+ℤ◌, ◌-ℤ◌, neg_ℤ, ◌≤ℤ◌, List, length, slice_index_or, ◌<ℤ◌}
use Rattle.mari_market.specs.declared.market.Border.{Border}
use Rattle.mari_network.specs.declared.chain.Hop.{Hop}
use Rattle.mari_network.specs.declared.chain.Chain.{Chain as ChainRecord}
use Rattle.mari_network.specs.declared.network.Network.{Network as NetworkRecord}
use Rattle.mari_network.specs.Slots.{zone_of, price_of, CanLess, CanMore}
use Rattle.mari_network.specs.Network.{border_at}
pub use Rattle.mari_network.specs.Network.{tail_of, head_of}

-- what is read past the end of a list of hops
abbrev pub no_hop : Hop
no_hop = record { zone = 0; border = 0; forth = false; before = 0 }

-- the hop at a place
abbrev pub hop_at : List Hop → ℕ → Hop
hop_at hops k = slice_index_or hops k no_hop

-- how much more the border can carry that way, in MW
abbrev pub room_of : Bool → Border → ℤ → ℤ
room_of true b f = pos b.limit -ℤ f
room_of false b f = f +ℤ pos b.back

-- what an amount more that way adds to a flow
abbrev pub more_flow : Bool → ℤ → ℤ
more_flow true d = d
more_flow false d = neg_ℤ d

-- how much more the border of a hop can carry its way, in MW
abbrev pub hop_room : List Border → List ℤ → Hop → ℤ
hop_room bs fs h = room_of h.forth (border_at bs h.border) (slice_index_or fs h.border (pos 0))

-- energy can move from the hop's zone to that of an earlier one
pub record IsHop (bs : List Border) (hops : List Hop) (k : ℕ) : Type 0 where
  pub earlier : (hop_at hops k).before < k
  pub there : (hop_at hops k).border < length bs
  pub tail : (hop_at hops k).zone ≡ tail_of (hop_at hops k).forth (border_at bs (hop_at hops k).border)
  pub head : (hop_at hops (hop_at hops k).before).zone ≡ head_of (hop_at hops k).forth (border_at bs (hop_at hops k).border)

-- each place but the first is a hop, and no border is used twice
pub record IsTrace (bs : List Border) (hops : List Hop) : Type 0 where
  pub each : (k : ℕ) → 0 < k → k < length hops → IsHop bs hops k
  pub apart : (j k : ℕ) → 0 < j → j < k → k < length hops → (hop_at hops j).border ≢ (hop_at hops k).border

-- each hop from a place back to the first has room for an amount
pub data HasRoom (bs : List Border) (fs : List ℤ) (hops : List Hop) (d : ℤ) : ℕ → Type 0 where
  begins : HasRoom bs fs hops d 0
  goes_on : (k : ℕ) → 0 < k → d ≤ℤ hop_room bs fs (hop_at hops k) → HasRoom bs fs hops d (hop_at hops k).before → HasRoom bs fs hops d k

-- a slot of the first hop's zone can put in less, and a cheaper one of another hop's can put in more, with room along
-- the chain
pub record IsImproving (n : NetworkRecord) (xs fs : List ℤ) (c : ChainRecord) : Type 0 where
  pub trace : IsTrace n.borders.now c.hops.items
  pub there : c.at < length c.hops.items
  pub less : CanLess n.slots.now xs c.sink
  pub more : CanMore n.slots.now xs c.source
  pub to : zone_of n.slots.now c.sink ≡ (hop_at c.hops.items 0).zone
  pub from : zone_of n.slots.now c.source ≡ (hop_at c.hops.items c.at).zone
  pub dearer : price_of n.slots.now c.source <ℤ price_of n.slots.now c.sink
  pub room : HasRoom n.borders.now fs c.hops.items (pos 1) c.at
