-- What joins zones joins them both ways; so islands have one first zone each, and nothing lies between them.
use Rattle.std.proofs.Common.{◌≡◌, ℕ, ◌<◌, List, length, Some, slice_index, arith, refl, inl, inr}
use Rattle.std.specs.Prelude.{Contains, slice_index_or}
use Rattle.std.specs.List.{All}
use Rattle.std.proofs.lemmas.List.Elements.{All-contains, All-contains_itself}
use Rattle.mari_market.specs.declared.market.Border.{Border}
use Rattle.mari_market.specs.declared.market.Market.{Market}
use Rattle.mari_market.specs.declared.market.Order.{Order}
use Rattle.mari_market.specs.Along.Reaches.{itself, further}
use Rattle.mari_market.specs.Market.{IsValid, IsValidOrder}
use Rattle.mari_islands.specs.Islands.{AreBound, AreFirstZones, AreJoined, HasGate, InOneIsland, IsFirstZone, IsUsable}
use Rattle.mari_islands.specs.Islands.AreBound.{same_gate}
use Rattle.mari_islands.specs.Islands.Binds.{by_border, by_gates}

-- ---- islands

joined_back : (m : Market) (y z : ℕ) → AreJoined m y z → AreJoined m z y
joined_back m y z (inl b) = inr b
joined_back m y z (inr b) = inl b

pub island_on : (m : Market) (x y z : ℕ) → InOneIsland m x y → InOneIsland m y z → InOneIsland m x z
island_on m x y _ h itself = h
island_on m x y _ h (further w z k j) = further w z (island_on m x y w h k) j

pub island_back : (m : Market) (y z : ℕ) → InOneIsland m y z → InOneIsland m z y
island_back m y _ itself = itself
island_back m y _ (further w z k j) = island_on m z w y (further z w itself (joined_back m w z j)) (island_back m y w k)

pub island_of_joined : (m : Market) (y z : ℕ) → AreJoined m y z → InOneIsland m y z
island_of_joined m y z j = further y z itself j

-- ---- first zones

pub first_there : (m : Market) (f z : ℕ) → z < m.zones → IsFirstZone m f z → f < m.zones
first_there m f z l h = omega (arith, h.least z itself)

pub one_first : (m : Market) (e f y z : ℕ) → IsFirstZone m e y → IsFirstZone m f z → InOneIsland m y z → e ≡ f
one_first m e f y z h k j =
    let low = h.least f (island_on m f z y k.together (island_back m y z j)) in
    let high = k.least e (island_on m e y z h.together j) in
    omega (arith, low, high)

module _ (m : Market) (firsts : List ℕ) (h : AreFirstZones m firsts) where
  pub same_first : (y z : ℕ) → y < m.zones → z < m.zones → InOneIsland m y z → slice_index firsts y ≡ slice_index firsts z
  same_first y z l k j = one_first m (slice_index firsts y) (slice_index firsts z) y z (h.each y l) (h.each z k) j

  pub head_below : (z : ℕ) → z < m.zones → slice_index firsts z < m.zones
  head_below z l = first_there m (slice_index firsts z) z l (h.each z l)

  -- a first zone is its own first zone
  pub own_first : (z : ℕ) → z < m.zones → slice_index firsts (slice_index firsts z) ≡ slice_index firsts z
  own_first z l = same_first (slice_index firsts z) z (head_below z l) l (h.each z l).together

-- ---- what is not between islands

pub gate_there : (m : Market) (z g : ℕ) → IsValid m → HasGate m z g → z < m.zones
gate_there m z g v h =
    let valid = All-contains (IsValidOrder m.zones (length m.gates)) m.orders h.1 v.orders (h.0, h.2, h.3) in
    omega (arith, valid.zone, h.4.0)

-- each usable border lies within one island, and so do all orders of gates that are bound
pub record Splits (m : Market) (first : ℕ → ℕ) : Type 0 where
  pub borders : All (λ (b : Border). IsUsable b → first b.from ≡ first b.to) m.borders
  pub gates : (y z g h : ℕ) → HasGate m y g → HasGate m z h → AreBound m.gates g h → first y ≡ first z

pub islands_split : (m : Market) (firsts : List ℕ) → IsValid m → AreFirstZones m firsts → Splits m (slice_index firsts)
islands_split m firsts v h = record {
  borders = λ k d l u.
      let b : Border = slice_index_or m.borders k d in
      let valid = v.borders k d l in
      let there = All-contains_itself m.borders k d l in
      same_first m firsts h b.from b.to valid.from valid.to (island_of_joined m b.from b.to (inl (by_border (there.0, b, there.1, there.2, (refl, refl, u)))));
  gates = λ y z g k a b e.
      same_first m firsts h y z (gate_there m y g v a) (gate_there m z k v b) (island_of_joined m y z (inl (by_gates g k a b e)));
}

-- all orders of one gate lie in one island
pub one_gate : (m : Market) (first : ℕ → ℕ) → Splits m first → (y z g : ℕ) → HasGate m y g → HasGate m z g → first y ≡ first z
one_gate m first s y z g a b = s.gates y z g g a b (same_gate refl)

pub has_gate : (m : Market) (o : Order) (g : ℕ) → Contains m.orders o → o.gate ≡ Some g → HasGate m o.zone g
has_gate m o g h e = (h.0, o, h.1, h.2, (refl, e))
