-- How islands are united.
use Rattle.std.proofs.Common.{◌≡◌, ◌==◌, ◌⊎◌, ℕ, ◌+◌, ◌<◌, ◌≤◌, List, length, Some, None, pos, take, get_or, slice_index, min, max, refl, sym, ap, ◌∙◌, subst, arith, inl, inr}
use Rattle.std.specs.Prelude.{Contains, slice_index_or}
use Rattle.std.specs.List.{All}
use Rattle.std.proofs.lemmas.Bool.{cases_Bool, cases_eq, cases_lt, cond-false, cond-true, eq-eqb, ne_eqb}
use Rattle.std.proofs.lemmas.List.{take_all}
use Rattle.std.proofs.lemmas.List.Elements.{All-contains, All-contains_itself, All-more, All-take}
use Rattle.mari_market.specs.declared.market.Border.{Border}
use Rattle.mari_market.specs.declared.market.Market.{Market}
use Rattle.mari_market.specs.declared.market.Order.{Order}
use Rattle.mari_market.specs.declared.market.Side.TheVariants.{Inject}
use Rattle.mari_market.specs.Along.Reaches.{itself, further}
use Rattle.mari_market.specs.Gates.{parent_of}
use Rattle.mari_market.specs.Market.{IsBetween, IsValid, IsValidBorder, IsValidOrder}
use Rattle.mari_islands.specs.Islands.{AreBound, AreFirstZones, AreJoined, Binds, HasGate, InOneIsland, IsUsable}
use Rattle.mari_islands.specs.Islands.AreBound.{is_parent, same_gate, same_group}
use Rattle.mari_islands.specs.Islands.Binds.{by_border, by_gates}
use Rattle.mari_islands.specs.Uniting.{AreHomes, AreMates, AreSound, AreUnited, StayUnited, UnitesGate, UnitesOwn, lowered}
use Rattle.mari_islands.proofs.Bound.{gate_there, has_gate, island_back, island_of_joined, island_on}
use Rattle.mari_islands.proofs.Inside.{gate_below}

-- ---- one union

-- each zone of the higher island gets the first zone of the lower one
pub record AreLowered (olds news : List ℕ) (y z : ℕ) : Type 0 where
  pub long : length news ≡ length olds
  pub each : (w : ℕ) → w < length olds → slice_index news w ≡ lowered (min (slice_index olds y) (slice_index olds z)) (max (slice_index olds y) (slice_index olds z)) (slice_index olds w)

ends : (a b : ℕ) → ((min a b ≡ a) × (max a b ≡ b)) ⊎ ((min a b ≡ b) × (max a b ≡ a))
ends a b = elim (cases_lt a b) [ inl l ↦ inl (omega arith, omega arith) | inr l ↦ inr (omega arith, omega arith) ]

lowered_high : (low high : ℕ) → lowered low high high ≡ low
lowered_high low high = cond-true (high == high) low high (eq-eqb high high refl)

lowered_low : (low high : ℕ) → lowered low high low ≡ low
lowered_low low high = elim (cases_Bool (low == high)) [ inl t ↦ cond-true (low == high) low low t | inr t ↦ cond-false (low == high) low low t ]

lowered_other : (low high w : ℕ) → (w ≡ high → ⊥) → lowered low high w ≡ w
lowered_other low high w n = cond-false (w == high) low w (ne_eqb w high n)

both_lowered : (a b : ℕ) → lowered (min a b) (max a b) a ≡ lowered (min a b) (max a b) b
both_lowered a b = elim (ends a b) [
  | inl e ↦ rw (e.0, e.1) (lowered_low a b ∙ sym (lowered_high a b))
  | inr e ↦ rw (e.0, e.1) (lowered_high b a ∙ sym (lowered_low b a))
]

pub union_stays : (olds news : List ℕ) (y z : ℕ) → AreLowered olds news y z → StayUnited olds news
union_stays olds news y z h u w l k e = h.each u l ∙ ap (lowered (min (slice_index olds y) (slice_index olds z)) (max (slice_index olds y) (slice_index olds z))) e ∙ sym (h.each w k)

pub union_joins : (olds news : List ℕ) (y z : ℕ) → y < length olds → z < length olds → AreLowered olds news y z → AreUnited news y z
union_joins olds news y z l k h = h.each y l ∙ both_lowered (slice_index olds y) (slice_index olds z) ∙ sym (h.each z k)

-- a first zone is lowered to one of the same island
lowered_within : (m : Market) (a b y z w f : ℕ) → InOneIsland m a y → InOneIsland m b z → InOneIsland m y z → f ≡ b → InOneIsland m f w → InOneIsland m a w
lowered_within m a b y z w f own other joined e h = island_on m a y w own (island_on m y z w joined (island_on m z b w (island_back m b z other) (subst (λ (g : ℕ). InOneIsland m g w) e h)))

-- the lesser a of two first zones is that of both islands
lowered_sound : (m : Market) (a b y z w f : ℕ) → InOneIsland m a y → InOneIsland m b z → InOneIsland m y z → a ≤ b → InOneIsland m f w → f ≤ w → InOneIsland m (lowered a b f) w × (lowered a b f ≤ w)
lowered_sound m a b y z w f own other joined l h less = elim (cases_eq f b) [
  | inl e ↦ (let is : lowered a b f ≡ a = ap (lowered a b) e ∙ lowered_high a b in
      (subst (λ (g : ℕ). InOneIsland m g w) (sym is) (lowered_within m a b y z w f own other joined e h), omega (arith, is, e, l, less)))
  | inr n ↦ (let is : lowered a b f ≡ f = lowered_other a b f n in
      (subst (λ (g : ℕ). InOneIsland m g w) (sym is) h, omega (arith, is, less)))
]

pub union_sound : (m : Market) (olds news : List ℕ) (y z : ℕ) → AreSound m olds → y < m.zones → z < m.zones → AreJoined m y z → AreLowered olds news y z → AreSound m news
union_sound m olds news y z s l k j h = record {
  one_each = h.long ∙ s.one_each;
  together = λ w less. (sound w less).0;
  no_later = λ w less. (sound w less).1;
}
  where
    joined : InOneIsland m y z
    joined = island_of_joined m y z j

    sound : (w : ℕ) → w < m.zones → InOneIsland m (slice_index news w) w × (slice_index news w ≤ w)
    sound w less =
        let a = slice_index olds y in
        let b = slice_index olds z in
        let there : w < length olds = omega (arith, less, s.one_each) in
        let new = h.each w there in
        elim (ends a b) [
          | inl e ↦ (let is : slice_index news w ≡ lowered a b (slice_index olds w) = rw (e.0, e.1) at new in
              let order : a ≤ b = omega (arith, e.0) in
              let own = lowered_sound m a b y z w (slice_index olds w) (s.together y l) (s.together z k) joined order (s.together w less) (s.no_later w less) in
              subst (λ (f : ℕ). InOneIsland m f w × (f ≤ w)) (sym is) own)
          | inr e ↦ (let is : slice_index news w ≡ lowered b a (slice_index olds w) = rw (e.0, e.1) at new in
              let order : b ≤ a = omega (arith, e.0) in
              let own = lowered_sound m b a z y w (slice_index olds w) (s.together z k) (s.together y l) (island_back m y z joined) order (s.together w less) (s.no_later w less) in
              subst (λ (f : ℕ). InOneIsland m f w × (f ≤ w)) (sym is) own)
        ]

-- ---- loops

-- what stands in for a border or an order that isn't there
abbrev pub no_border : Border
no_border = record { from = 0; to = 0; limit = 0; back = 0 }

abbrev pub no_order : Order
no_order = record { zone = 0; side = Inject; price = record { 0 = pos 0 }; least = 0; greatest = 0; gate = None }

-- the step of a loop in which what held of the items so far leads to what holds of them then
pub all_step : {X : Type 0} (V P Q : X → Type 0) (xs : List X) (i : ℕ) (d : X) → i < length xs → All V xs
    → ((x : X) → V x → P x → Q x) → All P (take i xs) → Q (get_or xs i d) → All Q (take (i + 1) xs)
all_step V P Q xs i d l all step so_far here = All-more Q xs i d l (λ k e less. step _ (All-take V i xs all k e less) (so_far k e less)) here

-- and its end
pub all_taken : {X : Type 0} (P : X → Type 0) (xs ys : List X) (i : ℕ) → length xs ≤ i → xs ≡ ys → All P (take i xs) → All P ys
all_taken P xs ys i l e h = subst (All P) e (subst (All P) (take_all i xs l) h)

abbrev pub UnitesUsable : List ℕ → Border → Type 0
UnitesUsable firsts b = IsUsable b → AreUnited firsts b.from b.to

abbrev pub LiesWithin : ℕ → Order → Type 0
LiesWithin n o = o.zone < n

pub usable_stays : (olds news : List ℕ) → StayUnited olds news → (b : Border) → IsBetween (length olds) b → UnitesUsable olds b → UnitesUsable news b
usable_stays olds news stay b ends h u = stay b.from b.to ends.0 ends.1 (h u)

pub borders_lie : (m : Market) (firsts : List ℕ) → IsValid m → AreSound m firsts → All (IsBetween (length firsts)) m.borders
borders_lie m firsts v s = λ k d l. (omega (arith, (v.borders k d l).from, s.one_each), omega (arith, (v.borders k d l).to, s.one_each))

-- the zone that stands for a gate is one of the market
pub home_there : (m : Market) (homes : List ℕ) → IsValid m → AreHomes m homes → (g : ℕ) → g < length m.gates → slice_index homes g < m.zones
home_there m homes v h g l = gate_there m (slice_index homes g) g v (h.there g l)

-- so is that which stands for its group, and both are joined
pub mate_there : (m : Market) (mates : List ℕ) → IsValid m → AreMates m mates → (g : ℕ) → g < length m.gates → slice_index mates g < m.zones
mate_there m mates v h g l = let b = h.bound g l in gate_there m (slice_index mates g) b.0 v b.1

pub mate_joined : (m : Market) (homes mates : List ℕ) → AreHomes m homes → AreMates m mates → (g : ℕ) → g < length m.gates → AreJoined m (slice_index homes g) (slice_index mates g)
mate_joined m homes mates h k g l = let b = k.bound g l in inl (by_gates g b.0 (h.there g l) b.1 b.2)

-- a parent is a gate, whose zone is joined with that of its child
pub parent_there : (m : Market) → IsValid m → (g h : ℕ) → g < length m.gates → parent_of m.gates g ≡ Some h → h < length m.gates
parent_there m v g h l e = omega (arith, (v.gates g l).parent h e, l)

pub parent_joined : (m : Market) (homes : List ℕ) → IsValid m → AreHomes m homes → (g h : ℕ) → g < length m.gates
    → parent_of m.gates g ≡ Some h → AreJoined m (slice_index homes g) (slice_index homes h)
parent_joined m homes v k g h l e = inl (by_gates g h (k.there g l) (k.there h (parent_there m v g h l e)) (is_parent e))

-- an order's own zone is joined with the one that stands for its gate
pub own_joined : (m : Market) (homes : List ℕ) → IsValid m → AreHomes m homes → (o : Order) (g : ℕ) → Contains m.orders o → o.gate ≡ Some g → AreJoined m (slice_index homes g) o.zone
own_joined m homes v h o g there is = inl (by_gates g g (h.there g (gate_below m o g v there is)) (has_gate m o g there is) (same_gate refl))

module _ (m : Market) (homes : List ℕ) (v : IsValid m) (h : AreHomes m homes) (olds news : List ℕ) (s : AreSound m olds) (stay : StayUnited olds news) where
  pub own_stays : (o : Order) → Contains m.orders o → UnitesOwn homes olds o → UnitesOwn homes news o
  own_stays o there u g is =
      let home = home_there m homes v h g (gate_below m o g v there is) in
      let zone = (All-contains (IsValidOrder m.zones (length m.gates)) m.orders o v.orders there).zone in
      stay (slice_index homes g) o.zone (omega (arith, home, s.one_each)) (omega (arith, zone, s.one_each)) (u g is)

  pub gate_stays : (mates : List ℕ) → AreMates m mates → (g : ℕ) → g < length m.gates → UnitesGate m.gates homes mates olds g → UnitesGate m.gates homes mates news g
  gate_stays mates k g l u =
      let home : slice_index homes g < length olds = omega (arith, home_there m homes v h g l, s.one_each) in
      record {
        group = stay (slice_index homes g) (slice_index mates g) home (omega (arith, mate_there m mates v k g l, s.one_each)) u.group;
        parent = λ p e. stay (slice_index homes g) (slice_index homes p) home (omega (arith, home_there m homes v h p (parent_there m v g p l e), s.one_each)) (u.parent p e);
      }

pub stays_on : (olds mids news : List ℕ) → length mids ≡ length olds → StayUnited olds mids → StayUnited mids news → StayUnited olds news
stays_on olds mids news e h k y z l r same = k y z (omega (arith, l, e)) (omega (arith, r, e)) (h y z l r same)

-- ---- the end

binds_from : (m : Market) (y z : ℕ) → IsValid m → Binds m y z → y < m.zones
binds_from m y z v (by_border any) = omega (arith, (All-contains (IsValidBorder m.zones) m.borders any.1 v.borders (any.0, any.2, any.3)).from, any.4.0)
binds_from m y z v (by_gates g h a b bound) = gate_there m y g v a

binds_to : (m : Market) (y z : ℕ) → IsValid m → Binds m y z → z < m.zones
binds_to m y z v (by_border any) = omega (arith, (All-contains (IsValidBorder m.zones) m.borders any.1 v.borders (any.0, any.2, any.3)).to, any.4.1)
binds_to m y z v (by_gates g h a b bound) = gate_there m z h v b

-- the zones that stand for bound gates are united
bound_united : (m : Market) (homes mates firsts : List ℕ) → AreMates m mates
    → ((g : ℕ) → g < length m.gates → UnitesGate m.gates homes mates firsts g) → (g h : ℕ) → g < length m.gates
    → h < length m.gates → AreBound m.gates g h
    → AreUnited firsts (slice_index homes g) (slice_index homes h)
bound_united m homes mates firsts k gates g h l r (same_gate e) = ap (λ n. slice_index firsts (slice_index homes n)) e
bound_united m homes mates firsts k gates g h l r (same_group n p q) = (gates g l).group ∙ ap (slice_index firsts) (k.same g h n p q) ∙ sym (gates h r).group
bound_united m homes mates firsts k gates g h l r (is_parent e) = (gates g l).parent h e

-- whatever binds two zones unites them
pub record UnitesAll (m : Market) (homes mates firsts : List ℕ) : Type 0 where
  pub sound : AreSound m firsts
  pub borders : All (UnitesUsable firsts) m.borders
  pub orders : All (UnitesOwn homes firsts) m.orders
  pub gates : (g : ℕ) → g < length m.gates → UnitesGate m.gates homes mates firsts g

module _ (m : Market) (homes mates firsts : List ℕ) (v : IsValid m) (k : AreMates m mates) (u : UnitesAll m homes mates firsts) where
  -- an order of a gate is united with the zone that stands for it
  order_united : (z g : ℕ) → HasGate m z g → AreUnited firsts (slice_index homes g) z
  order_united z g a = All-contains (UnitesOwn homes firsts) m.orders a.1 u.orders (a.0, a.2, a.3) g a.4.1 ∙ ap (slice_index firsts) a.4.0

  below : (z g : ℕ) → HasGate m z g → g < length m.gates
  below z g a = gate_below m a.1 g v (a.0, a.2, a.3) a.4.1

  all_united : (y z : ℕ) → Binds m y z → AreUnited firsts y z
  all_united y z (by_border any) =
      let b : Border = any.1 in
      let united : AreUnited firsts b.from b.to = All-contains (UnitesUsable firsts) m.borders b u.borders (any.0, any.2, any.3) any.4.2 in
      ap (slice_index firsts) (sym any.4.0) ∙ united ∙ ap (slice_index firsts) any.4.1
  all_united y z (by_gates g h a b bound) =
      sym (order_united y g a) ∙ bound_united m homes mates firsts k u.gates g h (below y g a) (below z h b) bound ∙ order_united z h b

  binds : (y z : ℕ) → AreJoined m y z → AreUnited firsts y z
  binds y z (inl b) = all_united y z b
  binds y z (inr b) = sym (all_united z y b)

  united : (y z : ℕ) → InOneIsland m y z → AreUnited firsts y z
  united y _ itself = refl
  united y _ (further w z l j) = united y w l ∙ binds w z j

  joined_there : (y z : ℕ) → AreJoined m y z → y < m.zones
  joined_there y z (inl b) = binds_from m y z v b
  joined_there y z (inr b) = binds_to m z y v b

  there : (y z : ℕ) → InOneIsland m y z → z < m.zones → y < m.zones
  there y _ itself l = l
  there y _ (further w z i j) l = there y w i (joined_there w z j)

  least_of : (y z : ℕ) → InOneIsland m y z → z < m.zones → slice_index firsts z ≤ y
  least_of y z j l = omega (arith, united y z j, u.sound.no_later y (there y z j l))

  pub are_first_zones : AreFirstZones m firsts
  are_first_zones = record {
    one_each = u.sound.one_each;
    each = λ z l. record { together = u.sound.together z l; least = λ y j. least_of y z j l };
  }

-- what borders united, and then orders, stays so while more is united
pub united_by_three : (m : Market) (homes mates ones twos news : List ℕ) → IsValid m → AreHomes m homes
    → AreSound m ones → All (UnitesUsable ones) m.borders → AreSound m twos → StayUnited ones twos
    → All (UnitesOwn homes twos) m.orders
    → AreSound m news → StayUnited twos news → ((g : ℕ) → g < length m.gates → UnitesGate m.gates homes mates news g) → UnitesAll m homes mates news
united_by_three m homes mates ones twos news v h s borders t stay orders r on gates = record {
  sound = r;
  borders = λ k d l. usable_stays ones news (stays_on ones twos news (t.one_each ∙ sym s.one_each) stay on) (slice_index_or m.borders k d) (borders_lie m ones v s k d l) (borders k d l);
  orders = λ k d l. own_stays m homes v h twos news t on (slice_index_or m.orders k d) (All-contains_itself m.orders k d l) (orders k d l);
  gates = gates;
}
