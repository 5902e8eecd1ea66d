-- Levels that a search is left with, and goes on from after energy moved.
use Rattle.std.proofs.Common.{◌≡◌, ◌∙◌, Bool, true, false, ℕ, ◌<◌, ℤ, pos, ◌≤ℤ◌, ◌<ℤ◌, List, length, arith, refl, inl, inr, ap, sym, subst, Some}
use Rattle.std.proofs.lemmas.List.{ext_get_or}
use Rattle.std.proofs.lemmas.Bool.{cases_eq}
use Rattle.std.proofs.lemmas.Int.{ints}
use Rattle.mari_market.specs.declared.market.Border.{Border}
use Rattle.mari_market.specs.Sums.{int_at}
use Rattle.mari_market.proofs.Sums.{AllZip-at}
use Rattle.mari_network.specs.declared.chain.Chain.{Chain}
use Rattle.mari_network.specs.declared.chain.Hop.{Hop}
use Rattle.mari_network.specs.declared.margins.Margin.{Margin}
use Rattle.mari_network.specs.declared.network.Network.{Network}
use Rattle.mari_network.specs.declared.slots.Slot.{Slot}
use Rattle.mari_network.specs.declared.search.ChainSearch.{ChainSearch}
use Rattle.mari_network.specs.Slots.{slot_at, zone_of, price_of, CanLess}
use Rattle.mari_network.specs.Network.{no_border, border_at}
use Rattle.mari_network.specs.Chain.{tail_of, head_of, room_of, hop_at, IsImproving}
use Rattle.mari_network.specs.Spread.{is_marked, ClosedOver, IsSpread}
use Rattle.mari_network.specs.Margins.{cheapest_at, IsDearest, IsMoved, NoneCheaper, AreMargins}
use Rattle.mari_network.specs.Levels.{OrderedOver, AreLevels}
use Rattle.mari_network.specs.Searching.{AreUnmarked, HasLevels, HasZones, IsFresh, IsOfNone, IsMovedAlong}
use Rattle.mari_network.proofs.Levels.{levels_none}
use Rattle.mari_network.proofs.Lists.{zip_of, zip_long}
use Rattle.mari_network.proofs.Marginal.{below_some}
use Rattle.mari_network.proofs.Marks.{marked_or, none_count, not_both}

-- nothing is marked at first
pub levels_fresh : (n : Network) (xs fs : List ℤ) (s : ChainSearch) → HasZones (length n.meeting.now) s → IsFresh s → length fs ≡ length n.borders.now → HasLevels n xs fs s
levels_fresh n xs fs s zones fresh long = record {
  zones = zones;
  levels = levels_none n.slots.now n.borders.now xs fs s.marked.items (int_at s.prices.items) (sym long) fresh.none;
  left = fresh.left ∙ sym (none_count s.marked.items fresh.none);
}

-- where no slot of a level's hops is cheaper than its price, none of a marked zone is
pub none_at_level : (slots : List Slot) (bs : List Border) (xs fs : List ℤ) (margins : List Margin) (zones : ℕ) (old marked : List Bool) (p : ℕ → ℤ) (hops : List Hop) (start i : ℕ)
    → ((k : ℕ) → k < length slots → zone_of slots k < zones) → AreMargins slots xs zones (length slots) margins
    → AreLevels slots bs xs fs old p → IsDearest slots xs old i → IsSpread bs fs old start marked hops
    → ((k j : ℕ) → k < length hops → cheapest_at margins (hop_at hops k).zone ≡ Some j → price_of slots i ≤ℤ price_of slots j)
    → NoneCheaper slots xs marked (price_of slots i)
none_at_level slots bs xs fs margins zones old marked p hops start i zoned mar a d s none = λ k can m. elim (s.news (zone_of slots k) m) [
  | inl o ↦ omega (arith, ints, a.sources k can o, a.later (zone_of slots k) i o d.less d.unmarked)
  | inr at ↦
      let j = below_some slots (price_of slots k) (cheapest_at margins (zone_of slots k)) ((mar.cheapest (zone_of slots k) (zoned k can.0)).all k can.0 can refl) in
      omega (arith, ints, j.2, none at.0 j.0 at.1 (ap (cheapest_at margins) at.2 ∙ j.1))
]

-- where the marks of a level are taken back, the marks are those of before
pub taken_back : (bs : List Border) (fs : List ℤ) (old marked new : List Bool) (hops : List Hop) (start : ℕ)
    → IsSpread bs fs old start marked hops → length new ≡ length marked → AreUnmarked new hops
    → ((z : ℕ) → IsOfNone hops z → is_marked new z ≡ is_marked marked z) → old ≡ new
taken_back bs fs old marked new hops start s long here others =
    let same : (z : ℕ) → is_marked old z ≡ is_marked new z = λ z.
    elim (marked_or (is_marked old z)) [
      | inl m ↦ m ∙ sym (others z (λ k l e. not_both (is_marked old z) m (subst (λ (y : ℕ). is_marked old y ≡ false) e (s.zones k l).1)) ∙ s.keeps z m)
      | inr u ↦ elim (marked_or (is_marked new z)) [
        | inl n ↦ elim (marked_or (is_marked marked z)) [
          | inl m ↦ elim (s.news z m) [
            | inl o ↦ absurd (not_both (is_marked old z) o u)
            | inr at ↦ absurd (not_both (is_marked new z) n (subst (λ (y : ℕ). is_marked new y ≡ false) at.2 (here at.0 at.1)))
          ]
          | inr f ↦ absurd (not_both (is_marked new z) n (others z (λ k l e. not_both (is_marked marked z) (subst (λ (y : ℕ). is_marked marked y ≡ true) e (s.zones k l).0) f) ∙ f))
        ]
        | inr n ↦ u ∙ sym n
      ]
    ] in
    ext_get_or false old new (omega (arith, s.long, long)) (λ z l. same z)

-- one end of a border is where energy leaves, and the other where it comes in
either_end : (P : ℕ → Type 0) (way forth : Bool) (b : Border) → P (tail_of way b) → P (head_of way b) → P (head_of forth b)
either_end P way forth b t h = grind arith

-- energy moved along a chain
pub along_chain : (n : Network) (xs fs ys gs : List ℤ) (c : Chain) → IsImproving n xs fs c → IsMoved n.slots.now xs ys c.sink c.source
    → ((i : ℕ) → ((k : ℕ) → 0 < k → k < length c.hops.items → (hop_at c.hops.items k).border ≡ i → ⊥) → int_at gs i ≡ int_at fs i)
    → IsMovedAlong n.slots.now n.borders.now c.hops.items xs fs ys gs
along_chain n xs fs ys gs c i m others =
    let hops = c.hops.items in
    let some : 0 < length hops = omega (arith, i.there) in
    let sink : IsOfNone hops (zone_of n.slots.now c.sink) → ⊥ = λ none. none 0 some (sym i.to) in
    let source : IsOfNone hops (zone_of n.slots.now c.source) → ⊥ = λ none. none c.at i.there (sym i.from) in
    record {
      amounts = λ k none. m.others k
          (λ e. sink (subst (λ (j : ℕ). IsOfNone hops (zone_of n.slots.now j)) e none))
          (λ e. source (subst (λ (j : ℕ). IsOfNone hops (zone_of n.slots.now j)) e none));
      flows = λ b forth none. others b (λ k p l e.
          let hop = i.trace.each k p l in
          let back : (hop_at hops k).before < length hops = omega (arith, hop.earlier, l) in
          either_end (λ z. IsOfNone hops z → ⊥) (hop_at hops k).forth forth (border_at n.borders.now b)
          (λ far. far k l (hop.tail ∙ ap (λ (j : ℕ). tail_of (hop_at hops k).forth (border_at n.borders.now j)) e))
          (λ far. far (hop_at hops k).before back (hop.head ∙ ap (λ (j : ℕ). head_of (hop_at hops k).forth (border_at n.borders.now j)) e))
          none);
      less = λ k can. elim (cases_eq k c.sink) [
        | inl is ↦ inl (subst (λ (j : ℕ). CanLess n.slots.now xs j) (sym is) i.less)
        | inr far ↦ elim (cases_eq k c.source) [
          | inl is ↦ inr (c.sink, i.less, sink, omega (arith, ints, ap (price_of n.slots.now) is, i.dearer))
          | inr away ↦ inl (can.0, subst (λ (x : ℤ). (slot_at n.slots.now k).low <ℤ x) (m.others k far away) can.1)
        ]
      ];
    }

-- and then again along the same hops
pub along_again : (slots : List Slot) (bs : List Border) (hops : List Hop) (xs fs ys gs zs hs : List ℤ)
    → IsMovedAlong slots bs hops xs fs ys gs → IsMovedAlong slots bs hops ys gs zs hs → IsMovedAlong slots bs hops xs fs zs hs
along_again slots bs hops xs fs ys gs zs hs a b = record {
  amounts = λ k none. b.amounts k none ∙ a.amounts k none;
  flows = λ i forth none. b.flows i forth none ∙ a.flows i forth none;
  less = λ k can. elim (b.less k can) [
    | inl was ↦ a.less k was
    | inr j ↦ elim (a.less j.0 j.1) [
      | inl was ↦ inr (j.0, was, j.2, j.3)
      | inr i ↦ inr (i.0, i.1, i.2, omega (arith, ints, i.3, j.3))
    ]
  ];
}

-- levels without the zones of hops stay as energy moves along these
pub levels_along : (slots : List Slot) (bs : List Border) (xs fs ys gs : List ℤ) (marked : List Bool) (p : ℕ → ℤ) (hops : List Hop)
    → AreLevels slots bs xs fs marked p → AreUnmarked marked hops → length gs ≡ length fs → IsMovedAlong slots bs hops xs fs ys gs
    → AreLevels slots bs ys gs marked p
levels_along slots bs xs fs ys gs marked p hops a free long m =
    let none : (z : ℕ) → is_marked marked z ≡ true → IsOfNone hops z = λ z e k l h. not_both (is_marked marked z) e (subst (λ (y : ℕ). is_marked marked y ≡ false) h (free k l)) in
    let room : (i : ℕ) (forth : Bool) → is_marked marked (head_of forth (border_at bs i)) ≡ true → pos 0 <ℤ room_of forth (border_at bs i) (int_at gs i)
    → pos 0 <ℤ room_of forth (border_at bs i) (int_at fs i) =
    λ i forth e r. subst (λ (f : ℤ). pos 0 <ℤ room_of forth (border_at bs i) f) (m.flows i forth (none (head_of forth (border_at bs i)) e)) r in
    let same : length bs ≡ length gs = omega (arith, zip_long (ClosedOver marked) bs fs a.closed, long) in
    record {
      closed = zip_of (ClosedOver marked) bs gs no_border (pos 0) same (λ i l forth r e. AllZip-at (ClosedOver marked) bs fs i no_border (pos 0) l a.closed forth (room i forth e r) e);
      ordered = zip_of (OrderedOver (is_marked marked) p) bs gs no_border (pos 0) same
          (λ i l forth r e. AllZip-at (OrderedOver (is_marked marked) p) bs fs i no_border (pos 0) l a.ordered forth (room i forth e r) e);
      floored = a.floored;
      sinks = λ k can e. a.sinks k (can.0, subst (λ (x : ℤ). (slot_at slots k).low <ℤ x) (m.amounts k (none (zone_of slots k) e)) can.1) e;
      sources = λ k can e. a.sources k (can.0, subst (λ (x : ℤ). x <ℤ (slot_at slots k).high) (m.amounts k (none (zone_of slots k) e)) can.1) e;
      later = λ z k e can u. elim (m.less k can) [
        | inl was ↦ a.later z k e was u
        | inr j ↦
            let away : is_marked marked (zone_of slots j.0) ≡ false = elim (marked_or (is_marked marked (zone_of slots j.0))) [
              | inl h ↦ absurd (j.2 (none (zone_of slots j.0) h))
              | inr h ↦ h
            ] in
            omega (arith, ints, j.3, a.later z j.0 e j.1 away)
      ];
    }
