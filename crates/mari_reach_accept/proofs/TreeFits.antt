-- The items of a printed tree are in range.
use Rattle.std.proofs.Common.{◌≡◌, ◌≤◌, ◌<◌, ◌+◌, ◌-◌, ℕ, ℤ, pos, neg_ℤ, ◌≤ℤ◌, Bool, List, [], ◌∷◌, ◌++◌, length, refl, arith, slice_index_or}
use Rattle.std.specs.List.{All}
use Rattle.std.proofs.lemmas.Int.{ints}
use Rattle.std.proofs.lemmas.List.Elements.{All-cons, All-nil}
use Rattle.mari_units.specs.Names.{IsName}
use Rattle.mari_units.specs.declared.numbers.TheConstants.{CAP}
use Rattle.mari_lines.specs.Ranges.{InRange}
use Rattle.mari_lines.specs.declared.line.Line.TheVariants as line
use Rattle.mari_market.specs.Bounds.{Span}
use Rattle.mari_market.specs.Cut.{CannotBalanceWithin, IsCutWithin, IsRising, least_of, most_in_within, most_of, most_out_within}
use Rattle.mari_market.specs.Flows.{FlowSpan}
use Rattle.mari_market.specs.Market.{IsValid}
use Rattle.mari_market.specs.Price.{IsPrice}
use Rattle.mari_market.specs.Sums.{int_sum}
use Rattle.mari_market.specs.declared.certificate.Cut.{Cut as CutRecord}
use Rattle.mari_market.specs.declared.certificate.CutSide.{CutSide}
use Rattle.mari_market.specs.declared.certificate.CutSide.TheVariants.{Out, In}
use Rattle.mari_market.specs.declared.market.Border.{Border}
use Rattle.mari_market.specs.declared.market.Market.{Market}
use Rattle.mari_market.specs.declared.market.Order.{Order}
use Rattle.mari_day.proofs.TreeFits.{prices-fit}
use Rattle.mari_remain.specs.declared.books.Books.{Books}
use Rattle.mari_reach.specs.Leaf.{ReachLeafHolds}
use Rattle.mari_reach.specs.State.{IsBetweenPrices, IsLeft, bounds_in, ceiling_at, ceiling_said, children_at, floor_at, floor_said, flows_in, high_of, high_said, low_of, low_said, opens}
use Rattle.mari_reach.specs.Tree.{ArePartsOf}
use Rattle.mari_reach.specs.declared.decisions.Choice.{Choice}
use Rattle.mari_reach.specs.declared.decisions.Choice.TheVariants.{OfGate, OfPrice}
use Rattle.mari_reach.specs.declared.decisions.Decision.{Decision}
use Rattle.mari_reach.specs.declared.decisions.ReachItem.{ReachItem}
use Rattle.mari_reach.specs.declared.decisions.ReachItem.TheVariants.{Branch, Leaf}
use Rattle.mari_reach.specs.declared.decisions.ReachLeaf.{ReachLeaf}
use Rattle.mari_reach.specs.declared.decisions.ReachLeaf.TheVariants as leaf
use Rattle.mari_reach.proofs.Ranges.{max_from, min_to}
use Rattle.mari_reach_lines.specs.Ranges.{ReachInRange}
use Rattle.mari_reach_text.specs.Texts.{named_line}
use Rattle.mari_reach_accept.specs.Named.{named_item}

zero_sum : {X : Type 0} (f : X → ℤ) → ((x : X) → f x ≡ pos 0) → (xs : List X) → int_sum f xs ≡ pos 0
zero_sum f zero [] = refl
zero_sum f zero (x ∷ xs) = omega (arith, ints, zero x, zero_sum f zero xs)

-- a price within the box of a state is within the cap
price_between : (m : Market) (ds : List Decision) (z : ℕ) (p : ℤ) → IsBetweenPrices m ds z p → IsPrice p
price_between m ds z p h =
    let low : neg_ℤ CAP ≤ℤ low_of m ds z = max_from (floor_at (opens m ds) z) (low_said ds z) (neg_ℤ CAP) m.orders (max_from (floor_said z) (neg_ℤ CAP) (neg_ℤ CAP) ds (omega (arith, ints))) in
    let high : high_of m ds z ≤ℤ CAP = min_to (ceiling_at (opens m ds) z) (high_said ds z) CAP m.orders (min_to (ceiling_said z) CAP CAP ds (omega (arith, ints))) in
    record { low = omega (arith, ints, low, h.low); high = omega (arith, ints, high, h.high) }

module _ (m : Market) (v : IsValid m) where
  -- a cut has a zone, since nothing can't exceed nothing
  cut_some : (bounds : Order → Span) (flows : Border → FlowSpan) (side : CutSide) (zones : List ℕ) → CannotBalanceWithin bounds flows m side zones → 1 ≤ length zones
  cut_some bounds flows side (z ∷ zones) cannot = omega arith
  cut_some bounds flows Out [] cannot = absurd (omega (arith, ints, cannot, zero_sum (most_out_within flows []) (λ b. refl) m.borders, zero_sum (least_of bounds []) (λ o. refl) m.orders))
  cut_some bounds flows In [] cannot = absurd (omega (arith, ints, cannot, zero_sum (most_in_within flows []) (λ b. refl) m.borders, zero_sum (most_of bounds []) (λ o. refl) m.orders))

  rising_length : (least : ℕ) (zones : List ℕ) → IsRising least m.zones zones → length zones ≤ m.zones - least
  rising_length least [] r = omega arith
  rising_length least (z ∷ zs) r = omega (arith, r.0, r.1, rising_length (z + 1) zs r.2)

  -- numbers below those of the market's zones are below 64
  rising_within : (least : ℕ) (zones : List ℕ) → IsRising least m.zones zones → IsRising least 64 zones
  rising_within least [] r = tt
  rising_within least (z ∷ zs) r = (r.0, omega (arith, r.1, v.zones.1), rising_within (z + 1) zs r.2)

  cut_fits : (bounds : Order → Span) (flows : Border → FlowSpan) (cut : CutRecord) → IsCutWithin bounds flows m cut → InRange (line.Cut cut)
  cut_fits bounds flows cut c =
      ((cut_some bounds flows cut.side cut.zones c.side, omega (arith, rising_length 0 cut.zones c.zones, v.zones.1)), rising_within 0 cut.zones c.zones)

  module _ (books : Books) (gated : List ℕ) (gates : length m.gates ≡ length gated) (zones : m.zones ≡ length books.zones.zones)
      (ids : (gate : ℕ) → gate < length gated → IsName (slice_index_or books.bids.ids (slice_index_or gated gate 0) [])) (named : All IsName books.zones.zones)
      (cutoff : ℤ) (word : List Bool) where
    abbrev ItemFits : ReachItem → Type 0
    ItemFits item = ReachInRange (named_line (named_item books gated item))

    choice_fits : (ds : List Decision) (choice : Choice) → IsLeft m ds choice → ItemFits (Branch choice)
    choice_fits ds (OfGate gate) h = ids gate (omega (arith, h.there, gates))
    choice_fits ds (OfPrice zone price) h = (named zone [] (omega (arith, h.there, zones)), price_between m ds zone price.0 h)

    leaf_fits : (ds : List Decision) (leaf : ReachLeaf) → ReachLeafHolds m cutoff word ds leaf → ItemFits (Leaf leaf)
    leaf_fits ds leaf.Void h = tt
    leaf_fits ds (leaf.Bound potentials) h = (prices-fit m v potentials.cents h.1.prices, refl)
    leaf_fits ds (leaf.Cut cut) h = (cut_fits (bounds_in m ds) (flows_in m ds) cut h.1, refl)

    -- each item of a tree that holds
    pub items_fit : (states : List (List Decision)) (items : List ReachItem) → ArePartsOf m (ReachLeafHolds m cutoff word) states items → All ItemFits items
    items_fit [] [] h = All-nil ItemFits
    items_fit [] (item ∷ items) h = absurd h
    items_fit (ds ∷ states) [] h = absurd h
    items_fit (ds ∷ states) (Leaf leaf ∷ items) h = All-cons ItemFits (Leaf leaf) items (leaf_fits ds leaf h.0) (items_fit states items h.1)
    items_fit (ds ∷ states) (Branch choice ∷ items) h = All-cons ItemFits (Branch choice) items (choice_fits ds choice h.0.left) (items_fit (children_at ds choice ++ states) items h.1)
