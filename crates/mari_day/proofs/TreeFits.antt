-- The items of a certificate tree that holds are in range.
use Rattle.std.proofs.Common.{◌≡◌, ℕ, suc, ◌+◌, ◌-◌, ◌<◌, ◌≤◌, ℤ, pos, Bool, List, [], ◌∷◌, ◌++◌, length, refl, arith}
use Rattle.std.proofs.lemmas.Int.{ints}
use Rattle.std.specs.List.{All, AllZip}
use Rattle.std.proofs.lemmas.List.Elements.{All-cons, All-nil, All-weaker}
use Rattle.mari_market.proofs.Sizes.{as_many, at_most}
use Rattle.std.proofs.lemmas.Slice.Zip.{AllZip-long}
use Rattle.mari_units.specs.declared.numbers.Cents.{Cents}
use Rattle.mari_market.specs.declared.activation.Activation.{Activation}
use Rattle.mari_market.specs.declared.certificate.Cut.{Cut as CutRecord}
use Rattle.mari_market.specs.declared.certificate.CutSide.{CutSide}
use Rattle.mari_market.specs.declared.certificate.CutSide.TheVariants.{Out, In}
use Rattle.mari_market.specs.declared.certificate.Leaf.{Leaf as LeafRecord}
use Rattle.mari_market.specs.declared.certificate.Leaf.TheVariants.{Bound, Cut, Conflict}
use Rattle.mari_market.specs.declared.certificate.TreeItem.{TreeItem}
use Rattle.mari_market.specs.declared.certificate.TreeItem.TheVariants.{Branch, Leaf}
use Rattle.mari_market.specs.declared.market.Border.{Border}
use Rattle.mari_market.specs.declared.market.Market.{Market}
use Rattle.mari_market.specs.declared.market.Order.{Order}
use Rattle.mari_market.specs.Activation.{IsWithinLimits, is_open}
use Rattle.mari_market.specs.Bounds.{IsWithin, Span, own_bounds}
use Rattle.mari_market.specs.Conflict.{IsContradiction}
use Rattle.mari_market.specs.Cut.{IsCut, IsRising, CannotBalance, least_of, most_of, most_in, most_out}
use Rattle.mari_market.specs.Market.{IsValid, IsValidBorder, IsValidOrder}
use Rattle.mari_market.specs.Optimal.{IsFeasible}
use Rattle.mari_market.specs.Prefix.{bounds_of_word, children}
use Rattle.mari_market.specs.Price.{IsCapped, ArePrices}
use Rattle.mari_market.specs.Sums.{int_sum}
use Rattle.mari_market.specs.Tree.{AreParts, LeafHolds, TreeHolds}
use Rattle.mari_units.specs.Numbers.{Within}
use Rattle.mari_lines.specs.Ranges.{InRange, IsZone, Listed}
use Rattle.mari_publish.specs.Ranges.{ItemFits}
use Rattle.mari_lines.specs.declared.line.Line.TheVariants as line

-- side by side, and each of the first list has a property too
beside : {X Y : Type 0} (P : X → Type 0) (R : X → Y → Type 0) (Q : Y → Type 0) → ((x : X) (y : Y) → P x → R x y → Q y)
    → (xs : List X) (ys : List Y) → All P xs → AllZip R xs ys → All Q ys
beside P R Q h [] [] all zip = All-nil Q
beside P R Q h [] (y ∷ ys) all zip = absurd zip
beside P R Q h (x ∷ xs) [] all zip = absurd zip
beside P R Q h (x ∷ xs) (y ∷ ys) all zip = All-cons Q y ys (h x y (all 0 x (omega arith)) zip.0) (beside P R Q h xs ys (λ k d l. all (suc k) d (omega arith)) zip.1)

-- a flow within a border's limits is in range
flow-fits : (zones : ℕ) (b : Border) (f : ℤ) → IsValidBorder zones b → IsWithinLimits b f → Within 199998 f
flow-fits zones b f v w = grind (arith, ints, w.back, w.limit, v.limit, v.back)

zero-sum : {X : Type 0} (f : X → ℤ) → ((x : X) → f x ≡ pos 0) → (xs : List X) → int_sum f xs ≡ pos 0
zero-sum f zero [] = refl
zero-sum f zero (x ∷ xs) = omega (arith, ints, zero x, zero-sum f zero xs)

module _ (m : Market) (v : IsValid m) where
  -- the quantities and flows of a feasible activation are in range
  pub mws-fit : (a : Activation) → IsFeasible m a → Listed 0 4608 (λ mw. mw ≤ 99999) a.mw
  mws-fit a f =
      let same = as_many m a f in (
        (omega arith, omega (arith, same, v.few_orders)),
        beside (IsValidOrder m.zones (length m.gates)) (λ (o : Order) (q : ℕ). IsWithin (own_bounds m a o) q) (λ mw. mw ≤ 99999)
            (λ o q valid within. omega (arith, valid.small, at_most (is_open m a) o.gate o q within)) m.orders a.mw v.orders f.orders,
      )

  pub flows-fit : (a : Activation) → IsFeasible m a → Listed 0 256 (λ flow. Within 199998 flow) a.flow
  flows-fit a f =
      let same = AllZip-long IsWithinLimits m.borders a.flow f.borders in (
        (omega arith, omega (arith, same, v.few_borders)),
        beside (IsValidBorder m.zones) IsWithinLimits (λ flow. Within 199998 flow) (flow-fits m.zones) m.borders a.flow v.borders f.borders,
      )

  pub prices-fit : (ps : List Cents) → ArePrices m ps → Listed 1 64 IsCapped ps
  prices-fit ps p = ((omega (arith, p.one_each, v.zones.0), omega (arith, p.one_each, v.zones.1)), p.capped)

  -- a cut has a zone, since nothing can't exceed nothing
  cut-some : (bounds : Order → Span) (side : CutSide) (zones : List ℕ) → CannotBalance bounds m side zones → 1 ≤ length zones
  cut-some bounds side (z ∷ zones) cannot = omega arith
  cut-some bounds Out [] cannot = absurd (omega (arith, ints, cannot, zero-sum (most_out []) (λ b. refl) m.borders, zero-sum (least_of bounds []) (λ o. refl) m.orders))
  cut-some bounds In [] cannot = absurd (omega (arith, ints, cannot, zero-sum (most_in []) (λ b. refl) m.borders, zero-sum (most_of bounds []) (λ o. refl) m.orders))

  rising-length : (least : ℕ) (zones : List ℕ) → IsRising least m.zones zones → length zones ≤ m.zones - least
  rising-length least [] r = omega arith
  rising-length least (z ∷ zs) r = omega (arith, r.0, r.1, rising-length (z + 1) zs r.2)

  -- numbers below those of the market's zones are below 64
  rising-within : (least : ℕ) (zones : List ℕ) → IsRising least m.zones zones → IsRising least 64 zones
  rising-within least [] r = tt
  rising-within least (z ∷ zs) r = (r.0, omega (arith, r.1, v.zones.1), rising-within (z + 1) zs r.2)

  cut-fits : (word : List Bool) (cut : CutRecord) → IsCut (bounds_of_word m word) m cut → InRange (line.Cut cut)
  cut-fits word cut c =
      ((cut-some (bounds_of_word m word) cut.side cut.zones c.side, omega (arith, rising-length 0 cut.zones c.zones, v.zones.1)), rising-within 0 cut.zones c.zones)

  chain-some : (a : Activation) (zones : List ℕ) → IsContradiction m a zones → 1 ≤ length zones
  chain-some a [] c = absurd c
  chain-some a (z ∷ zs) c = omega arith

  leaf-fits : (cutoff : ℤ) (word : List Bool) (leaf : LeafRecord) → LeafHolds m cutoff word leaf → ItemFits (Leaf leaf)
  leaf-fits cutoff word (Bound ps) h = (prices-fit ps.cents h.prices, tt)
  leaf-fits cutoff word (Cut cut) h = (cut-fits word cut h, tt)
  leaf-fits cutoff word (Conflict k) h =
      let zones : All IsZone k.chain = All-weaker (λ z. z < m.zones) IsZone (λ z l. omega (arith, l, v.zones.1)) k.chain h.chain.zones in (
        ((chain-some k.activation k.chain h.chain.chain, omega (arith, h.chain.short, v.zones.1)), zones),
        (prices-fit k.potentials.cents h.prices, (flows-fit k.activation h.feasible, (mws-fit k.activation h.feasible, tt))),
      )

  parts-fit : (cutoff : ℤ) (words : List (List Bool)) (items : List TreeItem) → AreParts m (LeafHolds m cutoff) words items → All ItemFits items
  parts-fit cutoff [] [] h = All-nil ItemFits
  parts-fit cutoff [] (item ∷ items) h = absurd h
  parts-fit cutoff (word ∷ words) [] h = absurd h
  parts-fit cutoff (word ∷ words) (Branch ∷ items) h = All-cons ItemFits Branch items (tt, tt) (parts-fit cutoff (children m.gates word ++ words) items h.1)
  parts-fit cutoff (word ∷ words) (Leaf leaf ∷ items) h = All-cons ItemFits (Leaf leaf) items (leaf-fits cutoff word leaf h.0) (parts-fit cutoff words items h.1)

  some-item : (cutoff : ℤ) (items : List TreeItem) → TreeHolds m cutoff items → 1 ≤ length items
  some-item cutoff [] h = absurd h
  some-item cutoff (item ∷ items) h = omega arith

  -- a tree that holds, of few enough items, is in range
  pub tree-fits : (cutoff : ℤ) (items : List TreeItem) → TreeHolds m cutoff items → length items ≤ 50000 → Listed 1 50000 ItemFits items
  tree-fits cutoff items h few = ((some-item cutoff items h, few), parts-fit cutoff ([] ∷ []) items h)
