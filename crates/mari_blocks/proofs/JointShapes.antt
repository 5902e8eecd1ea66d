-- What is computed of a joint market has one entry for each zone, border and order; and what each quarter brings has its
-- own place there.
use Rattle.std.proofs.Common.{◌≡◌, ◌∙◌, ◌+◌, ◌-◌, ◌*◌, ◌<◌, ◌≤◌, ◌==◌, ℕ, Bool, false, List, ap, arith, filter, length, length-append, map, refl, sym, subst}
use Rattle.std.specs.Prelude.{not}
use Rattle.std.specs.List.{All, flat_map, range_with_len}
use Rattle.std.specs.Option.{option_map_or}
use Rattle.std.proofs.lemmas.List.{length-map}
use Rattle.std.proofs.lemmas.List.Elements.{All-filter, All-weaker}
use Rattle.std.proofs.lemmas.List.FromFn.{length-range_with_len}
use Rattle.std.proofs.lemmas.Slice.Zip.{AllZip-long}
use Rattle.mari_market.specs.Activation.{IsWithinLimits}
use Rattle.mari_market.specs.Optimal.{IsFeasible}
use Rattle.mari_market.specs.declared.activation.Activation.{Activation}
use Rattle.mari_market.proofs.Sizes.{as_many}
use Rattle.mari_remain.specs.Accepted.{IsAccepted}
use Rattle.mari_remain.specs.RunMarket.{demand_order, demands_of_run}
use Rattle.mari_remain.specs.declared.books.Books.{Books}
use Rattle.mari_remain.proofs.Validity.{few}
use Rattle.mari_progress.proofs.Lists.{along-length}
use Rattle.mari_blocks.specs.Blocks.{IsBlockBook, block_at, quarter_at}
use Rattle.mari_blocks.specs.Cutting.{HasShapes, IsPriced, piece}
use Rattle.mari_blocks.specs.Joint.{bids_brought, borders_brought, demands_brought, is_left_out, joint_gates, joint_order, offered, quarters_of, run_of_quarter, shifted_order, zones_before}
use Rattle.mari_blocks.specs.Printed.{bids_of, demand_count}
use Rattle.mari_blocks.specs.declared.blocks.BlockBook.{BlockBook}
use Rattle.mari_blocks.specs.declared.joint.Joint.{Joint}
use Rattle.mari_blocks.specs.declared.printing.Priced.{Priced}
use Rattle.mari_blocks.proofs.Cuts.{filter-flat, length-each, own-items, own-piece, own-within}
use Rattle.mari_blocks.proofs.JointBids.{numbers-in}
use Rattle.mari_blocks.proofs.JointPrices.{IsMade}
use Rattle.mari_blocks.proofs.Quarters.{IsOffered, own-offered}

-- the bids that a quarter brings and that stay
module _ (books : Books) (blocks : BlockBook) (first last : ℕ) where
  abbrev pub stays : ℕ → Bool
  stays bid = not (option_map_or (is_left_out blocks (offered books first last)) (block_at blocks bid) false)

  abbrev pub kept : ℕ → List ℕ
  kept quarter = filter stays (bids_brought books quarter)

module _ (books : Books) (blocks : BlockBook) (first last : ℕ) (joint : Joint) (made : IsMade books blocks first last joint) where
  abbrev own : ℕ → List ℕ
  own = kept books blocks first last

  -- how many quarters there are
  abbrev pub count : ℕ
  count = last + 1 - first

  pub zones-are : joint.market.zones ≡ count * length books.zones.zones
  zones-are = ap (λ (j : Joint). j.market.zones) made.same

  pub borders-are : length joint.market.borders ≡ count * length books.borders.borders
  borders-are =
      ap (λ (j : Joint). length j.market.borders) made.same
      ∙ length-each (borders_brought books first) (length books.borders.borders) first count (λ quarter. simp (length-map, length-range_with_len) refl)

  pub orders-are : length joint.market.orders ≡ length joint.bids + joint.demands
  orders-are =
      let own = joint_order books blocks first (joint_gates books blocks first last) in
      rw made.same (simp (length-append, length-map) refl)

  -- the sizes of what is computed
  pub shapes : (a : Activation) (priced : Priced) → IsPriced books first joint a priced → IsFeasible joint.market a → HasShapes books count joint a priced
  shapes a priced p f =
      let flow = AllZip-long IsWithinLimits joint.market.borders a.flow f.borders in
      record {
        published = p.prices.published.one_each ∙ zones-are;
        least = p.prices.intervals.least.one_each ∙ zones-are;
        greatest = p.prices.intervals.greatest.one_each ∙ zones-are;
        areas = p.prices.areas.one_each ∙ zones-are;
        flow = flow ∙ borders-are;
        rents = ap length p.rents ∙ along-length _ joint.market.borders a.flow flow ∙ borders-are;
        mw = as_many joint.market a f ∙ orders-are;
        small = p.small;
      }

  pub bids-are : joint.bids ≡ flat_map own (range_with_len first count)
  bids-are = ap (λ (j : Joint). j.bids) made.same ∙ filter-flat (stays books blocks first last) (bids_brought books) (quarters_of first last)

  pub demands-are : joint.demands ≡ length (flat_map (demands_brought books first) (range_with_len first count))
  demands-are = ap (λ (j : Joint). j.demands) made.same

  pub brought-count : (quarter : ℕ) → length (demands_brought books first quarter) ≡ demand_count books quarter
  brought-count quarter =
      let demands = demands_of_run books.demands.demands (run_of_quarter books.runs.runs quarter) in
      length-map (map demand_order demands) (shifted_order (zones_before books first quarter)) ∙ length-map demands demand_order

  module _ (ok : IsAccepted books) where
    -- the bids of the joint market of one quarter are those that it brings
    pub bids-of : (quarter : ℕ) → first ≤ quarter → quarter ≤ last → bids_of books joint.bids quarter ≡ own quarter
    bids-of quarter low high =
        ap (filter (λ bid. quarter_at books.bids bid == quarter)) bids-are
        ∙ own-items own (quarter_at books.bids) first count (λ j from to.
        All-filter (stays books blocks first last) (λ bid. quarter_at books.bids bid ≡ j) (bids_brought books j)
        (own-offered books ok first last made.runs j from (omega (arith, from, to)))) quarter low (omega (arith, low, high))

    -- they stand after those of the quarters before it
    pub bids-piece : (quarter : ℕ) → first ≤ quarter → quarter ≤ last
        → piece (length (flat_map own (range_with_len first (quarter - first)))) (length (bids_of books joint.bids quarter)) joint.bids ≡ bids_of books joint.bids quarter
    bids-piece quarter low high =
        let of = bids-of quarter low high in
        rw (of, bids-are) (own-piece own first count (quarter - first) quarter (omega (arith, low)) (omega (arith, low, high)))

    pub bids-within : (quarter : ℕ) → first ≤ quarter → quarter ≤ last
        → length (flat_map own (range_with_len first (quarter - first))) + length (bids_of books joint.bids quarter) ≤ length joint.bids
    bids-within quarter low high =
        let within = own-within own first count (quarter - first) quarter (omega (arith, low)) (omega (arith, low, high)) in
        omega (arith, within, ap length (bids-of quarter low high), ap length bids-are)

    pub demands-within : (quarter : ℕ) → first ≤ quarter → quarter ≤ last
        → length (flat_map (demands_brought books first) (range_with_len first (quarter - first))) + demand_count books quarter ≤ joint.demands
    demands-within quarter low high =
        let within = own-within (demands_brought books first) first count (quarter - first) quarter (omega (arith, low)) (omega (arith, low, high)) in
        omega (arith, within, brought-count quarter, demands-are)

    -- no quarter has more demands than a run may
    pub few-demands : (quarter : ℕ) → demand_count books quarter ≤ 512
    few-demands quarter = few books ok (run_of_quarter books.runs.runs quarter)

    -- the bids of the joint market are there
    pub bids-there : IsBlockBook books.bids books.links first last blocks → All (λ number. number < length books.bids.bids) joint.bids
    bids-there read =
        let P : Joint → Type 0 = λ j. All (λ number. number < length books.bids.bids) j.bids in
        subst P (sym made.same)
        (All-weaker (IsOffered books ok first last made.runs) (λ number. number < length books.bids.bids) (λ bid is. is.there) _ (numbers-in books ok blocks first last read made.runs))
