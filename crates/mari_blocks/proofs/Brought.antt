-- What one more quarter brings.
use Rattle.std.proofs.Common.{◌≡◌, ◌∙◌, ◌+◌, ◌-◌, ◌≤◌, ◌++◌, [], ℕ, List, drop, length, map, sym, ap, arith}
use Rattle.std.specs.List.{flat_map, range_with_len}
use Rattle.std.proofs.lemmas.List.{length-map}
use Rattle.std.proofs.Math.Seq.{drop-append_seam}
use Rattle.mari_bids.specs.Bids.{bid_numbered}
use Rattle.mari_market.specs.declared.market.Order.{Order}
use Rattle.mari_remain.specs.RunMarket.{bid_order, demand_order, demands_of_run, gate_of, gated_left, market_at, numbers_of, run_market_of, taken_before}
use Rattle.mari_remain.specs.declared.books.Books.{Books}
use Rattle.mari_remain.specs.declared.market.RunMarket.{RunMarket}
use Rattle.mari_blocks.specs.Joint.{shifted_border, borders_brought, demands_brought, bids_brought, shifted_order, run_of_quarter, zones_before}
use Rattle.mari_blocks.specs.Parts.{HoldsJointParts}
use Rattle.mari_blocks.specs.declared.parts.JointParts.{JointParts}
use Rattle.mari_blocks.proofs.Ranges.{flat-more}

-- the orders of a run after those of its bids are those of its demands
pub demands-last : (books : Books) (run : ℕ) → drop (length (numbers_of books [] run)) (market_at books [] run).orders ≡ map demand_order (demands_of_run books.demands.demands run)
demands-last books run =
    let numbers : List ℕ = numbers_of books [] run in
    let taken = taken_before books [] run in
    let order_of : ℕ → Order = λ i. bid_order (bid_numbered books.bids.bids i) (gate_of (gated_left books taken run) i) (taken.mw i) in
    let demands : List Order = map demand_order (demands_of_run books.demands.demands run) in
    ap (λ n. drop n (map order_of numbers ++ demands)) (sym (length-map numbers order_of)) ∙ drop-append_seam (map order_of numbers) demands

module _ (books : Books) (first quarter : ℕ) (parts after : JointParts) (made : RunMarket) (zones : ℕ) where
  pub brought : first ≤ quarter → made ≡ run_market_of books [] (run_of_quarter books.runs.runs quarter) → zones ≡ zones_before books first quarter
      → after.offered.items ≡ parts.offered.items ++ made.bids
      → after.borders.items ≡ parts.borders.items ++ map (shifted_border zones) made.market.borders
      → after.demands.items ≡ parts.demands.items ++ map (shifted_order zones) (drop (length made.bids) made.market.orders)
      → HoldsJointParts books first (range_with_len first (quarter - first)) parts → HoldsJointParts books first (range_with_len first (quarter + 1 - first)) after
  brought low is following offered borders demands holds =
      let run = run_of_quarter books.runs.runs quarter in
      let longer : quarter + 1 - first ≡ (quarter - first) + 1 = omega (arith, low) in
      let here : first + (quarter - first) ≡ quarter = omega (arith, low) in
      record {
        offered = offered
            ∙ rw (holds.offered, is) (sym (flat-more (bids_brought books) first (quarter - first) quarter here)) ∙ ap (λ n. flat_map (bids_brought books) (range_with_len first n)) (sym longer);
        borders = borders ∙ rw (holds.borders, is, following) (sym (flat-more (borders_brought books first) first (quarter - first) quarter here))
            ∙ ap (λ n. flat_map (borders_brought books first) (range_with_len first n)) (sym longer);
        demands = demands ∙ rw (holds.demands, is, following, demands-last books run) (sym (flat-more (demands_brought books first) first (quarter - first) quarter here))
            ∙ ap (λ n. flat_map (demands_brought books first) (range_with_len first n)) (sym longer);
      }
