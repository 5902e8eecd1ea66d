-- The market of a run after blocks of the first runs.
use Rattle.std.proofs.Common.{◌≡◌, ◌∙◌, ℕ, ◌<◌, ◌≤◌, List, [], ◌∷◌, ◌++◌, length, length-append, map, take, get_or, refl, sym, ap, arith, slice_get, unsigned_abs}
use Rattle.std.specs.List.{All, AllZip}
use Rattle.std.specs.Prelude.{IsSomeAnd}
use Rattle.std.proofs.lemmas.List.{length-map}
use Rattle.std.proofs.lemmas.List.FromFn.{length-map-range_with_len}
use Rattle.std.proofs.lemmas.List.Elements.{All-head, All-map, All-tail}
use Rattle.std.proofs.lemmas.Option.{slice_get-get_or}
use Rattle.mari_bids.specs.Bids.{bid_numbered, no_bid}
use Rattle.mari_market.specs.declared.market.Order.{Order}
use Rattle.mari_remain.specs.Accepted.{IsAccepted}
use Rattle.mari_remain.specs.Blocks.{PastBlock}
use Rattle.mari_remain.specs.FirstBlocks.{AreFirstBlocks}
use Rattle.mari_remain.specs.Lists.{run_numbered}
use Rattle.mari_remain.specs.RunMarket.{bid_order, demand_order, demands_of_run, gate_of, gated_left, market_at, numbers_of, run_market_of, taken_before}
use Rattle.mari_remain.specs.declared.books.Books.{Books}
use Rattle.mari_remain.proofs.History.{bounded}
use Rattle.mari_remain.proofs.Validity.{few, few_numbers, there, valid, most_left}
use Rattle.mari_settle.specs.Conditions.{IsOrderOf, NameOrders}
use Rattle.mari_progress.specs.Runs.{IsMarketOf}

-- numbers beside what they are mapped to
zip-map : {Y : Type 0} (R : ℕ → Y → Type 0) (f : ℕ → Y) (ns : List ℕ) → All (λ n. R n (f n)) ns → AllZip R ns (map f ns)
zip-map R f [] all = tt
zip-map R f (n ∷ ns) all = (All-head (λ k. R k (f k)) n ns all, zip-map R f ns (All-tail (λ k. R k (f k)) n ns all))

take-front : {X : Type 0} (xs ys : List X) → take (length xs) (xs ++ ys) ≡ xs
take-front [] ys = refl
take-front (x ∷ xs) ys = ap (λ zs. x ∷ zs) (take-front xs ys)

module _ (books : Books) (ok : IsAccepted books) (past : List PastBlock) (first : AreFirstBlocks books past) (run : ℕ) where
  small-flows : (k : ℕ) → unsigned_abs ((taken_before books past run).flow k) ≤ 99999
  small-flows k = bounded books ok past first (run_numbered books run).quarter k

  numbers-there : All (λ i. i < length books.bids.bids) (numbers_of books past run)
  numbers-there = there books (taken_before books past run) run ok small-flows

  abbrev order-of : ℕ → Order
  order-of i = bid_order (bid_numbered books.bids.bids i) (gate_of (gated_left books (taken_before books past run) run) i) ((taken_before books past run).mw i)

  front : take (length (numbers_of books past run)) (market_at books past run).orders ≡ map order-of (numbers_of books past run)
  front =
      let rest : List Order = map demand_order (demands_of_run books.demands.demands run) in
      ap (λ n. take n (map order-of (numbers_of books past run) ++ rest)) (sym (length-map (numbers_of books past run) order-of)) ∙ take-front (map order-of (numbers_of books past run)) rest

  name-orders : NameOrders books.bids.bids (numbers_of books past run) (market_at books past run).orders
  name-orders =
      let R : ℕ → Order → Type 0 = λ number o. IsSomeAnd (slice_get books.bids.bids number) (IsOrderOf o) in
      let each : All (λ i. R i (order-of i)) (numbers_of books past run) =
      λ k d l. rw (slice_get-get_or books.bids.bids (get_or (numbers_of books past run) k d) no_bid (numbers-there k d l)) (record { zone = refl; side = refl }) in
      rw front (zip-map R order-of (numbers_of books past run) each)

  small-orders : All (λ (o : Order). o.greatest ≤ 9999) (take (length (numbers_of books past run)) (market_at books past run).orders)
  small-orders =
      rw front (All-map (λ (o : Order). o.greatest ≤ 9999) order-of (numbers_of books past run)
      (λ k d l. let i = get_or (numbers_of books past run) k d in
      let own = (ok.bids.bids i no_bid (numbers-there k d l)).most in
      omega (arith, own, most_left (gate_of (gated_left books (taken_before books past run) run) i) (bid_numbered books.bids.bids i).greatest ((taken_before books past run).mw i))))

  pub market-of : 1 ≤ run → run ≤ length books.runs.runs → IsMarketOf books (run_market_of books past run)
  market-of one last = record {
    valid = valid books (taken_before books past run) run ok small-flows one last;
    zones = refl;
    borders = length-map-range_with_len _ 0 (length books.borders.borders);
    orders = length-append (map order-of (numbers_of books past run)) (map demand_order (demands_of_run books.demands.demands run)) ∙ simp length-map refl;
    there = numbers-there;
    few = few_numbers books (taken_before books past run) run ok small-flows;
    few_demands = few books ok run;
    named = name-orders;
    small = small-orders;
  }
