-- The numbers of a printed day are in range.
use Rattle.std.proofs.Common.{◌≡◌, ◌∙◌, ◌≤◌, ◌<◌, ◌^◌, ℕ, List, [], ◌∷◌, ◌++◌, Option, Some, get_or, length, map, take, refl, sym, ap, subst, arith, slice_index_or}
use Rattle.std.specs.Prelude.{slice_get}
use Rattle.std.specs.List.{All, take-map}
use Rattle.std.proofs.lemmas.Int.{ints}
use Rattle.std.proofs.lemmas.List.{get_or_append_left, length-append, length-map, length-take-le}
use Rattle.std.proofs.lemmas.List.Elements.{All-map}
use Rattle.std.proofs.lemmas.Option.{slice_get-get_or, slice_get_within}
use Rattle.mari_units.specs.Names.{IsName}
use Rattle.mari_rows.specs.Names.{name_at}
use Rattle.mari_units.specs.declared.numbers.Cents.{Cents}
use Rattle.mari_lines.specs.Ranges.{Between, InRange, IsHeading, Listed}
use Rattle.mari_lines.specs.declared.line.BidLine.{BidLine}
use Rattle.mari_lines.specs.declared.line.Heading.{Heading}
use Rattle.mari_lines.specs.declared.line.Line.TheVariants as line
use Rattle.mari_lines.specs.declared.line.ZoneLine.{ZoneLine}
use Rattle.mari_market.specs.Clearing.{IsBudget}
use Rattle.mari_market.specs.Optimal.{IsAdmissible}
use Rattle.mari_market.specs.Price.{IsCapped}
use Rattle.mari_market.proofs.Sizes.{welfare_at_most}
use Rattle.mari_publish.specs.Ranges.{SumsFit}
use Rattle.mari_publish.specs.declared.publication.Block.{Block}
use Rattle.mari_remain.specs.Accepted.{IsAccepted}
use Rattle.mari_remain.specs.FirstBlocks.{AreFirstBlocks}
use Rattle.mari_remain.specs.RunMarket.{taken_before}
use Rattle.mari_remain.specs.declared.books.Books.{Books}
use Rattle.mari_remain.specs.declared.market.RunMarket.{RunMarket}
use Rattle.mari_progress.specs.After.{also_after, before_of, market_after, run_after}
use Rattle.mari_progress.specs.Reported.{activation_of, areas_of, greatest_reported, least_reported, prices_of}
use Rattle.mari_progress.specs.Runs.{IsMarketOf}
use Rattle.mari_progress.specs.Totals.{operator_totals, provider_totals}
use Rattle.mari_progress.proofs.Keeping as keeping
use Rattle.mari_progress.proofs.Lists.{as-many, of-map}
use Rattle.mari_progress.proofs.Made.{market-of}
use Rattle.mari_day.specs.Dated.{IsDated}
use Rattle.mari_day.proofs.AreaFits.{areas-fit, greatest-fit, least-fit}
use Rattle.mari_day.proofs.Days.{heading-fits}
use Rattle.mari_day.proofs.TreeFits.{mws-fit}
use Rattle.mari_reach_check.specs.Faults.{cutoff_of, word_claimed}
use Rattle.mari_reach_text.specs.Texts.{NamedFits, ReachHasText, named_line}
use Rattle.mari_reach_text.specs.declared.named.NamedItem.{NamedItem}
use Rattle.mari_reach_lines.specs.Ranges.{ReachInRange}
use Rattle.mari_reach_day.specs.declared.block.ReachBlock.{ReachBlock}
use Rattle.mari_reach_day.specs.Ranges.{ReachFits}
use Rattle.mari_reach_day.specs.Reach.{IsReachDay, IsReachOf, block_of, blocks_of, found_in}
use Rattle.mari_reach_day.proofs.Blocks.{admissible, items}
use Rattle.mari_reach_day.proofs.Keeping.{each, few}
use Rattle.mari_reach_accept.specs.Named.{all_named, named_item, named_of, publication_of}
use Rattle.mari_reach_accept.proofs.Free.{gated_count, gated_there, holding, welfare_is}
use Rattle.mari_reach_accept.proofs.TreeFits.{items_fit}

-- what holds of each item of two lists together holds of the first's
front_all : {X : Type 0} (P : X → Type 0) (xs ys : List X) → All P (xs ++ ys) → All P xs
front_all P xs ys all k d l = subst P (get_or_append_left xs ys d k l) (all k d (omega (arith, l, length-append xs ys)))

-- a block of a run's market
module _ (books : Books) (ok : IsAccepted books) (dated : IsDated books) (budget run : ℕ) (made : RunMarket) (also : Option (List Cents)) (r : ReachBlock) (is : IsReachOf books budget run made also r)
    (of : IsMarketOf books made) (first : 1 ≤ run) (last : run ≤ length books.runs.runs) (fits : ReachFits r) where
  fair : IsAdmissible made.market (activation_of r.block)
  fair = admissible made.market budget r.claim (found_in r) is.answer

  zones_fit : Listed 1 64 (λ z. InRange (line.Zone z)) r.block.zones
  zones_fit =
      let b = r.block in
      let m = made.market in
      let a = activation_of b in
      let names = of-map (λ (l : ZoneLine). l.name) IsName b.zones books.zones.zones is.names.lines.zones ok.zones.zones in
      let prices = of-map (λ (l : ZoneLine). l.price) IsCapped b.zones (prices_of b) refl is.prices.consistent.prices.capped in
      let least = of-map (λ (l : ZoneLine). l.least) IsCapped b.zones (least_reported b) refl (least-fit m a (least_reported b) is.prices.intervals.least) in
      let greatest = of-map (λ (l : ZoneLine). l.greatest) IsCapped b.zones (greatest_reported b) refl (greatest-fit m a (greatest_reported b) is.prices.intervals.greatest) in
      let areas = of-map (λ (l : ZoneLine). l.area) (Between 1 64) b.zones (areas_of b) refl (areas-fit m a (areas_of b) is.prices.areas of.valid.zones.1) in
      let many = as-many (λ (l : ZoneLine). l.name) b.zones books.zones.zones is.names.lines.zones in
      ((omega (arith, many, ok.zones.some), omega (arith, many, ok.zones.few)), λ k d l. (names k d l, prices k d l, least k d l, greatest k d l, areas k d l))

  bids_fit : Listed 0 4096 (λ x. InRange (line.Bid x)) r.block.bids
  bids_fit =
      let b = r.block in
      let named : All IsName (map (name_at books.bids.ids) made.bids) = All-map IsName (name_at books.bids.ids) made.bids (λ k d l. ok.bids.ids _ _ (omega (arith, of.there k d l, ok.bids.named))) in
      let ids = of-map (λ (l : BidLine). l.id) IsName b.bids _ is.names.lines.bids named in
      let mws = mws-fit made.market of.valid (activation_of b) fair.feasible in
      let own = front_all (λ q. q ≤ 99999) (map (λ (l : BidLine). l.mw) b.bids) b.demands mws.1 in
      let mw = of-map (λ (l : BidLine). l.mw) (λ q. q ≤ 99999) b.bids _ refl own in
      let many = as-many (λ (l : BidLine). l.id) b.bids _ is.names.lines.bids in
      ((omega arith, omega (arith, many, length-map made.bids (name_at books.bids.ids), of.few)), λ k d l. (ids k d l, mw k d l))

  welfare_fits : r.block.welfare < 2 ^ 63
  welfare_fits = omega (arith, ints, welfare_is made.market budget r.claim (found_in r) is.answer, welfare_at_most made.market (activation_of r.block) of.valid fair.feasible)

  -- in which the gates of its tree are those of its gated bids
  module _ (gates : length made.market.gates ≡ length r.gated) (there : All (λ i. i < length books.bids.ids) r.gated) where
    tree_fits : Listed 1 50000 (λ i. ReachInRange (named_line i)) (map (named_item books r.gated) r.tree)
    tree_fits =
        let many = length-map r.tree (named_item books r.gated) in
        let own = items made.market budget r.claim (found_in r) is.answer in
        let each_fits = items_fit made.market of.valid books r.gated gates of.zones (λ gate l. ok.bids.ids (slice_index_or r.gated gate 0) [] (there gate 0 l)) ok.zones.zones
        (cutoff_of r.block.welfare r.claim) (word_claimed made.market (activation_of r.block) r.claim) ([] ∷ []) r.tree (holding made.market budget r.claim (found_in r) is.answer) in
        ((omega (arith, many, own.some), omega (arith, many, fits.tree)), All-map (λ (i : NamedItem). ReachInRange (named_line i)) (named_item books r.gated) r.tree each_fits)

    pub named_fits : NamedFits (named_of books r)
    named_fits = record {
      heading = subst (λ (h : Heading). IsHeading h) (sym is.heading) (heading-fits books ok dated run first last);
      claim = fits.claim;
      welfare = welfare_fits;
      zones = zones_fit;
      borders = fits.market.borders;
      bids = bids_fit;
      demands = fits.market.demands;
      no_tree = is.bare;
      tree = tree_fits;
      operators = fits.ending.operators;
      providers = fits.ending.providers;
    }

module _ (books : Books) (ok : IsAccepted books) (dated : IsDated books) (budget : ℕ) (blocks : List ReachBlock) (day : IsReachDay books budget blocks) (fits : All ReachFits blocks) where
  -- the market of each block's run is one of the books
  market_is : (k : ℕ) → k < length blocks → IsMarketOf books (market_after books (blocks_of (take k blocks)))
  market_is k l =
      let part = day.part in
      let long = length-map blocks block_of in
      let before : AreFirstBlocks books (before_of books (take k (blocks_of blocks))) =
      keeping.up books ok (blocks_of blocks) (few books ok budget blocks part) (each books ok budget blocks part) k (omega (arith, l, long)) in
      let own : AreFirstBlocks books (before_of books (blocks_of (take k blocks))) = subst (λ (bs : List Block). AreFirstBlocks books (before_of books bs)) (take-map block_of k blocks) before in
      let many : length (blocks_of (take k blocks)) ≡ k = length-map (take k blocks) block_of ∙ length-take-le k blocks (omega (arith, l)) in
      market-of books ok (before_of books (blocks_of (take k blocks))) own (run_after (blocks_of (take k blocks))) (omega arith) (omega (arith, many, l, part.few))

  block_fits : (k : ℕ) (r : ReachBlock) → slice_get blocks k ≡ Some r → ReachFits r → NamedFits (named_of books r)
  block_fits k r e own =
      let l : k < length blocks = slice_get_within blocks k r e in
      let before = take k blocks in
      let is = day.part.each k r e in
      let made = market_after books (blocks_of before) in
      let many : length (blocks_of before) ≡ k = length-map before block_of ∙ length-take-le k blocks (omega (arith, l)) in
      let run = run_after (blocks_of before) in
      let past = before_of books (blocks_of before) in
      let gates : length made.market.gates ≡ length r.gated = gated_count books ok (taken_before books past run) run ∙ ap length (sym is.gated) in
      let Own : List ℕ → Type 0 = λ gated. All (λ i. i < length books.bids.ids) gated in
      let there : Own r.gated = subst Own (sym is.gated) (gated_there books ok (taken_before books past run) run) in
      named_fits books ok dated budget run made (also_after books (blocks_of before)) r is (market_is k l) (omega arith) (omega (arith, many, l, day.part.few)) own gates there

  blocks_fit : All NamedFits (all_named books blocks)
  blocks_fit = All-map NamedFits (named_of books) blocks (λ k d l. block_fits k (get_or blocks k d) (slice_get-get_or blocks k d l) (fits k d l))

  -- so the whole has a text
  pub has_text : IsBudget budget → SumsFit (operator_totals books (blocks_of blocks)) (provider_totals books (blocks_of blocks)) → ReachHasText (publication_of books budget blocks)
  has_text nodes sums = record {
    head = (dated.date, dated.quarters, nodes);
    blocks = blocks_fit;
    runs = omega (arith, length-map blocks (named_of books), day.every, ok.runs.few);
    totals = sums;
  }
