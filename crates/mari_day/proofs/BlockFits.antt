-- The numbers of a published run's block are in range.
use Rattle.std.proofs.Common.{◌≡◌, ℕ, ◌*◌, ◌-◌, ◌^◌, ◌<◌, ◌≤◌, pos, ◌-ℤ◌, List, [], ◌∷◌, Option, length, map, slice_index_or, arith}
use Rattle.std.proofs.lemmas.Int.{ints}
use Rattle.std.specs.List.{All}
use Rattle.std.proofs.lemmas.List.{length-map}
use Rattle.std.proofs.lemmas.List.Elements.{All-cons, All-nil, All-map, All-take, All-drop, All-weaker, All-tail, All-head}
use Rattle.mari_units.specs.Names.{IsName}
use Rattle.mari_units.specs.declared.numbers.Cents.{Cents}
use Rattle.mari_units.specs.declared.numbers.Quarters.{Quarters}
use Rattle.mari_zones.specs.Borders.{IsBorder}
use Rattle.mari_zones.specs.declared.borders.BorderEnds.{BorderEnds}
use Rattle.mari_market.specs.Activation.{gate_word_of}
use Rattle.mari_market.specs.Clearing.{IsClearing}
use Rattle.mari_market.proofs.Ties.{tree_holds_plain}
use Rattle.mari_market.specs.Optimal.{IsFeasible}
use Rattle.mari_market.specs.declared.clearing.Clearing.{Clearing}
use Rattle.mari_market.specs.Price.{IsCapped}
use Rattle.mari_units.specs.Numbers.{Within}
use Rattle.mari_lines.specs.Ranges.{Between, InRange, IsAmountLine, IsMoney, IsMoneyLine, Listed}
use Rattle.mari_publish.specs.Ranges.{EndingFits, FullFits, MarketFits}
use Rattle.mari_lines.specs.declared.line.Line.TheVariants as line
use Rattle.mari_lines.specs.declared.line.BidLine.{BidLine}
use Rattle.mari_lines.specs.declared.line.BorderLine.{BorderLine}
use Rattle.mari_publish.specs.declared.publication.FullBlock.{FullBlock}
use Rattle.mari_lines.specs.declared.line.ZoneLine.{ZoneLine}
use Rattle.mari_remain.specs.Accepted.{IsAccepted}
use Rattle.mari_remain.specs.declared.market.RunMarket.{RunMarket}
use Rattle.mari_remain.specs.declared.books.Books.{Books}
use Rattle.mari_settle.specs.Conditions.{IsSmall, IsSmallLine, MoneyIsWithin, LineIsWithin}
use Rattle.mari_settle.specs.Lines.{map_along, nothing}
use Rattle.mari_settle.specs.declared.ledger.OperatorLine.{OperatorLine}
use Rattle.mari_progress.specs.Runs.{IsMarketOf}
use Rattle.mari_day.specs.Assembled.{HasShapes, IsAssembled, IsPriced}
use Rattle.mari_day.specs.Dated.{IsDated}
use Rattle.mari_progress.specs.Money.{amount_line, money_line, providers_among}
use Rattle.mari_rows.specs.Names.{name_at}
use Rattle.mari_day.specs.declared.block.Priced.{Priced}
use Rattle.mari_day.proofs.AreaFits.{areas-fit, greatest-fit, least-fit}
use Rattle.mari_progress.proofs.Lists.{along-length, as-many, of-map}
use Rattle.mari_progress.proofs.Small.{money}
use Rattle.mari_progress.proofs.Listing.{few-providers, providers-there}
use Rattle.mari_day.proofs.TreeFits.{flows-fit, mws-fit, tree-fits}

-- within half of the most money, so that a net is within it
abbrev pub IsHalf : OperatorLine → Type 0
IsHalf l = LineIsWithin (2 * 10 ^ 18) l

half : (q : Quarters) → MoneyIsWithin (2 * 10 ^ 18) q → IsMoney q
half q small = omega (arith, small)

net : (l : OperatorLine) → IsHalf l → Within 4000000000000000000 (l.payment.0 -ℤ l.rent.0)
net l small = grind (arith, ints, small.payment, small.rent)

pub halves : (lines : List OperatorLine) → All IsSmallLine lines → All IsHalf lines
halves lines small = All-weaker IsSmallLine IsHalf (λ l s. record { payment = omega (arith, s.payment); rent = omega (arith, s.rent) }) lines small

pub have-nets : (lines : List OperatorLine) → All IsHalf lines → All (LineIsWithin (10 ^ 30)) lines
have-nets lines within = All-weaker IsHalf (LineIsWithin (10 ^ 30)) (λ l s. record { payment = omega (arith, s.payment); rent = omega (arith, s.rent) }) lines within

-- the lines of operators, from their names and small numbers
pub lines-fit : (names : List (List ℕ)) (lines : List OperatorLine) → All IsName names → All IsHalf lines → All IsMoneyLine (map_along money_line names lines)
lines-fit [] lines n s = All-nil IsMoneyLine
lines-fit (name ∷ names) [] n s = All-nil IsMoneyLine
lines-fit (name ∷ names) (l ∷ lines) n s =
    let own = All-head IsHalf l lines s in
    All-cons IsMoneyLine (money_line name l) _ (All-head IsName name names n, half l.payment own.payment, half l.rent own.rent, net l own)
    (lines-fit names lines (All-tail IsName name names n) (All-tail IsHalf l lines s))

module _ (books : Books) (ok : IsAccepted books) (dated : IsDated books) (budget run : ℕ) (made : RunMarket) (also : Option (List Cents)) (of : IsMarketOf books made) (clearing : Clearing)
    (priced : Priced) (b : FullBlock)
    (is : IsAssembled books run made.bids clearing priced b) (shapes : HasShapes books made.bids clearing priced) (p : IsPriced books made also clearing priced)
    (feasible : IsFeasible made.market clearing.activation) where
  zones-fit : Listed 1 64 (λ z. InRange (line.Zone z)) b.zones
  zones-fit =
      let names = of-map (λ (l : ZoneLine). l.name) IsName b.zones _ is.names.zones ok.zones.zones in
      let prices = of-map (λ (l : ZoneLine). l.price) IsCapped b.zones _ is.zones.prices p.prices.consistent.prices.capped in
      let least = of-map (λ (l : ZoneLine). l.least) IsCapped b.zones _ is.zones.least (least-fit _ _ _ p.prices.intervals.least) in
      let greatest = of-map (λ (l : ZoneLine). l.greatest) IsCapped b.zones _ is.zones.greatest (greatest-fit _ _ _ p.prices.intervals.greatest) in
      let areas = of-map (λ (l : ZoneLine). l.area) (Between 1 64) b.zones _ is.zones.areas (areas-fit _ _ _ p.prices.areas of.valid.zones.1) in
      let many = as-many (λ (l : ZoneLine). l.name) b.zones _ is.names.zones in
      ((omega (arith, many, ok.zones.some), omega (arith, many, ok.zones.few)), λ k d l. (names k d l, prices k d l, least k d l, greatest k d l, areas k d l))

  ends-named : (end : BorderEnds → ℕ) → ((x : BorderEnds) → IsBorder books.zones x → end x < length books.zones.zones) → All IsName (map (λ x. name_at books.zones.zones (end x)) books.borders.borders)
  ends-named end below = All-map IsName (λ x. name_at books.zones.zones (end x)) books.borders.borders (λ k d l. ok.zones.zones _ _ (below _ (ok.borders.borders k d l)))

  borders-fit : Listed 0 256 (λ x. InRange (line.Border x)) b.borders
  borders-fit =
      let from = of-map (λ (l : BorderLine). l.from) IsName b.borders _ is.names.from (ends-named (λ x. x.from) (λ x h. h.from)) in
      let to = of-map (λ (l : BorderLine). l.to) IsName b.borders _ is.names.to (ends-named (λ x. x.to) (λ x h. h.to)) in
      let flows = flows-fit made.market of.valid clearing.activation feasible in
      let flow = of-map (λ (l : BorderLine). l.flow) (λ f. Within 199998 f) b.borders _ is.flow flows.1 in
      let rents = of-map (λ (l : BorderLine). l.rent) IsMoney b.borders _ is.ledger.rents (All-weaker IsSmall IsMoney money priced.ledger.rents p.balanced.small.rents) in
      let many = as-many (λ (l : BorderLine). l.flow) b.borders _ is.flow in
      ((omega arith, omega (arith, many, flows.0.1)), λ k d l. (from k d l, to k d l, flow k d l, rents k d l))

  bids-fit : Listed 0 4096 (λ x. InRange (line.Bid x)) b.bids
  bids-fit =
      let named : All IsName (map (name_at books.bids.ids) made.bids) = All-map IsName (name_at books.bids.ids) made.bids (λ k d l. ok.bids.ids _ _ (omega (arith, of.there k d l, ok.bids.named))) in
      let ids = of-map (λ (l : BidLine). l.id) IsName b.bids _ is.names.bids named in
      let mws = mws-fit made.market of.valid clearing.activation feasible in
      let mw = of-map (λ (l : BidLine). l.mw) (λ q. q ≤ 99999) b.bids _ is.orders.mw (All-take (λ q. q ≤ 99999) (length made.bids) clearing.activation.mw mws.1) in
      let many = as-many (λ (l : BidLine). l.id) b.bids _ is.names.bids in
      ((omega arith, omega (arith, many, length-map made.bids (name_at books.bids.ids), of.few)), λ k d l. (ids k d l, mw k d l))

  demands-fit : length b.demands ≡ made.demands → Listed 0 512 (λ mw. mw ≤ 99999) b.demands
  demands-fit many =
      let mws = mws-fit made.market of.valid clearing.activation feasible in
      ((omega arith, omega (arith, many, of.few_demands)), rw is.orders.demands (All-drop (λ q. q ≤ 99999) (length made.bids) clearing.activation.mw mws.1))

  operators-fit : Listed 1 64 IsMoneyLine b.operators
  operators-fit =
      let many = along-length money_line books.zones.operators priced.ledger.operators shapes.operators in
      let some : 0 < length books.zones.operators = omega (arith, ok.zones.operators_there.there 0 0 (omega (arith, ok.zones.operators_there.one_each, ok.zones.some))) in
      rw is.ledger.operators (
        (omega (arith, many, some), omega (arith, many, ok.zones.few_operators)),
        lines-fit books.zones.operators priced.ledger.operators ok.zones.operators (halves priced.ledger.operators p.balanced.small.operators),
      )

  amount-fits : (place : ℕ) → place < length books.bids.providers → IsAmountLine (amount_line books.bids.providers priced.ledger.providers place)
  amount-fits place l = (ok.bids.providers place [] l, money (slice_index_or priced.ledger.providers place nothing) (p.balanced.small.providers place nothing (omega (arith, shapes.providers))))

  providers-fit : Listed 0 4096 IsAmountLine b.providers
  providers-fit =
      let places = providers_among books.bids.bids made.bids in
      let below : All (λ place. place < length books.bids.providers) places =
      providers-there books.bids.bids made.bids (length books.bids.providers) (λ k d l. (ok.bids.bids k d l).provider) of.there in
      let many = length-map places (amount_line books.bids.providers priced.ledger.providers) in
      rw is.ledger.providers (
        (omega arith, omega (arith, many, few-providers books.bids.bids made.bids, of.few)),
        All-map IsAmountLine (amount_line books.bids.providers priced.ledger.providers) places (λ k d l. amount-fits _ (below k d l)),
      )

  pub market-fits : length b.demands ≡ made.demands → MarketFits b
  market-fits many = record { borders = borders-fit; demands = demands-fit many }

  pub ending-fits : EndingFits b
  ending-fits = record { operators = operators-fit; providers = providers-fit }

  pub block-fits : 1 ≤ run → run ≤ length books.runs.runs → clearing.welfare < 2 ^ 63 → budget ≤ 50000 → IsClearing made.market budget clearing
      → length b.demands ≡ made.demands → FullFits b
  block-fits first last welfare small clears many =
      let own = ok.runs.runs (run - 1) _ (omega arith) in
      record {
        heading = rw is.heading ((first, omega (arith, last, ok.runs.few)), (own.first_quarter, omega (arith, own.last_quarter, dated.quarters.1)));
        welfare = rw is.welfare welfare;
        zones = zones-fit;
        borders = borders-fit;
        bids = bids-fit;
        demands = demands-fit many;
        tree = rw is.tree (tree-fits made.market of.valid (pos clearing.welfare) clearing.tree
            (tree_holds_plain made.market (pos clearing.welfare) (gate_word_of made.market clearing.activation) clearing.tree clears.tree) (omega (arith, clears.within_budget)));
        operators = operators-fit;
        providers = providers-fit;
      }
