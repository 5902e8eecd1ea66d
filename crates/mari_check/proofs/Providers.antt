-- The ledger that a block states.
use Rattle.std.proofs.Common.{◌≡◌, ◌∙◌, ℕ, Bool, true, List, [], length, map, Option, refl, sym, ap}
use Rattle.std.specs.Prelude.{◌↔◌}
use Rattle.std.specs.List.{AllZip}
use Rattle.std.proofs.lemmas.List.FromFn.{length-map-range_with_len}
use Rattle.std.proofs.lemmas.Slice.Zip.{AllZip-long}
use Rattle.mari_units.specs.declared.numbers.Cents.{Cents}
use Rattle.mari_units.specs.declared.numbers.Quarters.{Quarters}
use Rattle.mari_market.specs.declared.activation.Activation.{Activation}
use Rattle.mari_market.specs.declared.activation.Prices.{Prices}
use Rattle.mari_market.specs.declared.market.Border.{Border}
use Rattle.mari_market.specs.Optimal.{IsConsistent}
use Rattle.mari_lines.specs.declared.line.BorderLine.{BorderLine}
use Rattle.mari_publish.specs.declared.publication.FullBlock.{FullBlock}
use Rattle.mari_remain.specs.declared.books.Books.{Books}
use Rattle.mari_remain.specs.declared.market.RunMarket.{RunMarket}
use Rattle.mari_settle.specs.declared.ledger.Ledger.{Ledger}
use Rattle.mari_settle.specs.Ledger.{operator_lines, provider_amounts, rent_of, rents_of, scheduled_or}
use Rattle.mari_settle.specs.Lines.{map_along}
use Rattle.mari_progress.specs.Money.{HasLedger, StatesLedger, amount_line, amounts_of, money_lines_of, providers_among}
use Rattle.mari_progress.specs.Runs.{IsBalancedLedger, IsMarketOf, IsRunOf}
use Rattle.mari_progress.specs.Reported.{activation_of, prices_of}
use Rattle.mari_progress.proofs.Lists.{along-length}
use Rattle.mari_check.specs.Lines.{StatesRent}
use Rattle.mari_check.proofs.Zips.{map-itself, zip-from, zip-to}

pub rents-to : (lines : List BorderLine) (rents : List Quarters) → AllZip StatesRent lines rents → map (λ (l : BorderLine). l.rent) lines ≡ rents
rents-to lines rents all = zip-to StatesRent (λ (l : BorderLine). l.rent) (λ (q : Quarters). q) (λ l q e. e) lines rents all ∙ map-itself rents

pub rents-from : (lines : List BorderLine) (rents : List Quarters) → map (λ (l : BorderLine). l.rent) lines ≡ rents → AllZip StatesRent lines rents
rents-from lines rents e =
    let all = e ∙ sym (map-itself rents) in
    zip-from StatesRent (λ (l : BorderLine). l.rent) (λ (l : BorderLine). l.rent) (λ (q : Quarters). q) (λ (q : Quarters). q) (λ l q e f. e) lines rents all all

-- the ledger that a block states is the run's where it is this one
module _ (books : Books) (made : RunMarket) (also : Option (List Cents)) (b : FullBlock) (ledger : Ledger) (places : List ℕ) (a : Activation) (ps : List Cents) (reported : a ≡ activation_of b)
    (priced : ps ≡ prices_of b) where
  same2 : {Z : Type 0} (f : Activation → List Cents → Z) → f a ps ≡ f (activation_of b) (prices_of b)
  same2 f = ap (λ x. f x ps) reported ∙ ap (f (activation_of b)) priced

  pub states-is : ledger.rents ≡ rents_of made.market a ps
      → ledger.operators ≡ operator_lines books.zones made.market a ps
      → ledger.providers ≡ provider_amounts books.bids made.bids a ps (scheduled_or ps also)
      → places ≡ providers_among books.bids.bids made.bids → (t : Bool) → (t ≡ true) ↔ StatesLedger books b ledger places → (t ≡ true) ↔ HasLedger books made also b
  states-is rents operators providers listed t test =
      let own_rents : ledger.rents ≡ rents_of made.market (activation_of b) (prices_of b) = rents ∙ same2 (rents_of made.market) in
      let own_lines : ledger.operators ≡ operator_lines books.zones made.market (activation_of b) (prices_of b) = operators ∙ same2 (operator_lines books.zones made.market) in
      let own_amounts : ledger.providers ≡ amounts_of books made also b = providers ∙ same2 (λ x qs. provider_amounts books.bids made.bids x qs (scheduled_or qs also)) in
      let lines = ap (money_lines_of books.zones.operators) own_lines in
      let amounts = ap (λ (qs : List Quarters). map (amount_line books.bids.providers qs) places) own_amounts ∙ ap (map (amount_line books.bids.providers (amounts_of books made also b))) listed in (
        λ e. let h = test.0 e in record { states = record { rents = h.rents ∙ own_rents; operators = h.operators ∙ lines; providers = h.providers ∙ amounts } },
        λ h. test.1 (record { rents = h.states.rents ∙ sym own_rents; operators = h.states.operators ∙ sym lines; providers = h.states.providers ∙ sym amounts }),
      )

-- what the block adds to its day
pub run-of : (books : Books) (made : RunMarket) (also : Option (List Cents)) (b : FullBlock) (ledger : Ledger) (a : Activation) (ps : Prices)
    → a ≡ activation_of b → ps.cents ≡ prices_of b → IsMarketOf books made
    → IsConsistent made.market (activation_of b) (prices_of b)
    → HasLedger books made also b → ledger.rents ≡ rents_of made.market a ps.cents → ledger.operators ≡ operator_lines books.zones made.market a
    ps.cents → ledger.providers ≡ provider_amounts books.bids made.bids a ps.cents (scheduled_or ps.cents also)
    → IsBalancedLedger ledger → IsRunOf books made also b (record { made = made; activation = a; prices = ps; ledger = ledger })
run-of books made also b ledger a ps reported priced of agrees h rents operators providers balanced = record {
  market = refl;
  activation = reported;
  prices = priced;
  operators = h.states.operators ∙ ap (money_lines_of books.zones.operators) (sym (operators ∙ same2 books made also b ledger [] a ps.cents reported priced (operator_lines books.zones made.market)));
  providers = providers ∙ same2 books made also b ledger [] a ps.cents reported priced (λ x qs. provider_amounts books.bids made.bids x qs (scheduled_or qs also));
  one_each = ap length operators ∙ length-map-range_with_len _ 0 (length books.zones.operators);
  rents =
      let many : length (map_along (λ (x : Border) f. record { 0 = rent_of (prices_of b) x f }) made.market.borders (activation_of b).flow) ≡ length made.market.borders =
      along-length _ made.market.borders (activation_of b).flow (AllZip-long _ made.market.borders (activation_of b).flow agrees.borders) in
      ap length (rents ∙ same2 books made also b ledger [] a ps.cents reported priced (rents_of made.market)) ∙ many ∙ of.borders;
  balanced = balanced;
}
