use Rattle.std.proofs.Common.{◌≡◌, ◌∙◌, ap, arith, pos, sym, subst, List, length}
use Rattle.std.specs.Prelude.{◌≤ℤ◌, IfSome, Option, Some, None}
use Rattle.std.specs.List.{All}
use Rattle.std.proofs.lemmas.Slice.Zip.{AllZip-long}
use Rattle.mari_units.specs.declared.numbers.Quarters.{Quarters}
use Rattle.mari_units.specs.Lists.{with_items}
use Rattle.mari_market.specs.Sums.{int_sum}
use Rattle.mari_settle.specs.declared.ledger.OperatorLine.{OperatorLine}
use Rattle.mari_settle.specs.Ledger.{net_of, operator_lines, provider_amounts, rents_of}
use Rattle.mari_settle.proofs.Books.{has_flows, few_mw, few_numbers, payable}
use Rattle.mari_settle.proofs.Laws.{no_rent_below_0, nets_sum_to_0}
use Rattle.mari_settle.specs.Conditions.{MoneyIsWithin, LineIsWithin, most_of_operator, most_of_provider}
use Rattle.mari_settle.proofs.Bounds.{amounts_small, lines_small}
use Rattle.mari_settle.proofs.Lists.{written_over}
use Rattle.mari_settle.proofs.settlement.settle_run.Goals as goal

-- a fact of what is there
if_some : {X : Type 0} (P Q : X → Type 0) (o : Option X) → ((x : X) → P x → Q x) → IfSome o P → IfSome o Q
if_some P Q None f h = tt
if_some P Q (Some x) f h = f x h

pub write_rents-requires-clause-flows : goal.write_rents-requires-clause-flows
write_rents-requires-clause-flows c = has_flows c.args.market.now c.args.activation.now c.requires.feasible

pub write_lines-requires-clause-settles : goal.write_lines-requires-clause-settles
write_lines-requires-clause-settles c = record {
  market = c.requires.market;
  operators = omega (arith, c.requires.operators_there.one_each, c.requires.zones);
  prices = rw c.as_slice-prices.ensures c.requires.consistent.prices;
  flows = has_flows c.args.market.now c.args.activation.now c.requires.feasible;
}

pub write_amounts-requires-clause-few : goal.write_amounts-requires-clause-few
write_amounts-requires-clause-few c = omega (arith, c.requires.market.few_orders, few_numbers c.args.bids.now.bids c.args.numbers.now c.args.market.now.orders c.requires.numbers)

pub write_amounts-requires-clause-one_each : goal.write_amounts-requires-clause-one_each
write_amounts-requires-clause-one_each c =
    omega
    (arith, AllZip-long _ c.args.market.now.orders c.args.activation.now.mw c.requires.feasible.orders, few_numbers c.args.bids.now.bids c.args.numbers.now c.args.market.now.orders c.requires.numbers)

pub write_amounts-requires-clause-mw : goal.write_amounts-requires-clause-mw
write_amounts-requires-clause-mw c = few_mw c.args.market.now c.args.activation.now c.requires.market c.requires.feasible

pub write_amounts-requires-clause-numbers : goal.write_amounts-requires-clause-numbers
write_amounts-requires-clause-numbers c =
    let long : length c.as_slice-prices.result.now ≡ c.args.market.now.zones = rw c.as_slice-prices.ensures c.requires.consistent.prices.one_each in
    rw long (payable c.args.bids.now c.args.market.now c.args.numbers.now c.requires.providers_there c.requires.market c.requires.numbers)

pub returns-clause-rents_at_least_0 : goal.returns-clause-rents_at_least_0
returns-clause-rents_at_least_0 c =
    let m = c.args.market.now in
    let a = c.args.activation.now in
    let ps = c.args.prices.now.cents in
    let rents : with_items c.args.ledger.now.rents c.write_rents.new.rents ≡ rents_of m a ps =
    written_over _ _ _ (c.write_rents.auto.rents ∙ ap length c.as_mut_slice.ensures.value) (rw c.as_slice-prices.ensures at c.write_rents.ensures.value) in
    subst (All (λ (rent : Quarters). pos 0 ≤ℤ rent.0)) (sym rents) (no_rent_below_0 m a ps c.requires.consistent.borders)

pub returns-clause-nets_sum_to_0 : goal.returns-clause-nets_sum_to_0
returns-clause-nets_sum_to_0 c =
    let m = c.args.market.now in
    let a = c.args.activation.now in
    let ps = c.args.prices.now.cents in
    let lines : with_items c.args.ledger.now.operators c.write_lines.new.lines ≡ operator_lines c.args.zones.now m a ps =
    written_over _ _ _ (c.write_lines.auto.lines ∙ ap length c.as_mut_slice-2.ensures.value) (rw c.as_slice-prices.ensures at c.write_lines.ensures.value) in
    subst (λ (xs : List OperatorLine). int_sum net_of xs ≡ pos 0) (sym lines) (nets_sum_to_0 c.args.zones.now m a ps c.requires.operators_there c.requires.zones c.requires.market)

pub returns-clause-operators_small : goal.returns-clause-operators_small
returns-clause-operators_small c =
    let m = c.args.market.now in
    let a = c.args.activation.now in
    let ps = c.args.prices.now.cents in
    let lines : with_items c.args.ledger.now.operators c.write_lines.new.lines ≡ operator_lines c.args.zones.now m a ps =
    written_over _ _ _ (c.write_lines.auto.lines ∙ ap length c.as_mut_slice-2.ensures.value) (rw c.as_slice-prices.ensures at c.write_lines.ensures.value) in
    subst (All (LineIsWithin most_of_operator)) (sym lines) (lines_small c.args.zones.now m a ps c.requires.market c.requires.consistent.prices c.requires.feasible.borders)

pub returns-clause-providers_small : goal.returns-clause-providers_small
returns-clause-providers_small c = λ fewer.
    let m = c.args.market.now in
    let amounts : with_items c.args.ledger.now.providers c.write_amounts.new.amounts
    ≡ provider_amounts c.args.bids.now c.args.numbers.now c.args.activation.now c.as_slice-prices.result.now c.scheduled_or-scheduled.result.now =
    written_over _ _ _ (c.write_amounts.auto.amounts ∙ ap length c.as_mut_slice-3.ensures.value) c.write_amounts.ensures.value in
    subst (All (MoneyIsWithin most_of_provider)) (sym amounts) (amounts_small c.args.bids.now c.args.numbers.now c.args.activation.now c.as_slice-prices.result.now c.scheduled_or-scheduled.result.now
    (rw c.as_slice-prices.ensures c.requires.consistent.prices.capped)
    (c.scheduled_or-scheduled.ensures.capped (rw c.as_slice-prices.ensures c.requires.consistent.prices.capped) (if_some _ _ c.args.also (λ s h. h.capped) c.requires.also))
    (omega (arith, c.requires.market.few_orders, few_numbers c.args.bids.now.bids c.args.numbers.now m.orders c.requires.numbers)) fewer)
