use Rattle.std.proofs.Common.{◌∙◌, ℕ, pos, List, Vec, Global, arith, ap}
use Rattle.std.proofs.lemmas.Int.{ints}
use Rattle.mari_gates.specs.GateTable.{state_in}
use Rattle.mari_market.specs.declared.market.Border.{Border}
use Rattle.mari_market.specs.declared.market.Order.{Order}
use Rattle.mari_market.specs.declared.market.Side.TheVariants.{Inject, Withdraw}
use Rattle.mari_market.specs.Bounds.{span_in}
use Rattle.mari_market.specs.Dual.{best_border, best_order}
use Rattle.mari_market.specs.Price.{price_at}
use Rattle.mari_market.specs.Sums.{int_sum}
use Rattle.mari_proofs.specs.declared.table.Rung.{Rung}
use Rattle.mari_proofs.specs.Tables.{gain_from, ladder_at, level_of, sum_below}
use Rattle.mari_proofs.proofs.DualTables.{value_by}
use Rattle.mari_proofs.proofs.table.total_value.Goals as goal

pub returns : goal.returns
returns c =
    value_by (state_in c.args.states.now) c.args.market.now c.args.table.now c.args.potentials.now c.side_value-injecting.result c.side_value-withdrawing.result
    c.orders_value-gated.result c.borders_value.result _
    c.requires.table
    (c.side_value-injecting.ensures.value
    ∙ ap (λ (ladders : List (Vec Rung Global)). sum_below (λ (z : ℕ). gain_from (level_of Inject (price_at c.args.potentials.now z)) (pos 0) (ladder_at ladders z)) c.args.market.now.zones)
    c.as_slice.ensures.value)
    (c.side_value-withdrawing.ensures.value
    ∙ ap (λ (ladders : List (Vec Rung Global)). sum_below (λ (z : ℕ). gain_from (level_of Withdraw (price_at c.args.potentials.now z)) (pos 0) (ladder_at ladders z)) c.args.market.now.zones)
    c.as_slice-2.ensures.value)
    (c.orders_value-gated.ensures.value ∙ ap (λ (os : List Order). int_sum (best_order (span_in (state_in c.args.states.now)) c.args.potentials.now) os) c.as_slice-3.ensures.value)
    (c.borders_value.ensures.value ∙ ap (λ (bs : List Border). int_sum (best_border c.args.potentials.now) bs) c.as_slice-4.ensures)
    (omega (
      arith,
      ints,
      c.side_value-injecting.ensures.low,
      c.side_value-injecting.ensures.high,
      c.side_value-withdrawing.ensures.low,
      c.side_value-withdrawing.ensures.high,
      c.orders_value-gated.ensures.low,
      c.orders_value-gated.ensures.high,
      c.borders_value.ensures.low,
      c.borders_value.ensures.high,
    ))
