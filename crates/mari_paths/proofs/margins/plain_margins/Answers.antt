use Rattle.std.proofs.Common.{◌≡◌, ◌+◌, ◌<◌, ℕ, List, length, get_or, true, false, arith, rules, sym, ap, subst, ◌∙◌, inl, inr, Vec, Global}
use Rattle.std.specs.Prelude.{is_some}
use Rattle.std.proofs.lemmas.Bool.{cases_eq, cases_lt, false≢true}
use Rattle.std.proofs.lemmas.List.{with_items_is}
use Rattle.mari_market.specs.declared.market.Order.{Order}
use Rattle.mari_network.specs.declared.margins.Margin.{Margin}
use Rattle.mari_network.specs.Margins.{dearest_at, cheapest_at, AreMarginsOfThese}
use Rattle.mari_network.specs.Orders.{no_order}
use Rattle.mari_network.specs.Slots.{no_slot, zone_of, IsWithinSlot}
use Rattle.mari_network.proofs.Gathered.{margins_same, margins_with}
use Rattle.mari_network.proofs.Lists.{zip_long}
use Rattle.mari_paths.specs.Starts.{order_at}
use Rattle.mari_paths.specs.Warm.{IsPlain}
use Rattle.mari_paths.proofs.margins.plain_margins.Goals as goal
use Rattle.mari_paths.proofs.margins.plain_margins.Goals.{then-is_none, else-is_none}

pub add_to_margin-requires-clause-lengths : goal.add_to_margin-requires-clause-lengths
add_to_margin-requires-clause-lengths c = sym (zip_long IsWithinSlot c.args.slots.now c.args.amounts.now c.requires.filled.within)

pub add_to_margin-requires-clause-dearest : goal.add_to_margin-requires-clause-dearest
add_to_margin-requires-clause-dearest c = λ i e.
    let there : c.loop-i.i < length c.args.slots.now = omega (arith, c.requires.filled.long, ap (λ (os : List Order). length os) c.as_slice-orders.ensures, c.loop-i-test.true) in
    ((c.loop-i.invariant.dearest (zone_of c.args.slots.now c.loop-i.i) (c.requires.filled.network c.loop-i.i no_slot there).zone).one i
    (ap (λ (ms : List Margin). dearest_at ms (zone_of c.args.slots.now c.loop-i.i)) (sym c.deref_mut.ensures.value) ∙ e)).0.0

pub add_to_margin-requires-clause-cheapest : goal.add_to_margin-requires-clause-cheapest
add_to_margin-requires-clause-cheapest c = λ i e.
    let there : c.loop-i.i < length c.args.slots.now = omega (arith, c.requires.filled.long, ap (λ (os : List Order). length os) c.as_slice-orders.ensures, c.loop-i-test.true) in
    ((c.loop-i.invariant.cheapest (zone_of c.args.slots.now c.loop-i.i) (c.requires.filled.network c.loop-i.i no_slot there).zone).one i
    (ap (λ (ms : List Margin). cheapest_at ms (zone_of c.args.slots.now c.loop-i.i)) (sym c.deref_mut.ensures.value) ∙ e)).0.0

pub loop-i-preserved : goal.loop-i-preserved
loop-i-preserved c =
    let m = c.args.market.now in
    let i = c.loop-i.i in
    let here : c.loop-i.i < length c.args.market.now.orders = omega (arith, ap (λ (os : List Order). length os) c.as_slice-orders.ensures, c.loop-i-test.true) in
    let order = ap (λ (os : List Order). is_some (get_or os c.loop-i.i no_order).gate) c.as_slice-orders.ensures in
    elim c.if-is_none.branch [
      | then-is_none w ↦
          let plain : is_some (get_or c.as_slice-orders.result.now c.loop-i.i no_order).gate ≡ false = search rules in
          let items : c.if-is_none.margins.items ≡ w.add_to_margin.new.margins =
          ap (λ (v : Vec Margin Global). v.items) w.margins-is ∙ with_items_is c.loop-i.margins w.add_to_margin.new.margins (w.add_to_margin.auto.margins ∙ w.deref_mut.ensures.len) in
          subst (λ (ms : List Margin). AreMarginsOfThese (λ (k : ℕ). (k < i + 1) × IsPlain m k) c.args.slots.now c.args.amounts.now m.zones ms) (sym items)
          (margins_with (λ (k : ℕ). (k < i) × IsPlain m k) (λ (k : ℕ). (k < i + 1) × IsPlain m k) c.args.slots.now c.args.amounts.now i
          (λ k h. elim (cases_lt k i) [
            | inl before ↦ inl (before, h.1)
            | inr after ↦ inr (omega (arith, h.0, after))
          ])
          (λ k h. (omega (arith, h.0), h.1)) (omega arith, (here, sym order ∙ plain)) m.zones w.deref_mut.result.now w.add_to_margin.new.margins
          w.add_to_margin.auto.margins w.add_to_margin.ensures.here w.add_to_margin.ensures.others
          (subst (λ (ms : List Margin). AreMarginsOfThese (λ (k : ℕ). (k < i) × IsPlain m k) c.args.slots.now c.args.amounts.now m.zones ms) (sym w.deref_mut.ensures.value) c.loop-i.invariant))
      | else-is_none w ↦
          let gated : is_some (get_or c.as_slice-orders.result.now c.loop-i.i no_order).gate ≡ true = search rules in
          let items : c.if-is_none.margins.items ≡ c.loop-i.margins.items = ap (λ (v : Vec Margin Global). v.items) w.margins-is in
          subst (λ (ms : List Margin). AreMarginsOfThese (λ (k : ℕ). (k < i + 1) × IsPlain m k) c.args.slots.now c.args.amounts.now m.zones ms) (sym items)
          (margins_same (λ (k : ℕ). (k < i) × IsPlain m k) (λ (k : ℕ). (k < i + 1) × IsPlain m k) c.args.slots.now c.args.amounts.now m.zones c.loop-i.margins.items
          (λ k h. (omega (arith, h.0), h.1))
          (λ k h. elim (cases_eq k i) [
            | inl e ↦ absurd (false≢true (sym h.1.1 ∙ ap (λ (j : ℕ). is_some (order_at m j).gate) e ∙ sym order ∙ gated))
            | inr other ↦ (omega (arith, h.0, other), h.1)
          ]) c.loop-i.invariant)
    ]

pub returns : goal.returns
returns c =
    let m = c.args.market.now in
    margins_same (λ (k : ℕ). (k < c.loop-i.i) × IsPlain m k) (IsPlain m) c.args.slots.now c.args.amounts.now m.zones c.loop-i.margins.items
    (λ k h. h.1) (λ k plain. (omega (arith, plain.0, c.loop-i-test.false, ap (λ (os : List Order). length os) c.as_slice-orders.ensures), plain)) c.loop-i.invariant
