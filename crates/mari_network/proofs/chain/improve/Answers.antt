use Rattle.std.proofs.Common.{◌≡◌, ◌≢◌, ℕ, ◌+ℤ◌, ℤ, pos, ◌-ℤ◌, ◌*ℤ◌, ◌≤ℤ◌, neg_ℤ, to_z, of_z, to_z-of_z, sym, ap, ◌∙◌, rules, FitsSigned, w64, arith, List, get_or-set_other, get_or-set_same}
use Rattle.std.proofs.lemmas.Int.{ints}
use Rattle.mari_market.specs.Sums.{int_at}
use Rattle.mari_network.specs.Slots.{no_slot, slot_at, IsWithinSlot}
use Rattle.mari_network.specs.Chain.{hop_at}
use Rattle.mari_network.proofs.Chains.{move_balances, move_rises, move_worth, other_slot}
use Rattle.mari_network.proofs.Resumed.{along_chain}
use Rattle.mari_network.proofs.chain.improve.Goals as goal
use Rattle.mari_market.proofs.Sums.{AllZip-at}

-- what is taken at the sink, in words
less_bits : (more : ℤ) → FitsSigned w64 more → pos 1 ≤ℤ more → to_z w64 (of_z w64 (pos 0 -ℤ to_z w64 (of_z w64 more))) ≡ neg_ℤ more
less_bits more fits some = omega (arith, ints, fits, some)

pub move_amount-requires-clause-moved : goal.move_amount-requires-clause-moved
move_amount-requires-clause-moved c =
    let within : IsWithinSlot (slot_at c.args.network.now.slots.now c.args.chain.now.sink) (int_at c.args.amounts.now c.args.chain.now.sink) =
    AllZip-at IsWithinSlot c.args.network.now.slots.now c.args.amounts.now c.args.chain.now.sink no_slot (pos 0) c.requires.chain.less.0 c.requires.runs.amounts in
    let r : FitsSigned w64 c.most_along-more.result = search rules in
    let some : pos 1 ≤ℤ c.most_along-more.result = c.most_along-more.ensures.some in
    let less = less_bits c.most_along-more.result r some in
    rw less (record { least = omega (arith, ints, c.most_along-more.ensures.sink); most = omega (arith, ints, within.most) })

pub move_amount-requires-2-clause-small : goal.move_amount-requires-2-clause-small
move_amount-requires-2-clause-small c = c.requires.network.small c.args.chain.now.source no_slot c.requires.chain.more.0

pub move_amount-requires-2-clause-moved : goal.move_amount-requires-2-clause-moved
move_amount-requires-2-clause-moved c =
    let within : IsWithinSlot (slot_at c.args.network.now.slots.now c.args.chain.now.source) (int_at c.args.amounts.now c.args.chain.now.source) =
    AllZip-at IsWithinSlot c.args.network.now.slots.now c.args.amounts.now c.args.chain.now.source no_slot (pos 0) c.requires.chain.more.0 c.requires.runs.amounts in
    let r : FitsSigned w64 c.most_along-more.result = search rules in
    let kept : int_at c.move_amount.new.amounts c.args.chain.now.source ≡ int_at c.args.amounts.now c.args.chain.now.source =
    ap (λ (xs : List ℤ). int_at xs c.args.chain.now.source) c.move_amount.ensures.moved ∙ get_or-set_other c.args.amounts.now c.args.chain.now.sink c.args.chain.now.source _ (pos 0)
    (λ e. other_slot c.args.network.now.slots.now c.args.chain.now.sink c.args.chain.now.source c.requires.chain.dearer (sym e)) in
    rw (kept, to_z-of_z r) (record { least = omega (arith, ints, within.least, c.most_along-more.ensures.some); most = omega (arith, ints, c.most_along-more.ensures.source) })

pub returns-clause-runs : goal.returns-clause-runs
returns-clause-runs c =
    let r : FitsSigned w64 c.most_along-more.result = search rules in
    let some : pos 1 ≤ℤ c.most_along-more.result = c.most_along-more.ensures.some in
    let less = less_bits c.most_along-more.result r some in
    record {
      amounts_long = omega arith;
      flows_long = omega arith;
      amounts = c.move_amount-2.ensures.within (c.move_amount.ensures.within c.requires.runs.amounts);
      flows = c.push_chain.ensures.within;
      balance = λ z h.
          move_balances z (slot_at c.args.network.now.slots.now c.args.chain.now.sink).zone
          (slot_at c.args.network.now.slots.now c.args.chain.now.source).zone (hop_at c.args.chain.now.hops.items 0).zone
          (hop_at c.args.chain.now.hops.items c.args.chain.now.at).zone c.most_along-more.result _ _ _ _ _ c.requires.chain.to c.requires.chain.from
          (rw less at c.move_amount.ensures.into z) (rw (to_z-of_z r) at c.move_amount-2.ensures.into z) (rw (c.deref.ensures.value, to_z-of_z r) at c.push_chain.ensures.carried z)
          (c.requires.runs.balance z h);
    }

pub returns-clause-moved : goal.returns-clause-moved
returns-clause-moved c =
    let sink = c.args.chain.now.sink in
    let source = c.args.chain.now.source in
    let old = c.args.amounts.now in
    let new = c.move_amount-2.new.amounts in
    let r : FitsSigned w64 c.most_along-more.result = search rules in
    let some : pos 1 ≤ℤ c.most_along-more.result = c.most_along-more.ensures.some in
    let less = less_bits c.most_along-more.result r some in
    let at_sink : IsWithinSlot (slot_at c.args.network.now.slots.now sink) (int_at old sink) =
    AllZip-at IsWithinSlot c.args.network.now.slots.now old sink no_slot (pos 0) c.requires.chain.less.0 c.requires.runs.amounts in
    let at_source : IsWithinSlot (slot_at c.args.network.now.slots.now source) (int_at old source) =
    AllZip-at IsWithinSlot c.args.network.now.slots.now old source no_slot (pos 0) c.requires.chain.more.0 c.requires.runs.amounts in
    let apart : source ≢ sink = λ e. other_slot c.args.network.now.slots.now sink source c.requires.chain.dearer (sym e) in
    let first : (k : ℕ) → k ≢ sink
    → int_at c.move_amount.new.amounts k ≡ int_at old k = λ k far. ap (λ (xs : List ℤ). int_at xs k) c.move_amount.ensures.moved ∙ get_or-set_other old sink k _ (pos 0) far in
    let second : (k : ℕ) → k ≢ source → int_at new k ≡ int_at c.move_amount.new.amounts k =
    λ k far. ap (λ (xs : List ℤ). int_at xs k) c.move_amount-2.ensures.moved ∙ get_or-set_other c.move_amount.new.amounts source k _ (pos 0) far in
    let sunk : int_at c.move_amount.new.amounts sink ≡ int_at old sink +ℤ neg_ℤ c.most_along-more.result =
    ap (λ (xs : List ℤ). int_at xs sink) (rw less at c.move_amount.ensures.moved) ∙ get_or-set_same old sink _ (pos 0) (omega (arith, c.requires.runs.amounts_long, c.requires.chain.less.0)) in
    let risen : int_at new source ≡ int_at c.move_amount.new.amounts source +ℤ c.most_along-more.result =
    ap (λ (xs : List ℤ). int_at xs source) (rw (to_z-of_z r) at c.move_amount-2.ensures.moved) ∙ get_or-set_same c.move_amount.new.amounts source _ (pos 0) (search rules) in
    record {
      others = λ k a b. second k b ∙ first k a;
      less = omega (arith, ints, second sink (λ e. apart (sym e)), sunk, some);
      most = at_sink.most;
      more = omega (arith, ints, risen, first source apart, some);
      least = at_source.least;
    }

pub returns-clause-along : goal.returns-clause-along
returns-clause-along c =
    along_chain c.args.network.now c.args.amounts.now c.args.flows.now c.move_amount-2.new.amounts c.push_chain.new.flows c.args.chain.now c.requires.chain (returns-clause-moved c)
    (rw c.deref.ensures.value at c.push_chain.ensures.others)

pub returns-clause-worth : goal.returns-clause-worth
returns-clause-worth c =
    let source = slot_at c.args.network.now.slots.now c.args.chain.now.source in
    let sink = slot_at c.args.network.now.slots.now c.args.chain.now.sink in
    let r : FitsSigned w64 c.most_along-more.result = search rules in
    let some : pos 1 ≤ℤ c.most_along-more.result = c.most_along-more.ensures.some in
    let less = less_bits c.most_along-more.result r some in
    let gain : c.worth_of_move.result ≡ (sink.price -ℤ source.price) *ℤ c.most_along-more.result = rw (to_z-of_z r) at c.worth_of_move.ensures in
    omega (arith, ints, gain, move_worth source.price sink.price c.most_along-more.result _ _ _ (rw less at c.move_amount.ensures.worth) (rw (to_z-of_z r) at c.move_amount-2.ensures.worth))

pub returns-clause-rises : goal.returns-clause-rises
returns-clause-rises c =
    let r : FitsSigned w64 c.most_along-more.result = search rules in
    let some : pos 1 ≤ℤ c.most_along-more.result = c.most_along-more.ensures.some in
    let less = less_bits c.most_along-more.result r some in
    move_rises (slot_at c.args.network.now.slots.now c.args.chain.now.source).price (slot_at c.args.network.now.slots.now c.args.chain.now.sink).price
    c.most_along-more.result _ _ _ c.requires.chain.dearer some
    (rw less at c.move_amount.ensures.worth) (rw (to_z-of_z r) at c.move_amount-2.ensures.worth)
