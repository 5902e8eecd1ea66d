use Rattle.std.proofs.Common.{◌≡◌, pos, ◌-ℤ◌, to_z-of_z, rules, FitsSigned, w64, arith}
use Rattle.std.proofs.lemmas.Int.{ints, clamps}
use Rattle.mari_market.specs.Sums.{int_at}
use Rattle.mari_network.specs.Slots.{no_slot, slot_at, IsWithinSlot}
use Rattle.mari_network.proofs.chain.most_along.Goals as goal
use Rattle.mari_market.proofs.Sums.{AllZip-at}

pub room_below-below-requires-clause-within : goal.room_below-below-requires-clause-within
room_below-below-requires-clause-within c =
    let fits : FitsSigned w64 (int_at c.args.amounts.now c.args.chain.now.sink) = search rules in
    rw to_z-of_z (AllZip-at IsWithinSlot c.args.network.now.slots.now c.args.amounts.now c.args.chain.now.sink no_slot (pos 0) c.requires.chain.less.0 c.requires.runs.amounts)

pub room_above-above-requires-clause-within : goal.room_above-above-requires-clause-within
room_above-above-requires-clause-within c =
    let fits : FitsSigned w64 (int_at c.args.amounts.now c.args.chain.now.source) = search rules in
    rw to_z-of_z (AllZip-at IsWithinSlot c.args.network.now.slots.now c.args.amounts.now c.args.chain.now.source no_slot (pos 0) c.requires.chain.more.0 c.requires.runs.amounts)

pub room-requires-clause-most : goal.room-requires-clause-most
room-requires-clause-most c =
    let less = c.requires.chain.less in
    let more = c.requires.chain.more in
    let f_sink : FitsSigned w64 (int_at c.args.amounts.now c.args.chain.now.sink) = search rules in
    let f_source : FitsSigned w64 (int_at c.args.amounts.now c.args.chain.now.source) = search rules in
    let below : c.room_below-below.result ≡ int_at c.args.amounts.now c.args.chain.now.sink -ℤ (slot_at c.args.network.now.slots.now c.args.chain.now.sink).low =
    rw (to_z-of_z f_sink) at c.room_below-below.ensures in
    let above : c.room_above-above.result ≡ (slot_at c.args.network.now.slots.now c.args.chain.now.source).high -ℤ int_at c.args.amounts.now c.args.chain.now.source =
    rw (to_z-of_z f_source) at c.room_above-above.ensures in
    omega (arith, ints, clamps, c.min.ensures.value, less.1, more.1)
