use Rattle.std.proofs.Common.{ℤ, List, arith, sym, subst}
use Rattle.std.specs.List.{AllZip}
use Rattle.mari_network.specs.Slots.{IsWithinSlot}
use Rattle.mari_paths.proofs.Merits.{ladders_there}
use Rattle.mari_paths.proofs.start.first_run.Goals as goal

pub amounts_by_price-requires-clause-ladders : goal.amounts_by_price-requires-clause-ladders
amounts_by_price-requires-clause-ladders c =
    rw c.as_slice-ladders.ensures.value
    (ladders_there c.args.market.now.zones c.args.slots.now c.args.market.now.borders c.args.places.now (omega (arith, c.requires.slots.long, c.requires.market.few_orders)) c.requires.slots.fine
    (omega (arith, c.requires.slots.long, c.requires.on_ladders)) c.requires.places)

pub shortages_alone-requires-clause-within : goal.shortages_alone-requires-clause-within
shortages_alone-requires-clause-within c =
    subst (λ (xs : List ℤ). AllZip IsWithinSlot c.args.slots.now xs) (sym c.deref.ensures.value) c.in_ok-amounts-in_default.ensures.within
