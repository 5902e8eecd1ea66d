use Rattle.std.proofs.Common.{◌≡◌, ◌++◌, ℕ, ℤ, List, length, take, ap, sym, subst, ◌∙◌}
use Rattle.std.proofs.Math.Seq.{take-append_seam}
use Rattle.std.specs.List.{AllZip}
use Rattle.mari_network.specs.declared.slots.Slot.{Slot}
use Rattle.mari_network.specs.Slots.{IsWithinSlot}
use Rattle.mari_network.proofs.Lists.{zip_long}
use Rattle.mari_paths.specs.Merit.{RunsAt}
use Rattle.mari_paths.specs.Starts.{stand_ins, AreShort}
use Rattle.mari_paths.proofs.Starts.{starts, IsStarted}
use Rattle.mari_paths.proofs.start.start_from.Goals as goal

pub returns : goal.returns
returns c =
    let m = c.args.market.now in
    let slots : c.add_stand_ins.new.slots.items ≡ c.args.reals.items ++ stand_ins 0 c.deref-5.result.now = c.in_ok-add_stand_ins.ensures.slots in
    let amounts : c.add_stand_ins.new.amounts.items ≡ c.in_ok-amounts.amounts.items ++ c.deref-5.result.now = c.in_ok-add_stand_ins.ensures.amounts in
    let within : AllZip IsWithinSlot c.args.reals.items c.in_ok-amounts.amounts.items =
    subst (λ (ss : List Slot). AllZip IsWithinSlot ss c.in_ok-amounts.amounts.items) c.deref.ensures.value c.in_ok-amounts.ensures.amounts in
    let short : AreShort c.args.market.now.zones c.args.reals.items c.args.market.now.borders c.in_ok-amounts.amounts.items c.in_ok-amounts.flows.items c.in_ok-short.short.items =
    subst (λ (gs : List ℤ). AreShort c.args.market.now.zones c.args.reals.items c.args.market.now.borders c.in_ok-amounts.amounts.items gs c.in_ok-short.short.items) c.deref-4.ensures.value
    (subst (λ (ys : List ℤ). AreShort c.args.market.now.zones c.args.reals.items c.args.market.now.borders ys c.deref-4.result.now c.in_ok-short.short.items) c.deref-3.ensures.value
    (subst (λ (ss : List Slot). AreShort c.args.market.now.zones ss c.args.market.now.borders c.deref-3.result.now c.deref-4.result.now c.in_ok-short.short.items) c.deref-2.ensures.value
    c.in_ok-short.ensures.short)) in
    let all : IsStarted c.args.market.now c.args.reals.items c.add_stand_ins.new.slots.items c.add_stand_ins.new.amounts.items c.in_ok-amounts.flows.items =
    starts m c.args.reals.items c.add_stand_ins.new.slots.items c.in_ok-amounts.amounts.items c.add_stand_ins.new.amounts.items c.in_ok-amounts.flows.items c.in_ok-short.short.items
    c.requires.reals within c.in_ok-amounts.ensures.flows short c.in_ok-short.ensures.near (rw c.deref-5.ensures.value at slots) (rw c.deref-5.ensures.value at amounts) in
    record {
      filled = all.filled;
      reals = all.first;
      near = all.near;
      price = λ none.
          let first : take (length c.args.market.now.orders) c.add_stand_ins.new.amounts.items ≡ c.in_ok-amounts.amounts.items =
          ap (λ (xs : List ℤ). take (length c.args.market.now.orders) xs) amounts
          ∙ ap (λ (k : ℕ). take k (c.in_ok-amounts.amounts.items ++ c.deref-5.result.now)) (sym c.requires.reals.long ∙ zip_long IsWithinSlot c.args.reals.items c.in_ok-amounts.amounts.items within)
          ∙ take-append_seam c.in_ok-amounts.amounts.items c.deref-5.result.now in
          let at = c.in_ok-amounts.ensures.price none in (
            at.0,
            subst (λ (xs : List ℤ). RunsAt c.args.market.now c.args.reals.items c.args.places.now.ladders.items xs at.0) (sym first)
                (subst (λ (ss : List Slot). RunsAt c.args.market.now ss c.args.places.now.ladders.items c.in_ok-amounts.amounts.items at.0) c.deref.ensures.value at.1),
          );
      limits = c.in_ok-amounts.ensures.flows;
      even = all.even;
    }
