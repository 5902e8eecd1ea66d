use Rattle.std.proofs.Common.{◌≡◌, ◌+◌, ◌++◌, ◌∷◌, [], ℕ, ℤ, pos, List, ap, ◌∙◌, sym, arith, take, length, append_assoc, to_z-of_z, FitsSigned, w64, rules}
use Rattle.std.proofs.lemmas.List.{take_more, length-take-le}
use Rattle.mari_network.specs.declared.slots.Slot.{Slot}
use Rattle.mari_market.specs.Sums.{int_at}
use Rattle.mari_network.specs.Orders.{stand_in_of}
use Rattle.mari_paths.specs.Starts.{stand_ins}
use Rattle.mari_paths.proofs.Starts.{stand_ins_push}
use Rattle.mari_paths.proofs.start.add_stand_ins.Goals as goal

pub loop-zone-preserved : goal.loop-zone-preserved
loop-zone-preserved c =
    let fits : FitsSigned w64 (int_at c.args.short.now c.loop-zone.zone) = search rules in
    let next : take (c.loop-zone.zone + 1) c.args.short.now ≡ take c.loop-zone.zone c.args.short.now ++ int_at c.args.short.now c.loop-zone.zone ∷ [] =
    take_more c.args.short.now c.loop-zone.zone (pos 0) c.loop-zone-test.true in
    let made : c.stand_in.result ≡ stand_in_of c.loop-zone.zone (int_at c.args.short.now c.loop-zone.zone) = rw (to_z-of_z fits) at c.stand_in.ensures in
    let long : length (take c.loop-zone.zone c.args.short.now) ≡ c.loop-zone.zone = length-take-le c.loop-zone.zone c.args.short.now (omega (arith, c.loop-zone-test.true)) in
    let place : 0 + length (take c.loop-zone.zone c.args.short.now) ≡ c.loop-zone.zone = omega (arith, long) in
    record {
      slots =
          c.in_ok-push.ensures.items ∙ ap (λ (ss : List Slot). ss ++ c.stand_in.result ∷ []) c.loop-zone.invariant.slots ∙ append_assoc
          c.args.slots.now.items (stand_ins 0 (take c.loop-zone.zone c.args.short.now)) (c.stand_in.result ∷ [])
          ∙ ap (λ (s : Slot). c.args.slots.now.items ++ (stand_ins 0 (take c.loop-zone.zone c.args.short.now) ++ s ∷ [])) made
          ∙ ap (λ (k : ℕ). c.args.slots.now.items ++ (stand_ins 0 (take c.loop-zone.zone c.args.short.now) ++ stand_in_of k (int_at c.args.short.now c.loop-zone.zone) ∷ [])) (sym place)
          ∙ ap (λ (ss : List Slot). c.args.slots.now.items ++ ss) (sym (stand_ins_push 0 (take c.loop-zone.zone c.args.short.now) (int_at c.args.short.now c.loop-zone.zone)))
          ∙ ap (λ (xs : List ℤ). c.args.slots.now.items ++ stand_ins 0 xs) (sym next);
      amounts = rw (to_z-of_z fits) at c.in_ok-push-2.ensures.items ∙ ap (λ (xs : List ℤ). xs ++ int_at c.args.short.now c.loop-zone.zone ∷ []) c.loop-zone.invariant.amounts
          ∙ append_assoc c.args.amounts.now.items (take c.loop-zone.zone c.args.short.now) (int_at c.args.short.now c.loop-zone.zone ∷ [])
          ∙ ap (λ (xs : List ℤ). c.args.amounts.now.items ++ xs) (sym next);
    }
