use Rattle.std.proofs.Common.{◌≡◌, ℕ, ◌+◌, List, to_z-of_z, sym, ap, ◌∙◌, rules, FitsSigned, w64, subst}
use Rattle.mari_market.specs.Sums.{int_at}
use Rattle.mari_network.specs.Orders.{is_inside}
use Rattle.mari_network.proofs.Zones.{AreZones, zones_take, zones_skip}
use Rattle.mari_network.proofs.finish.cut_zones.Goals as goal
use Rattle.mari_network.proofs.finish.cut_zones.Goals.{then-is_in_cut+in_ok-push, else-is_in_cut}

pub loop-z-preserved : goal.loop-z-preserved
loop-z-preserved c =
    let fits : FitsSigned w64 (int_at c.args.prices.now c.loop-z.z) = search rules in
    let test : c.is_in_cut.result ≡ is_inside c.args.side (int_at c.args.prices.now c.loop-z.z) = rw (to_z-of_z fits) at c.is_in_cut.ensures in
    elim c.if-is_in_cut.branch [
      | then-is_in_cut+in_ok-push w ↦
          subst (λ (zs : List ℕ). AreZones (λ (k : ℕ). is_inside c.args.side (int_at c.args.prices.now k)) (c.loop-z.z + 1) zs) (sym (ap (λ (v : _). v.items) w.zones-is ∙ w.in_ok-push.ensures.items))
          (zones_take (λ (k : ℕ). is_inside c.args.side (int_at c.args.prices.now k)) c.loop-z.z c.loop-z.zones.items c.loop-z.invariant (sym test ∙ w.if-is_in_cut.true))
      | else-is_in_cut w ↦
          subst (λ (zs : List ℕ). AreZones (λ (k : ℕ). is_inside c.args.side (int_at c.args.prices.now k)) (c.loop-z.z + 1) zs) (sym (ap (λ (v : _). v.items) w.zones-is))
          (zones_skip (λ (k : ℕ). is_inside c.args.side (int_at c.args.prices.now k)) c.loop-z.z c.loop-z.zones.items c.loop-z.invariant (sym test ∙ w.if-is_in_cut.false))
    ]
