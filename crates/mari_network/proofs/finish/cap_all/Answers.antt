use Rattle.std.proofs.Common.{◌≡◌, ℤ, pos, List, map, slice_index_or, to_z-of_z, FitsSigned, w64, rules, subst}
use Rattle.std.proofs.lemmas.List.{take_all}
use Rattle.std.proofs.lemmas.Result.{IfOk-from_err}
use Rattle.mari_network.specs.Orders.{capped_cents}
use Rattle.mari_network.proofs.Lists.{pushed_map}
use Rattle.mari_network.proofs.finish.cap_all.Goals as goal

pub returns-in_err-push : goal.returns-in_err-push
returns-in_err-push c = IfOk-from_err c.from_residual-in_err-push.result _ c.from_residual-in_err-push.ensures.0

pub loop-price-preserved : goal.loop-price-preserved
loop-price-preserved c =
    let fits : FitsSigned w64 (slice_index_or c.args.prices.now c.loop-price.price-index (pos 0)) = search rules in
    pushed_map capped_cents c.args.prices.now c.loop-price.price-index (pos 0) c.loop-price.all.items c.push.new.self.items c.cap.result
    c.loop-price-test.true c.in_ok-push.ensures.items c.loop-price.invariant (rw (to_z-of_z fits) at c.cap.ensures.value)

pub returns : goal.returns
returns c =
    subst (λ (ps : List ℤ). c.loop-price.all.items ≡ map capped_cents ps) (take_all c.loop-price.price-index c.args.prices.now c.loop-price-test.false)
    c.loop-price.invariant
