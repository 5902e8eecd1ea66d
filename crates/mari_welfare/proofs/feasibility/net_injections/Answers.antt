use Rattle.std.proofs.Common.{◌==◌, ◌^◌, None, arith, pos, get_or, to_z-of_z}
use Rattle.std.specs.Int.{w128}
use Rattle.std.specs.Prelude.{FitsSigned}
use Rattle.std.proofs.lemmas.Int.{fits_signed_from_abs}
use Rattle.mari_market.specs.declared.market.Order.{Order}
use Rattle.mari_market.specs.declared.market.Side.TheVariants.{Inject}
use Rattle.mari_market.specs.Activation.{put_into}
use Rattle.mari_market.specs.Sums.{int_at}
use Rattle.mari_market.proofs.Sums.{sum_along_step}
use Rattle.mari_welfare.proofs.Balance.{same_if, small_step, zero_small}
use Rattle.mari_welfare.proofs.Open.{get_or-all_same}
use Rattle.mari_welfare.proofs.feasibility.net_injections.Goals as goal

pub loop-i-init : goal.loop-i-init
loop-i-init c = record { sum = λ z. get_or-all_same 64 z (pos 0); small = λ z. zero_small _ _ (get_or-all_same 64 z (pos 0)) }

pub loop-i-preserved : goal.loop-i-preserved
loop-i-preserved c =
    let none : Order = record { zone = 0; side = Inject; price = record { 0 = pos 0 }; least = 0; greatest = 0; gate = None } in
    let fits : FitsSigned w128 c.put_in.result = fits_signed_from_abs w128 c.put_in.result (omega arith) in
    record {
      sum = λ z. sum_along_step (put_into z) c.args.orders.now c.args.mw.now c.loop-i.i _ 0 _ _ _ c.loop-i-test.true (omega arith) (c.loop-i.invariant.sum z)
          (same_if _ _ _ c.put_in.ensures.value) (rw (to_z-of_z fits) at (c.add_to.ensures z));
      small = λ z. let added = rw (to_z-of_z fits) at (c.add_to.ensures z) in small_step ((get_or c.args.orders.now c.loop-i.i none).zone == z) (int_at c.loop-i.left z) c.put_in.result
          (int_at c.add_to.new.left z) (2 ^ 32) c.loop-i.i added (c.loop-i.invariant.small z) c.put_in.ensures.small;
    }
