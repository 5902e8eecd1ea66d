use Rattle.std.proofs.Common.{◌≡◌}
use Rattle.std.proofs.lemmas.Bool.{both_ways}
use Rattle.mari_market.specs.Activation.{is_open}
use Rattle.mari_market.specs.Prefix.{opens_in}
use Rattle.mari_welfare.proofs.consistency.orders_and_borders_agree.Goals as goal

pub returns-then-orders_agree : goal.returns-then-orders_agree
returns-then-orders_agree c =
    let os : c.as_slice-orders.result.now ≡ c.args.market.now.orders = c.as_slice-orders.ensures in
    let qs : c.as_slice-mw.result.now ≡ c.args.activation.now.mw = c.as_slice-mw.ensures in
    let bs : c.as_slice-borders.result.now ≡ c.args.market.now.borders = c.as_slice-borders.ensures in
    let fs : c.as_slice-flow.result.now ≡ c.args.activation.now.flow = c.as_slice-flow.ensures in
    let opens : opens_in c.of-opened.result ≡ is_open c.args.market.now c.args.activation.now = c.of-opened.ensures in (
      λ t. record { orders = rw (os, qs, opens) at (c.orders_agree.ensures.0 c.if-orders_agree.true); borders = rw (bs, fs) at (c.borders_agree.ensures.0 t) },
      λ h. c.borders_agree.ensures.1 (rw (bs, fs) h.borders),
    )

pub returns-else-orders_agree : goal.returns-else-orders_agree
returns-else-orders_agree c =
    let os : c.as_slice-orders.result.now ≡ c.args.market.now.orders = c.as_slice-orders.ensures in
    let qs : c.as_slice-mw.result.now ≡ c.args.activation.now.mw = c.as_slice-mw.ensures in
    let opens : opens_in c.of-opened.result ≡ is_open c.args.market.now c.args.activation.now = c.of-opened.ensures in
    (λ t. absurd (both_ways c.orders_agree.result c.if-orders_agree.false t), λ h. c.orders_agree.ensures.1 (rw (os, qs, opens) h.orders))
