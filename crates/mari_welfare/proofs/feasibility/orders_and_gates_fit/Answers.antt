use Rattle.std.proofs.Common.{◌≡◌, ℕ, Bool, List, subst, sym}
use Rattle.std.specs.List.{AllZip}
use Rattle.std.proofs.lemmas.Bool.{both_ways}
use Rattle.mari_market.specs.declared.market.Order.{Order}
use Rattle.mari_market.specs.Activation.{is_open}
use Rattle.mari_market.specs.Bounds.{IsWithin, bounds_by}
use Rattle.mari_market.specs.Prefix.{opens_in}
use Rattle.mari_welfare.proofs.feasibility.orders_and_gates_fit.Goals as goal

fits_as : (f g : ℕ → Bool) (os : List Order) (qs : List ℕ) → f ≡ g → AllZip (λ o q. IsWithin (bounds_by f o) q) os qs → AllZip (λ o q. IsWithin (bounds_by g o) q) os qs
fits_as f g os qs e h = subst (λ (k : ℕ → Bool). AllZip (λ (o : Order) (q : ℕ). IsWithin (bounds_by k o) q) os qs) e h

pub returns-then-orders_fit : goal.returns-then-orders_fit
returns-then-orders_fit c =
    let os : c.as_slice-orders.result.now ≡ c.args.market.now.orders = c.as_slice-orders.ensures in
    let qs : c.as_slice-mw.result.now ≡ c.args.activation.now.mw = c.as_slice-mw.ensures in
    let gs : c.as_slice.result.now ≡ c.args.market.now.gates = c.as_slice.ensures in
    let opens : opens_in c.of-opened.result ≡ is_open c.args.market.now c.args.activation.now = c.of-opened.ensures in (
      λ t. record { orders = fits_as _ _ _ _ opens (rw (os, qs) at (c.orders_fit.ensures.0 c.if-orders_fit.true)); gates = rw (gs, opens) at (c.keep_gate_rules.ensures.0 t) },
      λ h. c.keep_gate_rules.ensures.1 (rw (gs, opens) h.gates),
    )

pub returns-else-orders_fit : goal.returns-else-orders_fit
returns-else-orders_fit c =
    let os : c.as_slice-orders.result.now ≡ c.args.market.now.orders = c.as_slice-orders.ensures in
    let qs : c.as_slice-mw.result.now ≡ c.args.activation.now.mw = c.as_slice-mw.ensures in
    let opens : opens_in c.of-opened.result ≡ is_open c.args.market.now c.args.activation.now = c.of-opened.ensures in
    (λ t. absurd (both_ways c.orders_fit.result c.if-orders_fit.false t), λ h. c.orders_fit.ensures.1 (rw (os, qs) (fits_as _ _ _ _ (sym opens) h.orders)))
