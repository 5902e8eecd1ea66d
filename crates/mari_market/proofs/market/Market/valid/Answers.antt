use Rattle.mari_market.proofs.market.Market.valid.Goals as goal

pub returns-then-parts_fit : goal.returns-then-parts_fit
returns-then-parts_fit c =
    let limits = c.is_within_limits.ensures.0 c.if-not-is_within_limits.false in
    let parts = c.parts_fit.ensures.0 c.if-parts_fit.true in (
      λ t. record {
        zones = (limits.0, limits.1);
        few_borders = limits.2;
        few_orders = limits.3;
        few_gates = limits.4;
        borders = parts.1;
        orders = parts.2;
        gates = c.gates_fit.ensures.0 t;
        reference = parts.0;
      },
      λ v. c.gates_fit.ensures.1 v.gates,
    )
