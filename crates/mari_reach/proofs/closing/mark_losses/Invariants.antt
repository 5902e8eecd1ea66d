use Rattle.std.proofs.Common.{◌≡◌, ◌||◌, ◌&&◌, ℕ, take}
use Rattle.std.specs.List.{list_any}
use Rattle.mari_market.specs.declared.market.Order.{Order}
use Rattle.mari_market.specs.Activation.{is_gate}
use Rattle.mari_market.specs.Prefix.{opens_in}
use Rattle.mari_reach.specs.Tables.{loses_in}
use Rattle.mari_reach.proofs.closing.mark_losses.Given as goal

abbrev pub invariant-loop-order : goal.invariant-loop-order
invariant-loop-order l = (g : ℕ) → opens_in l.marks g ≡ (opens_in l.fn.marks g || list_any (λ (o : Order). is_gate g o.gate && loses_in l.prices o) (take l.order-index l.orders))
