use Rattle.std.proofs.Common.{◌∙◌, ℕ, ℤ, List, get_or, arith, sym, subst}
use Rattle.std.specs.List.{Contains}
use Rattle.mari_market.specs.declared.market.Market.{Market}
use Rattle.mari_network.specs.declared.network.Rung.{Rung}
use Rattle.mari_network.specs.Network.{IsLadder}
use Rattle.mari_paths.specs.declared.warm.WarmStart.{WarmStart}
use Rattle.mari_paths.specs.Warm.{IsOrderLadder, IsWarmStart}
use Rattle.mari_paths.proofs.warm.WarmStart.places.Goals as goal

-- the slots on the ladders are the orders'
order_ladder : (m : Market) (w : WarmStart) (z : ℕ) (ladder : List Rung) → IsWarmStart m w → IsLadder w.slots.items w.places.on_ladders z ladder → IsOrderLadder m z ladder
order_ladder m w z ladder h a = record {
  there = λ j d l. omega (arith, a.rungs.there j d l, h.on_ladders);
  zone = λ j d l. sym (h.zones (get_or ladder j d).place (omega (arith, a.rungs.there j d l, h.on_ladders))) ∙ a.rungs.zone j d l;
  price = λ j d l. a.rungs.price j d l ∙ h.prices (get_or ladder j d).place (omega (arith, a.rungs.there j d l, h.on_ladders));
  all = λ k l e. subst (λ (p : ℤ). Contains ladder (record { price = p; place = k })) (h.prices k l) (a.rungs.all k (omega (arith, h.on_ladders)) (h.zones k l ∙ e));
  rising = a.rising;
}

pub returns : goal.returns
returns c = λ m h. record {
  one_each = h.places.ladders_long;
  each = λ z v l. order_ladder m c.args.self.now z _ h (h.places.ladders z v l);
}
