-- The two sums of a dual value, with the bounds as a table of states has them.
use Rattle.std.proofs.Common.{◌≡◌, ℕ, ℤ, ◌+ℤ◌, List, [], ◌∷◌, length, refl, ap, ◌∙◌}
use Rattle.std.specs.List.{All}
use Rattle.std.proofs.lemmas.List.Elements.{All-head, All-tail}
use Rattle.mari_units.specs.declared.Cents.{Cents}
use Rattle.mari_market.specs.declared.market.Order.{Order}
use Rattle.mari_market.specs.declared.market.Market.{Market}
use Rattle.mari_market.specs.Bounds.{Span}
use Rattle.mari_market.specs.Dual.{best_order, best_trade, dual_value_of, best_border}
use Rattle.mari_market.specs.Market.{IsValid, IsValidOrder, GateFits}
use Rattle.mari_market.specs.Price.{price_at}
use Rattle.mari_market.specs.Sums.{int_sum}

-- two spans that agree on each order of a gate that is there give the same sum
pub same_sum : (f g : Order → Span) (ps : List Cents) (zones gates : ℕ) (os : List Order)
    → ((o : Order) → GateFits gates o → f o ≡ g o) → All (IsValidOrder zones gates) os
    → int_sum (best_order f ps) os ≡ int_sum (best_order g ps) os
same_sum f g ps zones gates [] e v = refl
same_sum f g ps zones gates (o ∷ os) e v =
    let first = All-head (IsValidOrder zones gates) o os v in
    ap (λ (s : Span). best_trade o.side o.price.0 (price_at ps o.zone) s +ℤ int_sum (best_order f ps) os) (e o first.gate)
    ∙ ap (λ (x : ℤ). best_order g ps o +ℤ x) (same_sum f g ps zones gates os e (All-tail (IsValidOrder zones gates) o os v))

-- so the dual value may be read by a table of states
pub same_value : (f g : Order → Span) (m : Market) (ps qs : List Cents) (value : ℤ) → IsValid m
    → value ≡ dual_value_of f m ps → ps ≡ qs → ((o : Order) → GateFits (length m.gates) o → f o ≡ g o)
    → value ≡ dual_value_of g m qs
same_value f g m ps qs value v is same e =
    is
    ∙ ap (λ (x : ℤ). x +ℤ int_sum (best_border ps) m.borders) (same_sum f g ps m.zones (length m.gates) m.orders e v.orders)
    ∙ ap (λ (rs : List Cents). dual_value_of g m rs) same
