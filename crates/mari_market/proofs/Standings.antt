-- In a feasible activation an order of a gate runs exactly where its gate is open.
use Rattle.std.proofs.Common.{◌≡◌, if◌then◌else◌, Bool, ℕ, ◌<◌, ◌≤◌, Option, length, arith, ℤ}
use Rattle.std.specs.Prelude.{MatchOption}
use Rattle.std.specs.List.{AllZip}
use Rattle.mari_market.specs.declared.market.Order.{Order}
use Rattle.mari_market.specs.declared.market.Market.{Market}
use Rattle.mari_market.specs.declared.market.Side.{Side}
use Rattle.mari_market.specs.declared.activation.Activation.{Activation}
use Rattle.mari_market.specs.declared.price_rules.Standing.TheVariants.{Plain}
use Rattle.mari_market.specs.Activation.{is_open}
use Rattle.mari_market.specs.Bounds.{IsWithin, own_bounds, span_of}
use Rattle.mari_market.specs.Bounds.GateState.{Open, Closed}
use Rattle.mari_market.specs.Consistent.{IsConsistentTrade, own_standing, standing_of}
use Rattle.mari_market.specs.Dual.{IsTightTrade}
use Rattle.mari_market.specs.Market.{IsValid, IsValidOrder}
use Rattle.mari_market.specs.Optimal.{IsFeasible}
use Rattle.mari_market.proofs.Sums.{AllZip-with, AllZip-both}

standing_at : (opens : ℕ → Bool) (gates : ℕ) (gate : Option ℕ) (o : Order) (q : ℕ)
    → MatchOption gate (o.least ≡ 0) (λ g. (g < gates) × (1 ≤ o.least)) → IsWithin (span_of (λ g. if opens g then Open else Closed) gate o) q → own_standing gate q ≡ standing_of opens gate
standing_at opens gates gate o q v w = grind arith

abbrev pub OneStanding : Market → Activation → Order → ℕ → Type 0
OneStanding m a o q = own_standing o.gate q ≡ standing_of (is_open m a) o.gate

pub one_standing : (m : Market) (a : Activation) → IsValid m → IsFeasible m a → AllZip (OneStanding m a) m.orders a.mw
one_standing m a v f =
    let both = AllZip-with (IsValidOrder m.zones (length m.gates)) (λ o q. IsWithin (own_bounds m a o) q) m.orders a.mw v.orders f.orders in
    AllZip-both (λ o q. IsValidOrder m.zones (length m.gates) o × IsWithin (own_bounds m a o) q) (λ o q. IsValidOrder m.zones (length m.gates) o × IsWithin (own_bounds m a o) q) (OneStanding m a)
    (λ o q h k. standing_at (is_open m a) (length m.gates) o.gate o q h.0.gate h.1) m.orders a.mw both both

-- what is tight at a plain order is consistent
pub plain_consistent : (side : Side) (c p : ℤ) (most q : ℕ) → IsTightTrade side c p (record { lo = 0; hi = most }) q → IsConsistentTrade Plain side c most q p
plain_consistent side c p most q t = grind arith
