-- Bounds of prices, as the definitions have them and as they spread.
use Rattle.std.proofs.Common.{◌≡◌, ℕ, ℤ, neg_ℤ, List, [], ◌∷◌, arith, sym, ap, subst, inl, inr, ◌<◌}
use Rattle.std.specs.List.{All}
use Rattle.std.proofs.lemmas.Int.{ints}
use Rattle.std.proofs.lemmas.List.Elements.{All-head, All-tail}
use Rattle.mari_market.specs.declared.along.Along.{Along}
use Rattle.mari_market.specs.declared.market.Border.{Border}
use Rattle.mari_market.specs.declared.market.Order.{Order}
use Rattle.mari_market.specs.declared.market.Market.{Market}
use Rattle.mari_market.specs.declared.activation.Activation.{Activation}
use Rattle.mari_market.specs.Activation.{is_open}
use Rattle.mari_market.specs.Along.{LeadsOver, LeadsTo}
use Rattle.mari_market.specs.declared.price_rules.Standing.{Standing}
use Rattle.mari_market.specs.Consistent.{SetsLower, SetsUpper, SetsLowerAt, SetsUpperAt, IsLowerBound, IsUpperBound}
use Rattle.mari_market.specs.Market.{IsValid, IsValidBorder}
use Rattle.mari_market.specs.Optimal.{IsFeasible}
use Rattle.mari_market.specs.Price.{IsPrice}
use Rattle.mari_market.specs.Sums.{AnyZip}
use Rattle.mari_prices.specs.declared.bounds.End.{End}
use Rattle.mari_prices.specs.declared.bounds.End.TheVariants.{Least, Greatest}
use Rattle.mari_prices.specs.Tightest.{signed, SetsAt, IsBoundBy}
use Rattle.mari_market.proofs.Sums.{AnyZip-with}
use Rattle.mari_market.proofs.Standings.{OneStanding, one_standing}

-- ---- bounds

pub lower_spreads : (m : Market) (a : Activation) (z : ℕ) (c : ℤ) → IsValid m → IsFeasible m a → IsLowerBound m a z c → IsBoundBy Least m.orders a.mw z c
lower_spreads m a z c v f (inl e) = inl e
lower_spreads m a z c v f (inr s) = inr (AnyZip-with (OneStanding m a) (SetsLowerAt (is_open m a) z c) (SetsAt Least z c)
    (λ o q e h. record { zone = h.zone; price = h.price; sets = subst (λ (s : Standing). SetsLower s o.side o.greatest q) (sym e) h.sets }) m.orders a.mw (one_standing m a v f) s)

pub lower_from : (m : Market) (a : Activation) (z : ℕ) (c : ℤ) → IsValid m → IsFeasible m a → IsBoundBy Least m.orders a.mw z c → IsLowerBound m a z c
lower_from m a z c v f (inl e) = inl e
lower_from m a z c v f (inr s) = inr (AnyZip-with (OneStanding m a) (SetsAt Least z c) (SetsLowerAt (is_open m a) z c)
    (λ o q e h. record { zone = h.zone; price = h.price; sets = subst (λ (s : Standing). SetsLower s o.side o.greatest q) e h.sets }) m.orders a.mw (one_standing m a v f) s)

pub upper_spreads : (m : Market) (a : Activation) (z : ℕ) (c : ℤ) → IsValid m → IsFeasible m a → IsUpperBound m a z c → IsBoundBy Greatest m.orders a.mw z (neg_ℤ c)
upper_spreads m a z c v f (inl e) = inl (ap neg_ℤ e)
upper_spreads m a z c v f (inr s) = inr (AnyZip-with (OneStanding m a) (SetsUpperAt (is_open m a) z c) (SetsAt Greatest z (neg_ℤ c))
    (λ o q e h. record { zone = h.zone; price = ap neg_ℤ h.price; sets = subst (λ (s : Standing). SetsUpper s o.side o.greatest q) (sym e) h.sets }) m.orders a.mw (one_standing m a v f) s)

neg_neg : (c d : ℤ) → neg_ℤ c ≡ d → c ≡ neg_ℤ d
neg_neg c d e = omega (arith, ints)

pub upper_from : (m : Market) (a : Activation) (z : ℕ) (c : ℤ) → IsValid m → IsFeasible m a → IsBoundBy Greatest m.orders a.mw z c → IsUpperBound m a z (neg_ℤ c)
upper_from m a z c v f (inl e) = inl (omega (arith, ints))
upper_from m a z c v f (inr s) = inr (AnyZip-with (OneStanding m a) (SetsAt Greatest z c) (SetsUpperAt (is_open m a) z (neg_ℤ c))
    (λ o q e h. record { zone = h.zone; price = neg_neg o.price.0 c h.price; sets = subst (λ (s : Standing). SetsUpper s o.side o.greatest q) e h.sets }) m.orders a.mw (one_standing m a v f) s)

-- ---- bounds are prices

set_price : (end : End) (c d : ℤ) → IsPrice c → signed end c ≡ d → IsPrice d
set_price Least c d p e = subst IsPrice e p
set_price Greatest c d p e = record { low = omega (arith, ints, p.low, p.high); high = omega (arith, ints, p.low, p.high) }

pub AnyZip-of : {X Y : Type 0} (P : X → Type 0) (Q : X → Y → Type 0) (R : Type 0) → ((x : X) (y : Y) → P x → Q x y → R) → (xs : List X) (ys : List Y) → All P xs → AnyZip Q xs ys → R
AnyZip-of P Q R h [] ys p e = absurd e
AnyZip-of P Q R h (x ∷ xs) [] p e = absurd e
AnyZip-of P Q R h (x ∷ xs) (y ∷ ys) p (inl e) = h x y (All-head P x xs p) e
AnyZip-of P Q R h (x ∷ xs) (y ∷ ys) p (inr e) = AnyZip-of P Q R h xs ys (All-tail P x xs p) e

-- a border leads between zones that are there
leads_over : (along : Along) (n y z : ℕ) (b : Border) (f : ℤ) → IsValidBorder n b → LeadsOver along y z b f → (y < n) × (z < n)
leads_over along n y z b f v (inl l) = (subst (λ (x : ℕ). x < n) l.0 v.from, subst (λ (x : ℕ). x < n) l.1 v.to)
leads_over along n y z b f v (inr l) = (subst (λ (x : ℕ). x < n) l.0 v.to, subst (λ (x : ℕ). x < n) l.1 v.from)

pub leads_within : (along : Along) (m : Market) (a : Activation) (y z : ℕ) → IsValid m → LeadsTo along m.borders a.flow y z → (y < m.zones) × (z < m.zones)
leads_within along m a y z v l = AnyZip-of (IsValidBorder m.zones) (LeadsOver along y z) ((y < m.zones) × (z < m.zones)) (λ b f p k. leads_over along m.zones y z b f p k) m.borders a.flow v.borders l

pub bound_price : (end : End) (os : List Order) (qs : List ℕ) (z : ℕ) (c : ℤ) → All (λ (o : Order). IsPrice o.price.0) os → IsBoundBy end os qs z c → IsPrice c
bound_price end os qs z c p (inl e) = record { low = omega (arith, ints); high = omega (arith, ints) }
bound_price end os qs z c p (inr s) = AnyZip-of (λ (o : Order). IsPrice o.price.0) (SetsAt end z c) (IsPrice c) (λ o q h k. set_price end o.price.0 c h k.price) os qs p s
