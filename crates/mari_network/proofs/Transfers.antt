-- What is tight for the slots is tight for the orders.
use Rattle.std.proofs.Common.{◌≡◌, ◌==◌, if◌then◌else◌, ℕ, ◌<◌, ◌≤◌, ℤ, pos, neg_ℤ, unsigned_abs, ◌*ℤ◌, ◌≤ℤ◌, ◌<ℤ◌, List, [], ◌∷◌, length, arith, refl, sym, ap, ◌∙◌, subst, get_or, suc, map}
use Rattle.std.proofs.lemmas.Int.{ints, clamps}
use Rattle.std.specs.List.{All, AllZip}
use Rattle.std.proofs.lemmas.List.Elements.{All-head, All-tail}
use Rattle.mari_units.specs.declared.Cents.{Cents}
use Rattle.mari_units.specs.declared.limits.TheConstants.{MOST_MW}
use Rattle.mari_market.specs.declared.market.Side.{Side}
use Rattle.mari_market.specs.declared.market.Side.TheVariants.{Inject, Withdraw}
use Rattle.mari_market.specs.declared.market.Order.{Order}
use Rattle.mari_market.specs.declared.market.Border.{Border}
use Rattle.mari_market.specs.declared.market.Market.{Market}
use Rattle.mari_market.specs.declared.activation.Activation.{Activation}
use Rattle.mari_market.specs.Sums.{sum_along}
use Rattle.mari_market.specs.Activation.{put_in, gain, order_gain, put_into, carried_out, IsWithinLimits, welfare_of}
use Rattle.mari_market.specs.Bounds.{Span, IsWithin}
use Rattle.mari_market.specs.Consistent.{IsConsistentBorder, IsConsistentFlow}
use Rattle.mari_market.specs.Dual.{dual_value_of, IsTightTrade, IsTightOrder, IsTight}
use Rattle.mari_market.specs.Market.{IsValid, IsValidOrder, IsValidBorder}
use Rattle.mari_market.specs.Price.{price_at, IsPrice}
use Rattle.mari_market.specs.Relaxation.{IsWithinBounds, IsRelaxed}
use Rattle.mari_market.specs.Cut.{least_put, most_put}
use Rattle.std.proofs.lemmas.List.{length-map, get_or-map}
use Rattle.mari_market.proofs.Duality.{weak_duality}
use Rattle.mari_market.proofs.Tight.{tight_is_equal}
use Rattle.mari_network.specs.Slots.{slot_into, IsWithinSlot, IsTightSlot}
use Rattle.mari_network.specs.Orders.{amount_gain, slots_of, ArePuts, CanPut, capped, capped_cents}

trade_within : (side : Side) (s : Span) (q : ℕ) → least_put side s ≤ℤ put_in side q → put_in side q ≤ℤ most_put side s → IsWithin s q
trade_within side s q l h = grind arith

trade_tight : (side : Side) (c p : ℤ) (s : Span) (q : ℕ) → IsPrice c → (least_put side s <ℤ put_in side q → c ≤ℤ p) → (put_in side q <ℤ most_put side s → p ≤ℤ c) → IsTightTrade side c (capped p) s q
trade_tight Inject c p s q i l h = (λ r. omega (arith, ints, clamps, i.low, i.high, l (omega (arith, ints, r))), λ r. omega (arith, ints, clamps, i.low, i.high, h (omega (arith, ints, r))))
trade_tight Withdraw c p s q i l h = (λ r. omega (arith, ints, clamps, i.low, i.high, h (omega (arith, ints, r))), λ r. omega (arith, ints, clamps, i.low, i.high, l (omega (arith, ints, r))))

pub orders_within : (bounds : Order → Span) (os : List Order) (xs : List ℤ) (qs : List ℕ) → ArePuts os xs qs → AllZip IsWithinSlot (slots_of bounds os) xs → AllZip (λ o q. IsWithin (bounds o) q) os qs
orders_within bounds [] [] [] r w = tt
orders_within bounds (o ∷ os) (x ∷ xs) (q ∷ qs) r w = (
  trade_within o.side (bounds o) q (subst (λ (v : ℤ). least_put o.side (bounds o) ≤ℤ v) r.0 w.0.least) (subst (λ (v : ℤ). v ≤ℤ most_put o.side (bounds o)) r.0 w.0.most),
  orders_within bounds os xs qs r.1 w.1,
)
orders_within bounds _ _ _ r w = absurd r

pub orders_tight : (bounds : Order → Span) (n gates : ℕ) (p : ℕ → ℤ) (ps : List Cents) (os : List Order) (xs : List ℤ) (qs : List ℕ)
    → ((z : ℕ) → z < n → price_at ps z ≡ capped (p z)) → All (IsValidOrder n gates) os → ArePuts os xs qs
    → AllZip (IsTightSlot p) (slots_of bounds os) xs → AllZip (IsTightOrder bounds ps) os qs
orders_tight bounds n gates p ps [] [] [] e v r t = tt
orders_tight bounds n gates p ps (o ∷ os) (x ∷ xs) (q ∷ qs) e v r t =
    let o_valid = All-head (IsValidOrder n gates) o os v in (
      subst (λ (c : ℤ). IsTightTrade o.side o.price.0 c (bounds o) q) (sym (e o.zone o_valid.zone))
          (trade_tight o.side o.price.0 (p o.zone) (bounds o) q o_valid.price (subst (λ (v : ℤ). least_put o.side (bounds o) <ℤ v → o.price.0 ≤ℤ p o.zone) r.0 t.0.less)
          (subst (λ (v : ℤ). v <ℤ most_put o.side (bounds o) → p o.zone ≤ℤ o.price.0) r.0 t.0.more)),
      orders_tight bounds n gates p ps os xs qs e (All-tail (IsValidOrder n gates) o os v) r.1 t.1,
    )
orders_tight bounds n gates p ps _ _ _ e v r t = absurd r

pub orders_into : (z : ℕ) (bounds : Order → Span) (os : List Order) (xs : List ℤ) (qs : List ℕ) → ArePuts os xs qs → sum_along (put_into z) os qs ≡ sum_along (slot_into z) (slots_of bounds os) xs
orders_into z bounds (o ∷ os) (x ∷ xs) (q ∷ qs) r = omega (arith, ints, orders_into z bounds os xs qs r.1, ap (λ (v : ℤ). if o.zone == z then v else pos 0) r.0)
orders_into z bounds _ _ _ r = grind arith

flow_tight : (pa pb ca cb f : ℤ) (limit back : ℕ) → ca ≡ capped pa → cb ≡ capped pb → (f <ℤ pos limit → pb ≤ℤ pa)
    → (neg_ℤ (pos back) <ℤ f → pa ≤ℤ pb) → (f <ℤ pos limit → cb ≤ℤ ca) × (neg_ℤ (pos back) <ℤ f → ca ≤ℤ cb)
flow_tight pa pb ca cb f limit back a b more less = (λ r. omega (arith, ints, clamps, a, b, more r), λ r. omega (arith, ints, clamps, a, b, less r))

pub flows_tight : (n : ℕ) (p : ℕ → ℤ) (ps : List Cents) (bs : List Border) (fs : List ℤ)
    → ((z : ℕ) → z < n → price_at ps z ≡ capped (p z)) → All (IsValidBorder n) bs → AllZip (IsConsistentFlow p) bs fs
    → AllZip (IsConsistentBorder ps) bs fs
flows_tight n p ps (b ∷ bs) (f ∷ fs) e v t =
    let b_valid = All-head (IsValidBorder n) b bs v in
    let both = flow_tight (p b.from) (p b.to) (price_at ps b.from) (price_at ps b.to) f b.limit b.back (e b.from b_valid.from) (e b.to b_valid.to) t.0.more t.0.less in
    (record { more = both.0; less = both.1 }, flows_tight n p ps bs fs e (All-tail (IsValidBorder n) b bs v) t.1)
flows_tight n p ps _ _ e v t = grind arith

-- an activation that is the relaxed optimum, with potentials that are tight for it
pub record IsBest (bounds : Order → Span) (m : Market) (a : Activation) (ps : List Cents) : Type 0 where
  pub within : IsWithinBounds bounds m a
  pub relaxed : IsRelaxed bounds m (welfare_of m a)
  pub dual : dual_value_of bounds m ps ≡ welfare_of m a
  pub tight : IsTight bounds m a ps

-- the orders' part of slots in balance
pub best_from : (bounds : Order → Span) (m : Market) (a : Activation) (ps : List Cents) (p : ℕ → ℤ) (xs : List ℤ) → IsValid m
    → ArePuts m.orders xs a.mw → ((z : ℕ) → z < m.zones → price_at ps z ≡ capped (p z))
    → AllZip IsWithinSlot (slots_of bounds m.orders) xs → AllZip IsWithinLimits m.borders a.flow
    → ((z : ℕ) → z < m.zones → sum_along (slot_into z) (slots_of bounds m.orders) xs ≡ sum_along (carried_out z) m.borders a.flow)
    → AllZip (IsTightSlot p) (slots_of bounds m.orders) xs → AllZip (IsConsistentFlow p) m.borders a.flow
    → IsBest bounds m a ps
best_from bounds m a ps p xs v puts prices within limits balance slots flows =
    let in_bounds : IsWithinBounds bounds m a = record {
      orders = orders_within bounds m.orders xs a.mw puts within;
      borders = limits;
      balance = λ z l. orders_into z bounds m.orders xs a.mw puts ∙ balance z l;
    } in
    let all_tight : IsTight bounds m a ps = record {
      orders = orders_tight bounds m.zones (length m.gates) p ps m.orders xs a.mw prices v.orders puts slots;
      borders = flows_tight m.zones p ps m.borders a.flow prices v.borders flows;
    } in
    let equal = tight_is_equal bounds m a ps v in_bounds all_tight in
    record {
      within = in_bounds;
      relaxed = record { reached = (a, in_bounds, refl); greatest = λ b w. subst (λ (x : ℤ). welfare_of m b ≤ℤ x) (sym equal) (weak_duality bounds m b ps v w) };
      dual = sym equal;
      tight = all_tight;
    }

-- an amount is what its size puts in
size_put : (side : Side) (x : ℤ) → CanPut side x → x ≡ put_in side (unsigned_abs x)
size_put side x can = grind (arith, ints)

pub sizes_put : (os : List Order) (xs : List ℤ) → AllZip (λ o x. CanPut o.side x) os xs → ArePuts os xs (map unsigned_abs xs)
sizes_put (o ∷ os) (x ∷ xs) a = (size_put o.side x a.0, sizes_put os xs a.1)
sizes_put _ _ a = grind arith

pub sizes_small : (os : List Order) (xs : List ℤ) → AllZip (λ o x. CanPut o.side x) os xs → (k : ℕ) (d : ℤ) → k < length xs → unsigned_abs (get_or xs k d) ≤ MOST_MW
sizes_small (o ∷ os) (x ∷ xs) a (suc k) d l = sizes_small os xs a.1 k d (omega arith)
sizes_small _ _ a _ d l = grind arith

-- the amounts are worth what the quantities are
trade_gain : (side : Side) (c x : ℤ) (q : ℕ) → x ≡ put_in side q → neg_ℤ (c *ℤ x) ≡ gain side c q
trade_gain side c x q e = grind (arith, ints)

pub puts_gain : (os : List Order) (xs : List ℤ) (qs : List ℕ) → ArePuts os xs qs → sum_along amount_gain os xs ≡ sum_along order_gain os qs
puts_gain (o ∷ os) (x ∷ xs) (q ∷ qs) r = omega (arith, ints, puts_gain os xs qs r.1, trade_gain o.side o.price.0 x q r.0)
puts_gain _ _ _ r = grind arith

-- prices within the cap
pub capped_prices : (prices : List ℤ) → All (λ (c : Cents). IsPrice c.0) (map capped_cents prices)
capped_prices prices = λ k d l.
    let there : k < length prices = omega (arith, length-map prices capped_cents, l) in
    subst (λ (c : Cents). IsPrice c.0) (sym (get_or-map capped_cents prices k (pos 0) d there)) (record { low = omega (arith, ints, clamps); high = omega (arith, ints, clamps) })
