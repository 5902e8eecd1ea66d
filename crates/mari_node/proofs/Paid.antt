-- Where no order of a gate loses at tight potentials, they are consistent with a feasible activation.
use Rattle.std.proofs.Common.{◌≡◌, if◌then◌else◌, Bool, true, false, ℕ, ◌<◌, ◌≤◌, ℤ, Option, Some, None, List, length, get_or, arith, refl, sym, ap, ◌∙◌, subst, to_z, of_z, w64}
use Rattle.std.proofs.lemmas.Int.{ints, fits_signed_from_abs, to_z-of_z}
use Rattle.std.specs.Prelude.{is_some, MatchOption}
use Rattle.std.specs.List.{All, AllZip}
use Rattle.mari_units.specs.declared.Cents.{Cents}
use Rattle.mari_market.specs.declared.market.Side.{Side}
use Rattle.mari_market.specs.declared.market.Side.TheVariants.{Inject, Withdraw}
use Rattle.mari_market.specs.declared.market.Order.{Order}
use Rattle.mari_market.specs.declared.market.Market.{Market}
use Rattle.mari_market.specs.declared.price_rules.Standing.TheVariants.{InOpen, InClosed}
use Rattle.mari_market.specs.declared.activation.Activation.{Activation}
use Rattle.mari_market.specs.Activation.{is_open, put_in}
use Rattle.mari_market.specs.Bounds.{IsWithin, GateState, gated_span, own_bounds, span_of}
use Rattle.mari_market.specs.Bounds.GateState.{Open, Closed, Free}
use Rattle.mari_market.specs.Consistent.{IsConsistentOrder, IsConsistentTrade, standing_of}
use Rattle.mari_market.specs.Dual.{IsTightOrder, IsTightTrade}
use Rattle.mari_market.specs.Market.{IsValid, IsValidOrder}
use Rattle.mari_market.specs.Optimal.{IsAdmissible, IsFeasible}
use Rattle.mari_market.specs.Prefix.{bounds_of_word, state_of}
use Rattle.mari_market.specs.Price.{price_at}
use Rattle.mari_market.specs.Sums.{int_at}
use Rattle.mari_market.proofs.Standings.{plain_consistent}
use Rattle.mari_market.proofs.Sums.{AllZip-both, AllZip-with}
use Rattle.mari_network.specs.declared.optimum.Optimum.{Optimum}
use Rattle.mari_network.specs.Orders.{no_order}
use Rattle.mari_network.specs.Solving.{FitsOrders, IsSolution, IsWritten}
use Rattle.mari_paths.specs.Starts.{order_at}
use Rattle.mari_paths.specs.Warm.{AreGated}
use Rattle.mari_node.specs.Paid.{IsPaid, IsPaidAt}
use Rattle.mari_node.proofs.Gated.{quantity_small, written_put, written_quantity, zip_by_gated}

-- ---- one order

-- an order of an open gate that runs
open_consistent : (s : GateState) (side : Side) (c p : ℤ) (o : Order) (q : ℕ) → 0 < q → IsWithin (gated_span s o) q
    → IsTightTrade side c p (gated_span s o) q → IsPaid c p (put_in side q) → IsConsistentTrade InOpen side c o.greatest q p
open_consistent Open Inject c p o q r w t h = record { lower = λ l. h.gives (omega (arith, ints)); upper = t.1 }
open_consistent Free Inject c p o q r w t h = record { lower = λ l. h.gives (omega (arith, ints)); upper = t.1 }
open_consistent Open Withdraw c p o q r w t h = record { lower = t.1; upper = λ l. h.takes (omega (arith, ints)) }
open_consistent Free Withdraw c p o q r w t h = record { lower = t.1; upper = λ l. h.takes (omega (arith, ints)) }
open_consistent Closed side c p o q r w t h = let most = w.most in absurd (omega arith)

-- an order of a gate that is open or closed
gated_consistent : (b : Bool) (s : GateState) (side : Side) (c p : ℤ) (o : Order) (q : ℕ) → 1 ≤ o.least
    → IsWithin (gated_span s o) q → IsWithin (gated_span (if b then Open else Closed) o) q
    → IsTightTrade side c p (gated_span s o) q → IsPaid c p (put_in side q)
    → IsConsistentTrade (if b then InOpen else InClosed) side c o.greatest q p
gated_consistent true s side c p o q l w own t h = let least = own.least in open_consistent s side c p o q (omega arith) w t h
gated_consistent false s side c p o q l w own t h = record { lower = λ l. absurd l; upper = λ l. absurd l }

order_consistent : (n : ℕ) (state : ℕ → GateState) (opens : ℕ → Bool) (gate : Option ℕ) (side : Side) (c p : ℤ) (o : Order) (q : ℕ)
    → MatchOption gate (o.least ≡ 0) (λ g. (g < n) × (1 ≤ o.least)) → IsWithin (span_of state gate o) q
    → IsWithin (span_of (λ g. if opens g then Open else Closed) gate o) q → IsTightTrade side c p (span_of state gate o) q
    → (is_some gate ≡ true → IsPaid c p (put_in side q)) → IsConsistentTrade (standing_of opens gate) side c o.greatest q p
order_consistent n state opens None side c p o q v w own t h = plain_consistent side c p o.greatest q t
order_consistent n state opens (Some g) side c p o q v w own t h = gated_consistent (opens g) (state g) side c p o q v.1 w own t (h refl)

-- ---- all orders

-- an order of a gate doesn't lose at the prices
abbrev IsPaidOrder : List Cents → Order → ℕ → Type 0
IsPaidOrder ps o q = is_some o.gate ≡ true → IsPaid o.price.0 (price_at ps o.zone) (put_in o.side q)

all_paid : (m : Market) (o : Optimum) (a : Activation) (gated : List ℕ) → AreGated m gated → IsWritten m o a → All (IsPaidAt m o) gated → AllZip (IsPaidOrder o.potentials.cents) m.orders a.mw
all_paid m o a gated at w paid = zip_by_gated m o a gated (IsPaidOrder o.potentials.cents) w at (λ j d l some.
    let k = get_or gated j d in
    let there = at.there j d l in
    subst (IsPaid (order_at m k).price.0 (price_at o.potentials.cents (order_at m k).zone)) (written_put m o a k w there ∙ ap (put_in (order_at m k).side) (sym (written_quantity m o a k w there)))
    (paid j d l)) (λ k l none some. absurd (cc))

-- what is known of an order at a prefix
record IsKnown (m : Market) (word : List Bool) (a : Activation) (ps : List Cents) (o : Order) (q : ℕ) : Type 0 where
  valid : IsValidOrder m.zones (length m.gates) o
  within : IsWithin (bounds_of_word m word o) q
  own : IsWithin (own_bounds m a o) q

known : (m : Market) (word : List Bool) (a : Activation) (ps : List Cents) → IsValid m → AllZip (λ o q. IsWithin (bounds_of_word m word o) q) m.orders a.mw → IsFeasible m a
    → AllZip (IsKnown m word a ps) m.orders a.mw
known m word a ps v w f =
    AllZip-both (λ o q. IsValidOrder m.zones (length m.gates) o × IsWithin (bounds_of_word m word o) q) (λ o q. IsWithin (own_bounds m a o) q) (IsKnown m word a ps)
    (λ o q h own. record { valid = h.0; within = h.1; own = own }) m.orders a.mw (AllZip-with _ _ m.orders a.mw v.orders w) f.orders

-- potentials that are tight within a word's bounds are consistent with what is feasible there, where no order of a gate loses
pub paid_consistent : (m : Market) (word : List Bool) (o : Optimum) (a : Activation) (gated : List ℕ) → IsValid m → AreGated m gated → IsWritten m o a → IsFeasible m a
    → IsSolution (bounds_of_word m word) m (record { activation = a; potentials = o.potentials; welfare = o.welfare })
    → All (IsPaidAt m o) gated → IsAdmissible m a
paid_consistent m word o a gated v at w f s paid =
    let ps = o.potentials.cents in
    let held : AllZip (λ (o : Order) (q : ℕ). IsKnown m word a ps o q × IsPaidOrder ps o q) m.orders a.mw =
    AllZip-both (IsKnown m word a ps) (IsPaidOrder ps) (λ (o : Order) (q : ℕ). IsKnown m word a ps o q × IsPaidOrder ps o q) (λ o q k h. (k, h)) m.orders a.mw (known m word a ps v s.within.orders f)
    (all_paid m o a gated at w paid) in
    record {
      feasible = f;
      consistent = (
        ps,
        record {
          prices = s.potentials;
          orders =
              AllZip-both (λ (o : Order) (q : ℕ). IsKnown m word a ps o q × IsPaidOrder ps o q) (IsTightOrder (bounds_of_word m word) ps) (IsConsistentOrder (is_open m a) ps)
              (λ o q h t. order_consistent (length m.gates) (state_of m.gates word) (is_open m a) o.gate o.side o.price.0 (price_at ps o.zone) o q h.0.valid.gate h.0.within h.0.own t h.1) m.orders
              a.mw held s.tight.orders;
          borders = s.tight.borders;
        },
      );
    }

-- ---- as the code reads a place

-- an amount of an order, as 64 bits have it
amount_read : (m : Market) (o : Optimum) (k : ℕ) → FitsOrders m o → k < length m.orders → to_z w64 (of_z w64 (int_at o.amounts.items k)) ≡ int_at o.amounts.items k
amount_read m o k f l =
    let little = quantity_small m o k f l in
    to_z-of_z w64 (int_at o.amounts.items k) (fits_signed_from_abs w64 (int_at o.amounts.items k) (omega arith))

pub paid_read : (m : Market) (o : Optimum) (k : ℕ) (os : List Order) (xs : List ℤ) (ps : List Cents) → FitsOrders m o → k < length m.orders
    → os ≡ m.orders → xs ≡ o.amounts.items → ps ≡ o.potentials.cents
    → IsPaid (get_or os k no_order).price.0 (price_at ps (get_or os k no_order).zone) (to_z w64 (of_z w64 (int_at xs k)))
    → IsPaidAt m o k
paid_read m o k os xs ps f l orders amounts potentials h =
    let first = subst (λ (os : List Order). IsPaid (get_or os k no_order).price.0 (price_at ps (get_or os k no_order).zone) (to_z w64 (of_z w64 (int_at xs k)))) orders h in
    let second = subst (λ (xs : List ℤ). IsPaid (order_at m k).price.0 (price_at ps (order_at m k).zone) (to_z w64 (of_z w64 (int_at xs k)))) amounts first in
    let third = subst (λ (ps : List Cents). IsPaid (order_at m k).price.0 (price_at ps (order_at m k).zone) (to_z w64 (of_z w64 (int_at o.amounts.items k)))) potentials second in
    subst (IsPaid (order_at m k).price.0 (price_at o.potentials.cents (order_at m k).zone)) (amount_read m o k f l) third
