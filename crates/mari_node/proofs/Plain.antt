-- Bounds of prices by an optimum's orders: those without a gate from ladders, and then those of gates.
use Rattle.std.proofs.Common.{◌≡◌, ◌⊎◌, ◌+◌, false, ℕ, ◌<◌, ◌≤◌, ℤ, pos, neg_ℤ, ◌-ℤ◌, ◌≤ℤ◌, ◌<ℤ◌, Option, Some, None, Bool, List, [], ◌∷◌, ◌++◌, length, take, to_z, of_z, w64, get_or, arith, refl, sym, ap, ◌∙◌, subst, inl, inr}
use Rattle.std.proofs.lemmas.Bool.{cases_lt}
use Rattle.std.proofs.lemmas.Int.{ints, fits_signed_from_abs, to_z-of_z}
use Rattle.std.proofs.lemmas.List.{get_or_append_left, get_or_default, get_or_push}
use Rattle.std.proofs.lemmas.List.Elements.{All-more}
use Rattle.std.specs.Prelude.{is_some}
use Rattle.std.specs.List.{All, AllZip}
use Rattle.mari_units.specs.declared.numbers.TheConstants.{CAP}
use Rattle.mari_market.specs.declared.market.Side.{Side}
use Rattle.mari_market.specs.declared.market.Order.{Order}
use Rattle.mari_market.specs.declared.market.Market.{Market}
use Rattle.mari_market.specs.declared.activation.Activation.{Activation}
use Rattle.mari_market.specs.Bounds.{GateState, span_of}
use Rattle.mari_market.specs.Consistent.{IsConsistentTrade, own_standing}
use Rattle.mari_market.specs.Dual.{IsTightOrder, IsTightTrade}
use Rattle.mari_market.specs.Market.{IsValid}
use Rattle.mari_market.specs.Prefix.{bounds_of_word, state_of}
use Rattle.mari_market.specs.Price.{IsPrice, price_at}
use Rattle.mari_market.specs.Sums.{int_at}
use Rattle.mari_market.proofs.Standings.{plain_consistent}
use Rattle.mari_market.proofs.Sums.{AllZip-at, AnyZip-at, AnyZip-meets}
use Rattle.mari_network.specs.declared.network.Rung.{Rung}
use Rattle.mari_network.specs.declared.optimum.Optimum.{Optimum}
use Rattle.mari_network.specs.Network.{rung_at, no_rung}
use Rattle.mari_network.specs.Orders.{no_order}
use Rattle.mari_network.specs.Solving.{IsWritten}
use Rattle.mari_network.proofs.Written.{some_written}
use Rattle.mari_paths.specs.Starts.{order_at}
use Rattle.mari_paths.specs.Warm.{AreGated, IsOrderLadder, IsPlain}
use Rattle.mari_prices.specs.declared.bounds.End.{End}
use Rattle.mari_prices.specs.declared.bounds.End.TheVariants.{Least, Greatest}
use Rattle.mari_prices.specs.Tightest.{AreTightest, IsBoundBy, IsRaised, IsTightest, SetsAt, signed}
use Rattle.mari_node.specs.Nodes.{IsRelaxedOptimum}
use Rattle.mari_node.specs.Plain.{ArePlainBounds, ArePlainKept, IsNoLooser, IsPlainBound, SetsPlainly, SetsThere}
use Rattle.mari_node.specs.Running.{quantity_at}
use Rattle.mari_node.proofs.Gated.{written_long, written_quantity, zip_by_gated}

-- ---- potentials keep what orders without a gate set

kept_by : (state : ℕ → GateState) (gate : Option ℕ) (side : Side) (c p : ℤ) (o : Order) (q : ℕ) → is_some gate ≡ false
    → IsTightTrade side c p (span_of state gate o) q → IsConsistentTrade (own_standing gate q) side c o.greatest q p
kept_by state None side c p o q none t = plain_consistent side c p o.greatest q t
kept_by state (Some g) side c p o q none t = absurd (cc)

pub plain_kept : (m : Market) (word : List Bool) (o : Optimum) → IsRelaxedOptimum m word o → ArePlainKept m o
plain_kept m word o h k plain =
    let some = some_written m o h.fits in
    let a = some.0 in
    let order = order_at m k in
    let state = state_of m.gates word in
    let p = price_at o.potentials.cents order.zone in
    let at = AllZip-at (IsTightOrder (bounds_of_word m word) o.potentials.cents) m.orders a.mw k no_order 0 plain.0 (h.solution a some.1).tight.orders in
    let here = subst (IsTightTrade order.side order.price.0 p (span_of state order.gate order)) (sym (written_quantity m o a k some.1 plain.0)) at in
    kept_by state order.gate order.side order.price.0 p order (quantity_at o k) plain.1 here

-- ---- rungs of a ladder

-- where an order of the zone without a gate that sets a bound stands
record IsSetAt (end : End) (m : Market) (o : Optimum) (ladder : List Rung) (d : ℤ) : Type 0 where
  at : ℕ
  there : at < length ladder
  sets : SetsPlainly end m o (rung_at ladder at).place
  price : signed end (rung_at ladder at).price ≡ d

set_at : (end : End) (m : Market) (o : Optimum) (z : ℕ) (ladder : List Rung) (k : ℕ) (d : ℤ) → IsOrderLadder m z ladder → IsPlain m k → SetsThere end m o z d k → IsSetAt end m o ladder d
set_at end m o z ladder k d l plain s =
    let rung : Rung = record { price = (order_at m k).price.0; place = k } in
    let j = l.all k plain.0 s.zone in
    let same : rung_at ladder j.0 ≡ rung = get_or_default ladder j.0 no_rung rung j.1 ∙ j.2 in
    record {
      at = j.0;
      there = j.1;
      sets = subst (SetsPlainly end m o) (sym (ap (λ (r : Rung). r.place) same)) (record { none = plain.1; sets = s.sets });
      price = ap (λ (r : Rung). signed end r.price) same ∙ s.price;
    }

within_cap : (end : End) (c : ℤ) → IsPrice c → neg_ℤ CAP ≤ℤ signed end c
within_cap Least c p = p.low
within_cap Greatest c p = omega (arith, ints, p.high)

pub rung_price : (m : Market) (z : ℕ) (ladder : List Rung) (j : ℕ) → IsValid m → IsOrderLadder m z ladder → j < length ladder → IsPrice (rung_at ladder j).price
rung_price m z ladder j v l b =
    let k = (rung_at ladder j).place in
    subst IsPrice (sym (l.price j no_rung b)) ((v.orders k no_order (l.there j no_rung b)).price)

-- a rung that sets a bound, where no tighter one does
pub bound_at : (end : End) (m : Market) (o : Optimum) (z : ℕ) (ladder : List Rung) (at : ℕ) → IsValid m → IsOrderLadder m z ladder → at < length ladder
    → SetsPlainly end m o (rung_at ladder at).place
    → ((j : ℕ) → j < length ladder → SetsPlainly end m o (rung_at ladder j).place → signed end (rung_at ladder j).price ≤ℤ signed end (rung_at ladder at).price)
    → IsPlainBound end m o z (signed end (rung_at ladder at).price)
bound_at end m o z ladder at v l b s tightest = record {
  bound = inr ((rung_at ladder at).place, l.there at no_rung b, record { zone = l.zone at no_rung b; price = ap (signed end) (sym (l.price at no_rung b)); sets = s.sets });
  capped = within_cap end (rung_at ladder at).price (rung_price m z ladder at v l b);
  plain = λ k plain d sets. let i = set_at end m o z ladder k d l plain sets in subst (λ (c : ℤ). c ≤ℤ signed end (rung_at ladder at).price) i.price (tightest i.at i.there i.sets);
}

-- where no rung sets one
pub no_bound : (end : End) (m : Market) (o : Optimum) (z : ℕ) (ladder : List Rung) → IsOrderLadder m z ladder
    → ((j : ℕ) → j < length ladder → SetsPlainly end m o (rung_at ladder j).place → ⊥) → IsPlainBound end m o z (neg_ℤ CAP)
no_bound end m o z ladder l none = record {
  bound = inl refl;
  capped = omega (arith, ints);
  plain = λ k plain d sets. let i = set_at end m o z ladder k d l plain sets in absurd (none i.at i.there i.sets);
}

pub not_above : (a j : ℕ) → (a ≤ j → ⊥) → j < a
not_above a j h = elim (cases_lt j a) [
  | inl l ↦ l
  | inr g ↦ absurd (h g)
]

pub not_below : (j a : ℕ) → (j < a → ⊥) → a ≤ j
not_below j a h = elim (cases_lt j a) [
  | inl l ↦ absurd (h l)
  | inr g ↦ g
]

-- a price, and one with its sign turned, as 64 bits have them
pub price_read : (c : ℤ) → IsPrice c → to_z w64 (of_z w64 c) ≡ c
price_read c p = to_z-of_z w64 c (fits_signed_from_abs w64 c (omega (arith, ints, p.low, p.high)))

pub negated_read : (c : ℤ) → IsPrice c → to_z w64 (of_z w64 (pos 0 -ℤ to_z w64 (of_z w64 c))) ≡ neg_ℤ c
negated_read c p =
    let read = price_read c p in
    let turned : pos 0 -ℤ to_z w64 (of_z w64 c) ≡ neg_ℤ c = omega (arith, ints, read) in
    ap (λ (v : ℤ). to_z w64 (of_z w64 v)) turned ∙ to_z-of_z w64 (neg_ℤ c) (fits_signed_from_abs w64 (neg_ℤ c) (omega (arith, ints, p.low, p.high)))

-- one zone's bound more
pub bounds_push : (end : End) (m : Market) (o : Optimum) (n : ℕ) (old new : List ℤ) (read c : ℤ) → length old ≡ n → new ≡ old ++ read ∷ [] → read ≡ c
    → ((z : ℕ) → z < n → IsPlainBound end m o z (int_at old z)) → IsPlainBound end m o n c → (z : ℕ) → z < n + 1 → IsPlainBound end m o z (int_at new z)
bounds_push end m o n old new read c long e r before here z l = elim (cases_lt z n) [
  | inl less ↦ subst (IsPlainBound end m o z) (sym (ap (λ (vs : List ℤ). int_at vs z) e ∙ get_or_append_left old (read ∷ []) (pos 0) z (omega (arith, less, long)))) (before z less)
  | inr last ↦
      let at : z ≡ n = omega arith in
      let same : int_at new n ≡ c = ap (λ (vs : List ℤ). int_at vs n) e ∙ get_or_push old read (pos 0) n long ∙ r in
      subst (λ (k : ℕ). IsPlainBound end m o k (int_at new k)) (sym at) (subst (IsPlainBound end m o n) (sym same) here)
]

-- ---- orders of gates

-- bounds by the orders without a gate, no looser than what the orders at these places set
pub record AreBoundsOver (end : End) (m : Market) (o : Optimum) (places : List ℕ) (bounds : List ℤ) : Type 0 where
  pub plain : ArePlainBounds end m o bounds
  pub gated : (z : ℕ) → z < m.zones → All (IsNoLooser end m o z (int_at bounds z)) places

raised_plain : (end : End) (m : Market) (o : Optimum) (z k : ℕ) (old new : ℤ) → k < length m.orders → IsPlainBound end m o z old → IsRaised end (order_at m k) (quantity_at o k) z old new
    → IsPlainBound end m o z new
raised_plain end m o z k old new l p r = record {
  bound = by_from r.from;
  capped = omega (arith, ints, p.capped, r.kept);
  plain = λ i plain d s. omega (arith, ints, p.plain i plain d s, r.kept);
}
  where
    by_from : (new ≡ old) ⊎ SetsAt end z new (order_at m k) (quantity_at o k) → (new ≡ neg_ℤ CAP) ⊎ ((i : ℕ) × (i < length m.orders) × SetsThere end m o z new i)
    by_from (inl e) = subst (λ (c : ℤ). (c ≡ neg_ℤ CAP) ⊎ ((i : ℕ) × (i < length m.orders) × SetsThere end m o z c i)) (sym e) p.bound
    by_from (inr s) = inr (k, l, s)

-- one more order of a gate
pub bounds_more : (end : End) (m : Market) (o : Optimum) (places : List ℕ) (i : ℕ) (old new : List ℤ) → i < length places → get_or places i 0 < length m.orders
    → AreBoundsOver end m o (take i places) old → length new ≡ length old
    → ((z : ℕ) → IsRaised end (order_at m (get_or places i 0)) (quantity_at o (get_or places i 0)) z (int_at old z) (int_at new z))
    → AreBoundsOver end m o (take (i + 1) places) new
bounds_more end m o places i old new l there h long r = record {
  plain = record { one_each = long ∙ h.plain.one_each; each = λ z b. raised_plain end m o z (get_or places i 0) (int_at old z) (int_at new z) there (h.plain.each z b) (r z) };
  gated = λ z b. All-more (IsNoLooser end m o z (int_at new z)) places i 0 l
      (λ j d k e s. let low = h.gated z b j d k e s in let up = (r z).kept in omega (arith, ints)) (r z).met;
}

-- the tightest bounds of the activation that the optimum is written as
pub tightest_over : (end : End) (m : Market) (o : Optimum) (a : Activation) (gated : List ℕ) (bounds : List ℤ) → IsWritten m o a → AreGated m gated
    → AreBoundsOver end m o gated bounds → AreTightest end m.orders a.mw m.zones bounds
tightest_over end m o a gated bounds w g h = record { one_each = h.plain.one_each; tightest = λ z b. tightest z b (h.plain.each z b) }
  where
    set_by : (z : ℕ) (c : ℤ) → (c ≡ neg_ℤ CAP) ⊎ ((k : ℕ) × (k < length m.orders) × SetsThere end m o z c k) → IsBoundBy end m.orders a.mw z c
    set_by z c (inl e) = inl e
    set_by z c (inr s) =
        inr (AnyZip-at (SetsAt end z c) m.orders a.mw s.0 no_order 0 s.1 (omega (arith, written_long m o a w, s.1)) (subst (SetsAt end z c (order_at m s.0)) (written_quantity m o a s.0 w s.1) s.2))

    no_looser : (z : ℕ) → z < m.zones → IsPlainBound end m o z (int_at bounds z) → AllZip (λ order q. (d : ℤ) → SetsAt end z d order q → d ≤ℤ int_at bounds z) m.orders a.mw
    no_looser z b p = zip_by_gated m o a gated (λ order q. (d : ℤ) → SetsAt end z d order q → d ≤ℤ int_at bounds z) w g (h.gated z b) (λ k l none. p.plain k (l, none))

    below : (z : ℕ) (d : ℤ) → z < m.zones → IsPlainBound end m o z (int_at bounds z) → IsBoundBy end m.orders a.mw z d → d ≤ℤ int_at bounds z
    below z d b p (inl e) = omega (arith, ints, p.capped)
    below z d b p (inr s) =
        AnyZip-meets (λ order q. (c : ℤ) → SetsAt end z c order q → c ≤ℤ int_at bounds z) (SetsAt end z d) (d ≤ℤ int_at bounds z) (λ order q f t. f d t) m.orders a.mw (no_looser z b p) s

    tightest : (z : ℕ) → z < m.zones → IsPlainBound end m o z (int_at bounds z) → IsTightest end m.orders a.mw z (int_at bounds z)
    tightest z b p = record { bound = set_by z (int_at bounds z) p.bound; tightest = λ d s. below z d b p s }
