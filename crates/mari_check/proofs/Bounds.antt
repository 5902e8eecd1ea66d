-- Bounds of prices by their heights, order by order.
use Rattle.std.proofs.Common.{◌≡◌, ◌⊎◌, ℕ, ◌+◌, ◌<◌, ◌≤◌, ℤ, List, length, take, get_or, arith, sym, subst, inl, inr, [], ◌∷◌, ◌∙◌}
use Rattle.std.specs.List.{All}
use Rattle.std.specs.Prelude.{slice_index}
use Rattle.std.proofs.lemmas.Int.{ints}
use Rattle.std.proofs.lemmas.List.Elements.{All-from_get_or, All-head, All-tail, All-weaker}
use Rattle.mari_market.specs.declared.market.Order.{Order}
use Rattle.mari_market.specs.declared.market.Market.{Market}
use Rattle.mari_market.specs.Market.{IsValid, IsValidOrder}
use Rattle.mari_market.specs.Price.{IsPrice}
use Rattle.mari_market.specs.Sums.{AnyZip}
use Rattle.mari_market.proofs.Sums.{AnyZip_cases, AnyZip_kept, AnyZip_new}
use Rattle.mari_check.specs.declared.ends.End.{End}
use Rattle.mari_check.specs.declared.ends.End.TheVariants.{Greatest, Least}
use Rattle.mari_check.specs.Ends.{AreTightest, IsBoundBy, IsHeight, IsRaised, IsTightestOf, SetsAt}
use Rattle.mari_check.specs.Spread.{AreSmall, most_value}

pub height_most : (end : End) (c : ℤ) (n : ℕ) → IsPrice c → IsHeight end c n → n ≤ most_value
height_most Least c n p h = omega (arith, ints, p.low, p.high, h)
height_most Greatest c n p h = omega (arith, ints, p.low, p.high, h)

-- one more order
pub tightest_more : (end : End) (os : List Order) (qs : List ℕ) (i z : ℕ) (d : Order) (old new : ℕ) → i < length os
    → i < length qs → IsTightestOf end (take i os) (take i qs) z old
    → IsRaised end (get_or os i d) (get_or qs i 0) z old new
    → IsTightestOf end (take (i + 1) os) (take (i + 1) qs) z new
tightest_more end os qs i z d old new h l t r = record { bound = bound r.from; tightest = λ k b. tightest k b }
  where
    lifted : (k : ℕ) → IsBoundBy end (take i os) (take i qs) z k → IsBoundBy end (take (i + 1) os) (take (i + 1) qs) z k
    lifted k (inl e) = inl e
    lifted k (inr a) = inr (AnyZip_kept (SetsAt end z k) os qs i a)

    bound : (new ≡ old) ⊎ SetsAt end z new (get_or os i d) (get_or qs i 0) → IsBoundBy end (take (i + 1) os) (take (i + 1) qs) z new
    bound (inl e) = subst (λ (k : ℕ). IsBoundBy end (take (i + 1) os) (take (i + 1) qs) z k) (sym e) (lifted old t.bound)
    bound (inr s) = inr (AnyZip_new (SetsAt end z new) os qs i d 0 h l s)

    by : (k : ℕ) → AnyZip (SetsAt end z k) (take i os) (take i qs) ⊎ SetsAt end z k (get_or os i d) (get_or qs i 0) → k ≤ new
    by k (inl a) = omega (arith, t.tightest k (inr a), r.kept)
    by k (inr s) = r.met k s

    tightest : (k : ℕ) → IsBoundBy end (take (i + 1) os) (take (i + 1) qs) z k → k ≤ new
    tightest k (inl e) = omega (arith, t.tightest k (inl e), r.kept)
    tightest k (inr a) = by k (AnyZip_cases (SetsAt end z k) os qs i d 0 h l a)

pub all_tightest_more : (end : End) (os : List Order) (qs : List ℕ) (i zones : ℕ) (d : Order) (old new : List ℕ) → i < length os
    → i < length qs → AreTightest end (take i os) (take i qs) zones old → length new ≡ length old
    → ((z : ℕ) → IsRaised end (get_or os i d) (get_or qs i 0) z (slice_index old z) (slice_index new z))
    → AreTightest end (take (i + 1) os) (take (i + 1) qs) zones new
all_tightest_more end os qs i zones d old new h l t long r = record {
  one_each = long ∙ t.one_each;
  each = λ z within. tightest_more end os qs i z d (slice_index old z) (slice_index new z) h l (t.each z within) (r z);
}

set_small : (end : End) (z n : ℕ) (os : List Order) (qs : List ℕ) → All (λ (o : Order). IsPrice o.price.0) os → AnyZip (SetsAt end z n) os qs → n ≤ most_value
set_small end z n (o ∷ os) (q ∷ qs) p (inl s) = height_most end o.price.0 n (All-head (λ (o : Order). IsPrice o.price.0) o os p) s.height
set_small end z n (o ∷ os) (q ∷ qs) p (inr a) = set_small end z n os qs (All-tail (λ (o : Order). IsPrice o.price.0) o os p) a
set_small end z n _ _ p a = absurd a

-- no bound is higher than a price may be
pub bound_small : (end : End) (os : List Order) (qs : List ℕ) (z n : ℕ) → All (λ (o : Order). IsPrice o.price.0) os → IsBoundBy end os qs z n → n ≤ most_value
bound_small end os qs z n p (inl e) = omega (arith, e)
bound_small end os qs z n p (inr a) = set_small end z n os qs p a

-- the tightest bounds of a valid market's orders are small
pub tight_small : (end : End) (m : Market) (qs bounds : List ℕ) → IsValid m → AreTightest end m.orders qs m.zones bounds → AreSmall bounds
tight_small end m qs bounds v t =
    let prices = All-weaker (IsValidOrder m.zones (length m.gates)) (λ (o : Order). IsPrice o.price.0) (λ o h. h.price) m.orders v.orders in
    All-from_get_or (λ (n : ℕ). n ≤ most_value) bounds 0 (λ z l. bound_small end m.orders qs z (get_or bounds z 0) prices (t.each z (omega (arith, l, t.one_each))).bound)
