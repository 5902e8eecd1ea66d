-- Bounds of prices, order by order.
use Rattle.std.proofs.Common.{◌≡◌, ◌⊎◌, ℕ, ◌+◌, ◌<◌, ℤ, pos, ◌≤ℤ◌, List, length, take, get_or, arith, refl, sym, set, subst, inl, inr, get_or-set_same, get_or-set_other, ◌∙◌}
use Rattle.std.proofs.lemmas.Int.{ints, clamps, by_lt_z}
use Rattle.std.specs.Int.{int_max}
use Rattle.std.proofs.lemmas.Bool.{cases_eq}
use Rattle.mari_market.specs.declared.market.Order.{Order}
use Rattle.mari_market.specs.Sums.{AnyZip, int_at}
use Rattle.mari_prices.specs.declared.bounds.End.{End}
use Rattle.mari_prices.specs.Tightest.{AreTightest, SetsAt, SetsAtEnd, IsBoundBy, IsTightest, IsRaised, signed}
use Rattle.mari_market.specs.Consistent.{own_standing}
use Rattle.mari_market.proofs.Sums.{AnyZip_cases, AnyZip_kept, AnyZip_new}

-- one more order
tightest_more : (end : End) (os : List Order) (qs : List ℕ) (i z : ℕ) (d : Order) (old new : ℤ) → i < length os
    → i < length qs → IsTightest end (take i os) (take i qs) z old
    → IsRaised end (get_or os i d) (get_or qs i 0) z old new
    → IsTightest end (take (i + 1) os) (take (i + 1) qs) z new
tightest_more end os qs i z d old new h l t r = record { bound = bound r.from; tightest = λ c b. tightest c b }
  where
    lifted : (c : ℤ) → IsBoundBy end (take i os) (take i qs) z c → IsBoundBy end (take (i + 1) os) (take (i + 1) qs) z c
    lifted c (inl e) = inl e
    lifted c (inr a) = inr (AnyZip_kept (SetsAt end z c) os qs i a)

    bound : (new ≡ old) ⊎ SetsAt end z new (get_or os i d) (get_or qs i 0) → IsBoundBy end (take (i + 1) os) (take (i + 1) qs) z new
    bound (inl e) = subst (λ (c : ℤ). IsBoundBy end (take (i + 1) os) (take (i + 1) qs) z c) (sym e) (lifted old t.bound)
    bound (inr s) = inr (AnyZip_new (SetsAt end z new) os qs i d 0 h l s)

    by : (c : ℤ) → AnyZip (SetsAt end z c) (take i os) (take i qs) ⊎ SetsAt end z c (get_or os i d) (get_or qs i 0) → c ≤ℤ new
    by c (inl a) = omega (arith, ints, t.tightest c (inr a), r.kept)
    by c (inr s) = r.met c s

    tightest : (c : ℤ) → IsBoundBy end (take (i + 1) os) (take (i + 1) qs) z c → c ≤ℤ new
    tightest c (inl e) = omega (arith, ints, t.tightest c (inl e), r.kept)
    tightest c (inr a) = by c (AnyZip_cases (SetsAt end z c) os qs i d 0 h l a)

-- an order sets nothing in other zones
elsewhere : (end : End) (o : Order) (q z : ℕ) (old : ℤ) → (z ≡ o.zone → ⊥) → IsRaised end o q z old old
elsewhere end o q z old apart = record { kept = omega (arith, ints); met = λ c s. absurd (apart (sym s.zone)); from = inl refl }

-- and raises its own zone's bound
pub raised_at : (end : End) (o : Order) (q : ℕ) (values : List ℤ) (new : ℤ) → o.zone < length values
    → IsRaised end o q o.zone (int_at values o.zone) new → (z : ℕ)
    → IsRaised end o q z (int_at values z) (int_at (set values o.zone new) z)
raised_at end o q values new h r z = elim (cases_eq z o.zone) [
  | inl same ↦
      let at : get_or (set values o.zone new) o.zone (pos 0) ≡ new = get_or-set_same values o.zone new (pos 0) h in
      subst (λ (x : ℕ). IsRaised end o q x (int_at values x) (int_at (set values o.zone new) x)) (sym same) (subst (λ (v : ℤ). IsRaised end o q o.zone (int_at values o.zone) v) (sym at) r)
  | inr other ↦ subst (λ (v : ℤ). IsRaised end o q z (int_at values z) v) (sym (get_or-set_other values o.zone z new (pos 0) other)) (elsewhere end o q z (int_at values z) other)
]

-- one more order raises all bounds at an end
pub raised_more : (end : End) (os : List Order) (qs : List ℕ) (i n : ℕ) (d : Order) (values raised : List ℤ) → i < length os
    → i < length qs → AreTightest end (take i os) (take i qs) n values → length raised ≡ length values
    → ((z : ℕ) → IsRaised end (get_or os i d) (get_or qs i 0) z (int_at values z) (int_at raised z))
    → AreTightest end (take (i + 1) os) (take (i + 1) qs) n raised
raised_more end os qs i n d values raised h l t same r = record {
  one_each = omega (arith, t.one_each);
  tightest = λ z b. tightest_more end os qs i z d (int_at values z) (int_at raised z) h l (t.tightest z b) (r z);
}

-- the greater of the old bound and the order's
pub raise_to : (end : End) (o : Order) (q : ℕ) (old own new : ℤ) → own ≡ signed end o.price.0
    → SetsAtEnd end (own_standing o.gate q) o.side o.greatest q → new ≡ int_max old own
    → IsRaised end o q o.zone old new
raise_to end o q old own new e sets k = record {
  kept = omega (arith, ints, clamps);
  met = λ c s. omega (arith, ints, clamps, s.price);
  from = by_lt_z old own
      (λ l. let at : new ≡ own = omega (arith, ints, clamps) in inr (record { zone = refl; price = sym e ∙ sym at; sets = sets }))
      (λ l. inl (omega (arith, ints, clamps)));
}
