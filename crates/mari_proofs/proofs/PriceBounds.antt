-- The greatest lower and the least upper bound of a zone's price, order by order.
use Rattle.std.proofs.Common.{◌≡◌, ◌⊎◌, ℕ, ◌+◌, ◌<◌, Bool, ℤ, ◌≤ℤ◌, List, length, take, get_or, arith, subst, sym, inl, inr}
use Rattle.std.proofs.lemmas.Int.{ints}
use Rattle.mari_market.specs.declared.market.Order.{Order}
use Rattle.mari_market.specs.Consistent.{SetsLowerAt, SetsUpperAt, IsLowerOf, IsUpperOf}
use Rattle.mari_proofs.specs.Conflicts.{IsGreatestLower, IsLeastUpper}
use Rattle.mari_market.proofs.Sums.{AnyZip_cases, AnyZip_kept, AnyZip_new}

-- a loop's step
pub lower_more : (opens : ℕ → Bool) (z : ℕ) (os : List Order) (qs : List ℕ) (i : ℕ) (d : Order) (bound new : ℤ)
    → i < length os → i < length qs → IsGreatestLower opens z (take i os) (take i qs) bound → bound ≤ℤ new
    → ((c : ℤ) → SetsLowerAt opens z c (get_or os i d) (get_or qs i 0) → c ≤ℤ new)
    → (new ≡ bound) ⊎ SetsLowerAt opens z new (get_or os i d) (get_or qs i 0)
    → IsGreatestLower opens z (take (i + 1) os) (take (i + 1) qs) new
lower_more opens z os qs i d bound new h l before least above from = record { reached = reached from; greatest = greatest }
  where
    kept : (c : ℤ) → IsLowerOf opens z (take i os) (take i qs) c → IsLowerOf opens z (take (i + 1) os) (take (i + 1) qs) c
    kept c (inl e) = inl e
    kept c (inr a) = inr (AnyZip_kept (SetsLowerAt opens z c) os qs i a)

    reached : (new ≡ bound) ⊎ SetsLowerAt opens z new (get_or os i d) (get_or qs i 0) → IsLowerOf opens z (take (i + 1) os) (take (i + 1) qs) new
    reached (inl e) = kept new (subst (λ (c : ℤ). IsLowerOf opens z (take i os) (take i qs) c) (sym e) before.reached)
    reached (inr s) = inr (AnyZip_new (SetsLowerAt opens z new) os qs i d 0 h l s)

    greatest : (c : ℤ) → IsLowerOf opens z (take (i + 1) os) (take (i + 1) qs) c → c ≤ℤ new
    greatest c (inl e) = omega (arith, ints, before.greatest c (inl e), least)
    greatest c (inr a) = elim (AnyZip_cases (SetsLowerAt opens z c) os qs i d 0 h l a) [
      | inl b ↦ omega (arith, ints, before.greatest c (inr b), least)
      | inr s ↦ above c s
    ]

pub upper_more : (opens : ℕ → Bool) (z : ℕ) (os : List Order) (qs : List ℕ) (i : ℕ) (d : Order) (bound new : ℤ)
    → i < length os → i < length qs → IsLeastUpper opens z (take i os) (take i qs) bound → new ≤ℤ bound
    → ((c : ℤ) → SetsUpperAt opens z c (get_or os i d) (get_or qs i 0) → new ≤ℤ c)
    → (new ≡ bound) ⊎ SetsUpperAt opens z new (get_or os i d) (get_or qs i 0)
    → IsLeastUpper opens z (take (i + 1) os) (take (i + 1) qs) new
upper_more opens z os qs i d bound new h l before most below from = record { reached = reached from; least = least }
  where
    kept : (c : ℤ) → IsUpperOf opens z (take i os) (take i qs) c → IsUpperOf opens z (take (i + 1) os) (take (i + 1) qs) c
    kept c (inl e) = inl e
    kept c (inr a) = inr (AnyZip_kept (SetsUpperAt opens z c) os qs i a)

    reached : (new ≡ bound) ⊎ SetsUpperAt opens z new (get_or os i d) (get_or qs i 0) → IsUpperOf opens z (take (i + 1) os) (take (i + 1) qs) new
    reached (inl e) = kept new (subst (λ (c : ℤ). IsUpperOf opens z (take i os) (take i qs) c) (sym e) before.reached)
    reached (inr s) = inr (AnyZip_new (SetsUpperAt opens z new) os qs i d 0 h l s)

    least : (c : ℤ) → IsUpperOf opens z (take (i + 1) os) (take (i + 1) qs) c → new ≤ℤ c
    least c (inl e) = omega (arith, ints, before.least c (inl e), most)
    least c (inr a) = elim (AnyZip_cases (SetsUpperAt opens z c) os qs i d 0 h l a) [
      | inl b ↦ omega (arith, ints, before.least c (inr b), most)
      | inr s ↦ below c s
    ]
