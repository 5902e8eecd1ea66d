-- Prices that keep all bounds and comparisons are consistent.
use Rattle.std.proofs.Common.{◌≡◌, ℕ, ◌<◌, ℤ, pos, neg_ℤ, ◌≤ℤ◌, List, ◌∷◌, length, arith, refl, sym, subst, inl, inr}
use Rattle.std.specs.List.{AllZip, All}
use Rattle.std.proofs.lemmas.List.{get_or_default}
use Rattle.std.proofs.lemmas.List.Elements.{All-head, All-tail}
use Rattle.std.proofs.lemmas.Slice.Zip.{AllZip-long}
use Rattle.mari_units.specs.declared.Cents.{Cents}
use Rattle.mari_market.specs.declared.market.Order.{Order}
use Rattle.mari_market.specs.declared.market.Border.{Border}
use Rattle.mari_market.specs.declared.market.Market.{Market}
use Rattle.mari_market.specs.declared.activation.Activation.{Activation}
use Rattle.mari_market.specs.Activation.{is_open}
use Rattle.mari_market.specs.Along.{LeadsBy, Leads}
use Rattle.mari_market.specs.Consistent.{IsConsistentOrder, IsConsistentBorder, SetsLowerAt, SetsUpperAt, IsLowerBound, IsUpperBound}
use Rattle.mari_market.specs.Market.{IsValid, IsValidOrder, IsValidBorder}
use Rattle.mari_market.specs.Optimal.{IsFeasible, IsConsistent}
use Rattle.mari_units.specs.declared.numbers.TheConstants.{CAP}
use Rattle.mari_market.specs.Price.{IsPrice, price_at}
use Rattle.mari_market.specs.Sums.{AnyZip}
use Rattle.mari_market.proofs.Conflicts.{lower_kept, upper_kept, leads_sound, price_in_cap}
use Rattle.mari_market.proofs.Sums.{AnyZip-map}

-- the two stand side by side
abbrev Stand : {X Y : Type 0} → X → Y → X → Y → Type 0
Stand x y u v = (u ≡ x) × (v ≡ y)

-- what holds of all pairs that stand side by side
each_pair : {X Y : Type 0} (P : X → Type 0) (Q : X → Y → Type 0) (xs : List X) (ys : List Y) → length ys ≡ length xs
    → All P xs → ((x : X) (y : Y) → P x → AnyZip (Stand x y) xs ys → Q x y) → AllZip Q xs ys
each_pair P Q (x ∷ xs) (y ∷ ys) l p h = (h x y (All-head P x xs p) (inl (refl, refl)), each_pair P Q xs ys (omega (arith, l)) (All-tail P x xs p) (λ u v k s. h u v k (inr s)))
each_pair P Q _ _ l p h = grind arith

-- a price for each zone that keeps every bound and every comparison
pub record KeepsAll (m : Market) (a : Activation) (ps : List Cents) : Type 0 where
  pub one_each : length ps ≡ m.zones
  pub lower : (z : ℕ) (c : ℤ) → z < m.zones → IsLowerBound m a z c → c ≤ℤ price_at ps z
  pub upper : (z : ℕ) (c : ℤ) → z < m.zones → IsUpperBound m a z c → price_at ps z ≤ℤ c
  pub rises : (y z : ℕ) → y < m.zones → z < m.zones → Leads m a y z → price_at ps y ≤ℤ price_at ps z

order_agrees : (m : Market) (a : Activation) (ps : List Cents) (o : Order) (q : ℕ) → KeepsAll m a ps
    → IsValidOrder m.zones (length m.gates) o → AnyZip (Stand o q) m.orders a.mw
    → IsConsistentOrder (is_open m a) ps o q
order_agrees m a ps o q k v s = record {
  lower = λ l. k.lower o.zone o.price.0 v.zone (inr (AnyZip-map (Stand o q) (SetsLowerAt (is_open m a) o.zone o.price.0)
      (λ x y e. subst (λ (w : Order). SetsLowerAt (is_open m a) o.zone o.price.0 w y) (sym e.0)
      (subst (λ (w : ℕ). SetsLowerAt (is_open m a) o.zone o.price.0 o w) (sym e.1) (record { zone = refl; price = refl; sets = l }))) m.orders a.mw s));
  upper = λ l. k.upper o.zone o.price.0 v.zone (inr (AnyZip-map (Stand o q) (SetsUpperAt (is_open m a) o.zone o.price.0)
      (λ x y e. subst (λ (w : Order). SetsUpperAt (is_open m a) o.zone o.price.0 w y) (sym e.0)
      (subst (λ (w : ℕ). SetsUpperAt (is_open m a) o.zone o.price.0 o w) (sym e.1) (record { zone = refl; price = refl; sets = l }))) m.orders a.mw s));
}

leads_at : (m : Market) (a : Activation) (y z : ℕ) (b : Border) (f : ℤ) → LeadsBy y z b f → AnyZip (Stand b f) m.borders a.flow → Leads m a y z
leads_at m a y z b f l s = AnyZip-map (Stand b f) (LeadsBy y z) (λ u v e. subst (λ (w : Border). LeadsBy y z w v) (sym e.0) (subst (λ (w : ℤ). LeadsBy y z b w) (sym e.1) l)) m.borders a.flow s

border_agrees : (m : Market) (a : Activation) (ps : List Cents) (b : Border) (f : ℤ) → KeepsAll m a ps → IsValidBorder m.zones b → AnyZip (Stand b f) m.borders a.flow → IsConsistentBorder ps b f
border_agrees m a ps b f k v s = record {
  more = λ l. k.rises b.to b.from v.to v.from (leads_at m a b.to b.from b f (inr (refl, refl, l)) s);
  less = λ l. k.rises b.from b.to v.from v.to (leads_at m a b.from b.to b f (inl (refl, refl, l)) s);
}

pub keeps_consistent : (m : Market) (a : Activation) (ps : List Cents) → IsValid m → IsFeasible m a → KeepsAll m a ps → IsConsistent m a ps
keeps_consistent m a ps v f k = record {
  prices = record {
    one_each = k.one_each;
    capped = λ z d l.
        let low = k.lower z (neg_ℤ CAP) (omega (arith, k.one_each)) (inl refl) in
        let high = k.upper z CAP (omega (arith, k.one_each)) (inl refl) in
        subst (λ (c : Cents). IsPrice c.0) (get_or_default ps z (record { 0 = pos 0 }) d l) (record { low = low; high = high });
  };
  orders =
      each_pair (IsValidOrder m.zones (length m.gates)) (IsConsistentOrder (is_open m a) ps) m.orders a.mw (AllZip-long _ m.orders a.mw f.orders) v.orders (λ o q h s. order_agrees m a ps o q k h s);
  borders = each_pair (IsValidBorder m.zones) (IsConsistentBorder ps) m.borders a.flow (AllZip-long _ m.borders a.flow f.borders) v.borders (λ b g h s. border_agrees m a ps b g k h s);
}

-- and consistent prices keep them
pub consistent_keeps : (m : Market) (a : Activation) (ps : List Cents) → IsConsistent m a ps → KeepsAll m a ps
consistent_keeps m a ps c = record {
  one_each = c.prices.one_each;
  lower = λ z d l b. lower_kept m a ps z d (price_in_cap m ps c.prices z) c.orders b;
  upper = λ z d l b. upper_kept m a ps z d (price_in_cap m ps c.prices z) c.orders b;
  rises = λ y z l h b. leads_sound m a ps y z c.borders b;
}
