-- Prices are consistent exactly where they keep the tightest bounds at both ends and agree at the borders.
use Rattle.std.proofs.Common.{◌≡◌, ℕ, suc, ◌<◌, pos, ◌+ℤ◌, ◌-ℤ◌, ◌≤ℤ◌, List, [], ◌∷◌, length, get_or, arith}
use Rattle.std.specs.Prelude.{slice_index, unsigned_abs}
use Rattle.std.specs.List.{AllZip}
use Rattle.std.proofs.lemmas.Int.{ints}
use Rattle.mari_units.specs.declared.numbers.Cents.{Cents}
use Rattle.mari_units.specs.declared.numbers.TheConstants.{CAP}
use Rattle.mari_market.specs.declared.activation.Activation.{Activation}
use Rattle.mari_market.specs.declared.market.Market.{Market}
use Rattle.mari_market.specs.Consistent.{IsConsistentBorder}
use Rattle.mari_market.specs.Market.{IsValid}
use Rattle.mari_market.specs.Optimal.{IsConsistent, IsFeasible}
use Rattle.mari_market.specs.Price.{ArePrices, price_at}
use Rattle.mari_market.proofs.Agree.{keeps_consistent}
use Rattle.mari_market.proofs.Conflicts.{leads_sound, lower_kept, price_in_cap, upper_kept}
use Rattle.mari_market.proofs.Sums.{AllZip-at}
use Rattle.mari_check.specs.declared.ends.End.TheVariants.{Greatest, Least}
use Rattle.mari_check.specs.declared.ends.Heights.{Heights}
use Rattle.mari_check.specs.Ends.{AreHeights, IsKept}
use Rattle.mari_check.proofs.EndPrices.{lower-from, lower-height, lower-price, upper-from, upper-height, upper-price}

abbrev none : Cents
none = record { 0 = pos 0 }

-- what holds at every place holds of all pairs
zip-from_places : {X Y : Type 0} (P : X → Y → Type 0) (xs : List X) (ys : List Y) (d : X) (e : Y) → length ys ≡ length xs
    → ((i : ℕ) → i < length xs → P (get_or xs i d) (get_or ys i e)) → AllZip P xs ys
zip-from_places P [] [] d e l h = tt
zip-from_places P [] (y ∷ ys) d e l h = absurd (omega (arith, l))
zip-from_places P (x ∷ xs) [] d e l h = absurd (omega (arith, l))
zip-from_places P (x ∷ xs) (y ∷ ys) d e l h = (h 0 (omega arith), zip-from_places P xs ys d e (omega (arith, l)) (λ i k. h (suc i) (omega (arith, k))))

module _ (m : Market) (a : Activation) (ps : List Cents) (h : Heights) (v : IsValid m) (f : IsFeasible m a) (t : AreHeights m a h) where
  -- prices that keep the tightest bounds keep those of all orders
  pub kept-consistent : ArePrices m ps → AllZip (IsKept Least) ps h.least.items → AllZip (IsKept Greatest) ps h.greatest.items
      → AllZip (IsConsistentBorder ps) m.borders a.flow → IsConsistent m a ps
  kept-consistent p low high agree = keeps_consistent m a ps v f (record {
    one_each = p.one_each;
    lower = λ z c l b.
        let n : ℕ = unsigned_abs (c +ℤ CAP) in
        let at : pos n ≡ c +ℤ CAP = omega (arith, ints, (lower-price m a v f z c b).low) in
        let kept : pos (slice_index h.least.items z) ≤ℤ (price_at ps z +ℤ CAP) = AllZip-at (IsKept Least) ps h.least.items z none 0 (omega (arith, l, p.one_each)) low in
        omega (arith, ints, (t.least.each z l).tightest n (lower-height m a v f z c n at b), kept, at);
    upper = λ z c l b.
        let n : ℕ = unsigned_abs (CAP -ℤ c) in
        let at : pos n ≡ CAP -ℤ c = omega (arith, ints, (upper-price m a v f z c b).high) in
        let kept : pos (slice_index h.greatest.items z) ≤ℤ (CAP -ℤ price_at ps z) = AllZip-at (IsKept Greatest) ps h.greatest.items z none 0 (omega (arith, l, p.one_each)) high in
        omega (arith, ints, (t.greatest.each z l).tightest n (upper-height m a v f z c n at b), kept, at);
    rises = λ y z k l r. leads_sound m a ps y z agree r;
  })

  -- and consistent prices keep them, since orders set them
  pub consistent-least : IsConsistent m a ps → AllZip (IsKept Least) ps h.least.items
  consistent-least c = zip-from_places (IsKept Least) ps h.least.items none 0 (omega (arith, t.least.one_each, c.prices.one_each)) (λ z l.
      let n = slice_index h.least.items z in
      let bound = lower-from m a v f z n (t.least.each z (omega (arith, l, c.prices.one_each))).bound in
      let kept : (pos n -ℤ CAP) ≤ℤ price_at ps z = lower_kept m a ps z (pos n -ℤ CAP) (price_in_cap m ps c.prices z) c.orders bound in
      let raised : pos n ≤ℤ (price_at ps z +ℤ CAP) = omega (arith, ints, kept) in
      raised)

  pub consistent-greatest : IsConsistent m a ps → AllZip (IsKept Greatest) ps h.greatest.items
  consistent-greatest c = zip-from_places (IsKept Greatest) ps h.greatest.items none 0 (omega (arith, t.greatest.one_each, c.prices.one_each)) (λ z l.
      let n = slice_index h.greatest.items z in
      let bound = upper-from m a v f z n (t.greatest.each z (omega (arith, l, c.prices.one_each))).bound in
      let kept : price_at ps z ≤ℤ (CAP -ℤ pos n) = upper_kept m a ps z (CAP -ℤ pos n) (price_in_cap m ps c.prices z) c.orders bound in
      let raised : pos n ≤ℤ (CAP -ℤ price_at ps z) = omega (arith, ints, kept) in
      raised)
