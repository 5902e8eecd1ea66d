-- How much the bids of a run may run, and money that is small.
use Rattle.std.proofs.Common.{ℕ, zero, suc, ◌≤◌, List, [], ◌∷◌, take, arith}
use Rattle.std.specs.List.{All, AllZip}
use Rattle.std.proofs.lemmas.List.Elements.{All-cons, All-head, All-nil, All-tail}
use Rattle.mari_market.specs.Activation.{is_open}
use Rattle.mari_market.specs.Bounds.{IsWithin, own_bounds}
use Rattle.mari_market.specs.Optimal.{IsFeasible}
use Rattle.mari_market.specs.declared.activation.Activation.{Activation}
use Rattle.mari_market.specs.declared.market.Market.{Market}
use Rattle.mari_market.specs.declared.market.Order.{Order}
use Rattle.mari_market.proofs.Sizes.{at_most}
use Rattle.mari_units.specs.declared.numbers.Quarters.{Quarters}
use Rattle.mari_lines.specs.Ranges.{IsMoney}
use Rattle.mari_settle.specs.Conditions.{IsSmall}

-- a small amount may be printed
pub money : (q : Quarters) → IsSmall q → IsMoney q
money q small = omega (arith, small)

-- the first `count` orders run at most 9,999 MW each, where their greatest is at most that
module _ (m : Market) (a : Activation) where
  up-to : (count : ℕ) (os : List Order) (qs : List ℕ)
      → AllZip (λ (o : Order) (q : ℕ). IsWithin (own_bounds m a o) q) os qs
      → All (λ (o : Order). o.greatest ≤ 9999) (take count os) → All (λ q. q ≤ 9999) (take count qs)
  up-to zero os qs zip small = All-nil (λ q. q ≤ 9999)
  up-to (suc count) [] [] zip small = All-nil (λ q. q ≤ 9999)
  up-to (suc count) [] (q ∷ qs) zip small = absurd zip
  up-to (suc count) (o ∷ os) [] zip small = absurd zip
  up-to (suc count) (o ∷ os) (q ∷ qs) zip small =
      let own = All-head (λ (o : Order). o.greatest ≤ 9999) o (take count os) small in
      All-cons (λ q. q ≤ 9999) q (take count qs) (omega (arith, own, at_most (is_open m a) o.gate o q zip.0))
      (up-to count os qs zip.1 (All-tail (λ (o : Order). o.greatest ≤ 9999) o (take count os) small))

  pub small-bids : (count : ℕ) → IsFeasible m a → All (λ (o : Order). o.greatest ≤ 9999) (take count m.orders) → All (λ q. q ≤ 9999) (take count a.mw)
  small-bids count f small = up-to count m.orders a.mw f.orders small
