-- Whether some order of a gate runs, order by order.
use Rattle.std.proofs.Common.{◌≡◌, true, ℕ, ◌<◌, ◌≤◌, List, [], ◌∷◌, length, get_or, arith, refl, zero, suc}
use Rattle.std.proofs.lemmas.Bool.{or_left, or_right}
use Rattle.std.proofs.Math.ListN.{replicate}
use Rattle.std.specs.Prelude.{Option, None, Some, MatchOption, IfSome}
use Rattle.std.specs.List.{All}
use Rattle.mari_market.specs.declared.market.Order.{Order}
use Rattle.mari_market.specs.declared.market.Market.{Market}
use Rattle.mari_market.specs.Market.{IsValid, IsValidOrder}
use Rattle.mari_market.specs.Activation.{is_run_of, runs_gate}
use Rattle.mari_welfare.specs.Gates.{IsOfFewGates}

-- a list of one value reads as that value everywhere, where that is what it reads as past its end
pub get_or-all_same : {X : Type 0} (n i : ℕ) (x : X) → get_or (replicate n x) i x ≡ x
get_or-all_same zero i x = refl
get_or-all_same (suc n) zero x = refl
get_or-all_same (suc n) (suc i) x = get_or-all_same n i x

pub runs_here : (g : ℕ) (os : List Order) (qs : List ℕ) (i : ℕ) (d : Order) → i < length os → i < length qs → is_run_of g (get_or os i d) (get_or qs i 0) ≡ true → runs_gate g os qs ≡ true
runs_here g [] qs i d h l p = absurd (omega arith)
runs_here g (o ∷ os) [] i d h l p = absurd (omega arith)
runs_here g (o ∷ os) (q ∷ qs) zero d h l p = or_left (is_run_of g o q) (runs_gate g os qs) p
runs_here g (o ∷ os) (q ∷ qs) (suc i) d h l p = or_right (is_run_of g o q) (runs_gate g os qs) (runs_here g os qs i d (omega arith) (omega arith) p)

-- in a valid market each order's gate is one of 512
few_of : (zones gates : ℕ) (o : Order) → gates ≤ 512 → IsValidOrder zones gates o → IsOfFewGates o
few_of zones gates o few v = few_of_gate o.gate v.gate
  where
    few_of_gate : (g : Option ℕ) → MatchOption g (o.least ≡ 0) (λ g. (g < gates) × (1 ≤ o.least)) → IfSome g (λ g. g < 512)
    few_of_gate None fits = tt
    few_of_gate (Some g) fits = omega (arith, fits.0)

pub few_gates : (m : Market) → IsValid m → All IsOfFewGates m.orders
few_gates m v k d h = few_of m.zones (length m.gates) (get_or m.orders k d) v.few_gates (v.orders k d h)
