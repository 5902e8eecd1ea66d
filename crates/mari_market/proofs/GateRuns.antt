-- Whether some order of a gate runs, order by order.
use Rattle.std.proofs.Common.{◌≡◌, ◌||◌, Bool, ℕ, suc, ◌+◌, ◌<◌, ◌≤◌, List, ◌∷◌, length, take, get_or, arith, sym, ap, ◌∙◌}
use Rattle.std.proofs.lemmas.List.{take_all}
use Rattle.mari_market.specs.declared.market.Order.{Order}
use Rattle.mari_market.specs.Activation.{is_run_of, runs_gate}

-- with one more order a gate is run where it was, or where the order runs it
runs_more : (g : ℕ) (os : List Order) (qs : List ℕ) (i : ℕ) (d : Order) → i < length os → i < length qs
    → runs_gate g (take (i + 1) os) (take (i + 1) qs) ≡ (runs_gate g (take i os) (take i qs) || is_run_of g (get_or os i d) (get_or qs i 0))
runs_more g (o ∷ os) (q ∷ qs) (suc i) d h l =
    let k : suc i + 1 ≡ suc (i + 1) = omega arith in
    ap (λ (n : ℕ). runs_gate g (take n (o ∷ os)) (take n (q ∷ qs))) k
    ∙ ap (λ (b : Bool). is_run_of g o q || b) (runs_more g os qs i d (omega arith) (omega arith))
    ∙ regrouped (is_run_of g o q) (runs_gate g (take i os) (take i qs)) (is_run_of g (get_or os i d) (get_or qs i 0))
  where
    regrouped : (x y z : Bool) → (x || (y || z)) ≡ ((x || y) || z)
    regrouped x y z = grind arith
runs_more g _ _ _ d h l = grind arith

-- a loop's step: what is marked so far, and the order's gate where it runs
pub marks_more : (g : ℕ) (os : List Order) (qs : List ℕ) (i : ℕ) (d : Order) (old new : Bool) → i < length os
    → i < length qs → old ≡ runs_gate g (take i os) (take i qs)
    → new ≡ (old || is_run_of g (get_or os i d) (get_or qs i 0))
    → new ≡ runs_gate g (take (i + 1) os) (take (i + 1) qs)
marks_more g os qs i d old new h l e n = n ∙ ap (λ (b : Bool). b || is_run_of g (get_or os i d) (get_or qs i 0)) e ∙ sym (runs_more g os qs i d h l)

-- and at its end all orders
pub runs_all : (g : ℕ) (os : List Order) (qs : List ℕ) (i : ℕ) → length os ≤ i → length qs ≤ i → runs_gate g (take i os) (take i qs) ≡ runs_gate g os qs
runs_all g os qs i h l = ap (λ (xs : List Order). runs_gate g xs (take i qs)) (take_all i os h) ∙ ap (runs_gate g os) (take_all i qs l)
