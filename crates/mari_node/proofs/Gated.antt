-- What holds at the places of gates' orders holds of all orders, where it holds of orders without a gate.
use Rattle.std.proofs.Common.{◌≡◌, Bool, true, false, ℕ, zero, suc, ◌+◌, ◌<◌, ◌≤◌, ℤ, pos, List, [], ◌∷◌, length, take, get_or, arith, refl, sym, ap, ◌∙◌, subst, inl, inr}
use Rattle.std.proofs.lemmas.Bool.{cases_Bool}
use Rattle.std.proofs.lemmas.Int.{ints}
use Rattle.std.proofs.lemmas.List.{get_or-take, take_all}
use Rattle.std.proofs.lemmas.List.Folds.{Any-from_list_any, list_any_at, list_any_more}
use Rattle.std.specs.Prelude.{◌↔◌, is_some, nat_lt, unsigned_abs, IsTrue, Option, Some, None, ◌&&◌, ◌||◌}
use Rattle.std.specs.List.{All, AllZip, Any}
use Rattle.mari_units.specs.declared.limits.TheConstants.{MOST_MW}
use Rattle.mari_market.specs.declared.market.Side.{Side}
use Rattle.mari_market.specs.declared.market.Side.TheVariants.{Inject, Withdraw}
use Rattle.mari_market.specs.declared.market.Order.{Order}
use Rattle.mari_market.specs.declared.market.Market.{Market}
use Rattle.mari_market.specs.declared.activation.Activation.{Activation}
use Rattle.mari_market.specs.Activation.{is_gate, is_open, is_run_of, put_in, runs_gate}
use Rattle.mari_market.specs.Sums.{int_at, AnyZip}
use Rattle.mari_market.proofs.Sums.{AllZip-at, AnyZip-at}
use Rattle.mari_network.specs.declared.optimum.Optimum.{Optimum}
use Rattle.mari_network.specs.Orders.{no_order, ArePuts, CanPut}
use Rattle.mari_network.specs.Solving.{FitsOrders, IsWritten}
use Rattle.mari_paths.specs.Starts.{order_at}
use Rattle.mari_paths.specs.Warm.{AreGated}
use Rattle.mari_welfare.proofs.Open.{runs_here}
use Rattle.mari_node.specs.Running.{quantity_at, runs_among}

-- ---- what an optimum runs at a place

small : (side : Side) (x : ℤ) → CanPut side x → unsigned_abs x ≤ MOST_MW
small Inject x c = omega (arith, ints, c.0, c.1)
small Withdraw x c = omega (arith, ints, c.0, c.1)

pub quantity_small : (m : Market) (o : Optimum) (k : ℕ) → FitsOrders m o → k < length m.orders → quantity_at o k ≤ MOST_MW
quantity_small m o k f l =
    let n = length m.orders in
    let can = AllZip-at (λ (o : Order) (x : ℤ). CanPut o.side x) m.orders (take n o.amounts.items) k no_order (pos 0) l f.puts in
    small (order_at m k).side (int_at o.amounts.items k) (subst (CanPut (order_at m k).side) (get_or-take n o.amounts.items k (pos 0) l) can)

abs_put : (side : Side) (q : ℕ) → unsigned_abs (put_in side q) ≡ q
abs_put Inject q = omega (arith, ints)
abs_put Withdraw q = omega (arith, ints)

put_at : (os : List Order) (xs : List ℤ) (qs : List ℕ) (k : ℕ) → ArePuts os xs qs → k < length os → int_at xs k ≡ put_in (get_or os k no_order).side (get_or qs k 0)
put_at [] xs qs k p l = absurd (omega arith)
put_at (o ∷ os) [] qs k p l = absurd p
put_at (o ∷ os) (x ∷ xs) [] k p l = absurd p
put_at (o ∷ os) (x ∷ xs) (q ∷ qs) zero p l = p.0
put_at (o ∷ os) (x ∷ xs) (q ∷ qs) (suc k) p l = put_at os xs qs k p.1 (omega arith)

long_puts : (os : List Order) (xs : List ℤ) (qs : List ℕ) → ArePuts os xs qs → length qs ≡ length os
long_puts [] [] [] p = refl
long_puts (o ∷ os) (x ∷ xs) (q ∷ qs) p = omega (arith, long_puts os xs qs p.1)
long_puts _ _ _ p = absurd p

pub written_long : (m : Market) (o : Optimum) (a : Activation) → IsWritten m o a → length a.mw ≡ length m.orders
written_long m o a w = long_puts m.orders (take (length m.orders) o.amounts.items) a.mw w.puts

-- what the order puts in, by what the activation runs of it
pub written_put : (m : Market) (o : Optimum) (a : Activation) (k : ℕ) → IsWritten m o a → k < length m.orders → int_at o.amounts.items k ≡ put_in (order_at m k).side (get_or a.mw k 0)
written_put m o a k w l =
    let n = length m.orders in
    sym (get_or-take n o.amounts.items k (pos 0) l) ∙ put_at m.orders (take n o.amounts.items) a.mw k w.puts l

pub written_quantity : (m : Market) (o : Optimum) (a : Activation) (k : ℕ) → IsWritten m o a → k < length m.orders → quantity_at o k ≡ get_or a.mw k 0
written_quantity m o a k w l = ap unsigned_abs (written_put m o a k w l) ∙ abs_put (order_at m k).side (get_or a.mw k 0)

-- no two activations are written of one optimum
same_puts : (os : List Order) (xs : List ℤ) (qs rs : List ℕ) → ArePuts os xs qs → ArePuts os xs rs → qs ≡ rs
same_puts [] [] [] [] p r = refl
same_puts (o ∷ os) (x ∷ xs) (q ∷ qs) (s ∷ rs) p r =
    let first : q ≡ s = sym (abs_put o.side q) ∙ ap unsigned_abs (sym p.0 ∙ r.0) ∙ abs_put o.side s in
    ap (λ (t : ℕ). t ∷ qs) first ∙ ap (λ (ts : List ℕ). s ∷ ts) (same_puts os xs qs rs p.1 r.1)
same_puts [] [] [] (s ∷ rs) p r = absurd r
same_puts (o ∷ os) (x ∷ xs) (q ∷ qs) [] p r = absurd r
same_puts _ _ _ rs p r = absurd p

pub written_once : (m : Market) (o : Optimum) (a b : Activation) → IsWritten m o a → IsWritten m o b → a ≡ b
written_once m o a b v w =
    ap (λ (qs : List ℕ). record { mw = qs; flow = a.flow }) (same_puts m.orders (take (length m.orders) o.amounts.items) a.mw b.mw v.puts w.puts)
    ∙ ap (λ (fs : List ℤ). record { mw = b.mw; flow = fs }) (v.flow ∙ sym w.flow)

-- ---- from the places of gates' orders to all

zip_from : (R : Order → ℕ → Type 0) (os : List Order) (qs : List ℕ) → length qs ≡ length os → ((k : ℕ) → k < length os → R (get_or os k no_order) (get_or qs k 0)) → AllZip R os qs
zip_from R [] [] l h = tt
zip_from R (o ∷ os) (q ∷ qs) l h = (h 0 (omega arith), zip_from R os qs (omega (arith, l)) (λ k b. h (suc k) (omega arith)))
zip_from R [] (q ∷ qs) l h = absurd (omega (arith, l))
zip_from R (o ∷ os) [] l h = absurd (omega (arith, l))

at_each : (m : Market) (gated : List ℕ) (P : ℕ → Type 0)
    → AreGated m gated → All P gated → ((k : ℕ) → k < length m.orders → is_some (order_at m k).gate ≡ false → P k) → (k : ℕ) → k < length m.orders → P k
at_each m gated P g all plain k l = elim (cases_Bool (is_some (order_at m k).gate)) [
  | inl has ↦ let h = g.all k l has in subst P h.2 (all h.0 k h.1)
  | inr none ↦ plain k l none
]

pub zip_by_gated : (m : Market) (o : Optimum) (a : Activation) (gated : List ℕ) (R : Order → ℕ → Type 0) → IsWritten m o a → AreGated m gated
    → All (λ k. R (order_at m k) (quantity_at o k)) gated
    → ((k : ℕ) → k < length m.orders → is_some (order_at m k).gate ≡ false → R (order_at m k) (quantity_at o k))
    → AllZip R m.orders a.mw
zip_by_gated m o a gated R w g all plain = zip_from R m.orders a.mw (written_long m o a w) (λ k l.
    subst (R (order_at m k)) (written_quantity m o a k w l) (at_each m gated (λ k. R (order_at m k) (quantity_at o k)) g all plain k l))

pub gated_of_zip : (m : Market) (o : Optimum) (a : Activation) (gated : List ℕ) (R : Order → ℕ → Type 0) → IsWritten m o a → AreGated m gated → AllZip R m.orders a.mw
    → All (λ k. R (order_at m k) (quantity_at o k)) gated
gated_of_zip m o a gated R w g all = λ j d l.
    let k = get_or gated j d in
    let there = g.there j d l in
    subst (R (order_at m k)) (sym (written_quantity m o a k w there)) (AllZip-at R m.orders a.mw k no_order 0 there all)

pub any_of_gated : (m : Market) (o : Optimum) (a : Activation) (gated : List ℕ) (R : Order → ℕ → Type 0)
    → IsWritten m o a → AreGated m gated → Any (λ k. R (order_at m k) (quantity_at o k)) gated → AnyZip R m.orders a.mw
any_of_gated m o a gated R w g some =
    let k = some.1 in
    let there : k < length m.orders = subst (λ (j : ℕ). j < length m.orders) some.3 (g.there some.0 k some.2) in
    AnyZip-at R m.orders a.mw k no_order 0 there (omega (arith, written_long m o a w)) (subst (R (order_at m k)) (written_quantity m o a k w there) some.4)

-- ---- the gates that run

same_test : (x y : Bool) → (x ≡ true → y ≡ true) → (y ≡ true → x ≡ true) → x ≡ y
same_test true y h k = sym (h refl)
same_test false true h k = k refl
same_test false false h k = refl

-- an order of the gate runs
abbrev RunsSomewhere : ℕ → List Order → List ℕ → Type 0
RunsSomewhere g os qs = (k : ℕ) × (k < length os) × (is_run_of g (get_or os k no_order) (get_or qs k 0) ≡ true)

runs_first : (g : ℕ) (o : Order) (os : List Order) (q : ℕ) (qs : List ℕ) (b : Bool) → is_run_of g o q ≡ b
    → (b || runs_gate g os qs) ≡ true → (runs_gate g os qs ≡ true → RunsSomewhere g os qs)
    → RunsSomewhere g (o ∷ os) (q ∷ qs)
runs_first g o os q qs true e t rest = (0, omega arith, e)
runs_first g o os q qs false e t rest = let h = rest t in (suc h.0, omega (arith, h.1), h.2)

runs_somewhere : (g : ℕ) (os : List Order) (qs : List ℕ) → runs_gate g os qs ≡ true → RunsSomewhere g os qs
runs_somewhere g [] qs t = absurd (cc)
runs_somewhere g (o ∷ os) [] t = absurd (cc)
runs_somewhere g (o ∷ os) (q ∷ qs) t = runs_first g o os q qs (is_run_of g o q) refl t (λ u. runs_somewhere g os qs u)

has_gate : (g : ℕ) (gate : Option ℕ) (q : ℕ) → (is_gate g gate && nat_lt 0 q) ≡ true → is_some gate ≡ true
has_gate g None q t = absurd (cc)
has_gate g (Some h) q t = refl

pub runs_as_gated : (m : Market) (o : Optimum) (a : Activation) (gated : List ℕ) (g : ℕ) → IsWritten m o a → AreGated m gated → runs_among g m o gated ≡ is_open m a g
runs_as_gated m o a gated g w at = same_test (runs_among g m o gated) (is_open m a g) (λ t.
    let some = Any-from_list_any (λ (k : ℕ). is_run_of g (order_at m k) (quantity_at o k)) gated t in
    let k = some.1 in
    let there : k < length m.orders = subst (λ (j : ℕ). j < length m.orders) some.3 (at.there some.0 k some.2) in
    runs_here g m.orders a.mw k no_order there (omega (arith, written_long m o a w)) (ap (is_run_of g (order_at m k)) (sym (written_quantity m o a k w there)) ∙ some.4)) (λ t.
    let some = runs_somewhere g m.orders a.mw t in
    let k = some.0 in
    let runs : is_run_of g (order_at m k) (quantity_at o k) ≡ true = ap (is_run_of g (order_at m k)) (written_quantity m o a k w some.1) ∙ some.2 in
    let h = at.all k some.1 (has_gate g (order_at m k).gate (quantity_at o k) runs) in
    list_any_at (λ (k : ℕ). is_run_of g (order_at m k) (quantity_at o k)) gated h.0 k h.1 (ap (λ (j : ℕ). is_run_of g (order_at m j) (quantity_at o j)) h.2 ∙ runs))

-- a loop's step: whether the gate runs so far, and the order at the next place
pub runs_more : (g : ℕ) (m : Market) (o : Optimum) (ks : List ℕ) (i : ℕ) (old new : Bool) → i < length ks
    → old ≡ runs_among g m o (take i ks)
    → new ≡ (old || is_run_of g (order_at m (get_or ks i 0)) (quantity_at o (get_or ks i 0)))
    → new ≡ runs_among g m o (take (i + 1) ks)
runs_more g m o ks i old new l e n =
    let test = λ (k : ℕ). is_run_of g (order_at m k) (quantity_at o k) in
    n ∙ ap (λ (b : Bool). b || test (get_or ks i 0)) e ∙ sym (list_any_more test ks i 0 l)

-- a loop that tests each place has come to the end
pub tested_all : (P : ℕ → Type 0) (ks : List ℕ) (i : ℕ) → length ks ≤ i → All P (take i ks) → IsTrue true ↔ All P ks
tested_all P ks i l all = (λ t. subst (λ (js : List ℕ). All P js) (take_all i ks l) all, λ h. refl)
