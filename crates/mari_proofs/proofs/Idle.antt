-- The activation in which nothing runs, and what it shows of relaxed optima where no gate is open.
use Rattle.std.proofs.Common.{◌≡◌, if◌then◌else◌, Bool, true, false, ℕ, zero, suc, ◌==◌, ℤ, pos, ◌-ℤ◌, ◌≤ℤ◌, List, [], ◌∷◌, length, map, Option, Some, slice_get, arith, refl, sym, ◌∙◌}
use Rattle.std.proofs.lemmas.Int.{ints}
use Rattle.std.specs.List.{AllZip}
use Rattle.mari_market.specs.declared.activation.Activation.{Activation}
use Rattle.mari_market.specs.declared.market.Border.{Border}
use Rattle.mari_market.specs.declared.market.GateInfo.{GateInfo}
use Rattle.mari_market.specs.declared.market.Market.{Market}
use Rattle.mari_market.specs.declared.market.Order.{Order}
use Rattle.mari_market.specs.declared.market.Side.{Side}
use Rattle.mari_market.specs.Activation.{IsWithinLimits, carried_out, order_gain, put_into, put_in, gain}
use Rattle.mari_market.specs.Bounds.{IsWithin, GateState, span_in, span_of}
use Rattle.mari_market.specs.Gates.{group_of, parent_of}
use Rattle.mari_market.specs.Bounds.GateState.{Open, Closed, Free}
use Rattle.mari_market.specs.Prefix.{below_parent, bounds_of_word, decided, is_closed, is_taken, opens_in, state_of, state_within, undecided}
use Rattle.mari_market.specs.Relaxation.{IsClosedWelfare, IsRelaxedWelfare, IsWithinBounds, all_closed}
use Rattle.mari_market.specs.Sums.{sum_along}
use Rattle.mari_market.proofs.Prefixes.{opened_get}
use Rattle.mari_market.proofs.Ties.{closed_opens}

-- nothing runs and nothing flows
abbrev idle : Market → Activation
idle m = record { mw = map (λ (o : Order). 0) m.orders; flow = map (λ (b : Border). pos 0) m.borders }

no-sum : {X Y : Type 0} (f : X → Y → ℤ) (y : Y) → ((x : X) → f x y ≡ pos 0) → (xs : List X) → sum_along f xs (map (λ (x : X). y) xs) ≡ pos 0
no-sum f y h [] = refl
no-sum f y h (x ∷ xs) = omega (arith, ints, h x, no-sum f y h xs)

all-same : {X Y : Type 0} (R : X → Y → Type 0) (y : Y) → ((x : X) → R x y) → (xs : List X) → AllZip R xs (map (λ (x : X). y) xs)
all-same R y h [] = tt
all-same R y h (x ∷ xs) = (h x, all-same R y h xs)

-- no order puts in, takes out or gains anything
none-put : (z : ℕ) (o : Order) → put_into z o 0 ≡ pos 0
none-put z o = by (o.zone == z) o.side
  where
    by : (t : Bool) (side : Side) → (if t then put_in side 0 else pos 0) ≡ pos 0
    by t side = grind arith

none-gained : (o : Order) → order_gain o 0 ≡ pos 0
none-gained o = by o.side o.price.0
  where
    by : (side : Side) (c : ℤ) → gain side c 0 ≡ pos 0
    by side c = grind (arith, ints)

none-carried : (z : ℕ) (b : Border) → carried_out z b (pos 0) ≡ pos 0
none-carried z b = by (b.from == z) (b.to == z)
  where
    by : (s t : Bool) → (if s then pos 0 else pos 0) -ℤ (if t then pos 0 else pos 0) ≡ pos 0
    by s t = grind arith

-- no limit forbids that nothing flows
none-flows : (b : Border) → IsWithinLimits b (pos 0)
none-flows b = record { back = omega (arith, ints); limit = omega (arith, ints) }

-- where no gate is open, every order may run nothing
never-implied-open : (parent : Option ℕ) (state : ℕ → GateState) (taken : Bool) → (if taken then Closed else below_parent state parent) ≡ Open → ⊥
never-implied-open (Some h) state false e = by (is_closed (state h)) e
  where
    by : (t : Bool) → (if t then Closed else Free) ≡ Open → ⊥
    by t e = grind arith
never-implied-open _ state _ e = grind arith

decided-open : (o : Option Bool) (implied : GateState) → (implied ≡ Open → ⊥) → (o ≡ Some true → ⊥) → decided o implied ≡ Open → ⊥
decided-open o implied never closed e = grind arith

-- no gate is open at a word that opens none
none-open : (gates : List GateInfo) (word : List Bool) → ((g : ℕ) → opens_in word g ≡ false) → (n g : ℕ) → state_within n gates word g ≡ Open → ⊥
none-open gates word closed zero g e = absurd (cc e)
none-open gates word closed (suc n) g e =
    decided-open (slice_get word g) (undecided gates word (state_within n gates word) g) (never-implied-open (parent_of gates g) (state_within n gates word) (is_taken (group_of gates g) gates word))
    (λ f. absurd (cc (closed g, opened_get word g f))) e

none-needed : (state : ℕ → GateState) → ((g : ℕ) → state g ≡ Open → ⊥) → (o : Order) → IsWithin (span_in state o) 0
none-needed state closed o = by o.gate
  where
    by : (gate : Option ℕ) → IsWithin (span_of state gate o) 0
    by gate = grind arith

idle-within : (m : Market) (word : List Bool) → ((g : ℕ) → opens_in word g ≡ false) → IsWithinBounds (bounds_of_word m word) m (idle m)
idle-within m word closed = record {
  orders = all-same (λ o q. IsWithin (bounds_of_word m word o) q) 0 (none-needed (state_of m.gates word) (none-open m.gates word closed (length m.gates))) m.orders;
  borders = all-same IsWithinLimits (pos 0) none-flows m.borders;
  balance = λ z l. no-sum (put_into z) 0 (none-put z) m.orders ∙ sym (no-sum (carried_out z) (pos 0) (none-carried z) m.borders);
}

-- so no relaxed welfare is negative there
pub not-negative : (m : Market) (word : List Bool) (w : ℤ) → ((g : ℕ) → opens_in word g ≡ false) → IsRelaxedWelfare m word w → pos 0 ≤ℤ w
not-negative m word w closed h = omega (arith, ints, h.greatest (idle m) (idle-within m word closed), no-sum order_gain 0 none-gained m.orders)

pub closed-not-negative : (m : Market) (w : ℤ) → IsClosedWelfare m w → pos 0 ≤ℤ w
closed-not-negative m w h = not-negative m (all_closed m) w (closed_opens (length m.gates)) h

-- a word has one relaxed welfare
pub one-optimum : (m : Market) (word : List Bool) (v w : ℤ) → IsRelaxedWelfare m word v → IsRelaxedWelfare m word w → v ≡ w
one-optimum m word v w hv hw = omega (arith, ints, hv.reached.2, hw.reached.2, hv.greatest hw.reached.0 hw.reached.1, hw.greatest hv.reached.0 hv.reached.1)
