-- Which gates are needed to state a dual value.
use Rattle.std.proofs.Common.{◌≡◌, ◌⊎◌, if◌then◌else◌, Bool, true, false, ℕ, ℤ, pos, ◌-ℤ◌, ◌≤ℤ◌, ◌<ℤ◌, List, [], ◌∷◌, Option, Some, None, arith, refl, ap, ◌∙◌, inl, inr}
use Rattle.std.specs.Prelude.{◌↔◌}
use Rattle.std.proofs.lemmas.Int.{ints}
use lib.Signed.{lt_z}
use Rattle.mari_units.specs.declared.numbers.Cents.{Cents}
use Rattle.mari_market.specs.declared.market.Order.{Order}
use Rattle.mari_market.specs.declared.market.Market.{Market}
use Rattle.mari_market.specs.Activation.{is_gate}
use Rattle.mari_market.specs.Bounds.{GateState, Span}
use Rattle.mari_market.specs.Bounds.GateState.{Closed, Free}
use Rattle.mari_market.specs.Dual.{best_order, best_trade, gain_per_mw}
use Rattle.mari_market.specs.Price.{price_at}
use Rattle.mari_market.specs.Sums.{int_sum}
use Rattle.mari_market.proofs.Lists.{by_test}
use Rattle.mari_market.proofs.Rising.{is_less, less}
use Rattle.mari_reach.specs.declared.decisions.Decision.{Decision}
use Rattle.mari_reach.specs.Leaf.{best_of_gate, dual_of, gain_of, is_needed}
use Rattle.mari_reach.specs.State.{bounds_in, gains, gate_span, loses, opens, reached_span, shuts, state_at, state_by}
use Rattle.mari_reach.proofs.LeafLaws.{nothing}
use Rattle.mari_reach.proofs.Reaching.{or_either, same_number}
use Rattle.mari_reach.proofs.Ranges.{or_first, or_later}

-- an order of a closed gate runs nothing
closed_span : (s : ℕ → GateState) (gaining losing : Bool) (gate : Option ℕ) (o : Order) (g : ℕ) → s g ≡ Closed → is_gate g gate ≡ true
    → reached_span s gaining losing gate o ≡ record { lo = 0; hi = 0 }
closed_span s gaining losing None o g e t = absurd (cc)
closed_span s gaining losing (Some k) o g e t = ap (λ (x : GateState). gate_span gaining x o) (ap s (same_number k g t) ∙ e) ∙ shut gaining
  where
    shut : (b : Bool) → gate_span b Closed o ≡ record { lo = 0; hi = 0 }
    shut true = refl
    shut false = refl

-- so a closed gate gains nothing
closed_gains : (m : Market) (ds : List Decision) (ps : List Cents) (g : ℕ) (os : List Order) → state_at m ds g ≡ Closed → int_sum (best_of_gate g (bounds_in m ds) ps) os ≡ pos 0
closed_gains m ds ps g [] e = refl
closed_gains m ds ps g (o ∷ os) e = omega (arith, ints, one, closed_gains m ds ps g os e)
  where
    one : best_of_gate g (bounds_in m ds) ps o ≡ pos 0
    one = by_test (is_gate g o.gate)
        (λ t. ap (λ (b : Bool). if b then best_order (bounds_in m ds) ps o else pos 0) t
        ∙ ap (λ (s : Span). best_trade o.side o.price.0 (price_at ps o.zone) s) (closed_span (state_at m ds) (gains m ds o) (loses m ds o) o.gate o g e t)
        ∙ nothing (gain_per_mw o.side o.price.0 (price_at ps o.zone)))
        (λ f. ap (λ (b : Bool). if b then best_order (bounds_in m ds) ps o else pos 0) f)

-- where the dual value is the cutoff, the gates that are needed are those that the state opens, and the free ones without
-- whose gain the dual value is below the cutoff
pub needed_is : (m : Market) (w : ℤ) (ds : List Decision) (ps : List Cents) (g : ℕ) → dual_of m ds ps ≡ w
    → (is_needed m ds ps g ≡ true) ↔ ((opens m ds g ≡ true) ⊎ ((state_at m ds g ≡ Free) × ((dual_of m ds ps -ℤ gain_of (bounds_in m ds) m ps g) ≤ℤ (w -ℤ pos 1))))
needed_is m w ds ps g top = (
  λ e. elim (or_either (opens m ds g) (lt_z (pos 0) (gain_of (bounds_in m ds) m ps g)) e) [
    | inl said ↦ inl said
    | inr gain ↦ by_test (opens m ds g) (λ said. inl said) (λ isnt. inr
        (free isnt (less (pos 0) (gain_of (bounds_in m ds) m ps g) gain), omega (arith, ints, less (pos 0) (gain_of (bounds_in m ds) m ps g) gain, top)))
  ],
  λ h. elim h [
    | inl said ↦ or_first (opens m ds g) (lt_z (pos 0) (gain_of (bounds_in m ds) m ps g)) said
    | inr two ↦ let below = two.1 in or_later (opens m ds g) (lt_z (pos 0) (gain_of (bounds_in m ds) m ps g)) (is_less (pos 0) (gain_of (bounds_in m ds) m ps g) (omega (arith, ints, below, top)))
  ],
)
  where
    free : opens m ds g ≡ false → pos 0 <ℤ gain_of (bounds_in m ds) m ps g → state_at m ds g ≡ Free
    free isnt gain = by_test (shuts m ds g)
        (λ shut. absurd (omega (arith, ints, gain, closed_gains m ds ps g m.orders (ap (λ (b : Bool). state_by b (shuts m ds g)) isnt ∙ ap (state_by false) shut))))
        (λ open_there. ap (λ (b : Bool). state_by b (shuts m ds g)) isnt ∙ ap (state_by false) open_there)
