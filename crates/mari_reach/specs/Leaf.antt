-- Leaves: why no admissible activation that a state reaches has a welfare above a cutoff.
use Rattle.std.specs.Prelude.{◌≡◌, ◌||◌, if◌then◌else◌, Bool, ℕ, ℤ, pos, ◌≤ℤ◌, List, length, map}
use Rattle.std.specs.List.{range_with_len}
use lib.Signed.{lt_z}
use Rattle.mari_units.specs.declared.numbers.Cents.{Cents}
use Rattle.mari_market.specs.declared.market.Order.{Order}
use Rattle.mari_market.specs.declared.market.Market.{Market}
use Rattle.mari_market.specs.Activation.{is_gate}
use Rattle.mari_market.specs.Bounds.{Span}
use Rattle.mari_market.specs.Cut.{IsCutWithin}
use Rattle.mari_market.specs.Dual.{best_order, dual_value_within}
use Rattle.mari_market.specs.First.{ComesBefore}
use Rattle.mari_market.specs.Price.{ArePrices}
use Rattle.mari_market.specs.Sums.{int_sum}
use Rattle.mari_reach.specs.declared.decisions.Decision.{Decision}
use Rattle.mari_reach.specs.declared.decisions.ReachLeaf.{ReachLeaf}
use Rattle.mari_reach.specs.declared.decisions.ReachLeaf.TheVariants.{Void, Bound, Cut}
use Rattle.mari_reach.specs.State.{bounds_in, flows_in, opens, IsVoid}

-- the dual value by a state's bounds
abbrev pub dual_of : Market → List Decision → List Cents → ℤ
dual_of m ds ps = dual_value_within (bounds_in m ds) (flows_in m ds) m ps

-- the most that an order of the gate gains, and 0 of any other
abbrev pub best_of_gate : ℕ → (Order → Span) → List Cents → Order → ℤ
best_of_gate g bounds ps o = if is_gate g o.gate then best_order bounds ps o else pos 0

-- the gain of a gate: what its orders gain at most
abbrev pub gain_of : (Order → Span) → Market → List Cents → ℕ → ℤ
gain_of bounds m ps g = int_sum (best_of_gate g bounds ps) m.orders

-- whether the state opens the gate, or the gate gains
-- Where the dual value is the cutoff, a gate gains exactly where the dual value less its gain is below the cutoff. A gate
-- that the state closes gains nothing.
abbrev pub is_needed : Market → List Decision → List Cents → ℕ → Bool
is_needed m ds ps g = opens m ds g || lt_z (pos 0) (gain_of (bounds_in m ds) m ps g)

-- the word that opens each gate without which nothing reaches the dual value
abbrev pub needed_word : Market → List Decision → List Cents → List Bool
needed_word m ds ps = map (is_needed m ds ps) (range_with_len 0 (length m.gates))

-- the dual value is at most the cutoff; and where it is the cutoff, the word of the gates that are needed doesn't come
-- before the gate word
pub record IsBoundFor (m : Market) (cutoff : ℤ) (word : List Bool) (ds : List Decision) (ps : List Cents) : Type 0 where
  pub prices : ArePrices m ps
  pub value : dual_of m ds ps ≤ℤ cutoff
  pub early : dual_of m ds ps ≡ cutoff → ComesBefore (needed_word m ds ps) word → ⊥

-- a leaf holds for a state at a cutoff, for a gate word: where the state is void only `Void` does
abbrev pub ReachLeafHolds : Market → ℤ → List Bool → List Decision → ReachLeaf → Type 0
ReachLeafHolds m cutoff word ds Void = IsVoid m ds
ReachLeafHolds m cutoff word ds (Bound potentials) = (IsVoid m ds → ⊥) × IsBoundFor m cutoff word ds potentials.cents
ReachLeafHolds m cutoff word ds (Cut cut) = (IsVoid m ds → ⊥) × IsCutWithin (bounds_in m ds) (flows_in m ds) m cut
