-- Leaves by the tables of a state.
use Rattle.std.specs.Prelude.{◌≡◌, ◌||◌, not, Bool, true, false, ℕ, ◌<◌, ℤ, pos, ◌+ℤ◌, ◌-ℤ◌, ◌≤ℤ◌, neg_ℤ, if◌then◌else◌, List, length, map}
use Rattle.std.specs.Int.{int_max, int_min}
use Rattle.std.specs.List.{list_any, range_with_len}
use lib.Signed.{lt_z}
use Rattle.mari_units.specs.declared.numbers.Cents.{Cents}
use Rattle.mari_market.specs.declared.market.Border.{Border}
use Rattle.mari_market.specs.declared.market.Side.{Side}
use Rattle.mari_market.specs.declared.market.Side.TheVariants.{Inject, Withdraw}
use Rattle.mari_market.specs.declared.market.Market.{Market}
use Rattle.mari_market.specs.declared.certificate.CutSide.{CutSide}
use Rattle.mari_market.specs.declared.certificate.CutSide.TheVariants.{Out, In}
use Rattle.mari_market.specs.Cut.{IsCutWithin, most_in_within, most_out_within}
use Rattle.mari_market.specs.Dual.{dual_value_within}
use Rattle.mari_market.specs.First.{ComesBefore}
use Rattle.mari_market.specs.Flows.{FlowSpan}
use Rattle.mari_market.specs.Prefix.{opens_in}
use Rattle.mari_market.specs.Price.{ArePrices, price_at}
use Rattle.mari_market.specs.Sums.{int_at}
use Rattle.mari_reach.specs.declared.decisions.ReachLeaf.{ReachLeaf}
use Rattle.mari_reach.specs.declared.decisions.ReachLeaf.TheVariants.{Void, Bound, Cut}
use Rattle.mari_reach.specs.declared.ladders.Offer.{Offer}
use Rattle.mari_reach.specs.declared.levels.Levels.{Levels}
use Rattle.mari_reach.specs.declared.prices.PriceBox.{PriceBox}
use Rattle.mari_reach.specs.declared.states.State.{State}
use Rattle.mari_units.specs.declared.numbers.TheConstants.{CAP}
use Rattle.mari_reach.specs.Ladders.{mw_in, rung_of}
use Rattle.mari_reach.specs.Leaf.{gain_of}
use Rattle.mari_reach.specs.Tables.{flow_in, is_priceless, is_torn, span_in}

-- the dual value by the tables
abbrev pub dual_in : Market → State → List Cents → ℤ
dual_in m r ps = dual_value_within (span_in r) (flow_in r) m ps

-- whether a plain order is worth most at its greatest quantity: it gains at all prices from low to high, or it gains or is
-- worth nothing at the potential and doesn't lose at all of them
abbrev pub runs_best : Side → (c p low high : ℤ) → Bool
runs_best Inject c p low high = lt_z c low || not (lt_z (int_min p high) c)
runs_best Withdraw c p low high = lt_z high c || not (lt_z c (int_max p low))

-- the price below which a plain injection is worth most at its greatest quantity
abbrev pub inject_below : (p low high : ℤ) → ℤ
inject_below p low high = int_max low (int_min p high +ℤ pos 1)

-- the price above which a plain withdrawal is
abbrev pub withdraw_above : (p low high : ℤ) → ℤ
withdraw_above p low high = int_min high (int_max p low -ℤ pos 1)

-- whether a price is at the better side of its side's level
abbrev pub runs_at : Side → (c below above : ℤ) → Bool
runs_at Inject c below above = lt_z c below
runs_at Withdraw c below above = lt_z above c

-- the levels are those of the zones' potentials in the state of the tables
pub record HasLevels (r : State) (ps : List Cents) (levels : Levels) : Type 0 where
  pub injects : (z : ℕ) → z < length ps → int_at levels.injects z ≡ inject_below (price_at ps z) (int_at r.prices.low z) (int_at r.prices.high z)
  pub withdraws : (z : ℕ) → z < length ps → int_at levels.withdraws z ≡ withdraw_above (price_at ps z) (int_at r.prices.low z) (int_at r.prices.high z)

-- whether the tables have the gate as open, or it gains
abbrev pub is_needed_in : Market → State → List Cents → ℕ → Bool
is_needed_in m r ps g = opens_in r.opened g || lt_z (pos 0) (gain_of (span_in r) m ps g)

-- the word of the gates that are needed by the tables
abbrev pub needed_in : Market → State → List Cents → List Bool
needed_in m r ps = map (is_needed_in m r ps) (range_with_len 0 (length m.gates))

-- the most that a border carries out of the zones, for a cut of side Out, and into them, for one of side In
abbrev pub carried_by : CutSide → (Border → FlowSpan) → List ℕ → Border → ℤ
carried_by Out flows zones b = most_out_within flows zones b
carried_by In flows zones b = most_in_within flows zones b

-- a bound holds by the tables
pub record IsBoundBy (m : Market) (cutoff : ℤ) (word : List Bool) (r : State) (ps : List Cents) : Type 0 where
  pub prices : ArePrices m ps
  pub value : dual_in m r ps ≤ℤ cutoff
  pub early : dual_in m r ps ≡ cutoff → ComesBefore (needed_in m r ps) word → ⊥

-- whether the state is void by the tables
abbrev pub is_void_by : Market → State → Bool
is_void_by m r = list_any (is_torn r) (range_with_len 0 (length m.gates)) || list_any (is_priceless r) (range_with_len 0 m.zones)

-- a leaf holds by the tables
abbrev pub ReachLeafHoldsBy : Market → ℤ → List Bool → State → ReachLeaf → Type 0
ReachLeafHoldsBy m cutoff word r Void = is_void_by m r ≡ true
ReachLeafHoldsBy m cutoff word r (Bound potentials) = (is_void_by m r ≡ false) × IsBoundBy m cutoff word r potentials.cents
ReachLeafHoldsBy m cutoff word r (Cut cut) = (is_void_by m r ≡ false) × IsCutWithin (span_in r) (flow_in r) m cut

-- the level of a side at whose better side a plain order puts in the most that a cut counts of it: of a cut of side Out
-- the least of an injection, and the greatest of a withdrawal
abbrev pub cut_level : CutSide → Side → (low high : ℤ) → ℤ
cut_level Out Inject low high = low
cut_level Out Withdraw low high = withdraw_above (neg_ℤ CAP) low high
cut_level In Inject low high = inject_below CAP low high
cut_level In Withdraw low high = high

-- what a cut counts of an offer of a side
abbrev pub put_by : CutSide → Side → PriceBox → List ℕ → Offer → ℤ
put_by cut side box zones x =
    if lt_z x.price (rung_of side (cut_level cut side (int_at box.low x.zone) (int_at box.high x.zone))) then mw_in zones x.zone x else pos 0
