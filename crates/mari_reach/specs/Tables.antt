-- States as tables.
use Rattle.std.specs.Prelude.{◌≡◌, ◌&&◌, ◌||◌, not, Bool, true, ℕ, ◌<◌, ◌≤◌, List, length, Option, None, slice_index_or, IfSome}
use Rattle.std.specs.List.{All, filter, list_any}
use Rattle.std.specs.Option.{is_some}
use lib.Signed.{lt_z}
use Rattle.mari_market.specs.declared.market.Border.{Border}
use Rattle.mari_market.specs.declared.market.Order.{Order}
use Rattle.mari_market.specs.declared.market.Market.{Market}
use Rattle.mari_market.specs.declared.market.Side.TheVariants.{Inject, Withdraw}
use Rattle.mari_market.specs.Bounds.{Span, GateState}
use Rattle.mari_market.specs.Flows.{FlowSpan}
use Rattle.mari_market.specs.Activation.{is_gate}
use Rattle.mari_market.specs.Cut.{is_in}
use Rattle.mari_market.specs.Market.{IsValidOrder}
use Rattle.mari_market.specs.Prefix.{opens_in}
use Rattle.mari_market.specs.Sums.{int_at}
use Rattle.mari_units.specs.declared.limits.TheConstants.{MOST_ZONES}
use Rattle.mari_reach.specs.declared.decisions.Decision.{Decision}
use Rattle.mari_reach.specs.declared.marks.Marks.{Marks}
use Rattle.mari_reach.specs.declared.prices.PriceBox.{PriceBox}
use Rattle.mari_reach.specs.declared.states.State.{State}
use Rattle.mari_reach.specs.declared.sides.Ladders.{Ladders}
use Rattle.mari_reach.specs.declared.survey.Survey.{Survey}
use Rattle.mari_reach.specs.declared.ranks.Lone.{Lone}
use Rattle.mari_reach.specs.declared.ranks.Twins.{Twins}
use Rattle.mari_reach.specs.declared.zones.ZoneSet.{ZoneSet}
use Rattle.mari_reach.specs.Ladders.{IsLadderOf}
use Rattle.mari_reach.specs.Twins.{lone_order, outranks_by}
use Rattle.mari_reach.specs.State.{border_span, gains_within, high_by, high_of, loses_within, low_by, low_of, opens, reached_span, shuts, state_by}

-- the order of a lone gate by the table
abbrev pub lone_in : Lone → ℕ → Option Order
lone_in t g = slice_index_or t.orders g None

-- the table is that of a market's lone gates
abbrev pub IsLoneOf : Market → Lone → Type 0
IsLoneOf m t = (g : ℕ) → g < length m.gates → lone_in t g ≡ lone_order m g

-- whether gate g is a twin of gate h by the table, and ranks before it
abbrev pub outranks_in : Lone → ℕ → ℕ → Bool
outranks_in t g h = outranks_by (lone_in t g) g (lone_in t h) h

-- both gates are marked, if they are twins by the table
abbrev pub AreMarked : Lone → Marks → ℕ → ℕ → Type 0
AreMarked t marks g h = (outranks_in t g h || outranks_in t h g) ≡ true → (opens_in marks g && opens_in marks h) ≡ true

-- the table is that of a market's twins: it has the orders of its lone gates, and each gate that has a twin is marked
pub record IsTwinsOf (m : Market) (t : Twins) : Type 0 where
  pub lone : IsLoneOf m t.lone
  pub marked : (g h : ℕ) → g < length m.gates → h ≤ g → AreMarked t.lone t.twinned g h

-- whether an order gains at every price of the box
abbrev pub gains_in : PriceBox → Order → Bool
gains_in box o = gains_within o.side o.price.0 (int_at box.low o.zone) (int_at box.high o.zone)

-- whether an order loses at every price of the box
abbrev pub loses_in : PriceBox → Order → Bool
loses_in box o = loses_within o.side o.price.0 (int_at box.low o.zone) (int_at box.high o.zone)

-- whether a zone is dearer than another at all prices of the box
abbrev pub is_dearer_in : PriceBox → (dear cheap : ℕ) → Bool
is_dearer_in box dear cheap = lt_z (int_at box.high cheap) (int_at box.low dear)

-- whether a border's second zone is dearer than its first at all prices of the box
abbrev pub rises_in : PriceBox → Border → Bool
rises_in box b = is_dearer_in box b.to b.from

-- whether a border's second zone is cheaper than its first at all prices of the box
abbrev pub falls_in : PriceBox → Border → Bool
falls_in box b = is_dearer_in box b.from b.to

-- the marks are of the gates that a state opens
abbrev pub HasOpened : Market → List Decision → Marks → Type 0
HasOpened m ds marks = (g : ℕ) → g < length m.gates → opens_in marks g ≡ opens m ds g

-- the box has the least and the greatest prices of a state
pub record HasPrices (m : Market) (ds : List Decision) (box : PriceBox) : Type 0 where
  pub low : (z : ℕ) → z < m.zones → int_at box.low z ≡ low_of m ds z
  pub high : (z : ℕ) → z < m.zones → int_at box.high z ≡ high_of m ds z

-- whether an order is of a gate
abbrev pub has_gate : Order → Bool
has_gate o = is_some o.gate

-- whether an order is of no gate
abbrev pub is_plain : Order → Bool
is_plain o = not (has_gate o)

-- whether some of these orders is of the gate and always loses by the box
abbrev pub has_loss_in : PriceBox → List Order → ℕ → Bool
has_loss_in box os g = list_any (λ (o : Order). is_gate g o.gate && loses_in box o) os

-- orders that leave the same prices as all of a market, and close the same gates
pub record SpeaksFor (m : Market) (os : List Order) : Type 0 where
  pub valid : All (IsValidOrder m.zones (length m.gates)) os
  pub low : (on : ℕ → Bool) (ds : List Decision) (z : ℕ) → low_by on ds os z ≡ low_by on ds m.orders z
  pub high : (on : ℕ → Bool) (ds : List Decision) (z : ℕ) → high_by on ds os z ≡ high_by on ds m.orders z
  pub losses : (box : PriceBox) (g : ℕ) → has_loss_in box os g ≡ has_loss_in box m.orders g

-- the ladders are those of a market's plain orders
pub record AreLaddersOf (m : Market) (l : Ladders) : Type 0 where
  pub injecting : IsLadderOf m Inject l.injecting
  pub withdrawing : IsLadderOf m Withdraw l.withdrawing

-- the survey is that of a market
pub record IsSurveyOf (m : Market) (s : Survey) : Type 0 where
  pub gated : SpeaksFor m s.gated.items
  pub of_gates : s.gated.items ≡ filter has_gate m.orders
  pub ladders : IfSome s.ladders (AreLaddersOf m)
  pub twins : IsTwinsOf m s.twins

-- the tables are those of a state
pub record IsStateOf (m : Market) (ds : List Decision) (r : State) : Type 0 where
  pub opened : HasOpened m ds r.opened
  pub shut : (g : ℕ) → g < length m.gates → opens_in r.shut g ≡ shuts m ds g
  pub prices : HasPrices m ds r.prices

-- what is known of a gate by the tables
abbrev pub state_in : State → ℕ → GateState
state_in r g = state_by (opens_in r.opened g) (opens_in r.shut g)

-- an order's bounds by the tables
abbrev pub span_in : State → Order → Span
span_in r o = reached_span (state_in r) (gains_in r.prices o) (loses_in r.prices o) o.gate o

-- a border's bounds by the tables
abbrev pub flow_in : State → Border → FlowSpan
flow_in r b = border_span (rises_in r.prices b) (falls_in r.prices b) b

-- whether the tables have the gate as both open and closed
abbrev pub is_torn : State → ℕ → Bool
is_torn r g = opens_in r.opened g && opens_in r.shut g

-- whether the tables leave no price to the zone
abbrev pub is_priceless : State → ℕ → Bool
is_priceless r z = is_dearer_in r.prices z z

-- the marks are of the zones of the set
abbrev pub IsZoneSet : ZoneSet → Type 0
IsZoneSet s = (z : ℕ) → z < MOST_ZONES → opens_in s.marks z ≡ is_in s.zones.now z
