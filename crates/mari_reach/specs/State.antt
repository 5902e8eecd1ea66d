-- States: lists of decisions, and what they leave to other gates, to prices, to orders and to borders.
use Rattle.std.specs.Prelude.{◌≡◌, ◌⊎◌, ◌==◌, ◌&&◌, ◌||◌, not, if◌then◌else◌, Bool, true, false, ℕ, zero, suc, ◌<◌, ℤ, pos, neg_ℤ, ◌+ℤ◌, ◌≤ℤ◌, ◌<ℤ◌, List, [], ◌∷◌, ◌++◌, length, map, Option, Some, None, All}
use Rattle.std.specs.Int.{int_max, int_min}
use Rattle.std.specs.List.{fold, list_any, range_with_len}
use lib.Signed.{lt_z}
use Rattle.mari_units.specs.declared.numbers.Cents.{Cents}
use Rattle.mari_units.specs.declared.numbers.TheConstants.{CAP}
use Rattle.mari_market.specs.declared.market.Side.{Side}
use Rattle.mari_market.specs.declared.market.Side.TheVariants.{Inject, Withdraw}
use Rattle.mari_market.specs.declared.market.Order.{Order}
use Rattle.mari_market.specs.declared.market.Border.{Border}
use Rattle.mari_market.specs.declared.market.GateInfo.{GateInfo}
use Rattle.mari_market.specs.declared.market.Market.{Market}
use Rattle.mari_market.specs.declared.activation.Activation.{Activation}
use Rattle.mari_market.specs.Activation.{is_gate, is_open}
use Rattle.mari_market.specs.Bounds.{Span, GateState, gated_span}
use Rattle.mari_market.specs.Bounds.GateState.{Open, Closed, Free}
use Rattle.mari_market.specs.Flows.{FlowSpan, border_limits}
use Rattle.mari_market.specs.Gates.{group_of, parent_of}
use Rattle.mari_market.specs.Optimal.{IsConsistent, IsFeasible}
use Rattle.mari_market.specs.Price.{IsPrice, price_at}
use Rattle.mari_reach.specs.Twins.{outranks, KeepsRank}
use Rattle.mari_reach.specs.declared.decisions.Choice.{Choice}
use Rattle.mari_reach.specs.declared.decisions.Choice.TheVariants.{OfGate, OfPrice}
use Rattle.mari_reach.specs.declared.decisions.Decision.{Decision}
use Rattle.mari_reach.specs.declared.decisions.Decision.TheVariants.{Above, AtMost, Gate}

-- ---- gates

-- a gate if there is one, its parent, the parent of this and so on, n of them at most
abbrev pub line_from : ℕ → List GateInfo → Option ℕ → List ℕ
line_from zero gates gate = []
line_from (suc n) gates None = []
line_from (suc n) gates (Some g) = g ∷ line_from n gates (parent_of gates g)

-- the line of a gate: it, its parent, the parent of this and so on; no gate has more gates above it than there are
abbrev pub line_of : List GateInfo → ℕ → List ℕ
line_of gates g = line_from (length gates) gates (Some g)

-- whether the decision opens the gate: it decides as open this gate, or one in whose line it is, or a twin before which it
-- ranks
abbrev pub opens_by : Market → ℕ → Decision → Bool
opens_by m g (Gate h b) = b && (list_any (λ k. k == g) (line_of m.gates h) || outranks m g h)
opens_by m g (AtMost z p) = false
opens_by m g (Above z p) = false

-- whether the state opens the gate: a decision does
abbrev pub opens : Market → List Decision → ℕ → Bool
opens m ds g = list_any (opens_by m g) ds

-- whether the decision closes the gate: it decides as closed this gate, or a twin that ranks before it
abbrev pub closes_by : Market → ℕ → Decision → Bool
closes_by m g (Gate h b) = not b && ((h == g) || outranks m h g)
closes_by m g (AtMost z p) = false
closes_by m g (Above z p) = false

-- whether a decision of the state closes the gate
abbrev pub closes : Market → List Decision → ℕ → Bool
closes m ds g = list_any (closes_by m g) ds

-- whether there are two groups and they are the same
abbrev pub is_one_group : Option ℕ → Option ℕ → Bool
is_one_group None k = false
is_one_group (Some j) None = false
is_one_group (Some j) (Some k) = j == k

-- whether the gates are different ones of one group
abbrev pub are_rivals : List GateInfo → ℕ → ℕ → Bool
are_rivals gates g h = not (g == h) && is_one_group (group_of gates g) (group_of gates h)

-- whether the group of the gate has another open gate
abbrev pub has_rival : List GateInfo → (ℕ → Bool) → ℕ → Bool
has_rival gates on g = list_any (λ h. are_rivals gates g h && on h) (range_with_len 0 (length gates))

-- ---- the box of prices

-- whether an order that names this gate or none is of an open one
abbrev pub is_opened : (ℕ → Bool) → Option ℕ → Bool
is_opened on None = false
is_opened on (Some g) = on g

-- the least price that an order may have in its zone: its own where it injects and has to be paid, else any
abbrev pub floor_of : Bool → Side → ℤ → ℤ
floor_of true Inject c = c
floor_of true Withdraw c = neg_ℤ CAP
floor_of false side c = neg_ℤ CAP

-- the greatest price that an order may have in its zone: its own where it withdraws and has to gain, else any
abbrev pub ceiling_of : Bool → Side → ℤ → ℤ
ceiling_of true Inject c = CAP
ceiling_of true Withdraw c = c
ceiling_of false side c = CAP

-- the least price that an order leaves to a zone
abbrev pub floor_at : (ℕ → Bool) → ℕ → Order → ℤ
floor_at on z o = floor_of ((o.zone == z) && is_opened on o.gate) o.side o.price.0

-- the greatest price that an order leaves to a zone
abbrev pub ceiling_at : (ℕ → Bool) → ℕ → Order → ℤ
ceiling_at on z o = ceiling_of ((o.zone == z) && is_opened on o.gate) o.side o.price.0

-- the least price that a decision leaves to a zone
abbrev pub floor_said : ℕ → Decision → ℤ
floor_said z (Gate g b) = neg_ℤ CAP
floor_said z (AtMost y p) = neg_ℤ CAP
floor_said z (Above y p) = if y == z then p.0 +ℤ pos 1 else neg_ℤ CAP

-- the greatest price that a decision leaves to a zone
abbrev pub ceiling_said : ℕ → Decision → ℤ
ceiling_said z (Gate g b) = CAP
ceiling_said z (AtMost y p) = if y == z then p.0 else CAP
ceiling_said z (Above y p) = CAP

-- the least price that decisions of prices leave to a zone
abbrev pub low_said : List Decision → ℕ → ℤ
low_said ds z = fold int_max (neg_ℤ CAP) (map (floor_said z) ds)

-- the greatest price that decisions of prices leave to a zone
abbrev pub high_said : List Decision → ℕ → ℤ
high_said ds z = fold int_min CAP (map (ceiling_said z) ds)

-- a zone's least price: the greatest of the negative of the cap, the decided ones and the prices of injections of open
-- gates there
abbrev pub low_by : (ℕ → Bool) → List Decision → List Order → ℕ → ℤ
low_by on ds os z = fold int_max (low_said ds z) (map (floor_at on z) os)

-- a zone's greatest price: the least of the cap, the decided ones and the prices of withdrawals of open gates there
abbrev pub high_by : (ℕ → Bool) → List Decision → List Order → ℕ → ℤ
high_by on ds os z = fold int_min (high_said ds z) (map (ceiling_at on z) os)

-- a zone's least price in a state
abbrev pub low_of : Market → List Decision → ℕ → ℤ
low_of m ds = low_by (opens m ds) ds m.orders

-- a zone's greatest price in a state
abbrev pub high_of : Market → List Decision → ℕ → ℤ
high_of m ds = high_by (opens m ds) ds m.orders

-- whether an order gains at every price from low to high
abbrev pub gains_within : Side → ℤ → ℤ → ℤ → Bool
gains_within Inject c low high = lt_z c low
gains_within Withdraw c low high = lt_z high c

-- whether an order loses at every price from low to high
abbrev pub loses_within : Side → ℤ → ℤ → ℤ → Bool
loses_within Inject c low high = lt_z high c
loses_within Withdraw c low high = lt_z c low

-- whether an order always gains in a state
abbrev pub gains : Market → List Decision → Order → Bool
gains m ds o = gains_within o.side o.price.0 (low_of m ds o.zone) (high_of m ds o.zone)

-- whether an order always loses in a state
abbrev pub loses : Market → List Decision → Order → Bool
loses m ds o = loses_within o.side o.price.0 (low_of m ds o.zone) (high_of m ds o.zone)

-- ---- closed gates, and bounds

-- whether some order of the gate always loses
abbrev pub has_loss : Market → List Decision → ℕ → Bool
has_loss m ds g = list_any (λ (o : Order). is_gate g o.gate && loses m ds o) m.orders

-- whether the gate itself is closed: a decision closes it, or its group has another open gate, or an order of it always
-- loses (and then an order of each twin before which it ranks always loses too)
abbrev pub is_shut : Market → List Decision → ℕ → Bool
is_shut m ds g = closes m ds g || (has_rival m.gates (opens m ds) g || has_loss m ds g)

-- whether the state closes the gate: a gate in its line is closed itself
abbrev pub shuts : Market → List Decision → ℕ → Bool
shuts m ds g = list_any (is_shut m ds) (line_of m.gates g)

-- a gate that is opened, else closed, else free
abbrev pub state_by : Bool → Bool → GateState
state_by true closed = Open
state_by false true = Closed
state_by false false = Free

-- what is known of a gate in a state
abbrev pub state_at : Market → List Decision → ℕ → GateState
state_at m ds g = state_by (opens m ds g) (shuts m ds g)

-- a plain order's bounds: its greatest where it always gains, nothing where it always loses, else up to its greatest
abbrev pub plain_span : Bool → Bool → Order → Span
plain_span true losing o = record { lo = o.greatest; hi = o.greatest }
plain_span false true o = record { lo = 0; hi = 0 }
plain_span false false o = record { lo = 0; hi = o.greatest }

-- a gated order's bounds: as its gate leaves them, but its greatest where the gate is open and the order always gains
abbrev pub gate_span : Bool → GateState → Order → Span
gate_span true Open o = record { lo = o.greatest; hi = o.greatest }
gate_span false Open o = gated_span Open o
gate_span gaining Closed o = gated_span Closed o
gate_span gaining Free o = gated_span Free o

-- the bounds of an order of this gate or of none
abbrev pub reached_span : (ℕ → GateState) → (gaining losing : Bool) → Option ℕ → Order → Span
reached_span state gaining losing None o = plain_span gaining losing o
reached_span state gaining losing (Some g) o = gate_span gaining (state g) o

-- an order's bounds in a state
abbrev pub bounds_in : Market → List Decision → Order → Span
bounds_in m ds o = reached_span (state_at m ds) (gains m ds o) (loses m ds o) o.gate o

-- whether a border's second zone is dearer than its first at all prices of the state
abbrev pub rises : Market → List Decision → Border → Bool
rises m ds b = lt_z (high_of m ds b.from) (low_of m ds b.to)

-- whether a border's second zone is cheaper than its first at all prices of the state
abbrev pub falls : Market → List Decision → Border → Bool
falls m ds b = lt_z (high_of m ds b.to) (low_of m ds b.from)

-- a border's bounds: its limit where its second zone is always dearer, its back limit where it is always cheaper, else
-- its own limits
abbrev pub border_span : (rising falling : Bool) → Border → FlowSpan
border_span true falling b = record { limit = pos b.limit; back = neg_ℤ (pos b.limit) }
border_span false true b = record { limit = neg_ℤ (pos b.back); back = pos b.back }
border_span false false b = border_limits b

-- a border's bounds in a state
abbrev pub flows_in : Market → List Decision → Border → FlowSpan
flows_in m ds b = border_span (rises m ds b) (falls m ds b) b

-- ---- states

-- a gate that the state both opens and closes
pub record IsTorn (m : Market) (ds : List Decision) (g : ℕ) : Type 0 where
  pub there : g < length m.gates
  pub opened : opens m ds g ≡ true
  pub shut : shuts m ds g ≡ true

-- a zone to which the state leaves no price
pub record IsPriceless (m : Market) (ds : List Decision) (z : ℕ) : Type 0 where
  pub there : z < m.zones
  pub none : high_of m ds z <ℤ low_of m ds z

-- a state is void where a gate is both open and closed, or a zone has no price
abbrev pub IsVoid : Market → List Decision → Type 0
IsVoid m ds = ((g : ℕ) × IsTorn m ds g) ⊎ ((z : ℕ) × IsPriceless m ds z)

-- a gate that is there and that the state leaves free
pub record IsFree (m : Market) (ds : List Decision) (g : ℕ) : Type 0 where
  pub there : g < length m.gates
  pub free : state_at m ds g ≡ Free

-- a price that is less than the greatest and at least the least price of a zone that is there
pub record IsBetweenPrices (m : Market) (ds : List Decision) (z : ℕ) (p : ℤ) : Type 0 where
  pub there : z < m.zones
  pub low : low_of m ds z ≤ℤ p
  pub high : p <ℤ high_of m ds z

-- the state leaves a choice: a free gate, or a price within the box
abbrev pub IsLeft : Market → List Decision → Choice → Type 0
IsLeft m ds (OfGate g) = IsFree m ds g
IsLeft m ds (OfPrice z p) = IsBetweenPrices m ds z p.0

-- a branch stands at a choice that is left, in a state that isn't void
pub record MayBranch (m : Market) (ds : List Decision) (choice : Choice) : Type 0 where
  pub live : IsVoid m ds → ⊥
  pub left : IsLeft m ds choice

-- the decision that a choice's first child adds: the gate is closed, or the price is at most this one
abbrev pub first_of : Choice → Decision
first_of (OfGate g) = Gate g false
first_of (OfPrice z p) = AtMost z p

-- the decision that its second child adds: the gate is open, or the price is above this one
abbrev pub second_of : Choice → Decision
second_of (OfGate g) = Gate g true
second_of (OfPrice z p) = Above z p

-- the children of a state at a choice
abbrev pub children_at : List Decision → Choice → List (List Decision)
children_at ds choice = (ds ++ first_of choice ∷ []) ∷ (ds ++ second_of choice ∷ []) ∷ []

-- a decision of a gate that is there, or of a price within the cap in a zone that is there
abbrev pub IsDecision : Market → Decision → Type 0
IsDecision m (Gate g b) = g < length m.gates
IsDecision m (AtMost z p) = (z < m.zones) × IsPrice p.0
IsDecision m (Above z p) = (z < m.zones) × IsPrice p.0

-- the same of each decision of a state
abbrev pub AreDecisions : Market → List Decision → Type 0
AreDecisions m ds = All (IsDecision m) ds

-- open gates and prices are as a decision says
abbrev pub Obeys : (ℕ → Bool) → List Cents → Decision → Type 0
Obeys on ps (Gate g b) = on g ≡ b
Obeys on ps (AtMost z p) = price_at ps z ≤ℤ p.0
Obeys on ps (Above z p) = p.0 <ℤ price_at ps z

-- open gates and prices are as the state decides
abbrev pub Agree : List Decision → (ℕ → Bool) → List Cents → Type 0
Agree ds on ps = All (Obeys on ps) ds

-- the state reaches an activation with prices: it is feasible, they are consistent with it, its gates and they are as the
-- state decides, and its open gates keep the rank of twins
pub record IsReached (m : Market) (ds : List Decision) (a : Activation) (ps : List Cents) : Type 0 where
  pub feasible : IsFeasible m a
  pub consistent : IsConsistent m a ps
  pub agree : Agree ds (is_open m a) ps
  pub ranked : KeepsRank m (is_open m a)
