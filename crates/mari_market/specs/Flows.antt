-- What may flow over a border.
use Rattle.std.specs.Prelude.{ℤ, pos, neg_ℤ, ◌≤ℤ◌}
use Rattle.mari_market.specs.declared.market.Border.{Border}

-- the most that may flow from a border's first zone to its second, and the most that may flow back; where one is negative,
-- at least so much has to flow the other way
pub record FlowSpan : Type 0 where
  pub limit : ℤ
  pub back : ℤ

-- a flow lies within the span
pub record IsFlowWithin (s : FlowSpan) (f : ℤ) : Type 0 where
  pub back : neg_ℤ s.back ≤ℤ f
  pub limit : f ≤ℤ s.limit

-- what a border's own limits let flow
abbrev pub border_limits : Border → FlowSpan
border_limits b = record { limit = pos b.limit; back = pos b.back }
