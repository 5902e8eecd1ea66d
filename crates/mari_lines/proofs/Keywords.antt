-- The keywords in a list, each at its place.
use Rattle.std.proofs.Common.{◌<◌, ℕ, List, [], ◌∷◌, get_or, arith}
use Rattle.mari_lines.specs.declared.line.Keyword.{Keyword}
use Rattle.mari_lines.specs.declared.line.Keyword.TheVariants.{Mari, Run, Welfare, Zone, Border, Bid, Demand, Tree, Branch, Bound, Cut, Conflict, At, Flows, Mws, Operator, Provider, End, TotalOperator, TotalProvider, Done}

abbrev pub keywords : List Keyword
keywords = Bid ∷ Provider ∷ Demand ∷ Branch ∷ Bound ∷ Zone ∷ Border ∷ Operator ∷ Conflict ∷ At ∷ Flows ∷ Mws ∷ Cut ∷ Run ∷ Welfare ∷ Tree ∷ End ∷ Mari ∷ TotalOperator ∷ TotalProvider ∷ Done ∷ []

-- what holds at each place of the list holds of each keyword
pub of-each : (P : Keyword → Type 0) → ((k : ℕ) (d : Keyword) → k < 21 → P (get_or keywords k d)) → (keyword : Keyword) → P keyword
of-each P at Bid = at 0 Mari (omega arith)
of-each P at Provider = at 1 Mari (omega arith)
of-each P at Demand = at 2 Mari (omega arith)
of-each P at Branch = at 3 Mari (omega arith)
of-each P at Bound = at 4 Mari (omega arith)
of-each P at Zone = at 5 Mari (omega arith)
of-each P at Border = at 6 Mari (omega arith)
of-each P at Operator = at 7 Mari (omega arith)
of-each P at Conflict = at 8 Mari (omega arith)
of-each P at At = at 9 Mari (omega arith)
of-each P at Flows = at 10 Mari (omega arith)
of-each P at Mws = at 11 Mari (omega arith)
of-each P at Cut = at 12 Mari (omega arith)
of-each P at Run = at 13 Mari (omega arith)
of-each P at Welfare = at 14 Mari (omega arith)
of-each P at Tree = at 15 Mari (omega arith)
of-each P at End = at 16 Mari (omega arith)
of-each P at Mari = at 17 Mari (omega arith)
of-each P at TotalOperator = at 18 Mari (omega arith)
of-each P at TotalProvider = at 19 Mari (omega arith)
of-each P at Done = at 20 Mari (omega arith)
