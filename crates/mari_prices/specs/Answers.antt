-- What the test of prices answers.
use Rattle.std.specs.Prelude.{ℕ, List, ⊤}
use Rattle.mari_prices.specs.declared.intervals.PriceFault.{PriceFault}
use Rattle.mari_prices.specs.declared.intervals.PriceFault.TheVariants.{Conflict, Memory}

-- where the fault is a conflict, P holds of its chain
abbrev pub OnConflict : PriceFault → (List ℕ → Type 0) → Type 0
OnConflict (Conflict chain) P = P chain
OnConflict Memory P = ⊤
