-- Prefixes read gate by gate.
use Rattle.std.specs.Prelude.{Bool, ℕ, List, map}
use Rattle.std.specs.List.{range_with_len}
use Rattle.mari_market.specs.declared.prefix.Prefix.{Prefix}
use Rattle.mari_market.specs.Prefix.{bit_of}

-- the first n gates as the prefix's bits have them: up to its length, the prefix as a word
abbrev pub decisions : Prefix → ℕ → List Bool
decisions x n = map (bit_of x) (range_with_len 0 n)
