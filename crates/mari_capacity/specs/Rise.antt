-- What a raised limit brings at most, by prices.
use Rattle.std.specs.Prelude.{ℕ, Bool, ℤ, pos, ◌-ℤ◌, ◌*ℤ◌, List}
use Rattle.std.specs.Int.{int_max}
use Rattle.mari_units.specs.declared.numbers.Cents.{Cents}
use Rattle.mari_market.specs.declared.market.Border.{Border}
use Rattle.mari_market.specs.Price.{price_at}
use Rattle.mari_network.specs.Chain.{head_of, tail_of}

-- for each MW the price of the zone that energy reaches less that of the zone which it leaves, and nothing where that is
-- negative
abbrev pub rise_of : List Cents → Border → (forth : Bool) → (more : ℕ) → ℤ
rise_of ps b forth more = pos more *ℤ int_max (pos 0) (price_at ps (head_of forth b) -ℤ price_at ps (tail_of forth b))
