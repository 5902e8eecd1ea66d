-- Rungs as words: a price, and then a place.
use Rattle.std.specs.Prelude.{ℕ, ◌/◌, ◌%◌, pos, ◌-ℤ◌}
use Rattle.mari_network.specs.declared.network.Rung.{Rung}
use Rattle.mari_network.specs.declared.network.TheConstants.{WORD_PLACES}
use Rattle.mari_network.specs.declared.slots.TheConstants.{BEYOND}

-- the rung of a word
abbrev pub rung_in : ℕ → Rung
rung_in word = record { price = pos (word / WORD_PLACES) -ℤ BEYOND; place = word % WORD_PLACES }
