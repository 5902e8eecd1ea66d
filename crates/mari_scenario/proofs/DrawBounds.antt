-- How large a draw is.
use Rattle.std.proofs.Common.{◌<◌, ◌/◌, ℕ, mod-lt}
use Rattle.mari_scenario.specs.Draws.{after, draw}

-- a draw below a bound is below it
pub draw-lt : (number bound x : ℕ) → 0 < bound → draw number bound x < bound
draw-lt number bound x some = mod-lt (after number x / 65536) some
