-- Borders and their flows, as a loop reads them side by side.
use Rattle.std.proofs.Common.{◌≡◌, ℕ, ◌<◌, ℤ, pos, List, length, get_or, to_z, of_z, w64, to_z-of_z}
use Rattle.std.specs.Prelude.{FitsSigned}
use Rattle.std.specs.List.{AllZip}
use Rattle.mari_market.specs.declared.market.Border.{Border}
use Rattle.mari_market.specs.Activation.{IsWithinLimits}
use Rattle.mari_market.proofs.Sums.{AllZip-at}

-- a border, where there is none
abbrev pub no_border : Border
no_border = record { from = 0; to = 0; limit = 0; back = 0 }

-- the flow at a place, as the code has it, is within the limits of the border there
pub flow_within : (bs cs : List Border) (fs gs : List ℤ) (i : ℕ) → cs ≡ bs → gs ≡ fs → i < length cs
    → AllZip IsWithinLimits bs fs → FitsSigned w64 (get_or gs i (pos 0))
    → IsWithinLimits (get_or cs i no_border) (to_z w64 (of_z w64 (get_or gs i (pos 0))))
flow_within bs cs fs gs i b f h a fits = rw (to_z-of_z fits) (AllZip-at IsWithinLimits cs gs i no_border (pos 0) h (rw (b, f) a))
