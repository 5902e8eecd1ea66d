-- The merit order after the sort.
use Rattle.std.proofs.Common.{◌≡◌, List, length, map}
use Rattle.std.proofs.lemmas.List.Elements.{All-map}
use Rattle.std.proofs.lemmas.List.Sorted.{All-permutation, length_permutation}
use Rattle.std.specs.List.{All}
use Rattle.std.specs.List.Sorted.{IsPermutation}
use Rattle.mari_market.specs.declared.market.Order.{Order}
use Rattle.mari_merit.specs.declared.marginal.Rung.{Rung}
use Rattle.mari_merit.specs.Merit.{rung_of}

-- what holds of each order's rung holds of the merit order's
pub all_rungs : (P : Rung → Type 0) (os : List Order) (rs : List Rung) → IsPermutation (map rung_of os) rs → All (λ o. P (rung_of o)) os → All P rs
all_rungs P os rs same all = All-permutation P (map rung_of os) rs same (All-map P rung_of os all)

pub as_many : (os : List Order) (rs : List Rung) → IsPermutation (map rung_of os) rs → length rs ≡ length (map rung_of os)
as_many os rs same = length_permutation (map rung_of os) rs same
