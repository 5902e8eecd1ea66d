-- Which bids have a gate.
use Rattle.std.specs.Prelude.{ℕ, Bool, false, List, slice_get}
use Rattle.std.specs.Option.{option_map_or}
use Rattle.mari_links.specs.declared.links.BidLinks.{BidLinks}

-- whether the bid at a place has a gate
abbrev pub has_gate_at : List BidLinks → ℕ → Bool
has_gate_at links bid = option_map_or (λ (entry : BidLinks). entry.gated) (slice_get links bid) false
