use Rattle.std.proofs.Common.{◌≡◌, false}
use Rattle.std.specs.Prelude.{◌&&◌, slice_get}
use Rattle.std.specs.List.{list_any, range_with_len}
use Rattle.std.specs.Option.{option_map_or}
use Rattle.mari_blocks.specs.Joint.{is_of_quarters, names_of_quarters}
use Rattle.mari_blocks.proofs.runs.links_across.Given as goal

-- no bid so far has links to another of the quarters
abbrev pub invariant-loop-bid : goal.invariant-loop-bid
invariant-loop-bid l =
    list_any (λ bid. is_of_quarters l.books l.first l.last bid && option_map_or (names_of_quarters l.books l.first l.last) (slice_get l.books.links.links bid) false) (range_with_len 0 l.bid) ≡ false
