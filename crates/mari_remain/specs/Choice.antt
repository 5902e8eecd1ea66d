-- What the choice of a run's bids reads off what is kept.
use Rattle.std.specs.Prelude.{ℕ, ◌==◌, Bool, true, ◌&&◌, ◌||◌, List, is_some, length, not, slice_get}
use Rattle.std.specs.List.{list_any}
use Rattle.std.specs.Option.{option_map_or}
use Rattle.mari_links.specs.declared.links.BidLinks.{BidLinks}
use Rattle.mari_remain.specs.declared.books.Books.{Books}
use Rattle.mari_remain.specs.Available.{Taken, has_free_group, keeps_links}
use Rattle.mari_remain.specs.FirstBlocks.{Tally, activated_in, direct_in}
use Rattle.mari_remain.specs.Lists.{group_at, parent_at}

-- a bid that was activated and is in a group
abbrev pub rivals_in : Books → Tally → ℕ → Bool
rivals_in books kept i = activated_in kept i && is_some (group_at books.links.links i)

-- the bids that these links name were activated, or not, as they have to be
abbrev pub keeps_links_in : Tally → BidLinks → Bool
keeps_links_in kept l = keeps_links (λ i. activated_in kept i) (λ i. direct_in kept i) l

-- the other bids of its group, those that it names, and its parent let a bid run, after these gated ones
abbrev pub is_let_in : Books → Tally → Taken → List ℕ → ℕ → Bool
is_let_in books kept taken gated i = has_free_group books.links.links taken i && (option_map_or (keeps_links_in kept) (slice_get books.links.links i) true
    && option_map_or (λ p. activated_in kept p || list_any (λ j. j == p) gated) (parent_at books.links.links i) true)

-- a bid is in no group, has no parent and names no other bid
abbrev pub is_alone : BidLinks → Bool
is_alone l = not (is_some l.group) && (not (is_some l.parent) && (length l.needs == 0 && (length l.bars == 0 && length l.technical == 0)))
