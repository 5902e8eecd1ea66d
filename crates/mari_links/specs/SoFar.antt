-- What stands in memory while a page of links is read.
use Rattle.std.specs.Prelude.{◌≡◌, List, map, unwrap_or}
use Rattle.mari_bids.specs.declared.bids.BidBook.{BidBook}
use Rattle.mari_links.specs.Links.{entries_of, groups_of, quarter_of_group, Member, Said}
use Rattle.mari_links.specs.declared.groups.Groups.{Groups}
use Rattle.mari_links.specs.declared.so_far.LinksSoFar.{LinksSoFar}

-- the groups of these members, and the quarter of the first member of each
pub record HoldsGroups (bids : BidBook) (members : List Member) (groups : Groups) : Type 0 where
  pub names : groups.names ≡ groups_of members
  pub quarters : groups.quarters.items ≡ map (λ name. unwrap_or (quarter_of_group bids members name) 0) (groups_of members)

-- the groups, the links to earlier quarters and the entries of the bids, where this is said
pub record HoldsLinks (bids : BidBook) (said : Said) (so_far : LinksSoFar) : Type 0 where
  pub groups : HoldsGroups bids said.members so_far.groups
  pub timed : so_far.timed.keys ≡ said.timed
  pub entries : so_far.entries.items ≡ entries_of bids said
