-- Which bids of its quarter are available in a run.
use Rattle.std.specs.Prelude.{ℕ, zero, suc, ◌-◌, ◌==◌, ℤ, Bool, true, false, List, Option, Some, None, if◌then◌else◌, not, ◌&&◌, ◌||◌, length, nat_lt, slice_get}
use Rattle.std.specs.List.{list_all, list_any, range_with_len}
use Rattle.std.specs.Option.{option_map_or}
use Rattle.mari_bids.specs.Bids.{bid_numbered}
use Rattle.mari_bids.specs.declared.bids.Bid.{Bid}
use Rattle.mari_links.specs.Links.{has_gate}
use Rattle.mari_links.specs.declared.links.BidLinks.{BidLinks}
use Rattle.mari_demands.specs.declared.runs.Run.{Run}
use Rattle.mari_remain.specs.declared.books.Books.{Books}
use Rattle.mari_remain.specs.Blocks.{PastBlock, flow_of, is_activated, mw_of, of_direct_runs, of_quarter}
use Rattle.mari_remain.specs.Lists.{group_at, parent_at}

-- what was taken before a run: the MW of each bid in the run's quarter, whether a bid was activated at all, whether a
-- direct run activated it, and the sum of each border's flows in the quarter
pub record Taken : Type 0 where
  pub mw : ℕ → ℕ
  pub activated : ℕ → Bool
  pub by_direct_run : ℕ → Bool
  pub flow : ℕ → ℤ

-- what blocks took, for a run of a quarter
abbrev pub taken_by : List PastBlock → (quarter : ℕ) → Taken
taken_by blocks quarter = record {
  mw = mw_of (of_quarter quarter blocks);
  activated = is_activated blocks;
  by_direct_run = is_activated (of_direct_runs blocks);
  flow = flow_of (of_quarter quarter blocks);
}

-- a bid is for both kinds of run, or for scheduled runs alone
abbrev pub is_for : Run → Bid → Bool
is_for run b = b.both || not run.direct

-- what is left of a bid's offer in its quarter
abbrev pub rest_of : Books → Taken → ℕ → ℕ
rest_of books taken i = (bid_numbered books.bids.bids i).greatest - taken.mw i

-- whether a bid was activated in the quarter
abbrev pub is_used : Taken → ℕ → Bool
is_used taken i = nat_lt 0 (taken.mw i)

-- a plain bid is there with what is left of its offer, if anything is; a gated bid is there where it wasn't activated
abbrev pub is_left : Books → Taken → ℕ → Bool
is_left books taken i = if has_gate books.links i then not (is_used taken i) else nat_lt 0 (rest_of books taken i)

-- two bids are in one group
abbrev pub share_group : List BidLinks → ℕ → ℕ → Bool
share_group links i j = option_map_or (λ g. option_map_or (λ h. h == g) (group_at links j) false) (group_at links i) false

-- no other bid of its group was activated in the quarter
abbrev pub has_free_group : List BidLinks → Taken → ℕ → Bool
has_free_group links taken i = not (list_any (λ j. not (j == i) && (share_group links i j && is_used taken j)) (range_with_len 0 (length links)))

-- the links of a bid let it run: each bid that it needs was activated, none that bars it was, and no technical one was
-- in a direct run
abbrev pub keeps_links : (activated by_direct_run : ℕ → Bool) → BidLinks → Bool
keeps_links activated by_direct_run l =
    list_all activated l.needs
    && (not (list_any activated l.bars) && not (list_any by_direct_run l.technical))

-- all of this: nothing but its parent can keep the bid from the run
abbrev pub may_run : Books → Taken → Run → ℕ → Bool
may_run books taken run i =
    is_for run (bid_numbered books.bids.bids i)
    && (is_left books taken i
    && (has_free_group books.links.links taken i && option_map_or (keeps_links taken.activated taken.by_direct_run) (slice_get books.links.links i) true))

-- a parent, if it has one, was activated in the quarter, or is available
abbrev pub parent_allows : (is_available : ℕ → Bool) → Taken → Option ℕ → Bool
parent_allows is_available taken None = true
parent_allows is_available taken (Some parent) = is_used taken parent || is_available parent

-- available, by a chain of at most `n` bids: the bid itself, its parent, the parent of that, and so on
abbrev pub is_available_up : Books → Taken → Run → ℕ → ℕ → Bool
is_available_up books taken run zero i = false
is_available_up books taken run (suc n) i = may_run books taken run i && parent_allows (is_available_up books taken run n) taken (parent_at books.links.links i)

-- available: a bid may run, and its parent allows it. Parents have smaller numbers, so their chain ends within the
-- bid's own number
abbrev pub is_available : Books → Taken → Run → ℕ → Bool
is_available books taken run i = is_available_up books taken run (suc i) i
