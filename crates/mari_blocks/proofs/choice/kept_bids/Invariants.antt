use Rattle.std.proofs.Common.{◌≡◌, filter, false, take}
use Rattle.std.specs.Prelude.{not}
use Rattle.std.specs.Option.{option_map_or}
use Rattle.mari_blocks.specs.Blocks.{block_at}
use Rattle.mari_blocks.specs.Joint.{is_left_out}
use Rattle.mari_blocks.proofs.choice.kept_bids.Given as goal

-- those that stay so far
abbrev pub invariant-loop-bid : goal.invariant-loop-bid
invariant-loop-bid l = l.numbers.items ≡ filter (λ bid. not (option_map_or (is_left_out l.blocks l.offered) (block_at l.blocks bid) false)) (take l.bid-index l.offered)
