use Rattle.std.proofs.Common.{◌≡◌, ◌++◌, take}
use Rattle.std.specs.List.{flat_map}
use Rattle.mari_blocks.specs.Text.{quarter_text}
use Rattle.mari_blocks.proofs.text.put_quarters.Given as goal

-- the texts of the quarters so far
abbrev pub invariant-loop-block : goal.invariant-loop-block
invariant-loop-block l = l.out.items ≡ l.fn.out.items ++ flat_map quarter_text (take l.block-index l.blocks)
