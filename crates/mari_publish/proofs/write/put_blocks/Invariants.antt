use Rattle.std.proofs.Common.{◌≡◌, ◌++◌, drop}
use Rattle.std.specs.List.{flat_map}
use Rattle.mari_publish.specs.Lines.{block_lines}
use Rattle.mari_publish.specs.Texts.{text_of_lines}
use Rattle.mari_publish.proofs.write.put_blocks.Given as goal

-- with the texts of those still to come it is the whole
abbrev pub invariant-loop-block : goal.invariant-loop-block
invariant-loop-block l = l.out.items ++ text_of_lines (flat_map block_lines (drop l.block-index l.blocks)) ≡ l.fn.out.items ++ text_of_lines (flat_map block_lines l.blocks)
