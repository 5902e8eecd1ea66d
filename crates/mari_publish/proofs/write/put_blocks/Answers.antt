use Rattle.std.proofs.Common.{List, refl}
use Rattle.std.specs.List.{flat_map}
use Rattle.std.proofs.lemmas.Grind.{flat_map-append}
use Rattle.mari_publish.specs.declared.publication.Block.{Block}
use Rattle.mari_publish.specs.Lines.{block_lines}
use Rattle.mari_publish.specs.Ranges.{BlockFits}
use Rattle.mari_lines.specs.Spelling.{line_text}
use Rattle.mari_publish.specs.Texts.{text_of_lines}
use Rattle.mari_publish.proofs.Parts.{one_put, all_put, at_place}
use Rattle.mari_publish.proofs.write.put_blocks.Goals as goal

pub put_block-requires : goal.put_block-requires
put_block-requires c = at_place BlockFits c.args.blocks.now c.loop-block.block-index c.block-item.result c.loop-block-test.true c.block-item.is c.requires

pub loop-block-preserved : goal.loop-block-preserved
loop-block-preserved c =
    one_put (λ (xs : List Block). flat_map block_lines xs) (λ x. text_of_lines (block_lines x))
    (λ x xs. flat_map-append line_text (block_lines x) (flat_map block_lines xs)) c.args.blocks.now c.loop-block.block-index c.block-item.result
    c.loop-block.out.items
    c.put_block.new.out.items _ c.loop-block-test.true c.block-item.is c.in_ok-put_block.ensures c.loop-block.invariant

pub returns : goal.returns
returns c = all_put (λ (xs : List Block). flat_map block_lines xs) refl c.args.blocks.now c.loop-block.block-index c.loop-block.out.items _ c.loop-block-test.false c.loop-block.invariant
