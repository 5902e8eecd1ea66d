use Rattle.std.proofs.Common.{List, ◌++◌, ap, ◌∙◌}
use Rattle.mari_market.specs.declared.certificate.TreeItem.{TreeItem}
use Rattle.mari_publish.specs.Lines.{opening_lines, market_lines, tree_lines, ending_lines}
use Rattle.mari_publish.specs.Texts.{text_of_lines}
use Rattle.mari_publish.proofs.Parts.{after_four}
use Rattle.mari_publish.proofs.write.put_full.Goals as goal

pub returns : goal.returns
returns c = let b = c.args.block.now in
    let tree = c.in_ok-put_tree_lines.ensures ∙ ap (λ (items : List TreeItem). c.put_market.new.out.items ++ text_of_lines (tree_lines items)) c.as_slice.ensures in
    after_four c.put_ending.result _ _ _ _ _ (opening_lines b) (market_lines b) (tree_lines b.tree) (ending_lines b) c.in_ok-put_opening.ensures c.in_ok-put_market.ensures tree c.put_ending.ensures
