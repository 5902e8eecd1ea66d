use Rattle.std.proofs.Common.{List, ℕ, ◌++◌, ap, ◌∙◌}
use Rattle.mari_reach.specs.declared.decisions.ReachItem.{ReachItem}
use Rattle.mari_reach_lines.specs.Spelling.{text_of_reach_lines}
use Rattle.mari_reach_day.specs.Lines.{reach_tree_lines}
use Rattle.mari_reach_day.proofs.Texts.{block_of_parts}
use Rattle.mari_reach_day.proofs.text.block_text.Goals as goal

pub returns : goal.returns
returns c =
    let r = c.args.block.now in
    let books = c.args.books.now in
    let before = c.put_market.new.out.items in
    let tree = c.in_ok-put_tree_lines.ensures
    ∙ ap (λ (gated : List ℕ). before ++ text_of_reach_lines (reach_tree_lines books gated c.as_slice-2.result.now)) c.as_slice.ensures
    ∙ ap (λ (items : List ReachItem). before ++ text_of_reach_lines (reach_tree_lines books r.gated items)) c.as_slice-2.ensures in
    block_of_parts books r c.new-out.result.items c.put_reach_run.new.out.items c.put_welfare.new.out.items before c.put_tree_lines.new.out.items c.put_ending.new.out.items
    c.new-out.ensures.items c.in_ok-put_reach_run.ensures c.in_ok-put_welfare.ensures c.in_ok-put_market.ensures tree c.in_ok-put_ending.ensures
