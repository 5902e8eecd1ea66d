use Rattle.std.proofs.Common.{List, refl}
use Rattle.std.specs.List.{flat_map}
use Rattle.std.proofs.lemmas.Grind.{flat_map-append}
use Rattle.mari_market.specs.declared.certificate.TreeItem.{TreeItem}
use Rattle.mari_publish.specs.Lines.{item_lines}
use Rattle.mari_lines.specs.Spelling.{line_text}
use Rattle.mari_publish.specs.Texts.{text_of_lines}
use Rattle.mari_publish.proofs.Parts.{one_put, all_put}
use Rattle.mari_publish.proofs.write.tree.put_items.Goals as goal

pub loop-item-preserved : goal.loop-item-preserved
loop-item-preserved c =
    one_put (λ (xs : List TreeItem). flat_map item_lines xs) (λ x. text_of_lines (item_lines x))
    (λ x xs. flat_map-append line_text (item_lines x) (flat_map item_lines xs)) c.args.items.now c.loop-item.item-index c.item-item.result
    c.loop-item.out.items
    c.put_item.new.out.items _ c.loop-item-test.true c.item-item.is c.in_ok-put_item.ensures c.loop-item.invariant

pub returns : goal.returns
returns c = all_put (λ (xs : List TreeItem). flat_map item_lines xs) refl c.args.items.now c.loop-item.item-index c.loop-item.out.items _ c.loop-item-test.false c.loop-item.invariant
