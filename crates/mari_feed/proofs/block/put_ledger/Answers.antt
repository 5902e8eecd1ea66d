use Rattle.std.proofs.Common.{◌∙◌, [], ◌∷◌, ◌++◌, ap, codes}
use Rattle.mari_feed.specs.Texts.{next_text}
use Rattle.mari_feed.specs.Values.{list_of, natural, operator_value, provider_value}
use Rattle.mari_feed.proofs.Opened.{begun, more, more_last}
use Rattle.mari_feed.proofs.block.put_ledger.Goals as goal

pub returns : goal.returns
returns c =
    let step1 = begun c.args.text.now.items c.put_next_list.new.text.items (codes "operators") (list_of operator_value c.args.block.now.operators)
    (c.in_ok-put_next_list.ensures ∙ ap (λ xs. c.args.text.now.items ++ next_text (codes "operators") (list_of operator_value xs)) c.as_slice.ensures) in
    let step2 = more c.args.text.now.items c.put_next_list.new.text.items c.put_next_list-2.new.text.items
    ((codes "operators", list_of operator_value c.args.block.now.operators) ∷ []) (codes "providers") (list_of provider_value c.args.block.now.providers) step1
    (c.in_ok-put_next_list-2.ensures ∙ ap (λ xs. c.put_next_list.new.text.items ++ next_text (codes "providers") (list_of provider_value xs)) c.as_slice-2.ensures) in
    let step3 = more c.args.text.now.items c.put_next_list-2.new.text.items c.put_next.new.text.items ((codes "operators", list_of operator_value c.args.block.now.operators)
    ∷ (codes "providers", list_of provider_value c.args.block.now.providers) ∷ []) (codes "quarter") (natural c.args.block.now.heading.quarter) step2 c.in_ok-put_next.ensures in
    more_last c.put_next-2.result c.args.text.now.items c.put_next.new.text.items c.put_next-2.new.text.items
    ((codes "operators", list_of operator_value c.args.block.now.operators) ∷ (codes "providers", list_of provider_value c.args.block.now.providers)
    ∷ (codes "quarter", natural c.args.block.now.heading.quarter) ∷ [])
    (codes "run") (natural c.args.block.now.heading.run) step3 c.put_next-2.ensures
