use Rattle.std.proofs.Common.{◌∙◌, [], ◌∷◌, ◌++◌, ap, codes}
use Rattle.mari_feed.specs.Texts.{first_text, next_text}
use Rattle.mari_feed.specs.Values.{list_of, natural, price_value, whole, zone_number}
use Rattle.mari_feed.proofs.Opened.{closed, further, opened}
use Rattle.mari_feed.proofs.tree.ConflictPrinted.put.Goals as goal

pub returns : goal.returns
returns c =
    let step1 = opened c.args.text.now.items c.put_first_list.new.text.items (codes "at") (list_of price_value c.args.conflict.now.potentials.cents)
    (c.in_ok-put_first_list.ensures ∙ ap (λ xs. c.args.text.now.items ++ first_text (codes "at") (list_of price_value xs)) c.as_slice.ensures) in
    let step2 = further c.args.text.now.items c.put_first_list.new.text.items c.put_next_list.new.text.items (codes "at")
    (list_of price_value c.args.conflict.now.potentials.cents) ([]) (codes "conflict") (list_of zone_number c.args.conflict.now.chain) step1
    (c.in_ok-put_next_list.ensures ∙ ap (λ xs. c.put_first_list.new.text.items ++ next_text (codes "conflict") (list_of zone_number xs)) c.as_slice-2.ensures) in
    let step3 = further c.args.text.now.items c.put_next_list.new.text.items c.put_next_list-2.new.text.items (codes "at") (list_of price_value c.args.conflict.now.potentials.cents)
    ((codes "conflict", list_of zone_number c.args.conflict.now.chain) ∷ []) (codes "flows") (list_of whole c.args.conflict.now.activation.flow) step2
    (c.in_ok-put_next_list-2.ensures ∙ ap (λ xs. c.put_next_list.new.text.items ++ next_text (codes "flows") (list_of whole xs)) c.as_slice-3.ensures) in
    let step4 = further c.args.text.now.items c.put_next_list-2.new.text.items c.put_next_list-3.new.text.items (codes "at") (list_of price_value c.args.conflict.now.potentials.cents)
    ((codes "conflict", list_of zone_number c.args.conflict.now.chain) ∷ (codes "flows", list_of whole c.args.conflict.now.activation.flow) ∷ []) (codes "mws") (list_of natural
    c.args.conflict.now.activation.mw) step3 (c.in_ok-put_next_list-3.ensures ∙ ap (λ xs. c.put_next_list-2.new.text.items ++ next_text (codes "mws") (list_of natural xs)) c.as_slice-4.ensures) in
    closed c.put_end.result c.args.text.now.items c.put_next_list-3.new.text.items c.put_end.new.text.items (codes "at")
    (list_of price_value c.args.conflict.now.potentials.cents)
    ((codes "conflict", list_of zone_number c.args.conflict.now.chain) ∷ (codes "flows", list_of whole c.args.conflict.now.activation.flow)
    ∷ (codes "mws", list_of natural c.args.conflict.now.activation.mw) ∷ [])
    step4 c.put_end.ensures
