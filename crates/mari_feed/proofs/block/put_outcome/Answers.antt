use Rattle.std.proofs.Common.{◌∙◌, [], ◌∷◌, ◌++◌, ap, codes}
use Rattle.mari_feed.specs.Texts.{next_text}
use Rattle.mari_feed.specs.Values.{list_of, natural, zone_value}
use Rattle.mari_feed.proofs.Opened.{begun, ended, more}
use Rattle.mari_feed.proofs.block.put_outcome.Goals as goal

pub returns : goal.returns
returns c =
    let b = c.args.block.now in
    let t = c.args.text.now.items in
    let u = c.put_next.new.text.items in
    let v = c.put_next_list.new.text.items in
    let zones = list_of zone_value b.zones in
    let step1 = begun t u (codes "welfare") (natural b.welfare) c.in_ok-put_next.ensures in
    let step2 = more t u v ((codes "welfare", natural b.welfare) ∷ []) (codes "zones") zones step1
    (c.in_ok-put_next_list.ensures ∙ ap (λ xs. u ++ next_text (codes "zones") (list_of zone_value xs)) c.as_slice.ensures) in
    ended c.put_end.result t v c.put_end.new.text.items ((codes "welfare", natural b.welfare) ∷ (codes "zones", zones) ∷ []) step2 c.put_end.ensures
