use Rattle.std.proofs.Common.{◌∙◌, [], ◌∷◌, ◌++◌, ap, codes}
use Rattle.mari_feed.specs.Texts.{first_text, next_text}
use Rattle.mari_feed.specs.Values.{bid_value, border_value, list_of, natural}
use Rattle.mari_feed.proofs.Opened.{further, further_shown, opened}
use Rattle.mari_feed.proofs.block.put_market.Goals as goal

pub returns : goal.returns
returns c =
    let b = c.args.block.now in
    let t = c.args.text.now.items in
    let u = c.put_first_list.new.text.items in
    let v = c.put_next_list.new.text.items in
    let bids = list_of bid_value b.bids in
    let borders = list_of border_value b.borders in
    let step1 = opened t u (codes "bids") bids (c.in_ok-put_first_list.ensures ∙ ap (λ xs. t ++ first_text (codes "bids") (list_of bid_value xs)) c.as_slice.ensures) in
    let step2 = further t u v (codes "bids") bids ([]) (codes "borders") borders step1
    (c.in_ok-put_next_list.ensures ∙ ap (λ xs. u ++ next_text (codes "borders") (list_of border_value xs)) c.as_slice-2.ensures) in
    further_shown c.put_next_list-2.result t v c.put_next_list-2.new.text.items (codes "bids") bids ((codes "borders", borders) ∷ []) (codes "demands")
    (list_of natural c.as_slice-3.result.now) (list_of natural b.demands) (ap (λ xs. list_of natural xs) c.as_slice-3.ensures) step2 c.put_next_list-2.ensures
