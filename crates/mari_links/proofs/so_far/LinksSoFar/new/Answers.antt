use Rattle.std.proofs.Common.{◌≡◌, ◌∙◌, ◌++◌, ◌∷◌, [], ap, sym, length, rules, arith, zero-add}
use Rattle.std.specs.Prelude.{nat_lt, ◌||◌, false, None}
use Rattle.std.proofs.lemmas.List.FromFn.{map-range_with_len_more}
use Rattle.mari_links.specs.Links.{least_of_bid, links_of, said_by}
use Rattle.mari_links.proofs.EntryLemmas.{or-no}
use Rattle.mari_links.proofs.so_far.LinksSoFar.new.Goals as goal

pub loop-bid-preserved : goal.loop-bid-preserved
loop-bid-preserved c =
    let bids = c.args.bids.now in
    let bid = c.loop-bid.bid in
    let pushed : c.push.new.self.items ≡ c.loop-bid.entries.items ++ c.new.result ∷ [] = search rules in
    let none = said_by bids [] in
    let above = nat_lt 0 (least_of_bid bids bid) in
    let gated : nat_lt 0 c.least_of.result ≡ ((above || false) || false) = ap (nat_lt 0) c.least_of.ensures ∙ sym (or-no above) ∙ sym (or-no (above || false)) in
    let made : c.new.result ≡ links_of bids none bid =
    c.new.ensures ∙ (λ i. record { gated = gated i; group = None; parent = None; needs = []; bars = []; technical = [] }) in
    rw (pushed, c.loop-bid.invariant, made) (sym (map-range_with_len_more (links_of bids none) 0 bid bid (zero-add bid)))

pub returns : goal.returns
returns c =
    let whole : c.loop-bid.bid ≡ length c.args.bids.now.ids = omega (arith, c.len-bid-end.ensures.len) in
    record { groups = c.new-2.ensures c.args.bids.now; timed = search rules; entries = rw whole at c.loop-bid.invariant }
