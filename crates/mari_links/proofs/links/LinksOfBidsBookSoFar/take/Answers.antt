use Rattle.std.proofs.Common.{◌∙◌, map, length, ap, arith}
use Rattle.std.proofs.lemmas.List.{length-map}
use Rattle.std.proofs.lemmas.List.FromFn.{length-map-range_with_len}
use Rattle.mari_rows.proofs.PlaceLemmas.{length-distinct}
use Rattle.mari_links.specs.Links.{links_of, said_by, Member}
use Rattle.mari_links.proofs.SaidLemmas.{members-few}
use Rattle.mari_links.proofs.links.LinksOfBidsBookSoFar.take.Goals as goal

pub add-requires-clause-room : goal.add-requires-clause-room
add-requires-clause-room c =
    let bids = c.args.self.now.bids.now in
    let members = (said_by bids c.requires.0).members in
    rw c.requires.1.groups.names
    (omega (
      arith,
      length-distinct (map (λ (member : Member). member.group) members),
      length-map members (λ (member : Member). member.group),
      members-few bids c.requires.0,
      c.requires.2,
    ))

pub add-requires-clause-sized : goal.add-requires-clause-sized
add-requires-clause-sized c =
    let bids = c.args.self.now.bids.now in
    ap length c.requires.1.entries ∙ length-map-range_with_len (links_of bids (said_by bids c.requires.0)) 0 (length bids.ids)
