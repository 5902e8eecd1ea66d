use Rattle.std.proofs.Common.{◌∙◌, length, ap}
use Rattle.std.proofs.lemmas.List.FromFn.{length-map-range_with_len}
use Rattle.mari_links.specs.Links.{links_of, said_by}
use Rattle.mari_links.proofs.links.LinksOfBidsBookSoFar.end.Goals as goal

pub into_book-requires : goal.into_book-requires
into_book-requires c =
    let bids = c.args.self.bids.now in
    ap length c.requires.1.entries ∙ length-map-range_with_len (links_of bids (said_by bids c.requires.0)) 0 (length bids.ids)
