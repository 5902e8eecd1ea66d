use Rattle.std.proofs.Common.{◌≡◌, ◌∙◌, ap, sym, length, refl}
use Rattle.std.specs.Prelude.{is_some, ◌==◌}
use Rattle.std.specs.List.{find}
use Rattle.mari_rows.specs.Names.{place_in}
use Rattle.mari_links.specs.Links.{groups_of, links_of, Member}
use Rattle.mari_links.specs.declared.links.BidLinks.{BidLinks}
use Rattle.mari_links.specs.declared.lines.Link.{Link}
use Rattle.mari_links.proofs.EntryLemmas.{made-at}
use Rattle.mari_rows.proofs.FindLemmas.{find-some, map-some}
use Rattle.mari_links.proofs.so_far.LinksSoFar.is_repeated.Goals as goal

pub returns-in-Group : goal.returns-in-Group
returns-in-Group c = λ said holds.
    let bids = c.args.bids.now in
    let bid = c.args.link.second in
    let old = made-at (links_of bids said) (length bids.ids) bid c.index.result.now c.requires.second (rw holds.entries at c.index.ensures) in
    let named = ap (λ (link : Link). link.second) c.requires.link in
    let found : is_some c.group.result ≡ is_some (links_of bids said bid).group = ap is_some (c.group.ensures ∙ ap (λ (links : BidLinks). links.group) old) in
    c.is_some.ensures ∙ found
    ∙ map-some (λ (member : Member). place_in (groups_of said.members) member.group) (find (λ (member : Member). member.bid == bid) said.members)
    ∙ find-some (λ (member : Member). member.bid == bid) said.members
    ∙ rw (c.in-Group.is, sym named) refl

pub returns-in-Child : goal.returns-in-Child
returns-in-Child c = λ said holds.
    let bids = c.args.bids.now in
    let bid = c.args.link.first in
    let old = made-at (links_of bids said) (length bids.ids) bid c.index-in-Child.result.now c.requires.first (rw holds.entries at c.index-in-Child.ensures) in
    let named = ap (λ (link : Link). link.first) c.requires.link in
    let found : is_some c.parent.result ≡ is_some (links_of bids said bid).parent = ap is_some (c.parent.ensures ∙ ap (λ (links : BidLinks). links.parent) old) in
    c.is_some-in-Child.ensures ∙ found
    ∙ map-some (λ (link : Link). link.second) (find (λ (link : Link). link.first == bid) said.children)
    ∙ find-some (λ (link : Link). link.first == bid) said.children
    ∙ rw (c.in-Child.is, sym named) refl
