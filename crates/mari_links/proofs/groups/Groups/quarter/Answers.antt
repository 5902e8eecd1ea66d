use Rattle.std.proofs.Common.{◌≡◌, ◌∙◌, ap, sym, slice_get, is_some}
use Rattle.std.specs.Prelude.{unwrap_or}
use Rattle.mari_links.specs.Links.{groups_of, quarter_of_group}
use Rattle.mari_rows.proofs.FindLemmas.{kept-none}
use Rattle.mari_links.proofs.GroupLemmas.{group-there, kept-some, lent, made-at-place}
use Rattle.mari_links.proofs.groups.Groups.quarter.Goals as goal

pub returns-in-Some : goal.returns-in-Some
returns-in-Some c = λ bids members holds.
    let name = c.args.name.now in
    let found = rw holds.names at (sym c.find.ensures.place ∙ c.in-Some.is) in
    let there = rw holds.names at (sym c.find.ensures.there ∙ ap is_some c.in-Some.is) in
    let got : c.copied.result ≡ slice_get c.args.self.now.quarters.items c.in-Some.group =
    c.copied.ensures ∙ rw c.as_slice.ensures.value at (lent c.as_slice.result.now c.in-Some.group c.get.result c.get.ensures.lookup.3) in
    rw (got, holds.quarters) (made-at-place (λ n. unwrap_or (quarter_of_group bids members n) 0) (groups_of members) name c.in-Some.group found)
    ∙ kept-some (quarter_of_group bids members name) (sym (group-there bids members name) ∙ there)

pub returns-in-None : goal.returns-in-None
returns-in-None c = λ bids members holds.
    let name = c.args.name.now in
    let absent = rw holds.names at (sym c.find.ensures.there ∙ ap is_some c.in-None.is) in
    sym (kept-none (quarter_of_group bids members name) (sym (group-there bids members name) ∙ absent))
