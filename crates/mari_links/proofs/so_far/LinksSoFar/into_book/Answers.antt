use Rattle.std.proofs.Common.{◌∙◌, refl, sym}
use Rattle.mari_links.specs.Links.{said_by}
use Rattle.mari_links.proofs.GateLemmas.{gated-alike}
use Rattle.mari_links.proofs.so_far.LinksSoFar.into_book.Goals as goal

pub returns-in-Ok-true : goal.returns-in-Ok-true
returns-in-Ok-true c = λ rows holds.
    let bids = c.args.bids.now in
    let reported = rw (c.as_slice.ensures.value, c.into_entries-entries.ensures, holds.entries, gated-alike bids (said_by bids rows)) at (sym c.in-Ok-true.ensures ∙ c.in-Ok-true.field-0-test) in
    rw reported refl

pub returns-in_ok-links_of-in-Ok-false : goal.returns-in_ok-links_of-in-Ok-false
returns-in_ok-links_of-in-Ok-false c = λ rows holds.
    let bids = c.args.bids.now in
    let reported = rw (c.as_slice.ensures.value, c.into_entries-entries.ensures, holds.entries, gated-alike bids (said_by bids rows)) at (sym c.in-Ok-false.ensures ∙ c.in-Ok-false.field-0-test) in
    let links = c.of.ensures ∙ c.in_ok-links_of-in-Ok-false.ensures ∙ c.into_entries-entries.ensures ∙ holds.entries in
    (rw reported refl, λ i. record { links = links i })
