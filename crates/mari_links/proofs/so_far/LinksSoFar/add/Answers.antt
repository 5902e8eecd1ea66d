use Rattle.std.proofs.Common.{◌≡◌, ◌∙◌, Some, None, refl, sym, ap, rules}
use Rattle.std.specs.Prelude.{option_map}
use Rattle.mari_rows.specs.Books.{first_failing}
use Rattle.mari_rows.proofs.BookLemmas.{first_failing-append}
use Rattle.mari_links.specs.LinkChecks.{link_check_number}
use Rattle.mari_links.specs.Links.{kind_of, name_checks, place_checks, said_by}
use Rattle.mari_links.proofs.SaidLemmas.{not-repeated}
use Rattle.mari_links.proofs.so_far.LinksSoFar.add.Goals as goal

pub returns-in-Some : goal.returns-in-Some
returns-in-Some c = λ earlier holds.
    let bids = c.args.bids.now in
    let line = c.args.line.now in
    let said = said_by bids earlier in
    let named : first_failing (name_checks bids line) ≡ None = search rules in
    let fails = sym (c.failing_check.ensures said holds) ∙ ap (option_map link_check_number) c.in-Some.is in
    first_failing-append (place_checks bids said line) (name_checks bids line) ∙ rw named fails

pub returns : goal.returns
returns c = λ earlier holds.
    let bids = c.args.bids.now in
    let line = c.args.line.now in
    let said = said_by bids earlier in
    let named : first_failing (name_checks bids line) ≡ None = search rules in
    let kind : kind_of line ≡ Some c.in-Ok.link.kind = search rules in
    let none : c.failing_check.result ≡ None = search rules in
    let passes = sym (c.failing_check.ensures said holds) ∙ ap (option_map link_check_number) none in (
      first_failing-append (place_checks bids said line) (name_checks bids line) ∙ rw named passes,
      c.in_ok-hold.ensures earlier holds (not-repeated bids said line c.in-Ok.link.kind kind passes),
    )

pub returns-in-Err : goal.returns-in-Err
returns-in-Err c = λ earlier holds.
    let bids = c.args.bids.now in
    let line = c.args.line.now in
    first_failing-append (place_checks bids (said_by bids earlier) line) (name_checks bids line) ∙ rw c.in-Err.ensures.link refl
