use Rattle.std.proofs.Common.{◌∙◌, sym}
use Rattle.mari_reach_accept.specs.Named.{publication_of}
use Rattle.mari_reach_accept.proofs.Days.{day_valid}
use Rattle.mari_reach_accept.proofs.Fits.{has_text}
use Rattle.mari_reach_accept.proofs.Texts.{first_same, text_same, within_same}
use Rattle.mari_reach_accept.proofs.laws.printed_texts_are_accepted.Goals as goal

pub returns-clause-text : goal.returns-clause-text
returns-clause-text c = λ budget first within text is nodes.
    let books = c.args.books.now in
    record {
      has = has_text books c.requires.accepted c.requires.dated budget is.blocks is.day is.fits nodes is.totals;
      is = is.spelled ∙ text_same books budget is.blocks;
    }

pub returns-clause-verdict : goal.returns-clause-verdict
returns-clause-verdict c = λ budget first within text is v right.
    let books = c.args.books.now in
    let p = publication_of books budget is.blocks in
    let passes = c.valid_days_pass.ensures books p v (day_valid books c.requires.accepted budget is.blocks is.day) right in
    rw (is.counted, is.others, sym (first_same books is.blocks), sym (within_same books is.blocks)) passes
