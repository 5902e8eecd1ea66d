use Rattle.std.proofs.Common.{◌∙◌, arith}
use Rattle.mari_io.specs.declared.shelf.Fetch.TheVariants as fetch
use Rattle.mari_quarters.proofs.Fetched.{files-fetched, page-fetched, text-fetched}
use Rattle.mari_quarters.proofs.Passing.{files-check, files-named, files-report, has-page, page-states}
use Rattle.mari_quarters.proofs.quarters.clear_quarters.Goals as goal

-- ---- without books

pub returns-in-Err-clause-reported : goal.returns-in-Err-clause-reported
returns-in-Err-clause-reported g c = λ reported e. files-report reported c.args.folder.now c.args.first c.args.last c.args.budget c.in-Err.fault (c.in-Err.ensures.reported reported e)

pub returns-in-Err-clause-fetched : goal.returns-in-Err-clause-fetched
returns-in-Err-clause-fetched g c =
    let files = c.in-Err.ensures.fetched in record {
      count = files.count;
      files = files.files;
      fetched = files-fetched files.count _ _ c.in-Err.fault c.in-Err.ensures.file c.in-Err.ensures.check files.fetched;
    }

pub returns-in-Err-clause-file : goal.returns-in-Err-clause-file
returns-in-Err-clause-file g c = files-named c.in-Err.fault c.in-Err.ensures.file

pub returns-in-Err-clause-check : goal.returns-in-Err-clause-check
returns-in-Err-clause-check g c = files-check c.in-Err.fault c.in-Err.ensures.check

-- ---- without a page

pub returns-clause-reported : goal.returns-clause-reported
returns-clause-reported g c = λ reported e.
    page-states reported c.args.folder.now c.args.first c.args.last c.args.budget c.in-Ok.books (c.in-Ok.ensures.reported reported e) c.in-Err-fetch_blocks.fault
    (c.in-Err-fetch_blocks.ensures.reported reported (c.in-Ok.ensures.same ∙ e)) c.in-Err-fetch_blocks.ensures.file

pub returns-clause-fetched : goal.returns-clause-fetched
returns-clause-fetched g c =
    let files = c.in-Ok.ensures.fetched in record {
      count = files.count;
      files = files.files;
      fetched = page-fetched files.count _ _ _ c.in-Err-fetch_blocks.fault files.fetched.1 c.in-Err-fetch_blocks.ensures.fetched c.in-Err-fetch_blocks.ensures.file;
    }

-- ---- with both

pub returns-in-Ok-fetch_blocks-clause-reported : goal.returns-in-Ok-fetch_blocks-clause-reported
returns-in-Ok-fetch_blocks-clause-reported g c = λ reported e.
    c.clear_books.ensures.reported reported c.args.folder.now
    (rw c.as_slice.ensures
    (has-page reported c.args.folder.now c.in-Ok.books c.in-Ok-fetch_blocks.page (c.in-Ok.ensures.reported reported e) (c.in-Ok-fetch_blocks.ensures.reported reported (c.in-Ok.ensures.same ∙ e))))

pub returns-in-Ok-fetch_blocks-clause-fetched : goal.returns-in-Ok-fetch_blocks-clause-fetched
returns-in-Ok-fetch_blocks-clause-fetched g c =
    let files = c.in-Ok.ensures.fetched in record {
      count = files.count;
      files = files.files;
      fetched = text-fetched files.count _ _ _ c.clear_books.result files.fetched.1 c.in-Ok-fetch_blocks.ensures.fetched c.clear_books.ensures.fetch c.clear_books.ensures.late;
    }

pub returns-in-Ok-fetch_blocks-clause-memory : goal.returns-in-Ok-fetch_blocks-clause-memory
returns-in-Ok-fetch_blocks-clause-memory g c = c.clear_books.ensures.fetch fetch.Memory

pub returns-in-Ok-fetch_blocks-clause-failed : goal.returns-in-Ok-fetch_blocks-clause-failed
returns-in-Ok-fetch_blocks-clause-failed g c = record {
  later = omega (arith, c.in-Ok.ensures.failed.later, c.in-Ok-fetch_blocks.ensures.failed.later);
  rose = λ h. absurd (c.clear_books.ensures.fetch fetch.Failed h);
}

pub returns-in-Ok-fetch_blocks-clause-missing : goal.returns-in-Ok-fetch_blocks-clause-missing
returns-in-Ok-fetch_blocks-clause-missing g c = record {
  later = omega (arith, c.in-Ok.ensures.missing.later, c.in-Ok-fetch_blocks.ensures.missing.later);
  rose = λ h. absurd (c.clear_books.ensures.fetch fetch.Missing h);
}

pub returns-in-Ok-fetch_blocks-clause-too_long : goal.returns-in-Ok-fetch_blocks-clause-too_long
returns-in-Ok-fetch_blocks-clause-too_long g c = record {
  later = omega (arith, c.in-Ok.ensures.too_long.later, c.in-Ok-fetch_blocks.ensures.too_long.later);
  rose = λ h. absurd (c.clear_books.ensures.fetch fetch.TooLong h);
}
