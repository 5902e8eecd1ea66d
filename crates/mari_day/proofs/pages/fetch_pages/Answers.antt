use Rattle.std.proofs.Common.{◌≡◌, ◌==◌, true, rules}
use Rattle.mari_zones.specs.Borders.{version_in}
use Rattle.mari_day.specs.declared.files.File.TheVariants.{Borders}
use Rattle.mari_day.specs.Files.{page_among}
use Rattle.mari_day.proofs.Folders.{all-eight, at_limits, files-there, has-eight, seven-lack, up-to}
use Rattle.mari_day.proofs.pages.fetch_pages.Goals as goal

pub returns-in-Err-clause-fetched : goal.returns-in-Err-clause-fetched
returns-in-Err-clause-fetched g c =
    let there = files-there (g.S.Shelf.pages c.args.shelf.now) c.args.folder.now in record {
      count = there.0;
      files = there.1;
      fetched = up-to there.0 (g.S.Shelf.fetches c.args.shelf.now) _ c.in-Err.fault there.2 c.in-Err.ensures.fetched;
    }

pub returns-in-Err-clause-reported : goal.returns-in-Err-clause-reported
returns-in-Err-clause-reported g c = λ reported e. seven-lack reported c.args.folder.now c.in-Err.fault (c.in-Err.ensures.reported reported e)

pub returns-in-Ok-fetch_page-clause-fetched : goal.returns-in-Ok-fetch_page-clause-fetched
returns-in-Ok-fetch_page-clause-fetched g c =
    let e : (version_in (page_among c.in-Ok.seven Borders) == 2) ≡ true = search rules in
    all-eight (g.S.Shelf.pages c.args.shelf.now) c.args.folder.now c.in-Ok.seven c.in-Ok.ensures.fetched.0 c.in-Ok.ensures.reported e
    (g.S.Shelf.fetches c.args.shelf.now) _ _ c.in-Ok-fetch_page.limits c.with_limits.result c.in-Ok.ensures.fetched.1
    c.in-Ok-fetch_page.ensures.fetched c.with_limits.ensures.folder c.with_limits.ensures.memory

pub returns-in-Err-fetch_page-clause-fetched : goal.returns-in-Err-fetch_page-clause-fetched
returns-in-Err-fetch_page-clause-fetched g c =
    let e : (version_in (page_among c.in-Ok.seven Borders) == 2) ≡ true = search rules in record {
      count = 8;
      files = has-eight (g.S.Shelf.pages c.args.shelf.now) c.args.folder.now c.in-Ok.seven c.in-Ok.ensures.fetched.0 c.in-Ok.ensures.reported e;
      fetched = at_limits (g.S.Shelf.fetches c.args.shelf.now) _ _ c.in-Err-fetch_page.fault c.in-Ok.ensures.fetched.1 c.in-Err-fetch_page.ensures.fetched c.in-Err-fetch_page.ensures.file;
    }

pub returns-in-Err-version_among-clause-fetched : goal.returns-in-Err-version_among-clause-fetched
returns-in-Err-version_among-clause-fetched g c =
    let there = files-there (g.S.Shelf.pages c.args.shelf.now) c.args.folder.now in record {
      count = there.0;
      files = there.1;
      fetched = record { count = 7; within = there.2; fetched = c.in-Ok.ensures.fetched.1 };
    }
