-- A folder before and after a migration, which states its borders' limits for each run.
use Rattle.std.specs.Prelude.{◌≡◌, ◌≢◌, List, ℕ, Some}
use Rattle.mari_io.specs.Outside.{Pages}
use Rattle.mari_remain.specs.declared.books.Books.{Books}
use Rattle.mari_remain.specs.Migrated.{borders_page, limits_page}
use Rattle.mari_day.specs.declared.files.File.{File}
use Rattle.mari_day.specs.declared.files.File.TheVariants.{Borders, Limits}
use Rattle.mari_day.specs.Files.{page_in}

-- the folder of these books has the two pages that state the limits for each run, and its other files are as they were
pub record IsMigratedFolder (books : Books) (folder : List ℕ) (before after : Pages) : Type 0 where
  pub borders : page_in after folder Borders ≡ Some (borders_page books)
  pub limits : page_in after folder Limits ≡ Some (limits_page books)
  pub others : (file : File) → file ≢ Borders → file ≢ Limits → page_in after folder file ≡ page_in before folder file
