use Rattle.std.specs.List.{All}
use Rattle.std.proofs.Common.{ℕ, List, ◌≡◌, ◌≤◌, Some, length, take, drop, map}
use Rattle.mari_io.specs.Outside.{Pages, counted_by}
use Rattle.mari_units.specs.declared.limits.TheConstants.{MOST_PAGE}
use Rattle.mari_day.specs.Files.{files, page_in, first_gap}
use Rattle.mari_day.proofs.pages.fetch_seven.Given as goal

-- the pages so far are held and none of them has a gap; the counts haven't fallen
abbrev pub invariant-loop-file : goal.invariant-loop-file
invariant-loop-file g l = record {
  same : g.S.Shelf.pages l.shelf ≡ g.S.Shelf.pages l.fn.shelf;
  all : l.file-items ≡ files;
  count : length l.pages.items ≡ l.file-index;
  small : All (λ (page : List ℕ). length page ≤ MOST_PAGE) l.pages.items;
  fetched : g.S.Shelf.fetches l.shelf ≡ counted_by l.file-index (g.S.Shelf.fetches l.fn.shelf);
  held : (reported : Pages) → g.S.Shelf.pages l.fn.shelf ≡ Some reported → map (page_in reported l.fn.folder) (take l.file-index files) ≡ map Some l.pages.items;
  no_gap : (reported : Pages) → g.S.Shelf.pages l.fn.shelf ≡ Some reported → first_gap reported l.fn.folder files ≡ first_gap reported l.fn.folder (drop l.file-index files);
  faults : g.S.Shelf.faults l.fn.shelf ≤ g.S.Shelf.faults l.shelf;
  misses : g.S.Shelf.misses l.fn.shelf ≤ g.S.Shelf.misses l.shelf;
  overs : g.S.Shelf.overs l.fn.shelf ≤ g.S.Shelf.overs l.shelf;
}
