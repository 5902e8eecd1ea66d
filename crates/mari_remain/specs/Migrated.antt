-- The pages that state a folder's limits for each run, and the books that they make.
use Rattle.std.specs.Prelude.{◌≡◌, ℕ, List, [], ◌∷◌, Some, Ok, length, map}
use Rattle.std.specs.Fmt.{decimal}
use Rattle.std.specs.List.{flat_map, range_with_len}
use Rattle.mari_rows.specs.Books.{book_in}
use Rattle.mari_rows.specs.Names.{name_at}
use Rattle.mari_rows.specs.Printed.{page_text}
use Rattle.mari_zones.specs.Borders.{bare_columns, borders_in, version_in}
use Rattle.mari_zones.specs.declared.borders.BorderBook.{BorderBook}
use Rattle.mari_zones.specs.declared.borders.BorderEnds.{BorderEnds}
use Rattle.mari_zones.specs.declared.zones.ZoneBook.{ZoneBook}
use Rattle.mari_demands.specs.Limits.{limit_columns, limit_grammar}
use Rattle.mari_demands.specs.declared.limits.Limits.{Limits}
use Rattle.mari_remain.specs.declared.books.Books.{Books}
use Rattle.mari_remain.specs.RunMarket.{ends_at, run_limits}

-- the record of a border: its two zones
abbrev pub border_record : ZoneBook → BorderEnds → List (List ℕ)
border_record zones ends = name_at zones.zones ends.from ∷ name_at zones.zones ends.to ∷ []

-- the record of a border's limits in a run
abbrev pub limit_record : ZoneBook → (run : ℕ) → BorderEnds → Limits → List (List ℕ)
limit_record zones run ends limits = decimal run ∷ name_at zones.zones ends.from ∷ name_at zones.zones ends.to ∷ decimal limits.limit ∷ decimal limits.back ∷ []

module _ (books : Books) where
  -- the page of borders: each border without its limits
  abbrev pub borders_page : List ℕ
  borders_page = page_text bare_columns (map (border_record books.zones) books.borders.borders)

  -- the limits of each border in a run
  abbrev pub run_records : (run : ℕ) → List (List (List ℕ))
  run_records run =
      map (λ k. limit_record books.zones run (ends_at books.borders.borders k) (run_limits books run k)) (range_with_len 0 (length books.borders.borders))

  -- the page of limits: for each run, in order, the limits of each border
  abbrev pub limits_page : List ℕ
  limits_page = page_text limit_columns (flat_map run_records (range_with_len 1 (length books.runs.runs)))

  -- the books with these borders in place of their own, and these limits for each run
  abbrev pub with_limits : BorderBook → List (List Limits) → Books
  with_limits borders limits = record books { borders = borders; limits = Some limits }

  -- the two pages are read as a folder's of version 2: these are the borders and the limits that they say
  pub record AreRead (borders : BorderBook) (limits : List (List Limits)) : Type 0 where
    pub version : version_in borders_page ≡ 2
    pub borders_read : borders_in books.zones borders_page ≡ Ok borders
    pub limits_read : book_in (limit_grammar books.zones borders (length books.runs.runs)) limits_page ≡ Ok limits
