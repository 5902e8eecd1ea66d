-- A market file is refused only by the number of one of its checks.
use Rattle.std.proofs.Common.{◌==◌, ℕ, Bool, true, false, List, [], ◌∷◌, ◌++◌, Option, Some, None, Result, Ok, Err, refl, if◌then◌else◌}
use Rattle.std.specs.Prelude.{IfErr, IfSome, length, option_map}
use Rattle.std.specs.Option.{option_or}
use Rattle.std.specs.Str.{is_utf8}
use Rattle.std.specs.List.{list_all}
use Rattle.mari_rows.specs.Books.{Checks, Grammar, book_in, book_of_read, first_failing, first_refusal, line_refusal, refusal_of}
use Rattle.mari_rows.specs.Checks.{refusal_at as fault_at}
use Rattle.mari_rows.specs.First.{first_fault_after, unless_fault}
use Rattle.mari_rows.specs.Records.{records_in}
use Rattle.mari_rows.specs.Rows.{columns_of, fault_of_row, field_of, is_header, rows_after_header, rows_checked, rows_from, rows_in, rows_of_width}
use Rattle.mari_rows.specs.declared.checks.RowCheck.TheVariants as row_check
use Rattle.mari_rows.specs.declared.faults.BookFault.{BookFault}
use Rattle.mari_rows.specs.declared.faults.BookFault.TheVariants as refused
use Rattle.mari_rows.specs.declared.faults.RowFault.{RowFault}
use Rattle.mari_rows.specs.declared.faults.RowFault.TheVariants as unread
use Rattle.mari_rows.specs.declared.rows.Row.{Row}
use Rattle.mari_calendar.specs.Columns.{day_columns}
use Rattle.mari_calendar.specs.Dates.{day_in}
use Rattle.mari_calendar.specs.Midnights.{◌>>>◌, day_after, midnight_in, or_fault, quarters_at}
use Rattle.mari_calendar.specs.declared.quarters.CalendarFault.{CalendarFault}
use Rattle.mari_calendar.specs.declared.quarters.CalendarFault.TheVariants as calendar
use Rattle.mari_zones.specs.Borders.{border_grammar, borders_in, version_in}
use Rattle.mari_zones.specs.Zones.{zone_grammar}
use Rattle.mari_zones.specs.declared.borders.BorderBook.{BorderBook}
use Rattle.mari_zones.specs.declared.borders.BorderCheck.TheVariants as border
use Rattle.mari_zones.specs.declared.zones.ZoneBook.{ZoneBook}
use Rattle.mari_zones.specs.declared.zones.ZoneCheck.TheVariants as zone
use Rattle.mari_bids.specs.Bids.{bid_grammar}
use Rattle.mari_bids.specs.declared.bids.BidBook.{BidBook}
use Rattle.mari_bids.specs.declared.bids.BidCheck.TheVariants as bid
use Rattle.mari_links.specs.Links.{link_grammar}
use Rattle.mari_links.specs.declared.links.LinkCheck.TheVariants as link
use Rattle.mari_demands.specs.Demands.{demand_grammar}
use Rattle.mari_demands.specs.Limits.{limit_grammar}
use Rattle.mari_demands.specs.Runs.{run_grammar}
use Rattle.mari_demands.specs.declared.demands.DemandCheck.TheVariants as demand
use Rattle.mari_demands.specs.declared.limits.LimitCheck.TheVariants as limit
use Rattle.mari_demands.specs.declared.limits.Limits.{Limits as BorderLimits}
use Rattle.mari_demands.specs.declared.runs.RunCheck.TheVariants as run
use Rattle.mari_day.specs.CalendarPage.{calendar_day_in, check_of, day_by, day_of_read, day_of_rows}
use Rattle.mari_day.specs.DateChecks.{date_check_number}
use Rattle.mari_day.specs.Reading.{books_at, limits_of_pages, of_file, ReadsAs}
use Rattle.mari_day.specs.Refusals.{IsByCheck, IsCheckNumber, RefusesByCheck}
use Rattle.mari_day.specs.Refusals.IsCheckNumber.{OfRows, Own}
use Rattle.mari_day.specs.declared.calendar_page.DateCheck.TheVariants as date
use Rattle.mari_day.specs.declared.files.File.{File}
use Rattle.mari_day.specs.declared.files.File.TheVariants.{Day, Zones, Borders, Bids, Links, Runs, Demands, Limits}
use Rattle.mari_day.specs.Files.{page_among}
use Rattle.mari_day.specs.declared.reading.BooksFault.{BooksFault}
use Rattle.mari_day.specs.declared.reading.BooksFault.TheVariants as why
use Rattle.mari_remain.specs.declared.books.Books.{Books}

-- what holds of each fault holds of the first
module _ {F : Type 0} (P : F → Type 0) where
  or-either : (o p : Option F) → IfSome o P → IfSome p P → IfSome (option_or o p) P
  or-either None p first second = second
  or-either (Some f) p first second = first

  first-of : {X : Type 0} (fault_of : List X → X → Option F) → ((earlier : List X) (x : X) → IfSome (fault_of earlier x) P) → (earlier xs : List X)
      → IfSome (first_fault_after fault_of earlier xs) P
  first-of fault_of each earlier [] = tt
  first-of fault_of each earlier (x ∷ xs) =
      or-either (fault_of earlier x) (first_fault_after fault_of (earlier ++ x ∷ []) xs) (each earlier x) (first-of fault_of each (earlier ++ x ∷ []) xs)

  unless-first : {A : Type 0} (fault : Option F) (value : A) → IfSome fault P → IfErr (unless_fault fault value) P
  unless-first None value h = tt
  unless-first (Some f) value h = h

-- a fault of the rows, other than that memory ran out
abbrev IsUnread : RowFault → Type 0
IsUnread unread.BadHeader = Unit {0}
IsUnread (unread.BadRow line) = Unit {0}
IsUnread (unread.NotUtf8 line) = Unit {0}
IsUnread unread.Memory = ⊥

-- the rows of a page never want memory
rows-report : (columns page : List ℕ) → IfErr (rows_in columns page) IsUnread
rows-report columns page = headed (records_in page)
  where
    of-row : (wide utf8 : Bool) (line : ℕ) → IfSome (if wide then if utf8 then None else Some (unread.NotUtf8 line) else Some (unread.BadRow line)) IsUnread
    of-row true true line = tt
    of-row true false line = tt
    of-row false utf8 line = tt

    width : ℕ
    width = length (columns_of columns)

    all : (rows : List Row) → IfErr (rows_of_width width rows) IsUnread
    all rows = unless-first IsUnread _ rows
        (first-of IsUnread (λ earlier row. fault_of_row width row) (λ earlier row. of-row (length row.fields == width) (list_all is_utf8 row.fields) row.line) [] rows)

    by : (b : Bool) (rows : List Row) → IfErr (rows_checked width (if b then Ok rows else Err unread.BadHeader)) IsUnread
    by true rows = all rows
    by false rows = tt

    headed : (records : List (List (List ℕ))) → IfErr (rows_checked width (rows_after_header (columns_of columns) records)) IsUnread
    headed [] = tt
    headed (header ∷ records) = by (is_header (columns_of columns) header) (rows_from 2 records)

module _ (file : File) where
  -- a refusal by a check of the file, other than that memory ran out
  abbrev pub IsFaultBy : BookFault → Type 0
  IsFaultBy (refused.At line number) = IsCheckNumber file number
  IsFaultBy refused.Memory = ⊥

  -- rows that aren't read are refused by a check that every file has
  of-rows : (fault : RowFault) → IsUnread fault → IsFaultBy (refusal_of fault)
  of-rows unread.BadHeader h = OfRows row_check.BadHeader refl
  of-rows (unread.BadRow line) h = OfRows row_check.BadRow refl
  of-rows (unread.NotUtf8 line) h = OfRows row_check.NotUtf8 refl
  of-rows unread.Memory h = absurd h

  -- checks that all have numbers of the file's
  abbrev AreChecks : Checks → Type 0
  AreChecks [] = Unit {0}
  AreChecks (check ∷ checks) = IsCheckNumber file check.1 × AreChecks checks

  failing-at : (line : ℕ) (checks : Checks) → AreChecks checks → IfSome (option_map (λ number. refused.At line number) (first_failing checks)) IsFaultBy
  failing-at line [] are = tt
  failing-at line (check ∷ checks) are = by check.0 (failing-at line checks are.1)
    where
      by : (b : Bool) → IfSome (option_map (λ number. refused.At line number) (first_failing checks)) IsFaultBy
          → IfSome (option_map (λ number. refused.At line number) (if b then Some check.1 else first_failing checks)) IsFaultBy
      by true more = are.0
      by false more = more

  -- a grammar whose checks are the file's refuses a page by them
  module _ {Book : Type 0} (g : Grammar Book) (lines : (earlier : List Row) (row : Row) → AreChecks (g.line_checks earlier row))
      (whole : (rows : List Row) → AreChecks (g.file_checks rows)) where
    book-states : (page : List ℕ) → IfErr (book_in g page) IsFaultBy
    book-states page = by (rows_in g.columns page) (rows-report g.columns page)
      where
        by : (read : Result (List Row) RowFault) → IfErr read IsUnread → IfErr (book_of_read g read) IsFaultBy
        by (Err fault) h = of-rows fault h
        by (Ok rows) h =
            unless-first IsFaultBy (first_refusal g rows) (g.book rows)
            (or-either IsFaultBy _ _ (first-of IsFaultBy (line_refusal g) (λ earlier row. failing-at row.line (g.line_checks earlier row) (lines earlier row)) [] rows)
            (failing-at 1 (g.file_checks rows) (whole rows)))

-- each file's grammar
zones-report : (page : List ℕ) → IfErr (book_in zone_grammar page) (IsFaultBy Zones)
zones-report = book-states Zones zone_grammar
    (λ earlier row. (Own zone.TooManyZones refl, (Own zone.BadField refl, (Own zone.Repeated refl, tt))))
    (λ rows. (Own zone.NoZone refl, tt))

borders-report : (zones : ZoneBook) (page : List ℕ) → IfErr (borders_in zones page) (IsFaultBy Borders)
borders-report zones page = book-states Borders (border_grammar zones (version_in page))
    (λ earlier row. (Own border.TooManyBorders refl, (Own border.Unknown refl, (Own border.SelfBorder refl, (Own border.Repeated refl, (Own border.Range refl, tt))))))
    (λ rows. tt) page

bids-report : (zones : ZoneBook) (quarters : ℕ) (page : List ℕ) → IfErr (book_in (bid_grammar zones quarters) page) (IsFaultBy Bids)
bids-report zones quarters = book-states Bids (bid_grammar zones quarters)
    (λ earlier row. (
      Own bid.BadField refl,
      (
        Own bid.Repeated refl,
        (
          Own bid.UnknownZone refl,
          (
            Own bid.Quarter refl,
            (
              Own bid.Range refl,
              (Own bid.LeastAboveGreatest refl, (Own bid.TooMany refl, tt)),
            ),
          ),
        ),
      ),
    ))
    (λ rows. tt)

links-report : (bids : BidBook) (page : List ℕ) → IfErr (book_in (link_grammar bids) page) (IsFaultBy Links)
links-report bids = book-states Links (link_grammar bids)
    (λ earlier row. (
      Own link.BadKind refl,
      (
        Own link.BadField refl,
        (
          Own link.UnknownBid refl,
          (
            Own link.WrongQuarter refl,
            (
              Own link.ParentNotEarlier refl,
              (Own link.Repeated refl, tt),
            ),
          ),
        ),
      ),
    ))
    (λ rows. (Own link.TooManyGates refl, tt))

runs-report : (quarters : ℕ) (page : List ℕ) → IfErr (book_in (run_grammar quarters) page) (IsFaultBy Runs)
runs-report quarters = book-states Runs (run_grammar quarters)
    (λ earlier row. (Own run.TooMany refl, (Own run.BadField refl, (Own run.RunsOutOfOrder refl, (Own run.Quarter refl, (Own run.Range refl, tt))))))
    (λ rows. tt)

demands-report : (zones : ZoneBook) (runs : ℕ) (page : List ℕ) → IfErr (book_in (demand_grammar zones runs) page) (IsFaultBy Demands)
demands-report zones runs = book-states Demands (demand_grammar zones runs)
    (λ earlier row. (Own demand.BadField refl, (Own demand.UnknownRun refl, (Own demand.UnknownZone refl, (Own demand.Range refl, (Own demand.TooMany refl, tt))))))
    (λ rows. tt)

limits-report : (zones : ZoneBook) (borders : BorderBook) (runs : ℕ) (page : List ℕ) → IfErr (book_in (limit_grammar zones borders runs) page) (IsFaultBy Limits)
limits-report zones borders runs = book-states Limits (limit_grammar zones borders runs)
    (λ earlier row. (Own limit.BadField refl, (Own limit.UnknownRun refl, (Own limit.UnknownBorder refl, (Own limit.Repeated refl, (Own limit.Range refl, tt))))))
    (λ rows. tt)

-- a fault of the calendar, other than that memory ran out
abbrev IsReported : CalendarFault → Type 0
IsReported calendar.BadDate = Unit {0}
IsReported calendar.BadZoneText = Unit {0}
IsReported calendar.OutOfRange = Unit {0}
IsReported calendar.NotWholeQuarters = Unit {0}
IsReported calendar.Memory = ⊥

-- what holds of the errors of two steps holds of those of both
module _ {E : Type 0} (P : E → Type 0) where
  then-states : {A B : Type 0} (first : Result A E) (second : A → Result B E) → IfErr first P → ((x : A) → IfErr (second x) P) → IfErr (first >>> second) P
  then-states (Ok x) second h more = more x
  then-states (Err e) second h more = h

  or-states : {A : Type 0} (e : E) (o : Option A) → P e → IfErr (or_fault e o) P
  or-states e None h = h
  or-states e (Some x) h = tt

  if-states : {A : Type 0} (b : Bool) (x : A) (e : E) → P e → IfErr (if b then Ok x else Err e) P
  if-states true x e h = tt
  if-states false x e h = h

quarters-report : (date rule : List ℕ) → IfErr (quarters_at date rule) IsReported
unfolding quarters_at
quarters-report date rule =
    then-states IsReported (or_fault calendar.BadDate (day_in date)) _ (or-states IsReported _ _ tt) (λ day.
    then-states IsReported (or_fault calendar.BadZoneText _) _ (or-states IsReported _ _ tt) (λ tz.
    then-states IsReported (day_after day) _ (if-states IsReported _ _ _ tt) (λ next.
    then-states IsReported (midnight_in tz day) _ (if-states IsReported _ _ _ tt) (λ begin.
    then-states IsReported (midnight_in tz next) _ (if-states IsReported _ _ _ tt) (λ end. if-states IsReported _ _ _ tt)))))

-- the day's page
day-states : (page : List ℕ) → IfErr (calendar_day_in page) (IsFaultBy Day)
day-states page = of-read (rows_in day_columns page) (rows-report day_columns page)
  where
    of-fault : (line : ℕ) (fault : CalendarFault) → IsReported fault → IsFaultBy Day (fault_at date_check_number (check_of fault) line)
    of-fault line calendar.BadDate h = Own date.BadDate refl
    of-fault line calendar.BadZoneText h = Own date.BadZoneText refl
    of-fault line calendar.OutOfRange h = Own date.OutOfRange refl
    of-fault line calendar.NotWholeQuarters h = Own date.NotWholeQuarters refl
    of-fault line calendar.Memory h = absurd h

    of-quarters : (row : Row) (quarters : Result ℕ CalendarFault) → IfErr quarters IsReported → IfErr (day_by row quarters) (IsFaultBy Day)
    of-quarters row (Ok quarters) h = tt
    of-quarters row (Err fault) h = of-fault row.line fault h

    of-rows-there : (rows : List Row) → IfErr (day_of_rows rows) (IsFaultBy Day)
    of-rows-there [] = Own date.NotOneRecord refl
    of-rows-there (row ∷ []) = of-quarters row (quarters_at (field_of row 0) (field_of row 1)) (quarters-report (field_of row 0) (field_of row 1))
    of-rows-there (row ∷ second ∷ more) = Own date.NotOneRecord refl

    of-read : (read : Result (List Row) RowFault) → IfErr read IsUnread → IfErr (day_of_read read) (IsFaultBy Day)
    of-read (Ok rows) h = of-rows-there rows
    of-read (Err fault) h = of-rows Day fault h

-- a file's refusal names it
of-file : {Book : Type 0} (file : File) (read : Result Book BookFault) → IfErr read (IsFaultBy file) → IfErr (of_file file read) IsByCheck
of-file file (Ok book) h = tt
of-file file (Err (refused.At line number)) h = record { file = file; numbered = refl; check = h }
of-file file (Err refused.Memory) h = absurd h

limits-there : (zones : ZoneBook) (borders : BorderBook) (runs : ℕ) (pages : List (List ℕ)) → IfErr (limits_of_pages zones borders runs pages) IsByCheck
limits-there zones borders runs pages = by (version_in (page_among pages Borders) == 2)
  where
    limits : Result (List (List BorderLimits)) BookFault
    limits = book_in (limit_grammar zones borders runs) (page_among pages Limits)

    by : (b : Bool) → IfErr (if b then (of_file Limits limits >>> λ l. Ok (Some l)) else Ok None) IsByCheck
    by true = then-states IsByCheck (of_file Limits limits) (λ l. Ok (Some l)) (of-file Limits limits (limits-report zones borders runs (page_among pages Limits))) (λ l. tt)
    by false = tt

books-report : (pages : List (List ℕ)) → IfErr (books_at pages) IsByCheck
unfolding books_at
books-report pages =
    then-states IsByCheck (of_file Day (calendar_day_in (page_among pages Day))) _ (of-file Day _ (day-states (page_among pages Day))) (λ day.
    then-states IsByCheck (of_file Zones (book_in zone_grammar (page_among pages Zones))) _ (of-file Zones _ (zones-report (page_among pages Zones))) (λ zones.
    then-states IsByCheck (of_file Borders (borders_in zones (page_among pages Borders))) _ (of-file Borders _ (borders-report zones (page_among pages Borders))) (λ borders.
    then-states IsByCheck (of_file Bids (book_in (bid_grammar zones day.quarters) (page_among pages Bids))) _ (of-file Bids _ (bids-report zones day.quarters (page_among pages Bids))) (λ bids.
    then-states IsByCheck (of_file Links (book_in (link_grammar bids) (page_among pages Links))) _ (of-file Links _ (links-report bids (page_among pages Links))) (λ links.
    then-states IsByCheck (of_file Runs (book_in (run_grammar day.quarters) (page_among pages Runs))) _ (of-file Runs _ (runs-report day.quarters (page_among pages Runs))) (λ runs.
    then-states IsByCheck (of_file Demands (book_in (demand_grammar zones (length runs.runs)) (page_among pages Demands))) _
    (of-file Demands _ (demands-report zones (length runs.runs) (page_among pages Demands))) (λ demands.
    then-states IsByCheck (limits_of_pages zones borders (length runs.runs) pages) _ (limits-there zones borders (length runs.runs) pages) (λ limits. tt))))))))

-- what was read is refused so
pub refuses-by-check : (pages : List (List ℕ)) (result : Result Books BooksFault) → ReadsAs result (books_at pages) → RefusesByCheck result
refuses-by-check pages (Ok books) read = tt
refuses-by-check pages (Err (why.Fetch file fault)) read = tt
refuses-by-check pages (Err why.Memory) read = tt
refuses-by-check pages (Err (why.Refused refusal)) read = rw read at (books-report pages)
