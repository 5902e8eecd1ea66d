-- A folder with the two pages of a migration in place is read as the books with those limits.
use Rattle.std.proofs.Common.{◌≡◌, ◌∙◌, ◌≤◌, ◌==◌, ℕ, Bool, true, false, List, [], ◌∷◌, ◌++◌, Option, Some, None, Result, Ok, Err, length, map, refl, sym, ap, arith, subst, if◌then◌else◌}
use Rattle.std.specs.Prelude.{nat_lt}
use Rattle.std.proofs.lemmas.Bool.Decides.{nat_tests}
use Rattle.mari_units.specs.declared.faults.Refusal.{Refusal}
use Rattle.mari_units.specs.declared.limits.TheConstants.{MOST_PAGE}
use Rattle.mari_calendar.specs.Midnights.{◌>>>◌}
use Rattle.mari_io.specs.Outside.{Pages}
use Rattle.mari_rows.specs.Books.{book_in}
use Rattle.mari_zones.specs.Borders.{borders_in}
use Rattle.mari_zones.specs.Zones.{zone_grammar}
use Rattle.mari_zones.specs.declared.borders.BorderBook.{BorderBook}
use Rattle.mari_zones.specs.declared.zones.ZoneBook.{ZoneBook}
use Rattle.mari_bids.specs.Bids.{bid_grammar}
use Rattle.mari_bids.specs.declared.bids.BidBook.{BidBook}
use Rattle.mari_links.specs.Links.{link_grammar}
use Rattle.mari_links.specs.declared.links.LinkBook.{LinkBook}
use Rattle.mari_demands.specs.Demands.{demand_grammar}
use Rattle.mari_demands.specs.Runs.{run_grammar}
use Rattle.mari_demands.specs.declared.demands.DemandBook.{DemandBook}
use Rattle.mari_demands.specs.declared.runs.RunBook.{RunBook}
use Rattle.mari_demands.specs.declared.limits.Limits.{Limits as BorderLimits}
use Rattle.mari_remain.specs.declared.books.Books.{Books}
use Rattle.mari_remain.specs.Migrated.{AreRead, borders_page, limits_page, with_limits}
use Rattle.mari_day.specs.CalendarPage.{calendar_day_in}
use Rattle.mari_day.specs.declared.calendar_page.CalendarDay.{CalendarDay}
use Rattle.mari_day.specs.declared.files.File.{File}
use Rattle.mari_day.specs.declared.files.File.TheVariants.{Day, Zones, Borders, Bids, Links, Runs, Demands, Limits}
use Rattle.mari_day.specs.Files.{files, files_in, files_of, first_gap, gap_of, gap_or, page_in, version_by, ArePages, FileGap, Gap}
use Rattle.mari_day.specs.Files.Gap.{OverLimit}
use Rattle.mari_day.specs.Migrating.{IsMigratedFolder}
use Rattle.mari_day.specs.Reading.{books_at, limits_of_pages, of_file, HasBooks}

-- what a step and those after it give, where they give something
record Gave {A B : Type 0} (first : Result A Refusal) (next : A → Result B Refusal) (b : B) : Type 0 where
  value : A
  is : first ≡ Ok value
  onward : next value ≡ Ok b

gave : {A B : Type 0} (first : Result A Refusal) (next : A → Result B Refusal) (b : B) → (first >>> next) ≡ Ok b → Gave first next b
gave (Ok a) next b e = record { value = a; is = refl; onward = e }
gave (Err why) next b e = absurd (cc e)

gives : {A B : Type 0} (first : Result A Refusal) (next : A → Result B Refusal) (a : A) (r : Result B Refusal) → first ≡ Ok a → next a ≡ r → (first >>> next) ≡ r
gives first next a r e h = ap (λ f. f >>> next) e ∙ h

ok-same : {A : Type 0} (a b : A) → (let r : Result A Refusal = Ok a in r ≡ Ok b) → a ≡ b
ok-same a b e = cc e

abbrev books-of : CalendarDay → ZoneBook → BorderBook → BidBook → LinkBook → RunBook → DemandBook → Option (List (List BorderLimits)) → Books
books-of day zones borders bids links runs demands limits = record {
  date = day.date;
  quarters = day.quarters;
  zones = zones;
  borders = borders;
  bids = bids;
  links = links;
  runs = runs;
  demands = demands;
  limits = limits;
}

module _ (d z b i l r m : List ℕ) (rest : List (List ℕ)) where
  abbrev texts : List (List ℕ)
  texts = d ∷ z ∷ b ∷ i ∷ l ∷ r ∷ m ∷ rest

  abbrev new-texts : Books → List (List ℕ)
  new-texts books = d ∷ z ∷ borders_page books ∷ i ∷ l ∷ r ∷ m ∷ limits_page books ∷ []

  -- the books of the pages with the two in place
  again : (day : CalendarDay) (zones : ZoneBook) (own : BorderBook) (bids : BidBook) (links : LinkBook) (runs : RunBook) (demands : DemandBook) (stated : Option (List (List BorderLimits)))
      → of_file Day (calendar_day_in d) ≡ Ok day → of_file Zones (book_in zone_grammar z) ≡ Ok zones → of_file Bids (book_in (bid_grammar zones day.quarters) i) ≡ Ok bids
      → of_file Links (book_in (link_grammar bids) l) ≡ Ok links → of_file Runs (book_in (run_grammar day.quarters) r) ≡ Ok runs → of_file Demands
      (book_in (demand_grammar zones (length runs.runs)) m) ≡ Ok demands
      → (borders : BorderBook) (limits : List (List BorderLimits)) → AreRead (books-of day zones own bids links runs demands stated) borders limits
      → books_at (new-texts (books-of day zones own bids links runs demands stated)) ≡ Ok (with_limits (books-of day zones own bids links runs demands stated) borders limits)
  unfolding books_at
  again day zones own bids links runs demands stated ed ez ei el er em borders limits is =
      let books : Books = books-of day zones own bids links runs demands stated in
      gives (of_file Day (calendar_day_in d)) _ day _ ed
      (gives (of_file Zones (book_in zone_grammar z)) _ zones _ ez
      (gives (of_file Borders (borders_in zones (borders_page books))) _ borders _ (ap (of_file Borders) is.borders_read)
      (gives (of_file Bids (book_in (bid_grammar zones day.quarters) i)) _ bids _ ei
      (gives (of_file Links (book_in (link_grammar bids) l)) _ links _ el
      (gives (of_file Runs (book_in (run_grammar day.quarters) r)) _ runs _ er
      (gives (of_file Demands (book_in (demand_grammar zones (length runs.runs)) m)) _ demands _ em
      (gives (limits_of_pages zones borders (length runs.runs) (new-texts books)) _ (Some limits) _ (rw (is.version, is.limits_read) refl) refl)))))))

  pub read-again : (books : Books) → books_at texts ≡ Ok books → (borders : BorderBook) (limits : List (List BorderLimits)) → AreRead books borders limits
      → books_at (new-texts books) ≡ Ok (with_limits books borders limits)
  unfolding books_at
  read-again books e borders limits is =
      let day = gave (of_file Day (calendar_day_in d)) _ books e in
      let zones = gave (of_file Zones (book_in zone_grammar z)) _ books day.onward in
      let own = gave (of_file Borders (borders_in zones.value b)) _ books zones.onward in
      let bids = gave (of_file Bids (book_in (bid_grammar zones.value day.value.quarters) i)) _ books own.onward in
      let links = gave (of_file Links (book_in (link_grammar bids.value) l)) _ books bids.onward in
      let runs = gave (of_file Runs (book_in (run_grammar day.value.quarters) r)) _ books links.onward in
      let demands = gave (of_file Demands (book_in (demand_grammar zones.value (length runs.value.runs)) m)) _ books runs.onward in
      let stated = gave (limits_of_pages zones.value own.value (length runs.value.runs) texts) _ books demands.onward in
      let same : books-of day.value zones.value own.value bids.value links.value runs.value demands.value stated.value ≡ books = ok-same _ books stated.onward in
      let P : Books → Type 0 = λ bk. (borders : BorderBook) (limits : List (List BorderLimits)) → AreRead bk borders limits → books_at (new-texts bk) ≡ Ok (with_limits bk borders limits) in
      subst P same (again day.value zones.value own.value bids.value links.value runs.value demands.value stated.value day.is zones.is bids.is links.is runs.is demands.is) borders limits is

-- ---- the pages

-- the pages of some files are one for each
record One (f : File → Option (List ℕ)) (file : File) (fs : List File) (texts : List (List ℕ)) : Type 0 where
  text : List ℕ
  more : List (List ℕ)
  are : texts ≡ text ∷ more
  held : f file ≡ Some text
  rest : map f fs ≡ map Some more

one : (f : File → Option (List ℕ)) (file : File) (fs : List File) (texts : List (List ℕ)) → map f (file ∷ fs) ≡ map Some texts → One f file fs texts
one f file fs [] e = absurd (cc e)
one f file fs (t ∷ ts) e = record { text = t; more = ts; are = refl; held = cc e; rest = cc e }

-- every folder has the seven files
seven-first : (version : ℕ) → (more : List File) × (files_of version ≡ files ++ more)
seven-first version = by (version == 2)
  where
    by : (t : Bool) → (more : List File) × ((if t then files ++ Limits ∷ [] else files) ≡ files ++ more)
    by true = (Limits ∷ [], refl)
    by false = ([], refl)

gap-or-none : (file : File) (gap : Option Gap) (later : Option FileGap) → gap_or file gap later ≡ None → (gap ≡ None) × (later ≡ None)
gap-or-none file None later e = (refl, e)
gap-or-none file (Some g) later e = absurd (cc e)

no-gap-or : (file : File) (gap : Option Gap) (later : Option FileGap) → gap ≡ None → later ≡ None → gap_or file gap later ≡ None
no-gap-or file gap later e h = rw (e, h) refl

short-enough : (page : List ℕ) → length page ≤ MOST_PAGE → gap_of (Some page) ≡ None
short-enough page l = let e : nat_lt MOST_PAGE (length page) ≡ false = grind (arith, nat_tests, l) in ap (λ (t : Bool). if t then Some OverLimit else None) e

module _ (folder : List ℕ) (before after : Pages) (books : Books) (is : IsMigratedFolder books folder before after) (borders : BorderBook) (limits : List (List BorderLimits))
    (read : AreRead books borders limits)
    (short : (length (borders_page books) ≤ MOST_PAGE) × (length (limits_page books) ≤ MOST_PAGE)) where
  abbrev here : File → Option (List ℕ)
  here = page_in before folder

  abbrev there : File → Option (List ℕ)
  there = page_in after folder

  -- the folder has eight files then
  eight : files_in after folder ≡ files ++ Limits ∷ []
  eight = ap (λ (page : Option (List ℕ)). files_of (version_by page)) is.borders ∙ ap files_of read.version

  module _ (d z b i l r m : List ℕ) (rest : List (List ℕ)) (more : List File) (day : here Day ≡ Some d) (zones : here Zones ≡ Some z) (bids : here Bids ≡ Some i) (links : here Links ≡ Some l)
      (runs : here Runs ≡ Some r) (demands : here Demands ≡ Some m) (none : first_gap before folder (files ++ more) ≡ None) (first : books_at (d ∷ z ∷ b ∷ i ∷ l ∷ r ∷ m ∷ rest) ≡ Ok books) where
    same : (file : File) (page : List ℕ) → (file ≡ Borders → ⊥) → (file ≡ Limits → ⊥) → here file ≡ Some page → there file ≡ Some page
    same file page other another held = is.others file other another ∙ held

    day-there : there Day ≡ Some d
    day-there = same Day d (λ e. absurd (cc e)) (λ e. absurd (cc e)) day

    zones-there : there Zones ≡ Some z
    zones-there = same Zones z (λ e. absurd (cc e)) (λ e. absurd (cc e)) zones

    bids-there : there Bids ≡ Some i
    bids-there = same Bids i (λ e. absurd (cc e)) (λ e. absurd (cc e)) bids

    links-there : there Links ≡ Some l
    links-there = same Links l (λ e. absurd (cc e)) (λ e. absurd (cc e)) links

    runs-there : there Runs ≡ Some r
    runs-there = same Runs r (λ e. absurd (cc e)) (λ e. absurd (cc e)) runs

    demands-there : there Demands ≡ Some m
    demands-there = same Demands m (λ e. absurd (cc e)) (λ e. absurd (cc e)) demands

    abbrev texts-there : List (List ℕ)
    texts-there = new-texts d z b i l r m rest books

    held : map there (files ++ Limits ∷ []) ≡ map Some texts-there
    held = rw (day-there, zones-there, is.borders, bids-there, links-there, runs-there, demands-there, is.limits) refl

    -- a page that was no gap before isn't one after
    still : (file : File) (page : List ℕ) → here file ≡ Some page → there file ≡ Some page → gap_of (here file) ≡ None → gap_of (there file) ≡ None
    still file page e f g = ap gap_of (f ∙ sym e) ∙ g

    no-gap : first_gap after folder (files ++ Limits ∷ []) ≡ None
    no-gap =
        let gap-day = gap-or-none Day (gap_of (here Day)) _ none in
        let gap-zones = gap-or-none Zones (gap_of (here Zones)) _ gap-day.1 in
        let gap-borders = gap-or-none Borders (gap_of (here Borders)) _ gap-zones.1 in
        let gap-bids = gap-or-none Bids (gap_of (here Bids)) _ gap-borders.1 in
        let gap-links = gap-or-none Links (gap_of (here Links)) _ gap-bids.1 in
        let gap-runs = gap-or-none Runs (gap_of (here Runs)) _ gap-links.1 in
        let gap-demands = gap-or-none Demands (gap_of (here Demands)) _ gap-runs.1 in
        no-gap-or Day (gap_of (there Day)) _ (still Day d day day-there gap-day.0)
        (no-gap-or Zones (gap_of (there Zones)) _ (still Zones z zones zones-there gap-zones.0)
        (no-gap-or Borders (gap_of (there Borders)) _ (ap gap_of is.borders ∙ short-enough (borders_page books) short.0)
        (no-gap-or Bids (gap_of (there Bids)) _ (still Bids i bids bids-there gap-bids.0)
        (no-gap-or Links (gap_of (there Links)) _ (still Links l links links-there gap-links.0)
        (no-gap-or Runs (gap_of (there Runs)) _ (still Runs r runs runs-there gap-runs.0)
        (no-gap-or Demands (gap_of (there Demands)) _ (still Demands m demands demands-there gap-demands.0)
        (no-gap-or Limits (gap_of (there Limits)) None (ap gap_of is.limits ∙ short-enough (limits_page books) short.1) refl)))))))

    gives-books : HasBooks after folder (with_limits books borders limits)
    gives-books = record {
      texts = texts-there;
      held = subst (λ fs. ArePages after folder fs texts-there) (sym eight) (record { held = held; no_gap = no-gap });
      read = read-again d z b i l r m rest books first borders limits read;
    }

  from-texts : (texts : List (List ℕ)) (more : List File) → map here (files ++ more) ≡ map Some texts
      → first_gap before folder (files ++ more) ≡ None → books_at texts ≡ Ok books
      → HasBooks after folder (with_limits books borders limits)
  from-texts texts more pages none first =
      let day = one here Day (Zones ∷ Borders ∷ Bids ∷ Links ∷ Runs ∷ Demands ∷ more) texts pages in
      let zones = one here Zones (Borders ∷ Bids ∷ Links ∷ Runs ∷ Demands ∷ more) day.more day.rest in
      let own = one here Borders (Bids ∷ Links ∷ Runs ∷ Demands ∷ more) zones.more zones.rest in
      let bids = one here Bids (Links ∷ Runs ∷ Demands ∷ more) own.more own.rest in
      let links = one here Links (Runs ∷ Demands ∷ more) bids.more bids.rest in
      let runs = one here Runs (Demands ∷ more) links.more links.rest in
      let demands = one here Demands more runs.more runs.rest in
      let are : texts ≡ day.text ∷ zones.text ∷ own.text ∷ bids.text ∷ links.text ∷ runs.text ∷ demands.text ∷ demands.more =
      cc (day.are, zones.are, own.are, bids.are, links.are, runs.are, demands.are) in
      gives-books day.text zones.text own.text bids.text links.text runs.text demands.text demands.more more day.held zones.held bids.held links.held
      runs.held demands.held none (ap books_at (sym are) ∙ first)

  pub folder-read : HasBooks before folder books → HasBooks after folder (with_limits books borders limits)
  folder-read h =
      let own = seven-first (version_by (page_in before folder Borders)) in
      from-texts h.texts own.0 (ap (map here) (sym own.1) ∙ h.held.held) (ap (first_gap before folder) (sym own.1) ∙ h.held.no_gap) h.read
