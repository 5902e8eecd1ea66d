-- The books that a folder's pages give are those by which the pages of a generated day are accepted.
use Rattle.std.proofs.Common.{◌≡◌, ◌∙◌, ℕ, List, [], ◌∷◌, Some, None, length, map, ap, refl, subst, sym, arith}
use Rattle.std.specs.Prelude.{Ok, Result}
use Rattle.std.proofs.lemmas.List.{length-map}
use Rattle.std.proofs.lemmas.List.FromFn.{length-map-range_with_len}
use lib.Chars.{codes}
use Rattle.mari_units.specs.declared.faults.Refusal.{Refusal}
use Rattle.mari_io.specs.Outside.{Pages, page_of}
use Rattle.mari_rows.specs.Books.{book_in}
use Rattle.mari_rows.specs.Rows.{rows_in}
use Rattle.mari_rows.proofs.BookLemmas.{book-page}
use Rattle.mari_zones.specs.Borders.{borders_in, version_in}
use Rattle.mari_zones.specs.Zones.{zone_grammar}
use Rattle.mari_bids.specs.Bids.{bid_book, bid_grammar}
use Rattle.mari_bids.specs.declared.bids.BidBook.{BidBook}
use Rattle.mari_links.specs.Links.{link_book, link_grammar, links_of, said_by}
use Rattle.mari_links.specs.declared.links.LinkBook.{LinkBook}
use Rattle.mari_demands.specs.Demands.{demand_grammar}
use Rattle.mari_demands.specs.Runs.{run_grammar}
use Rattle.mari_remain.specs.declared.books.Books.{Books}
use Rattle.mari_calendar.specs.Columns.{day_columns}
use Rattle.mari_day.specs.CalendarPage.{calendar_day_in}
use Rattle.mari_day.specs.declared.calendar_page.CalendarDay.{CalendarDay}
use Rattle.mari_day.specs.declared.files.File.TheVariants.{Day, Zones, Borders, Bids, Links, Runs, Demands}
use Rattle.mari_day.specs.Files.{files_in, page_in}
use Rattle.mari_day.specs.Reading.{HasBooks, books_at}
use Rattle.mari_scenario.specs.Accepted.{AreAccepted, HasPage}
use Rattle.mari_scenario.specs.Pages.{date_text, rule_text}
use Rattle.mari_day.proofs.Facts.{some_same}

-- a page that is there, and what is said of it
there : (pages : Pages) (name : List ℕ) (Is : List ℕ → Type 0) → HasPage pages name Is → (page : List ℕ) × (page_of pages name ≡ Some page) × Is page
there pages name Is has = grind arith

-- the pages of a folder in version 1
held-seven : (pages : Pages) (folder d z b i l r m : List ℕ) → page_in pages folder Day ≡ Some d
    → page_in pages folder Zones ≡ Some z → page_in pages folder Borders ≡ Some b → page_in pages folder Bids ≡ Some i
    → page_in pages folder Links ≡ Some l → page_in pages folder Runs ≡ Some r → page_in pages folder Demands ≡ Some m → version_in b ≡ 1
    → map (page_in pages folder) (files_in pages folder) ≡ map Some (d ∷ z ∷ b ∷ i ∷ l ∷ r ∷ m ∷ [])
held-seven pages folder d z b i l r m hd hz hb hi hl hr hm one = rw (hb, one, hd, hz, hb, hi, hl, hr, hm) refl

-- books that are read
abbrev given : Books → Result Books Refusal
given books = Ok books

one-given : (x y : Books) → given x ≡ given y → x ≡ y
one-given x y e = cc

module _ (pages : Pages) (a : AreAccepted pages) where
  -- the day that its page states
  abbrev day : CalendarDay
  day = record { date = date_text; quarters = 96 }

  day-is : (page : List ℕ) → rows_in day_columns page ≡ Ok (record { line = 2; fields = date_text ∷ rule_text ∷ [] } ∷ []) → calendar_day_in page ≡ Ok day
  day-is page e = rw (e, a.quarters) refl

  -- the books by which they are accepted
  abbrev pub whole : Books
  whole = record { date = date_text; quarters = 96; zones = a.zones; borders = a.borders; bids = a.bids; links = a.links; runs = a.runs; demands = a.demands; limits = None }

  -- and the books of the pages' texts
  books-of : (d z b i l r m : List ℕ) → calendar_day_in d ≡ Ok day → book_in zone_grammar z ≡ Ok a.zones → borders_in a.zones b ≡ Ok a.borders → book_in (bid_grammar a.zones 96) i ≡ Ok a.bids
      → book_in (link_grammar a.bids) l ≡ Ok a.links → book_in (run_grammar 96) r ≡ Ok a.runs → book_in (demand_grammar a.zones (length a.runs.runs)) m ≡ Ok a.demands → version_in b ≡ 1
      → books_at (d ∷ z ∷ b ∷ i ∷ l ∷ r ∷ m ∷ []) ≡ Ok whole
  unfolding books_at
  books-of d z b i l r m hd hz hb hi hl hr hm one = rw (hd, hz, hb, hi, hl, hr, hm, one) refl

  -- the pages of bids and of links
  bids-page : (page : List ℕ) × (page_of pages (codes "s/bids.csv") ≡ Some page) × (book_in (bid_grammar a.zones 96) page ≡ Ok a.bids)
  bids-page = there pages (codes "s/bids.csv") (λ page. book_in (bid_grammar a.zones 96) page ≡ Ok a.bids) a.bids_read

  links-page : (page : List ℕ) × (page_of pages (codes "s/links.csv") ≡ Some page) × (book_in (link_grammar a.bids) page ≡ Ok a.links)
  links-page = there pages (codes "s/links.csv") (λ page. book_in (link_grammar a.bids) page ≡ Ok a.links) a.links_read

  -- the books that the folder's pages give are these
  pub same-books : (books : Books) → HasBooks pages (codes "s") books → books ≡ whole
  same-books books h =
      let d = there pages (codes "s/day.csv") (λ page. rows_in day_columns page ≡ Ok (record { line = 2; fields = date_text ∷ rule_text ∷ [] } ∷ [])) a.day_read in
      let z = there pages (codes "s/zones.csv") (λ page. book_in zone_grammar page ≡ Ok a.zones) a.zones_read in
      let v = there pages (codes "s/borders.csv") (λ page. version_in page ≡ 1) a.version in
      let b = there pages (codes "s/borders.csv") (λ page. borders_in a.zones page ≡ Ok a.borders) a.borders_read in
      let r = there pages (codes "s/runs.csv") (λ page. book_in (run_grammar 96) page ≡ Ok a.runs) a.runs_read in
      let m = there pages (codes "s/demands.csv") (λ page. book_in (demand_grammar a.zones (length a.runs.runs)) page ≡ Ok a.demands) a.demands_read in
      let i = bids-page in
      let l = links-page in
      let one-page : Some v.0 ≡ Some b.0 = sym v.1 ∙ b.1 in
      let same : v.0 ≡ b.0 = cc in
      let one : version_in b.0 ≡ 1 = subst (λ (page : List ℕ). version_in page ≡ 1) same v.2 in
      let texts : List (List ℕ) = d.0 ∷ z.0 ∷ b.0 ∷ i.0 ∷ l.0 ∷ r.0 ∷ m.0 ∷ [] in
      let held = held-seven pages (codes "s") d.0 z.0 b.0 i.0 l.0 r.0 m.0 d.1 z.1 b.1 i.1 l.1 r.1 m.1 one in
      let are = some_same h.texts texts (sym h.held.held ∙ held) in
      let read : books_at texts ≡ Ok whole = books-of d.0 z.0 b.0 i.0 l.0 r.0 m.0 (day-is d.0 d.2) z.2 b.2 i.2 l.2 r.2 m.2 one in
      one-given books whole (sym h.read ∙ ap books_at are ∙ read)

  -- one entry of links for each bid
  pub one-each : length a.links.links ≡ length a.bids.bids
  one-each =
      let bids = book-page (bid_grammar a.zones 96) bids-page.0 a.bids bids-page.2 in
      let links = book-page (link_grammar a.bids) links-page.0 a.links links-page.2 in
      let entries : length (link_book a.bids links.0).links ≡ length a.bids.ids = length-map-range_with_len (links_of a.bids (said_by a.bids links.0)) 0 (length a.bids.ids) in
      let ids : length (bid_book a.zones 96 bids.0).ids ≡ length (bid_book a.zones 96 bids.0).bids = simp length-map refl in
      let counts : BidBook → Type 0 = λ (x : BidBook). length x.ids ≡ length x.bids in
      ap (λ (x : LinkBook). length x.links) links.2.says ∙ entries ∙ subst counts (sym bids.2.says) ids
