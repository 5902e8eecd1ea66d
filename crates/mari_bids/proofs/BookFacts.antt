-- What holds of every book of bids that is read.
use Rattle.std.proofs.Common.{◌≡◌, ◌≢◌, ◌∙◌, ◌≤◌, ◌<◌, ◌==◌, ℕ, true, false, List, [], ◌∷◌, ◌++◌, None, Ok, Err, Result, IfOk, map, length, get_or, sym, arith}
use Rattle.std.specs.Prelude.{pos, ◌&&◌, nat_lt, is_some, count_by, unwrap_or}
use Rattle.std.specs.List.{All, AllPairs}
use Rattle.std.specs.Str.{bytes_eq}
use Rattle.std.proofs.lemmas.Bool.Decides.{nat_tests}
use Rattle.std.proofs.lemmas.List.{length-map, map-append}
use Rattle.std.proofs.lemmas.List.Elements.{All-map, All-nil, All-push}
use Rattle.mari_rows.specs.Books.{GivesBook, book_in, first_failing}
use Rattle.mari_rows.specs.Names.{place_in}
use Rattle.mari_rows.specs.Rows.{field_of}
use Rattle.mari_rows.specs.declared.faults.BookFault.{BookFault}
use Rattle.mari_rows.specs.declared.rows.Row.{Row}
use Rattle.mari_rows.proofs.BookLemmas.{book-page}
use Rattle.mari_rows.proofs.BookFacts.{all-distinct, all-passed, along-lines, count_by-map, counts-at-most, distinct-more, found-below, number-bounds, places-below, read-within}
use Rattle.std.proofs.lemmas.Bool.{and_parts, not-false}
use Rattle.mari_rows.proofs.PlaceLemmas.{length-distinct}
use Rattle.mari_rows.proofs.RowLemmas.{length-rows_in}
use Rattle.mari_zones.specs.declared.zones.ZoneBook.{ZoneBook}
use Rattle.mari_bids.specs.Bids.{IsBid, IsBidBook, bid_at, bid_book, bid_grammar, greatest_in, id_of, least_in, line_checks, price_in, provider_of, providers_of, quarter_at, quarter_in, zone_in}
use Rattle.mari_units.specs.Names.{IsName, is_name}
use Rattle.mari_bids.proofs.BidLemmas.{good-names}
use Rattle.mari_bids.specs.declared.bids.Bid.{Bid}
use Rattle.mari_bids.specs.declared.bids.BidBook.{BidBook}

module _ (zones : ZoneBook) (quarters : ℕ) where
  -- what the checks of a line say
  record IsLine (row : Row) : Type 0 where
    id : is_name (id_of row) ≡ true
    provider : is_name (provider_of row) ≡ true
    zone : is_some (zone_in zones row) ≡ true
    quarter : is_some (quarter_in quarters row) ≡ true
    price : is_some (price_in row) ≡ true
    greatest : is_some (greatest_in row) ≡ true
    least : nat_lt (unwrap_or (greatest_in row) 0) (unwrap_or (least_in row) 0) ≡ false

  -- what holds of the lines so far
  record AreLines (rows : List Row) : Type 0 where
    lines : All IsLine rows
    distinct : AllPairs (λ a b. a ≢ b) (map id_of rows)
    counts : (k : ℕ) → count_by (λ row. quarter_at quarters row == k) rows ≤ 4096

  one-more : (before : List Row) (line : Row) → first_failing (line_checks zones quarters before line) ≡ None → AreLines before → AreLines (before ++ line ∷ [])
  one-more before line none so_far =
      let all = all-passed (line_checks zones quarters before line) none in
      let numbers = and_parts (is_some (price_in line) && is_some (greatest_in line)) (is_some (least_in line)) (not-false _ all.1.1.1.1.0) in
      let first = and_parts (is_some (price_in line)) (is_some (greatest_in line)) numbers.0 in
      let names = good-names line all.0 in
      record {
        lines = All-push IsLine before line so_far.lines
            (record {
              id = names.0;
              provider = names.1;
              zone = not-false _ all.1.1.0;
              quarter = not-false _ all.1.1.1.0;
              price = first.0;
              greatest = first.1;
              least = all.1.1.1.1.1.0;
            });
        distinct = rw (map-append id_of before (line ∷ [])) (distinct-more (map id_of before) (id_of line) so_far.distinct all.1.0);
        counts = counts-at-most (quarter_at quarters) 4096 before line all.1.1.1.1.1.1.0 so_far.counts;
      }

  none-yet : AreLines []
  none-yet = record { lines = All-nil IsLine; distinct = λ i j d i<j j<0. absurd (omega (arith, j<0)); counts = λ k. omega arith }

  is-bid : (provider providers : ℕ) (row : Row) → provider < providers → IsLine row → IsBid zones providers quarters (bid_at zones quarters provider row)
  is-bid provider providers row within line =
      let quarter = number-bounds 1 quarters (field_of row 3) line.quarter in
      let greatest = number-bounds 1 9999 (field_of row 7) line.greatest in
      record {
        provider = within;
        zone = found-below (bytes_eq (field_of row 2)) zones.zones line.zone;
        first_quarter = quarter.0;
        last_quarter = quarter.1;
        price = read-within (field_of row 5) (record { 0 = pos 0 }) line.price;
        some = greatest.0;
        most = greatest.1;
        least = grind (arith, nat_tests, line.least);
      }

  -- what is read is such a book
  pub bid-facts : (page : List ℕ) (result : Result BidBook BookFault) → length page ≤ 268435456 → GivesBook result (book_in (bid_grammar zones quarters) page)
      → IfOk result (IsBidBook zones quarters)
  bid-facts page (Err fault) small gives = tt
  bid-facts page (Ok book) small gives =
      let read = book-page (bid_grammar zones quarters) page book gives in
      let rows : List Row = read.0 in
      let few : length rows ≤ 268435456 = omega (arith, length-rows_in (bid_grammar zones quarters).columns page rows read.1, small) in
      let is = read.2 in
      let are = along-lines (bid_grammar zones quarters) AreLines one-more rows book is none-yet in
      let providers = providers_of rows in
      let make : Row → Bid = λ row. bid_at zones quarters (place_in providers (provider_of row)) row in
      let whole : IsBidBook zones quarters (bid_book zones quarters rows) = record {
        named = length-map rows id_of ∙ sym (length-map rows make);
        ids = All-map IsName id_of rows (λ k d below. (are.lines k d below).id);
        providers = all-distinct IsName (map provider_of rows) (All-map IsName provider_of rows (λ k d below. (are.lines k d below).provider));
        few_providers = simp length-map (omega (arith, length-distinct (map provider_of rows), length-map rows provider_of));
        few = simp length-map few;
        distinct = are.distinct;
        bids = All-map (IsBid zones (length providers) quarters) make rows
            (λ k d below. is-bid (place_in providers (provider_of (get_or rows k d))) (length providers) (get_or rows k d) (places-below provider_of rows k d below) (are.lines k d below));
        of_quarter = λ quarter. rw (count_by-map make (λ (bid : Bid). bid.quarter == quarter) rows) (are.counts quarter);
      } in
      rw is.says whole
