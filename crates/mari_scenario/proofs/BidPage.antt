-- The page of bids is a book.
use Rattle.std.proofs.Common.{◌≡◌, ◌≤◌, ◌<◌, ◌+◌, ◌-◌, ◌/◌, ◌%◌, ◌^◌, ◌==◌, ℕ, zero, suc, Bool, true, false, List, [], ◌∷◌, ◌++◌, Some, Ok, decimal, length, map, refl, sym, append-nil, arith, pos, ◌-ℤ◌, unsigned_abs, if◌then◌else◌}
use Rattle.std.specs.Prelude.{nat_le, nat_lt, count_by}
use Rattle.std.specs.List.{flat_map, list_all}
use Rattle.std.proofs.lemmas.Bool.Decides.{nat_tests}
use Rattle.std.proofs.lemmas.Int.{ints}
use Rattle.std.proofs.lemmas.List.{map-append}
use Rattle.std.proofs.lemmas.List.Sums.{count_by-le-length}
use Rattle.csv.specs.Reading.{strip_bom}
use Rattle.mari_units.specs.Numbers.{printed_cents}
use Rattle.mari_units.proofs.Digits.{decimal_whole}
use Rattle.mari_rows.specs.Books.{book_in}
use Rattle.mari_rows.specs.Fields.{is_first_of, number_in}
use Rattle.mari_rows.specs.Names.{is_among}
use Rattle.mari_rows.specs.Printed.{line_of}
use Rattle.mari_rows.specs.declared.rows.Row.{Row}
use Rattle.mari_rows.proofs.BookFacts.{none-fails}
use Rattle.mari_rows.proofs.NumberLemmas.{decimal_in}
use Rattle.mari_rows.proofs.PlaceLemmas.{among-push}
use Rattle.mari_rows.proofs.PrintedLemmas.{AreColumns, is_plain_field, is_plain_record, number-plain}
use Rattle.mari_bids.specs.Bids.{bid_book, bid_columns, bid_grammar, both_word, down_word, id_of, line_checks, quarter_at, scheduled_word as scheduled, up_word}
use Rattle.mari_bids.specs.declared.bids.BidBook.{BidBook}
use Rattle.mari_scenario.specs.Draws.{draw, lines}
use Rattle.mari_scenario.specs.Pages.{bid_least, bid_line, bid_price, bids_at, direction, greatest, is_both, is_up, kind, provider, zone}
use Rattle.mari_scenario.proofs.Accepting.{Passes, accepted, drawn, one-line, rows, rows-length, rows-more}
use Rattle.mari_scenario.proofs.BidNames.{bid-name, bid-plain, bid_id, ids-differ, provider-name, provider-plain}
use Rattle.mari_scenario.proofs.DrawBounds.{draw-lt}
use Rattle.mari_scenario.proofs.PlainNumbers.{cents-plain}
use Rattle.mari_scenario.proofs.ReadBack.{cents-price, cents-within}
use Rattle.mari_scenario.proofs.ZonePage.{the_zones, drawn-known, drawn-plain}

abbrev zone_number : ℕ → ℕ
zone_number x = draw 1 8 x

abbrev least : (i state : ℕ) → ℕ
least i x = bid_least (i % 40 + 1) (greatest x)

abbrev turn : ℕ → ℕ
turn i = (i % 40 + 1 - 1) % 10 + 1

-- a line's fields
abbrev pub bid_fields : (i state : ℕ) → List (List ℕ)
bid_fields i x =
    bid_id i ∷ provider (turn i) ∷ zone (1 + zone_number x) ∷ decimal (i / 40 + 1) ∷ direction (is_up x)
    ∷ printed_cents (bid_price x) ∷ decimal (least i x) ∷ decimal (greatest x) ∷ kind (is_both x) ∷ []

abbrev pub bid_records : (i state : ℕ) → List (List (List ℕ))
bid_records i x = bid_fields i x ∷ []

text-of : (i x : ℕ) → (bid_line i x).text ≡ flat_map line_of (bid_records i x)
text-of i x = sym (append-nil (line_of (bid_fields i x)))

pub price-small : (x : ℕ) → unsigned_abs (bid_price x) < 12000
price-small x = by (is_up x)
  where
    down : (n : ℕ) → n < 6000 → unsigned_abs (pos n -ℤ pos 1000) < 12000
    down n few = omega (arith, ints)

    by : (b : Bool) → unsigned_abs (if b then pos (3000 + draw 3 9000 x) else (pos (draw 3 6000 x) -ℤ pos 1000)) < 12000
    by true = omega (arith, draw-lt 3 9000 x (omega arith))
    by false = down (draw 3 6000 x) (draw-lt 3 6000 x (omega arith))

pub greatest-small : (x : ℕ) → greatest x < 51
greatest-small x = omega (arith, draw-lt 4 46 x (omega arith))

pub least-small : (i x : ℕ) → least i x ≤ greatest x
least-small i x = by ((i % 40 + 1) % 5 == 0)
  where
    by : (b : Bool) → (if b then greatest x else 0) ≤ greatest x
    by true = omega arith
    by false = omega arith

in-zones : (x : ℕ) → zone_number x < 8
in-zones x = draw-lt 1 8 x (omega arith)

direction-plain : (b : Bool) → is_plain_field (direction b) ≡ true
direction-plain true = refl
direction-plain false = refl

kind-plain : (b : Bool) → is_plain_field (kind b) ≡ true
kind-plain true = refl
kind-plain false = refl

plain-lines : (i x : ℕ) → i < 960 → list_all (is_plain_record 9) (bid_records i x) ≡ true
plain-lines i x few =
    rw (
      bid-plain (i / 40 + 1) (i % 40 + 1) (omega arith) (omega arith),
      provider-plain (turn i) (omega arith),
      drawn-plain (zone_number x) (in-zones x),
      number-plain (i / 40 + 1) (omega arith),
      direction-plain (is_up x),
      cents-plain (bid_price x) (omega (arith, price-small x)),
      number-plain (least i x) (omega (arith, least-small i x, greatest-small x)),
      number-plain (greatest x) (omega (arith, greatest-small x)),
      kind-plain (is_both x),
    ) refl

-- the rows of the first bids
abbrev pub bid_rows : (n state : ℕ) → List Row
bid_rows n x = rows bid_line bid_records n x

pub length-rows : (n x : ℕ) → length (bid_rows n x) ≡ n
length-rows n x = rows-length bid_line bid_records (λ i x. refl) n x

-- the name of a bid isn't that of an earlier one
pub new-id : (n x i : ℕ) → n ≤ i → i < 960 → is_among (map id_of (bid_rows n x)) (bid_id i) ≡ false
new-id zero x i before few = refl
new-id (suc n) x i before few =
    let state = (lines bid_line n x).state in
    let at = 2 + length (drawn bid_line bid_records n x) in
    rw (
      rows-more bid_line bid_records n x,
      map-append id_of (bid_rows n x) (record { line = at; fields = bid_fields n state } ∷ []),
      among-push (map id_of (bid_rows n x)) (bid_id i) (bid_id n),
      new-id n x i (omega arith) few,
      ids-differ i n (omega arith) few,
    ) refl

-- its words are those of the file
direction-read : (b : Bool) → is_first_of up_word down_word (direction b) ≡ Some b
unfolding up_word down_word
direction-read true = refl
direction-read false = refl

kind-read : (b : Bool) → is_first_of both_word scheduled (kind b) ≡ Some b
unfolding both_word scheduled
kind-read true = refl
kind-read false = refl

in-order : (a b : ℕ) → a ≤ b → nat_lt b a ≡ false
in-order a b le = grind (arith, nat_tests)

room : (n x state at : ℕ) → n < 960 → nat_le 4096 (count_by (λ row. quarter_at 96 row == quarter_at 96 (record { line = at; fields = bid_fields n state })) (bid_rows n x)) ≡ false
room n x state at few =
    let most = count_by-le-length (λ row. quarter_at 96 row == quarter_at 96 (record { line = at; fields = bid_fields n state })) (bid_rows n x) in
    let e = length-rows n x in
    grind (arith, nat_tests)

bid-passes : (x n : ℕ) → n < 960 → Passes bid_line bid_records (bid_grammar the_zones 96) n x
bid-passes x n few = one-line bid_line bid_records (bid_grammar the_zones 96) n x (bid_fields n state) refl
    (λ at. none-fails (line_checks the_zones 96 (bid_rows n x) (record { line = at; fields = bid_fields n state })) (
      rw (
        bid-name (n / 40 + 1) (n % 40 + 1) (omega arith) (omega arith),
        provider-name (turn n) (omega arith),
        decimal_whole (n / 40 + 1) (omega arith),
        decimal_whole (least n state) small-least,
        decimal_whole (greatest state) small-greatest,
        cents-price (bid_price state) small-price,
        direction-read (is_up state),
        kind-read (is_both state),
      ) refl,
      (
        new-id n x n (omega arith) few,
        (
          rw (drawn-known (zone_number state) (in-zones state)) refl,
          (
            rw (decimal_in 1 96 (n / 40 + 1) (omega arith) (omega arith) (omega arith)) refl,
            (
              rw (cents-within (bid_price state) (omega (arith, price-small state)), greatest-read, least-read) refl,
              (
                rw (greatest-read, least-read) (in-order (least n state) (greatest state) (least-small n state)),
                (
                  room n x state at few,
                  tt,
                ),
              ),
            ),
          ),
        ),
      ),
    ))
  where
    state : ℕ
    state = (lines bid_line n x).state

    small-least : least n state < 2 ^ 64
    small-least = omega (arith, least-small n state, greatest-small state)

    small-greatest : greatest state < 2 ^ 64
    small-greatest = omega (arith, greatest-small state)

    small-price : unsigned_abs (bid_price state) < 2 ^ 64
    small-price = omega (arith, price-small state)

    greatest-read : number_in 1 9999 (decimal (greatest state)) ≡ Some (greatest state)
    greatest-read = decimal_in 1 9999 (greatest state) small-greatest (omega arith) (omega (arith, greatest-small state))

    least-read : number_in 0 9999 (decimal (least n state)) ≡ Some (least n state)
    least-read = decimal_in 0 9999 (least n state) small-least (omega arith) (omega (arith, least-small n state, greatest-small state))

unfoldable pub the_bids : ℕ → BidBook
the_bids x = bid_book the_zones 96 (bid_rows 960 x)

columns-nine : AreColumns bid_columns 9
unfolding bid_columns strip_bom
columns-nine = record { wide = omega arith; plain = refl; unmarked = λ rest. refl }

pub bids-accepted : (x : ℕ) → book_in (bid_grammar the_zones 96) (bid_columns ++ 10 ∷ (bids_at x).text) ≡ Ok (the_bids x)
unfolding the_bids
bids-accepted x = accepted bid_line bid_records (bid_grammar the_zones 96) 9 960 x columns-nine text-of plain-lines (bid-passes x) refl
