-- The page of demands is a book.
use Rattle.std.proofs.Common.{◌≡◌, ◌<◌, ◌+◌, ◌/◌, ◌%◌, ◌∙◌, ◌==◌, ℕ, Bool, true, false, List, [], ◌∷◌, ◌++◌, Some, Ok, decimal, length, refl, sym, append-nil, arith, mod-lt, ℤ, pos, negsuc, ◌-ℤ◌, neg_ℤ, unsigned_abs, if◌then◌else◌}
use Rattle.std.specs.Prelude.{nat_le, int_le, is_some, ◌||◌, count_by}
use Rattle.std.specs.Fmt.{signed_decimal}
use Rattle.std.specs.List.{flat_map, list_all}
use Rattle.std.proofs.lemmas.Bool.Decides.{nat_tests}
use Rattle.std.proofs.lemmas.Int.{ints}
use Rattle.std.proofs.lemmas.List.Sums.{count_by-le-length}
use Rattle.std.proofs.Math.Bool.{or-true}
use Rattle.csv.specs.Reading.{strip_bom}
use Rattle.mari_units.specs.Numbers.{printed_cents, price_of}
use Rattle.mari_units.proofs.Digits.{decimal_whole}
use Rattle.mari_rows.specs.Books.{book_in}
use Rattle.mari_rows.specs.Fields.{cents_in}
use Rattle.mari_rows.specs.Printed.{line_of}
use Rattle.mari_rows.specs.declared.rows.Row.{Row}
use Rattle.mari_rows.proofs.BookFacts.{none-fails}
use Rattle.mari_rows.proofs.NumberLemmas.{decimal_in}
use Rattle.mari_rows.proofs.PrintedLemmas.{AreColumns, is_plain_field, is_plain_record, number-plain}
use Rattle.mari_demands.specs.Demands.{demand_book, demand_columns, demand_grammar, is_inelastic, line_checks, run_at, within_mw}
use Rattle.mari_demands.specs.declared.demands.DemandBook.{DemandBook}
use Rattle.mari_scenario.specs.Draws.{Drawn, after, draw, lines}
use Rattle.mari_scenario.specs.Pages.{demand_line, demand_text, demands_at, zone}
use Rattle.mari_scenario.proofs.Accepting.{Passes, accepted, one-line, rows, rows-length}
use Rattle.mari_scenario.proofs.DrawBounds.{draw-lt}
use Rattle.mari_scenario.proofs.PlainNumbers.{cents-plain, signed-plain}
use Rattle.mari_scenario.proofs.ReadBack.{cents-price, cents-within, signed-whole}
use Rattle.mari_scenario.proofs.ZonePage.{the_zones, zone-known, zone-plain}

-- the quantity of a demand, in MW, and its price as it stands in the page
abbrev quantity : ℕ → ℤ
quantity x = pos (draw 1 61 x) -ℤ pos 20

abbrev is_elastic : ℕ → Bool
is_elastic x = draw 2 3 x == 2

abbrev price : ℕ → ℤ
price x = pos (5000 + draw 3 10000 x)

abbrev price_text : Bool → ℕ → List ℕ
price_text elastic x = if elastic then printed_cents (price x) else []

-- a line's fields
abbrev fields_by : Bool → (i state : ℕ) → List (List ℕ)
fields_by elastic i x = decimal (i / 8 + 1) ∷ zone (i % 8 + 1) ∷ signed_decimal (quantity x) ∷ price_text elastic x ∷ []

abbrev demand_fields : (i state : ℕ) → List (List ℕ)
demand_fields i x = fields_by (is_elastic x) i x

abbrev demand_records : (i state : ℕ) → List (List (List ℕ))
demand_records i x = demand_fields i x ∷ []

text-of : (i x : ℕ) → (demand_line i x).text ≡ flat_map line_of (demand_records i x)
text-of i x = by (is_elastic x) ∙ sym (append-nil (line_of (demand_fields i x)))
  where
    line_by : Bool → Drawn
    line_by b =
        if b then record { text = demand_text i x (printed_cents (price x)); state = after 3 x }
        else record { text = demand_text i x []; state = after 2 x }

    by : (b : Bool) → (line_by b).text ≡ line_of (fields_by b i x)
    by true = refl
    by false = refl

pub quantity-small : (x : ℕ) → unsigned_abs (quantity x) < 61
quantity-small x = by (draw 1 61 x) (draw-lt 1 61 x (omega arith))
  where
    by : (n : ℕ) → n < 61 → unsigned_abs (pos n -ℤ pos 20) < 61
    by n few = omega (arith, ints)

pub price-small : (x : ℕ) → 5000 + draw 3 10000 x < 15000
price-small x = omega (arith, draw-lt 3 10000 x (omega arith))

price-plain : (b : Bool) (x : ℕ) → is_plain_field (price_text b x) ≡ true
price-plain true x = cents-plain (price x) (omega (arith, price-small x))
price-plain false x = refl

plain-lines : (i x : ℕ) → i < 192 → list_all (is_plain_record 4) (demand_records i x) ≡ true
plain-lines i x few =
    rw (
      number-plain (i / 8 + 1) (omega arith),
      zone-plain (i % 8) (mod-lt i (omega arith)),
      signed-plain (quantity x) (omega (arith, quantity-small x)),
      price-plain (is_elastic x) x,
    ) refl

-- the rows of the first demands
abbrev demand_rows : (n state : ℕ) → List Row
demand_rows n x = rows demand_line demand_records n x

length-rows : (n x : ℕ) → length (demand_rows n x) ≡ n
length-rows n x = rows-length demand_line demand_records (λ i x. refl) n x

-- no price, or one that is read and in range
price-read : (b : Bool) (i x at : ℕ) → (is_inelastic (record { line = at; fields = fields_by b i x }) || is_some (price_of (price_text b x))) ≡ true
price-read true i x at = rw (cents-price (price x) (omega (arith, price-small x))) (or-true (length (printed_cents (price x)) == 0))
price-read false i x at = refl

price-within : (b : Bool) (i x at : ℕ) → (is_inelastic (record { line = at; fields = fields_by b i x }) || is_some (cents_in (price_text b x))) ≡ true
price-within true i x at = rw (cents-within (price x) (omega (arith, price-small x))) (or-true (length (printed_cents (price x)) == 0))
price-within false i x at = refl

quantity-within : (x : ℕ) → within_mw (quantity x) ≡ Some (quantity x)
quantity-within x = by (quantity x) (quantity-small x)
  where
    low : (z : ℤ) → unsigned_abs z < 61 → int_le (neg_ℤ (pos 99999)) z ≡ true
    low (pos n) s = grind (arith, ints, nat_tests)
    low (negsuc n) s = grind (arith, ints, nat_tests)

    high : (z : ℤ) → unsigned_abs z < 61 → int_le z (pos 99999) ≡ true
    high (pos n) s = grind (arith, ints, nat_tests)
    high (negsuc n) s = grind (arith, ints, nat_tests)

    by : (z : ℤ) → unsigned_abs z < 61 → within_mw z ≡ Some z
    by z s = rw (low z s, high z s) refl

room : (n x state at : ℕ) → n < 192 → nat_le 512 (count_by (λ row. run_at 24 row == run_at 24 (record { line = at; fields = demand_fields n state })) (demand_rows n x)) ≡ false
room n x state at few =
    let most = count_by-le-length (λ row. run_at 24 row == run_at 24 (record { line = at; fields = demand_fields n state })) (demand_rows n x) in
    let e = length-rows n x in
    grind (arith, nat_tests)

demand-passes : (x n : ℕ) → n < 192 → Passes demand_line demand_records (demand_grammar the_zones 24) n x
demand-passes x n few = one-line demand_line demand_records (demand_grammar the_zones 24) n x (demand_fields n state) refl
    (λ at. none-fails (line_checks the_zones 24 (demand_rows n x) (record { line = at; fields = demand_fields n state })) (
      rw (decimal_whole (n / 8 + 1) (omega arith), signed-whole (quantity state) (omega (arith, quantity-small state)), price-read (is_elastic state) n state at) refl,
      (
        rw (decimal_in 1 24 (n / 8 + 1) (omega arith) (omega arith) (omega arith)) refl,
        (
          rw (zone-known (n % 8) (mod-lt n (omega arith))) refl,
          (
            rw (signed-whole (quantity state) (omega (arith, quantity-small state)), quantity-within state, price-within (is_elastic state) n state at) refl,
            (
              room n x state at few,
              tt,
            ),
          ),
        ),
      ),
    ))
  where
    state : ℕ
    state = (lines demand_line n x).state

pub the_demands : ℕ → DemandBook
the_demands x = demand_book the_zones 24 (demand_rows 192 x)

columns-four : AreColumns demand_columns 4
unfolding demand_columns strip_bom
columns-four = record { wide = omega arith; plain = refl; unmarked = λ rest. refl }

pub demands-accepted : (x : ℕ) → book_in (demand_grammar the_zones 24) (demand_columns ++ 10 ∷ (demands_at x).text) ≡ Ok (the_demands x)
unfolding the_demands
demands-accepted x = accepted demand_line demand_records (demand_grammar the_zones 24) 4 192 x columns-four text-of plain-lines (demand-passes x) refl
