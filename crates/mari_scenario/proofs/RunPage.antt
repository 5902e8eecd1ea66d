-- The page of runs is a book.
use Rattle.std.proofs.Common.{◌≡◌, ◌<◌, ◌+◌, ◌∙◌, ℕ, zero, suc, true, false, List, [], ◌∷◌, ◌++◌, Option, Some, None, Ok, decimal, length, refl, sym, ap, append-nil, arith, pos}
use Rattle.std.specs.Prelude.{nat_lt}
use Rattle.std.specs.List.{flat_map, list_all}
use Rattle.std.proofs.lemmas.Bool.Decides.{nat_tests}
use Rattle.std.proofs.lemmas.List.{length-map}
use Rattle.std.proofs.lemmas.List.Sums.{fold-append}
use Rattle.csv.specs.Reading.{strip_bom}
use Rattle.mari_units.specs.Numbers.{printed_cents}
use Rattle.mari_units.proofs.Digits.{decimal_whole}
use Rattle.mari_rows.specs.Books.{book_in}
use Rattle.mari_rows.specs.Printed.{line_of}
use Rattle.mari_rows.specs.declared.rows.Row.{Row}
use Rattle.mari_rows.proofs.BookFacts.{none-fails}
use Rattle.mari_rows.proofs.NumberLemmas.{decimal_in}
use Rattle.mari_rows.proofs.PrintedLemmas.{AreColumns, is_plain_record, number-plain}
use Rattle.mari_demands.specs.Runs.{comes_too_late, direct_word, last_quarter, quarter_at, run_book, run_checks, run_columns, run_grammar, run_of, scheduled_word}
use Rattle.mari_demands.specs.declared.runs.RunBook.{RunBook}
use Rattle.mari_scenario.specs.Draws.{draw, lines}
use Rattle.mari_scenario.specs.Pages.{run_line, runs_at}
use Rattle.mari_scenario.proofs.Accepting.{Passes, accepted, drawn, one-line, rows, rows-length, rows-more}
use Rattle.mari_scenario.proofs.DrawBounds.{draw-lt}
use Rattle.mari_scenario.proofs.PlainNumbers.{cents-plain}
use Rattle.mari_scenario.proofs.ReadBack.{cents-price, cents-within, decimal-above}

-- the reference price of a run, in cents
abbrev reference : ℕ → ℕ
reference x = 4000 + draw 1 4000 x

small : (x : ℕ) → reference x < 8000
small x = omega (arith, draw-lt 1 4000 x (omega arith))

-- a line's fields
abbrev pub run_fields : (i state : ℕ) → List (List ℕ)
run_fields i x = decimal (i + 1) ∷ decimal (i + 1) ∷ scheduled_word ∷ printed_cents (pos (reference x)) ∷ []

abbrev pub run_records : (i state : ℕ) → List (List (List ℕ))
run_records i x = run_fields i x ∷ []

text-of : (i x : ℕ) → (run_line i x).text ≡ flat_map line_of (run_records i x)
text-of i x = sym (append-nil (line_of (run_fields i x)))

plain-lines : (i x : ℕ) → i < 24 → list_all (is_plain_record 4) (run_records i x) ≡ true
unfolding scheduled_word
plain-lines i x few = rw (number-plain (i + 1) (omega arith), cents-plain (pos (reference x)) (omega (arith, small x))) refl

-- the rows of the first runs
abbrev run_rows : (n state : ℕ) → List Row
run_rows n x = rows run_line run_records n x

length-rows : (n x : ℕ) → length (run_rows n x) ≡ n
length-rows n x = rows-length run_line run_records (λ i x. refl) n x

quarter-of : (n x at : ℕ) → n < 24 → quarter_at 96 (record { line = at; fields = run_fields n x }) ≡ n + 1
quarter-of n x at few = rw (decimal_in 1 96 (n + 1) (omega arith) (omega arith) (omega arith)) refl

-- the last of the first runs is in the quarter of its number
last-of : (n x : ℕ) → n < 24 → last_quarter 96 (run_rows (suc n) x) ≡ Some (n + 1)
last-of n x few =
    let state = (lines run_line n x).state in
    let at = 2 + length (drawn run_line run_records n x) in
    rw (rows-more run_line run_records n x)
    (fold-append (λ before row. Some (quarter_at 96 row)) None (run_rows n x) (record { line = at; fields = run_fields n state } ∷ []) ∙ ap Some (quarter-of n state at few))

after : (n x at : ℕ) → n < 24 → comes_too_late (Some n) (record { line = at; fields = run_fields n x }) ≡ false
unfolding scheduled_word direct_word
after n x at few =
    let later : nat_lt (n + 1) n ≡ false = grind (arith, nat_tests) in
    rw (decimal-above n n (n + 1) (omega arith) (omega arith), decimal_whole (n + 1) (omega arith), later) refl

not-late : (n x at state : ℕ) → n < 24 → comes_too_late (last_quarter 96 (run_rows n x)) (record { line = at; fields = run_fields n state }) ≡ false
not-late zero x at state few = refl
not-late (suc n) x at state few =
    rw (last-of n x (omega arith)) (ap (λ (o : Option ℕ). comes_too_late o (record { line = at; fields = run_fields (suc n) state })) (ap Some (omega arith)) ∙ after (suc n) state at few)

run-passes : (x n : ℕ) → n < 24 → Passes run_line run_records (run_grammar 96) n x
unfolding scheduled_word direct_word
run-passes x n few = one-line run_line run_records (run_grammar 96) n x (run_fields n state) refl (λ at. none-fails (run_checks 96 (run_rows n x) (record { line = at; fields = run_fields n state })) (
  (let e = length-rows n x in grind (arith, nat_tests)),
  (
    rw (decimal_whole (n + 1) (omega arith), cents-price (pos (reference state)) (omega (arith, small state))) refl,
    (
      rw (length-rows n x, decimal_in (n + 1) (n + 1) (n + 1) (omega arith) (omega arith) (omega arith)) (not-late n x at state few),
      (
        rw (decimal_in 1 96 (n + 1) (omega arith) (omega arith) (omega arith)) refl,
        (
          rw (cents-within (pos (reference state)) (omega (arith, small state))) refl,
          tt,
        ),
      ),
    ),
  ),
))
  where
    state : ℕ
    state = (lines run_line n x).state

pub the_runs : ℕ → RunBook
the_runs x = run_book 96 (run_rows 24 x)

pub count-runs : (x : ℕ) → length (the_runs x).runs ≡ 24
unfolding the_runs
count-runs x = length-map (run_rows 24 x) (run_of 96) ∙ length-rows 24 x

columns-four : AreColumns run_columns 4
unfolding run_columns strip_bom
columns-four = record { wide = omega arith; plain = refl; unmarked = λ rest. refl }

pub runs-accepted : (x : ℕ) → book_in (run_grammar 96) (run_columns ++ 10 ∷ (runs_at x).text) ≡ Ok (the_runs x)
unfolding the_runs
runs-accepted x = accepted run_line run_records (run_grammar 96) 4 24 x columns-four text-of plain-lines (run-passes x) refl
