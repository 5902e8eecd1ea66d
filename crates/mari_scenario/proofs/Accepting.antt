-- A page of drawn lines is a book, where no check of any of its lines fails.
use Rattle.std.proofs.Common.{length-append, ◌≡◌, ◌≤◌, ◌<◌, ◌+◌, ◌∙◌, ℕ, zero, suc, true, List, [], ◌∷◌, ◌++◌, Option, Some, None, Ok, append_assoc, append-nil, length, refl, ap, arith, add-zero}
use Rattle.std.specs.Option.{option_or}
use Rattle.std.specs.List.{flat_map, list_all}
use Rattle.std.proofs.lemmas.Grind.{flat_map-append}
use Rattle.std.proofs.lemmas.List.Folds.{list_all-append}
use Rattle.mari_rows.specs.Books.{Grammar, book_in, first_failing, line_refusal}
use Rattle.mari_rows.specs.First.{first_fault, first_fault_after}
use Rattle.mari_rows.specs.Printed.{line_of, page_text}
use Rattle.mari_rows.specs.Rows.{rows_from}
use Rattle.mari_rows.specs.declared.rows.Row.{Row}
use Rattle.mari_rows.proofs.BookLemmas.{book-read}
use Rattle.mari_rows.proofs.PrintedLemmas.{AreColumns, is_plain_record, page-rows}
use Rattle.mari_rows.proofs.RowLemmas.{length-rows_from}
use Rattle.mari_scenario.specs.Draws.{Drawn, lines}

pub rows_from-append : (line : ℕ) (xs ys : List (List (List ℕ))) → rows_from line (xs ++ ys) ≡ rows_from line xs ++ rows_from (line + length xs) ys
rows_from-append line [] ys = rw (add-zero line) refl
rows_from-append line (x ∷ xs) ys =
    let same : line + 1 + length xs ≡ line + length (x ∷ xs) = omega arith in
    ap (λ l. record { line = line; fields = x } ∷ l) (rows_from-append (line + 1) xs ys ∙ rw same refl)

-- no fault in a list, nor in what stands after it
after-append : {X F : Type 0} (fault_of : List X → X → Option F) (earlier xs ys : List X) → first_fault_after fault_of earlier xs ≡ None
    → first_fault_after fault_of (earlier ++ xs) ys ≡ None → first_fault_after fault_of earlier (xs ++ ys) ≡ None
after-append fault_of earlier [] ys a b = rw (append-nil earlier) at b
after-append fault_of earlier (x ∷ xs) ys a b = by (fault_of earlier x) refl a (after-append fault_of (earlier ++ x ∷ []) xs ys)
  where
    by : (o : Option _) → fault_of earlier x ≡ o → option_or o (first_fault_after fault_of (earlier ++ x ∷ []) xs) ≡ None
        → (first_fault_after fault_of (earlier ++ x ∷ []) xs ≡ None → first_fault_after fault_of ((earlier ++ x ∷ []) ++ xs) ys ≡ None
        → first_fault_after fault_of (earlier ++ x ∷ []) (xs ++ ys) ≡ None)
        → option_or (fault_of earlier x) (first_fault_after fault_of (earlier ++ x ∷ []) (xs ++ ys)) ≡ None
    by None e h more = rw e (more h (rw (append_assoc earlier (x ∷ []) xs) b))
    by (Some fault) e h more = cc h

-- the records of the first `n` steps of lines that draw, where a step from a state writes these
module _ (line : ℕ → ℕ → Drawn) (records : ℕ → ℕ → List (List (List ℕ))) where
  abbrev pub drawn : (n state : ℕ) → List (List (List ℕ))
  drawn zero x = []
  drawn (suc n) x = drawn n x ++ records n (lines line n x).state

  -- their rows
  abbrev pub rows : (n state : ℕ) → List Row
  rows n x = rows_from 2 (drawn n x)

  pub drawn-text : ((i x : ℕ) → (line i x).text ≡ flat_map line_of (records i x)) → (n x : ℕ) → (lines line n x).text ≡ flat_map line_of (drawn n x)
  unfolding lines
  drawn-text same zero x = refl
  drawn-text same (suc n) x =
      rw (flat_map-append line_of (drawn n x) (records n (lines line n x).state), drawn-text same n x, same n (lines line n x).state) refl

  pub drawn-plain : (width most : ℕ) → ((i x : ℕ) → i < most → list_all (is_plain_record width) (records i x) ≡ true)
      → (n x : ℕ) → n ≤ most → list_all (is_plain_record width) (drawn n x) ≡ true
  drawn-plain width most plain zero x few = refl
  drawn-plain width most plain (suc n) x few =
      list_all-append (is_plain_record width) (drawn n x) (records n (lines line n x).state)
      ∙ rw (drawn-plain width most plain n x (omega arith), plain n (lines line n x).state (omega arith)) refl

  -- as many rows as steps, where a step writes one line
  drawn-length : ((i x : ℕ) → length (records i x) ≡ 1) → (n x : ℕ) → length (drawn n x) ≡ n
  drawn-length one zero x = refl
  drawn-length one (suc n) x =
      omega (arith, length-append (drawn n x) (records n (lines line n x).state), one n (lines line n x).state, drawn-length one n x)

  pub rows-length : ((i x : ℕ) → length (records i x) ≡ 1) → (n x : ℕ) → length (rows n x) ≡ n
  rows-length one n x = length-rows_from 2 (drawn n x) ∙ drawn-length one n x

  -- one step more
  pub rows-more : (n x : ℕ) → rows (suc n) x ≡ rows n x ++ rows_from (2 + length (drawn n x)) (records n (lines line n x).state)
  rows-more n x = rows_from-append 2 (drawn n x) (records n (lines line n x).state)

  module _ {Book : Type 0} (g : Grammar Book) where
    -- the lines of a step are not refused after those of the steps before it
    abbrev pub Passes : (n state : ℕ) → Type 0
    Passes n x = (at : ℕ) → first_fault_after (line_refusal g) (rows n x) (rows_from at (records n (lines line n x).state)) ≡ None

    pub none-refused : (most x : ℕ) → ((n : ℕ) → n < most → Passes n x) → (n : ℕ) → n ≤ most → first_fault (line_refusal g) (rows n x) ≡ None
    none-refused most x all zero few = refl
    none-refused most x all (suc n) few =
        rw (rows-more n x) (after-append (line_refusal g) [] (rows n x) _ (none-refused most x all n (omega arith)) (all n (omega arith) (2 + length (drawn n x))))

    -- a step of one line
    pub one-line : (n x : ℕ) (fields : List (List ℕ)) → records n (lines line n x).state ≡ fields ∷ []
        → ((at : ℕ) → first_failing (g.line_checks (rows n x) (record { line = at; fields = fields })) ≡ None) → Passes n x
    one-line n x fields is none at = rw (is, none at) refl

    -- so the page is a book
    pub accepted : (width most x : ℕ) → AreColumns g.columns width → ((i x : ℕ) → (line i x).text ≡ flat_map line_of (records i x))
        → ((i x : ℕ) → i < most → list_all (is_plain_record width) (records i x) ≡ true)
        → ((n : ℕ) → n < most → Passes n x) → first_failing (g.file_checks (rows most x)) ≡ None
        → book_in g (g.columns ++ 10 ∷ (lines line most x).text) ≡ Ok (g.book (rows most x))
    accepted width most x are text plain pass file =
        ap (λ t. book_in g (g.columns ++ 10 ∷ t)) (drawn-text text most x)
        ∙ book-read g (page_text g.columns (drawn most x)) (rows most x)
        (page-rows g.columns width are (drawn most x) (drawn-plain width most plain most x (omega arith))) (none-refused most x pass most (omega arith)) file
