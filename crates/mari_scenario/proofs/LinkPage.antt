-- The page of links is a book, between bids that have the names, the places and the quarters of a generated day.
use Rattle.std.proofs.Common.{get_or, ◌≡◌, ◌≢◌, ◌≤◌, ◌<◌, ◌+◌, ◌-◌, ◌*◌, ◌/◌, ◌∙◌, ◌==◌, ◌⊎◌, ℕ, zero, suc, Bool, true, false, List, [], ◌∷◌, ◌++◌, Option, Some, None, Ok, codes, decimal, length, refl, sym, append-nil, append_assoc, inl, inr, arith, if◌then◌else◌}
use Rattle.std.specs.Prelude.{nat_lt, count_by, filter}
use Rattle.std.specs.List.{filter_map, find, flat_map, list_all, list_any, range_with_len}
use Rattle.std.specs.Option.{option_and_then}
use Rattle.std.specs.Str.{bytes_eq}
use Rattle.std.proofs.lemmas.Bool.Decides.{eqb_tells, nat_tests}
use Rattle.std.proofs.lemmas.Fmt.{decimal_injective}
use Rattle.std.proofs.lemmas.List.Elements.{filter_map-append}
use Rattle.std.proofs.lemmas.List.Folds.{find-append, list_any-append, list_any_none}
use Rattle.std.proofs.lemmas.List.Sums.{sum_by-cons}
use Rattle.std.proofs.lemmas.Slice.Eq.{bytes_eq-Decides}
use Rattle.std.proofs.lemmas.Bool.{false_from_ne_true}
use Rattle.csv.specs.Reading.{strip_bom}
use Rattle.mari_rows.specs.Books.{book_in, first_failing}
use Rattle.mari_rows.specs.Printed.{line_of}
use Rattle.mari_rows.specs.declared.rows.Row.{Row}
use Rattle.mari_rows.proofs.BookFacts.{none-fails}
use Rattle.mari_rows.proofs.NameLemmas.{bytes_eq-same}
use Rattle.mari_rows.proofs.PrintedLemmas.{AreColumns, is_plain_record}
use Rattle.mari_bids.specs.declared.bids.BidBook.{BidBook}
use Rattle.mari_links.specs.Links.{bid_named, child_of, child_word, gated_bids, group_word, has_too_many, is_gated, kind_of, line_checks, link_book, link_columns, link_grammar, member_of, quarter_of, said_by, Member}
use Rattle.mari_links.specs.declared.lines.Link.{Link}
use Rattle.mari_links.specs.declared.lines.LinkKind.TheVariants.{Child}
use Rattle.mari_links.specs.declared.links.LinkBook.{LinkBook}
use Rattle.mari_scenario.specs.Pages.{bid, group, link_lines, links_text}
use Rattle.mari_scenario.proofs.Accepting.{Passes, accepted, drawn, rows, rows-more}
use Rattle.mari_scenario.proofs.BidNames.{bid-plain, group-name, group-plain}

-- the fields of the three lines of a quarter
abbrev pub member_fields : (i place : ℕ) → List (List ℕ)
member_fields i j = codes "group" ∷ group (i + 1) ∷ bid (i + 1) j ∷ []

abbrev pub child_fields : ℕ → List (List ℕ)
child_fields i = codes "child" ∷ bid (i + 1) 25 ∷ bid (i + 1) 20 ∷ []

abbrev pub link_records : (i state : ℕ) → List (List (List ℕ))
link_records i x = member_fields i 10 ∷ member_fields i 15 ∷ child_fields i ∷ []

abbrev pub link_rows : ℕ → List Row
link_rows n = rows link_lines link_records n 0

three : (a b c : List ℕ) → a ++ b ++ c ≡ a ++ (b ++ (c ++ []))
three a b c = rw (append-nil c) (append_assoc a b c)

text-of : (i x : ℕ) → (link_lines i x).text ≡ flat_map line_of (link_records i x)
text-of i x = three (line_of (member_fields i 10)) (line_of (member_fields i 15)) (line_of (child_fields i))

plain-lines : (i x : ℕ) → i < 24 → list_all (is_plain_record 3) (link_records i x) ≡ true
plain-lines i x few =
    rw (
      group-plain (i + 1) (omega arith),
      bid-plain (i + 1) 10 (omega arith) (omega arith),
      bid-plain (i + 1) 15 (omega arith) (omega arith),
      bid-plain (i + 1) 25 (omega arith) (omega arith),
      bid-plain (i + 1) 20 (omega arith) (omega arith),
    ) refl

columns-three : AreColumns link_columns 3
unfolding link_columns strip_bom
columns-three = record { wide = omega arith; plain = refl; unmarked = λ rest. refl }

-- what the lines of a quarter say, the first quarter counting as 0
abbrev pub member : (quarter place : ℕ) → Member
member n j = record { group = group (n + 1); bid = 40 * n + j }

abbrev pub child : ℕ → Link
child n = record { kind = Child; first = 40 * n + 24; second = 40 * n + 19 }

-- and what those of all quarters before it say
abbrev pub members : ℕ → List Member
members zero = []
members (suc n) = members n ++ member n 9 ∷ member n 14 ∷ []

abbrev pub children : ℕ → List Link
children zero = []
children (suc n) = children n ++ child n ∷ []

-- groups of different quarters have different names
group-states : (t u : ℕ) → t < 100 → u < 100 → group t ≡ group u → t ≡ u
group-states t u a b e = let same : decimal t ≡ decimal u = cc e in decimal_injective t u (omega arith) (omega arith) same

groups-differ : (m n : ℕ) → n < m → m < 24 → bytes_eq (group (m + 1)) (group (n + 1)) ≡ false
groups-differ m n before few =
    false_from_ne_true (bytes_eq (group (m + 1)) (group (n + 1)))
    (λ t. apart (group-states (m + 1) (n + 1) (omega arith) (omega arith) ((bytes_eq-Decides (group (m + 1)) (group (n + 1))).0 t)))
  where
    apart : m + 1 ≡ n + 1 → ⊥
    apart e = omega (arith, e)

no-group : (n m : ℕ) → n ≤ m → m < 24 → find (λ (other : Member). bytes_eq (group (m + 1)) other.group) (members n) ≡ None
no-group zero m before few = refl
no-group (suc n) m before few =
    rw (find-append (λ (other : Member). bytes_eq (group (m + 1)) other.group) (members n) (member n 9 ∷ member n 14 ∷ []), no-group n m (omega arith) few, groups-differ m n (omega arith) few) refl

-- no bid is linked twice
apart : (a b : ℕ) → a < b → (a == b) ≡ false
apart a b lt = grind (arith, nat_tests)

no-member : (n b : ℕ) → 40 * n ≤ b → list_any (λ (other : Member). other.bid == b) (members n) ≡ false
no-member zero b past = refl
no-member (suc n) b past =
    rw (
      list_any-append (λ (other : Member). other.bid == b) (members n) (member n 9 ∷ member n 14 ∷ []),
      no-member n b (omega arith),
      apart (40 * n + 9) b (omega arith),
      apart (40 * n + 14) b (omega arith),
    )
    refl

no-child : (n b : ℕ) → 40 * n ≤ b → list_any (λ (link : Link). link.first == b) (children n) ≡ false
no-child zero b past = refl
no-child (suc n) b past =
    rw (list_any-append (λ (link : Link). link.first == b) (children n) (child n ∷ []), no-child n b (omega arith), apart (40 * n + 24) b (omega arith)) refl

same-number : (a : ℕ) → (a == a) ≡ true
same-number a = grind (arith, nat_tests)

module _ (bids : BidBook) (named : (n j : ℕ) → n < 24 → j < 40 → bid_named bids (bid (n + 1) (j + 1)) ≡ Some (40 * n + j))
    (quarter : (k : ℕ) → k < 960 → quarter_of bids k ≡ k / 40 + 1) (count : length bids.ids ≡ 960) where
  quarter-here : (n j : ℕ) → n < 24 → j < 40 → quarter_of bids (40 * n + j) ≡ n + 1
  quarter-here n j few small = quarter (40 * n + j) (omega arith) ∙ omega arith

  -- the rows of a quarter
  abbrev member_row : (n j at : ℕ) → Row
  member_row n j at = record { line = at; fields = member_fields n j }

  abbrev child_row : (n at : ℕ) → Row
  child_row n at = record { line = at; fields = child_fields n }

  abbrev pub says_member : Row → Option Member
  says_member row = option_and_then (member_of bids row) (kind_of row)

  abbrev pub says_child : Row → Option Link
  says_child row = option_and_then (child_of bids row) (kind_of row)

  says-member : (n j at : ℕ) → n < 24 → j < 40 → says_member (member_row n (j + 1) at) ≡ Some (member n j)
  unfolding group_word
  says-member n j at few small = rw (named n j few small) refl

  child-says-none : (n at : ℕ) → says_member (child_row n at) ≡ None
  unfolding group_word child_word
  child-says-none n at = refl

  member-says-none : (n j at : ℕ) → says_child (member_row n j at) ≡ None
  unfolding group_word
  member-says-none n j at = refl

  says-child : (n at : ℕ) → n < 24 → says_child (child_row n at) ≡ Some (child n)
  unfolding group_word child_word
  says-child n at few = rw (named n 24 few (omega arith), named n 19 few (omega arith)) refl

  -- what the lines of the first quarters say
  pub members-said : (n : ℕ) → n ≤ 24 → filter_map says_member (link_rows n) ≡ members n
  members-said zero few = refl
  members-said (suc n) few =
      let at = 2 + length (drawn link_lines link_records n 0) in
      rw (
        rows-more link_lines link_records n 0,
        filter_map-append says_member (link_rows n) (member_row n 10 at ∷ member_row n 15 (at + 1) ∷ child_row n (at + 1 + 1) ∷ []),
        members-said n (omega arith),
        says-member n 9 at (omega arith) (omega arith),
        says-member n 14 (at + 1) (omega arith) (omega arith),
        child-says-none n (at + 1 + 1),
      ) refl

  pub children-said : (n : ℕ) → n ≤ 24 → filter_map says_child (link_rows n) ≡ children n
  children-said zero few = refl
  children-said (suc n) few =
      let at = 2 + length (drawn link_lines link_records n 0) in
      rw (
        rows-more link_lines link_records n 0,
        filter_map-append says_child (link_rows n) (member_row n 10 at ∷ member_row n 15 (at + 1) ∷ child_row n (at + 1 + 1) ∷ []),
        children-said n (omega arith),
        member-says-none n 10 at,
        member-says-none n 15 (at + 1),
        says-child n (at + 1 + 1) (omega arith),
      ) refl

  -- the first member of a quarter's group
  first-passes : (n at : ℕ) → n < 24 → first_failing (line_checks bids (link_rows n) (member_row n 10 at)) ≡ None
  unfolding group_word
  first-passes n at few = none-fails (line_checks bids (link_rows n) (member_row n 10 at)) (
    refl,
    (
      rw (group-name (n + 1) (omega arith)) refl,
      (
        rw (named n 9 few (omega arith)) refl,
        (
          rw (members-said n (omega arith), no-group n n (omega arith) few) refl,
          (
            refl,
            (
              rw (named n 9 few (omega arith), members-said n (omega arith), no-member n (40 * n + 9) (omega arith)) refl,
              tt,
            ),
          ),
        ),
      ),
    ),
  )

  -- and the second
  after-first : (n at : ℕ) → n < 24 → filter_map says_member (link_rows n ++ member_row n 10 at ∷ []) ≡ members n ++ member n 9 ∷ []
  after-first n at few =
      rw (filter_map-append says_member (link_rows n) (member_row n 10 at ∷ []), members-said n (omega arith), says-member n 9 at few (omega arith)) refl

  second-passes : (n at here : ℕ) → n < 24 → first_failing (line_checks bids (link_rows n ++ member_row n 10 at ∷ []) (member_row n 15 here)) ≡ None
  unfolding group_word
  second-passes n at here few = none-fails (line_checks bids (link_rows n ++ member_row n 10 at ∷ []) (member_row n 15 here)) (
    refl,
    (
      rw (group-name (n + 1) (omega arith)) refl,
      (
        rw (named n 14 few (omega arith)) refl,
        (
          rw (
            after-first n at few,
            find-append (λ (other : Member). bytes_eq (group (n + 1)) other.group) (members n) (member n 9 ∷ []),
            no-group n n (omega arith) few,
            bytes_eq-same (group (n + 1)),
            named n 14 few (omega arith),
            quarter-here n 9 few (omega arith),
            quarter-here n 14 few (omega arith),
            same-number (n + 1),
          ) refl,
          (
            refl,
            (
              rw (
                named n 14 few (omega arith),
                after-first n at few,
                list_any-append (λ (other : Member). other.bid == 40 * n + 14) (members n) (member n 9 ∷ []),
                no-member n (40 * n + 14) (omega arith),
                apart (40 * n + 9) (40 * n + 14) (omega arith),
              ) refl,
              tt,
            ),
          ),
        ),
      ),
    ),
  )

  -- and the child
  children-before : (n at here : ℕ) → n < 24 → filter_map says_child ((link_rows n ++ member_row n 10 at ∷ []) ++ member_row n 15 here ∷ []) ≡ children n
  children-before n at here few =
      rw (
        append_assoc (link_rows n) (member_row n 10 at ∷ []) (member_row n 15 here ∷ []),
        filter_map-append says_child (link_rows n) (member_row n 10 at ∷ member_row n 15 here ∷ []),
        children-said n (omega arith),
        member-says-none n 10 at,
        member-says-none n 15 here,
      ) (append-nil (children n))

  third-passes : (n at here last : ℕ) → n < 24 → first_failing (line_checks bids ((link_rows n ++ member_row n 10 at ∷ []) ++ member_row n 15 here ∷ []) (child_row n last)) ≡ None
  unfolding group_word child_word
  third-passes n at here last few =
      let before : nat_lt (40 * n + 19) (40 * n + 24) ≡ true = grind (arith, nat_tests) in
      none-fails (line_checks bids ((link_rows n ++ member_row n 10 at ∷ []) ++ member_row n 15 here ∷ []) (child_row n last)) (
        refl,
        (
          refl,
          (
            rw (named n 24 few (omega arith), named n 19 few (omega arith)) refl,
            (
              rw (named n 24 few (omega arith), named n 19 few (omega arith), quarter-here n 24 few (omega arith), quarter-here n 19 few (omega arith), same-number (n + 1)) refl,
              (
                rw (named n 24 few (omega arith), named n 19 few (omega arith), before) refl,
                (
                  rw (named n 24 few (omega arith), children-before n at here few, no-child n (40 * n + 24) (omega arith)) refl,
                  tt,
                ),
              ),
            ),
          ),
        ),
      )

  link-passes : (n : ℕ) → n < 24 → Passes link_lines link_records (link_grammar bids) n 0
  link-passes n few at = rw (first-passes n at few, second-passes n at (at + 1) few, third-passes n at (at + 1) (at + 1 + 1) few) refl

  -- no quarter has more than forty bids
  abbrev in_quarter : ℕ → ℕ → Bool
  in_quarter q k = quarter_of bids k == q

  forty-at-most : (p : ℕ → Bool) (q s n : ℕ) → s + n ≤ 960
      → (count_by (in_quarter q) (filter p (range_with_len s n)) ≤ 40) × (count_by (in_quarter q) (filter p (range_with_len s n)) ≤ 40 * q - s)
  forty-at-most p q s zero few = (omega arith, omega arith)
  forty-at-most p q s (suc n) few = by (p s) (forty-at-most p q (s + 1) n (omega arith))
    where
      rest : List ℕ
      rest = filter p (range_with_len (s + 1) n)

      more : count_by (in_quarter q) (s ∷ rest) ≡ (if in_quarter q s then 1 else 0) + count_by (in_quarter q) rest
      more = sum_by-cons (λ k. if in_quarter q k then 1 else 0) s rest

      reported : quarter_of bids s ≡ s / 40 + 1
      reported = quarter s (omega arith)

      with-it : (count_by (in_quarter q) rest ≤ 40) × (count_by (in_quarter q) rest ≤ 40 * q - (s + 1))
          → (in_quarter q s ≡ true) × (quarter_of bids s ≡ q) ⊎ (in_quarter q s ≡ false) × (quarter_of bids s ≢ q)
          → (count_by (in_quarter q) (s ∷ rest) ≤ 40) × (count_by (in_quarter q) (s ∷ rest) ≤ 40 * q - s)
      with-it h (inl here) =
          let one = rw here.0 at more in
          let same : s / 40 + 1 ≡ q = sym reported ∙ here.1 in
          (omega (arith, h.1, one, same), omega (arith, h.1, one, same))
      with-it h (inr other) = let none = rw other.0 at more in (omega (arith, h.0, none), omega (arith, h.1, none))

      by : (b : Bool) → (count_by (in_quarter q) rest ≤ 40) × (count_by (in_quarter q) rest ≤ 40 * q - (s + 1))
          → (count_by (in_quarter q) (if b then s ∷ rest else rest) ≤ 40) × (count_by (in_quarter q) (if b then s ∷ rest else rest) ≤ 40 * q - s)
      by true h = with-it h (eqb_tells (quarter_of bids s) q)
      by false h = (h.0, omega (arith, h.1))

  abbrev gated : List ℕ
  gated = filter (is_gated bids (said_by bids (link_rows 24))) (range_with_len 0 960)

  below-most : (q : ℕ) → nat_lt 512 (count_by (in_quarter q) gated) ≡ false
  below-most q = below (count_by (in_quarter q) gated) (forty-at-most (is_gated bids (said_by bids (link_rows 24))) q 0 960 (omega arith)).0
    where
      below : (c : ℕ) → c ≤ 40 → nat_lt 512 c ≡ false
      below c few = grind (arith, nat_tests)

  few-gates : has_too_many bids (gated_bids bids (said_by bids (link_rows 24))) ≡ false
  few-gates = rw count (list_any_none (λ k. nat_lt 512 (count_by (in_quarter (quarter_of bids k)) gated)) gated (λ k d within. below-most (quarter_of bids (get_or gated k d))))

  unfoldable pub the_links : LinkBook
  the_links = link_book bids (link_rows 24)

  pub links-accepted : book_in (link_grammar bids) links_text ≡ Ok the_links
  unfolding the_links
  links-accepted = accepted link_lines link_records (link_grammar bids) 3 24 0 columns-three text-of plain-lines link-passes (rw few-gates refl)
