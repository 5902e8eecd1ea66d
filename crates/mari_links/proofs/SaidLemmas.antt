-- What lines say, with one more line.
use Rattle.std.proofs.Common.{◌≡◌, ◌∙◌, ◌≤◌, length, arith, false, List, [], ◌∷◌, ◌++◌, Option, Some, None, refl, ap}
use Rattle.std.specs.List.{cons_option, filter_map}
use Rattle.std.specs.Option.{option_and_then}
use Rattle.std.proofs.lemmas.List.{append-nil}
use Rattle.std.proofs.lemmas.List.Elements.{filter_map-append}
use Rattle.mari_rows.specs.Books.{first_failing}
use Rattle.mari_rows.specs.declared.rows.Row.{Row}
use Rattle.mari_rows.proofs.BookFacts.{all-passed}
use Rattle.mari_bids.specs.declared.bids.BidBook.{BidBook}
use Rattle.mari_links.specs.Links.{bid_of, child_of, first_of, is_repeated, kind_of, link_of, member_of, place_checks, said_by, second_of, timed_of, Member, Said}
use Rattle.mari_links.specs.declared.lines.LinkKind.{LinkKind}
use Rattle.mari_links.specs.declared.lines.LinkKind.TheVariants.{Group, Child}
use Rattle.mari_links.proofs.EntryLemmas.{with_child, with_member, with_timed}

-- one more item that gives something, or nothing
module _ {X Y : Type 0} (h : X → Option Y) (xs : List X) (x : X) where
  push-some : (y : Y) → h x ≡ Some y → filter_map h (xs ++ x ∷ []) ≡ filter_map h xs ++ y ∷ []
  push-some y is = filter_map-append h xs (x ∷ []) ∙ rw is refl

  push-none : h x ≡ None → filter_map h (xs ++ x ∷ []) ≡ filter_map h xs
  push-none is = filter_map-append h xs (x ∷ []) ∙ rw is (append-nil (filter_map h xs))

module _ (bids : BidBook) (earlier : List Row) (row : Row) where
  members-more : (kind : LinkKind) → kind_of row ≡ Some kind → member_of bids row kind ≡ None → (said_by bids (earlier ++ row ∷ [])).members ≡ (said_by bids earlier).members
  members-more kind is none =
      push-none (λ r. option_and_then (member_of bids r) (kind_of r)) earlier row (ap (option_and_then (member_of bids row)) is ∙ none)

  children-more : (kind : LinkKind) → kind_of row ≡ Some kind → child_of bids row kind ≡ None → (said_by bids (earlier ++ row ∷ [])).children ≡ (said_by bids earlier).children
  children-more kind is none =
      push-none (λ r. option_and_then (child_of bids r) (kind_of r)) earlier row (ap (option_and_then (child_of bids row)) is ∙ none)

  timed-more : (kind : LinkKind) → kind_of row ≡ Some kind → timed_of bids row kind ≡ None → (said_by bids (earlier ++ row ∷ [])).timed ≡ (said_by bids earlier).timed
  timed-more kind is none =
      push-none (λ r. option_and_then (timed_of bids r) (kind_of r)) earlier row (ap (option_and_then (timed_of bids row)) is ∙ none)

  -- a member of a group
  pub said-member : kind_of row ≡ Some Group
      → said_by bids (earlier ++ row ∷ []) ≡ with_member bids (said_by bids earlier) (record { group = first_of row; bid = bid_of bids (second_of row) })
  said-member is =
      let member : Member = record { group = first_of row; bid = bid_of bids (second_of row) } in
      let more = push-some (λ r. option_and_then (member_of bids r) (kind_of r)) earlier row member (ap (option_and_then (member_of bids row)) is) in
      λ i. record { members = more i; children = children-more Group is refl i; timed = timed-more Group is refl i }

  -- a child with its parent
  pub said-child : kind_of row ≡ Some Child → said_by bids (earlier ++ row ∷ []) ≡ with_child bids (said_by bids earlier) (link_of bids row Child)
  said-child is =
      let more = push-some (λ r. option_and_then (child_of bids r) (kind_of r)) earlier row (link_of bids row Child) (ap (option_and_then (child_of bids row)) is) in
      λ i. record { members = members-more Child is refl i; children = more i; timed = timed-more Child is refl i }

  -- a link to an earlier quarter
  pub said-timed : (kind : LinkKind) → kind_of row ≡ Some kind → member_of bids row kind ≡ None → child_of bids row kind ≡ None
      → timed_of bids row kind ≡ Some (link_of bids row kind) → said_by bids (earlier ++ row ∷ []) ≡ with_timed bids (said_by bids earlier) (link_of bids row kind)
  said-timed kind is no_member no_child timed =
      let more = push-some (λ r. option_and_then (timed_of bids r) (kind_of r)) earlier row (link_of bids row kind) (ap (option_and_then (timed_of bids row)) is ∙ timed) in
      λ i. record { members = members-more kind is no_member i; children = children-more kind is no_child i; timed = more i }

-- what is not refused after lines that say this repeats none of them
pub not-repeated : (bids : BidBook) (said : Said) (row : Row) (kind : LinkKind) → kind_of row ≡ Some kind
    → first_failing (place_checks bids said row) ≡ None → is_repeated bids said row kind ≡ false
not-repeated bids said row kind is passes = rw is at ((all-passed (place_checks bids said row) passes).1.1.0)

-- what is given of a list is no longer
length-filter_map : {X Y : Type 0} (h : X → Option Y) (xs : List X) → length (filter_map h xs) ≤ length xs
length-filter_map h [] = omega arith
length-filter_map h (x ∷ xs) = by (h x) (length-filter_map h xs)
  where
    by : (o : Option _) → length (filter_map h xs) ≤ length xs → length (cons_option o (filter_map h xs)) ≤ length (x ∷ xs)
    by None few = omega (arith, few)
    by (Some y) few = omega (arith, few)

-- there are no more members than lines
pub members-few : (bids : BidBook) (rows : List Row) → length (said_by bids rows).members ≤ length rows
members-few bids rows = length-filter_map (λ row. option_and_then (member_of bids row) (kind_of row)) rows
