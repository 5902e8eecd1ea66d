-- What holds of every book of links that is read.
use Rattle.std.proofs.Common.{◌≡◌, ◌∙◌, ◌≤◌, ◌<◌, ◌==◌, ◌≢◌, ◌⊎◌, ℕ, Bool, true, false, List, [], ◌∷◌, ◌++◌, Option, Some, None, Ok, Err, Result, IfOk, filter, length, refl, subst, sym, ap, arith, inl, inr, if◌then◌else◌}
use Rattle.std.specs.Prelude.{◌&&◌, ◌||◌, nat_lt, not, is_some, option_map}
use Rattle.std.specs.List.{All, find, list_any}
use Rattle.std.specs.Str.{bytes_eq}
use Rattle.std.proofs.lemmas.Bool.{eqb-true, ltb-true, and_parts, or_parts, not-false}
use Rattle.std.proofs.lemmas.Bool.Decides.{eqb_tells, nat_tests}
use Rattle.std.proofs.lemmas.List.Elements.{All-filter, All-map, All-nil, All-push}
use Rattle.std.proofs.lemmas.List.FromFn.{length-map-range_with_len}
use Rattle.std.proofs.lemmas.Option.{same_Some, slice_get_within}
use Rattle.mari_rows.specs.Books.{GivesBook, book_in, first_failing}
use Rattle.mari_rows.specs.Names.{place_in}
use Rattle.mari_rows.specs.declared.faults.BookFault.{BookFault}
use Rattle.mari_rows.specs.declared.rows.Row.{Row}
use Rattle.mari_rows.proofs.BookLemmas.{book-page}
use Rattle.mari_rows.proofs.BookFacts.{all-passed, along-lines, found-below}
use Rattle.mari_bids.specs.declared.bids.BidBook.{BidBook}
use Rattle.mari_links.specs.Links.{has_later_parent, has_wrong_quarter, link_file_checks, names_no_bid, AreLinks, IsLinkBook, IsParent, bid_named, bid_of, count_of, entries_of, first_of, gated_bids, group_of, groups_of, has_too_many, is_gated, is_same_kind, kind_of, least_of_bid, line_checks, link_book, link_grammar, link_of, links_of, named_by, parent_of, quarter_of, said_by, second_of, Member, Said}
use Rattle.mari_links.specs.declared.links.LinkBook.{LinkBook}
use Rattle.mari_links.specs.declared.lines.Link.{Link}
use Rattle.mari_links.specs.declared.lines.LinkKind.{LinkKind}
use Rattle.mari_links.specs.declared.lines.LinkKind.TheVariants.{Group, Child, Needs, Bars, Technical}
use Rattle.mari_links.proofs.EntryLemmas.{itself, or-yes, with_child, with_member, with_timed}
use Rattle.mari_links.proofs.GateLemmas.{count-append, entry-there, gate-there, gated-alike}
use Rattle.mari_rows.proofs.FindLemmas.{find-some, found-has}
use Rattle.mari_links.proofs.SaidLemmas.{said-child, said-member, said-timed}

-- and some item passes what it passes
found-any : {X : Type 0} (test other : X → Bool) (xs : List X) (x : X) → find test xs ≡ Some x → other x ≡ true → list_any other xs ≡ true
found-any test other [] x found passes = cc found
found-any test other (y ∷ ys) x found passes = by (test y) found (found-any test other ys x)
  where
    by : (b : Bool) → (if b then Some y else find test ys) ≡ Some x → (find test ys ≡ Some x → other x ≡ true → list_any other ys ≡ true) → (other y || list_any other ys) ≡ true
    by true f more = let same : y ≡ x = cc f in rw (same, passes) refl
    by false f more = rw (more f passes) (or-yes (other y))

-- one of three tests holds
second-yes : (a b c : Bool) → b ≡ true → ((a || b) || c) ≡ true
second-yes true b c holds = refl
second-yes false b c holds = rw holds refl

third-yes : (a b c : Bool) → c ≡ true → ((a || b) || c) ≡ true
third-yes a b c holds = rw holds (or-yes (a || b))

-- a value that is made is made of a value
made-some : {X Y : Type 0} (f : X → Y) (o : Option X) (y : Y) → option_map f o ≡ Some y → (x : X) × (o ≡ Some x) × (f x ≡ y)
made-some f None y made = cc made
made-some f (Some x) y made = (x, refl, cc made)

module _ (bids : BidBook) where
  -- a child and its parent
  record IsChild (link : Link) : Type 0 where
    before : link.second < link.first
    same_quarter : quarter_of bids link.second ≡ quarter_of bids link.first
    there : link.first < length bids.ids

  -- what holds of what lines say
  record AreSaid (rows : List Row) : Type 0 where
    children : All IsChild (said_by bids rows).children
    timed : All (λ (link : Link). link.second < length bids.ids) (said_by bids rows).timed

  none-said : AreSaid []
  none-said = record { children = All-nil IsChild; timed = All-nil (λ (link : Link). link.second < length bids.ids) }

  module _ (before : List Row) (line : Row) (none : first_failing (line_checks bids before line) ≡ None) where
    -- what the checks of a line of a kind say
    named : (kind : LinkKind) → kind_of line ≡ Some kind → names_no_bid bids line kind ≡ false
    named kind is = rw is at ((all-passed (line_checks bids before line) none).1.1.0)

    right-quarter : (kind : LinkKind) → kind_of line ≡ Some kind → has_wrong_quarter bids (said_by bids before) line kind ≡ false
    right-quarter kind is = rw is at ((all-passed (line_checks bids before line) none).1.1.1.0)

    earlier-parent : (kind : LinkKind) → kind_of line ≡ Some kind → has_later_parent bids line kind ≡ false
    earlier-parent kind is = rw is at ((all-passed (line_checks bids before line) none).1.1.1.1.0)

    both-named : (kind : LinkKind) → kind_of line ≡ Some kind
        → names_no_bid bids line kind ≡ not (is_some (bid_named bids (first_of line)) && is_some (bid_named bids (second_of line)))
        → (bid_of bids (first_of line) < length bids.ids) × (bid_of bids (second_of line) < length bids.ids)
    both-named kind is same =
        let parts = and_parts (is_some (bid_named bids (first_of line))) (is_some (bid_named bids (second_of line))) (not-false _ (sym same ∙ named kind is)) in
        (found-below (bytes_eq (first_of line)) bids.ids parts.0, found-below (bytes_eq (second_of line)) bids.ids parts.1)

    said-more : (said : Said) → said_by bids (before ++ line ∷ []) ≡ said → All IsChild said.children → All (λ (link : Link). link.second < length bids.ids) said.timed
        → AreSaid (before ++ line ∷ [])
    said-more said is children timed = record {
      children = subst (λ (s : Said). All IsChild s.children) (sym is) children;
      timed = subst (λ (s : Said). All (λ (link : Link). link.second < length bids.ids) s.timed) (sym is) timed;
    }

    timed-more : (kind : LinkKind) → kind_of line ≡ Some kind → AreSaid before
        → names_no_bid bids line kind ≡ not (is_some (bid_named bids (first_of line)) && is_some (bid_named bids (second_of line)))
        → said_by bids (before ++ line ∷ []) ≡ with_timed bids (said_by bids before) (link_of bids line kind) → AreSaid (before ++ line ∷ [])
    timed-more kind is so_far same more =
        said-more (with_timed bids (said_by bids before) (link_of bids line kind)) more so_far.children
        (All-push (λ (link : Link). link.second < length bids.ids) (said_by bids before).timed (link_of bids line kind) so_far.timed (both-named kind is same).1)

    child-more : kind_of line ≡ Some Child → AreSaid before → AreSaid (before ++ line ∷ [])
    child-more is so_far =
        let first = bid_of bids (first_of line) in
        let second = bid_of bids (second_of line) in
        let same = eqb-true (quarter_of bids first) (quarter_of bids second) (not-false _ (right-quarter Child is)) in
        let child : IsChild (link_of bids line Child) = record {
          before = ltb-true second first (not-false _ (earlier-parent Child is));
          same_quarter = sym same;
          there = (both-named Child is refl).0;
        } in
        said-more (with_child bids (said_by bids before) (link_of bids line Child)) (said-child bids before line is)
        (All-push IsChild (said_by bids before).children (link_of bids line Child) so_far.children child) so_far.timed

    one-more : AreSaid before → AreSaid (before ++ line ∷ [])
    one-more so_far = by (kind_of line) refl
      where
        by : (o : Option LinkKind) → kind_of line ≡ o → AreSaid (before ++ line ∷ [])
        by None is = let failed = not-false _ ((all-passed (line_checks bids before line) none).0) in cc (rw is at failed)
        by (Some Group) is =
            said-more (with_member bids (said_by bids before) (record { group = first_of line; bid = bid_of bids (second_of line) })) (said-member bids before line is) so_far.children so_far.timed
        by (Some Child) is = child-more is so_far
        by (Some Needs) is = timed-more Needs is so_far refl (said-timed bids before line Needs is refl refl refl)
        by (Some Bars) is = timed-more Bars is so_far refl (said-timed bids before line Bars is refl refl refl)
        by (Some Technical) is = timed-more Technical is so_far refl (said-timed bids before line Technical is refl refl refl)

  -- where no gated bid's quarter has too many of them, no quarter has
  module _ (gated : List ℕ) (few : has_too_many bids gated ≡ false) (quarter : ℕ) where
    none-or-few : (bs : List ℕ) → list_any (λ bid. nat_lt 512 (count_of bids gated (quarter_of bids bid))) bs ≡ false
        → (count_of bids bs quarter ≡ 0) ⊎ (count_of bids gated quarter ≤ 512)
    none-or-few [] none = inl refl
    none-or-few (b ∷ bs) none =
        let parts = or_parts (nat_lt 512 (count_of bids gated (quarter_of bids b))) (list_any (λ bid. nat_lt 512 (count_of bids gated (quarter_of bids bid))) bs) none in
        by parts.0 (none-or-few bs parts.1) (eqb_tells (quarter_of bids b) quarter)
      where
        by : nat_lt 512 (count_of bids gated (quarter_of bids b)) ≡ false → (count_of bids bs quarter ≡ 0) ⊎ (count_of bids gated quarter ≤ 512)
            → ((quarter_of bids b == quarter) ≡ true) × (quarter_of bids b ≡ quarter) ⊎ ((quarter_of bids b == quarter) ≡ false) × (quarter_of bids b ≢ quarter)
            → (count_of bids (b ∷ bs) quarter ≡ 0) ⊎ (count_of bids gated quarter ≤ 512)
        by below more (inl same) = inr (grind (arith, nat_tests, rw same.1 at below))
        by below (inl zero) (inr other) = inl (count-append bids (b ∷ []) bs quarter ∙ rw (other.0, zero) refl)
        by below (inr most) (inr other) = inr most

    few-gated : count_of bids gated quarter ≤ 512
    few-gated = by (none-or-few gated few)
      where
        by : (count_of bids gated quarter ≡ 0) ⊎ (count_of bids gated quarter ≤ 512) → count_of bids gated quarter ≤ 512
        by (inl zero) = omega (arith, zero)
        by (inr most) = most

  module _ (rows : List Row) (are : AreSaid rows) where
    abbrev above-none : ℕ → Bool
    above-none bid = nat_lt 0 (least_of_bid bids bid)

    abbrev is-member : ℕ → Bool
    is-member bid = list_any (λ (member : Member). member.bid == bid) (said_by bids rows).members

    abbrev is-linked : ℕ → Bool
    is-linked bid = list_any (λ (link : Link). (link.first == bid) || (link.second == bid)) (said_by bids rows).children

    -- what is in a group, and what is a child, has a gate
    gated-member : (bid group : ℕ) → group_of (said_by bids rows).members bid ≡ Some group → is_gated bids (said_by bids rows) bid ≡ true
    gated-member bid group is =
        let said = said_by bids rows in
        let found = made-some (λ (member : Member). place_in (groups_of said.members) member.group) (find (λ (member : Member). member.bid == bid) said.members) group is in
        second-yes (above-none bid) (is-member bid) (is-linked bid) (sym (find-some (λ (member : Member). member.bid == bid) said.members) ∙ ap is_some found.1)

    gated-child : (bid parent : ℕ) → parent_of (said_by bids rows).children bid ≡ Some parent → is_gated bids (said_by bids rows) bid ≡ true
    gated-child bid parent is =
        let children = (said_by bids rows).children in
        let found = made-some (λ (link : Link). link.second) (find (λ (link : Link). link.first == bid) children) parent is in
        let itself = found-has (λ (link : Link). link.first == bid) IsChild children found.0 found.1 are.children in
        third-yes (above-none bid) (is-member bid) (is-linked bid)
        (found-any (λ (link : Link). link.first == bid) (λ (link : Link). (link.first == bid) || (link.second == bid)) children found.0 found.1 (rw itself.0 refl))

    parent-there : (bid parent : ℕ) → parent_of (said_by bids rows).children bid ≡ Some parent → IsParent bids (link_book bids rows) bid parent
    parent-there bid parent is =
        let children = (said_by bids rows).children in
        let found = made-some (λ (link : Link). link.second) (find (λ (link : Link). link.first == bid) children) parent is in
        let child = found-has (λ (link : Link). link.first == bid) IsChild children found.0 found.1 are.children in
        let first = eqb-true found.0.first bid child.0 in
        let before : parent < bid = omega (arith, first, found.2, child.1.before) in
        let there : parent < length bids.ids = omega (arith, first, before, child.1.there) in
        record {
          before = before;
          same_quarter = ap (quarter_of bids) (sym found.2) ∙ child.1.same_quarter ∙ ap (quarter_of bids) first;
          gated = gate-there bids (said_by bids rows) parent there
              ∙ third-yes (above-none parent) (is-member parent) (is-linked parent)
              (found-any (λ (link : Link). link.first == bid) (λ (link : Link). (link.first == parent) || (link.second == parent)) children found.0 found.1
              (rw (found.2, itself parent) (or-yes (found.0.first == parent))));
        }

    named-there : (kind : LinkKind) (bid : ℕ) → All (λ other. other < length bids.ids) (named_by kind (said_by bids rows).timed bid)
    named-there kind bid =
        let test : Link → Bool = λ link. is_same_kind link.kind kind && (link.first == bid) in
        All-map (λ other. other < length bids.ids) (λ (link : Link). link.second) (filter test (said_by bids rows).timed)
        (All-filter test (λ (link : Link). link.second < length bids.ids) (said_by bids rows).timed are.timed)

    plain-least : (bid : ℕ) → is_gated bids (said_by bids rows) bid ≡ false → least_of_bid bids bid ≡ 0
    plain-least bid plain =
        let parts = or_parts (above-none bid) (is-member bid) (or_parts (above-none bid || is-member bid) (is-linked bid) plain).0 in
        let none : least_of_bid bids bid ≤ 0 = grind (arith, nat_tests, parts.0) in
        omega (arith, none)

    are-links : (bid : ℕ) → AreLinks bids (link_book bids rows) bid (links_of bids (said_by bids rows) bid)
    are-links bid = record {
      in_group = gated-member bid;
      is_child = gated-child bid;
      parent = parent-there bid;
      plain = plain-least bid;
      needs = named-there Needs bid;
      bars = named-there Bars bid;
      technical = named-there Technical bid;
    }

    is-link-book : has_too_many bids (gated_bids bids (said_by bids rows)) ≡ false → IsLinkBook bids (link_book bids rows)
    is-link-book few =
        let said = said_by bids rows in
        let count = length-map-range_with_len (links_of bids said) 0 (length bids.ids) in
        record {
          one_each = count;
          links = λ bid links there.
              let below = rw count at (slice_get_within (entries_of bids said) bid links there) in
              let same = same_Some links (links_of bids said bid) (sym there ∙ entry-there bids said bid below) in
              subst (λ l. AreLinks bids (link_book bids rows) bid l) (sym same) (are-links bid);
          of_quarter = λ quarter. rw (count, gated-alike bids said) (few-gated (gated_bids bids said) few quarter);
        }

  pub link-facts : (page : List ℕ) (result : Result LinkBook BookFault) → GivesBook result (book_in (link_grammar bids) page) → IfOk result (IsLinkBook bids)
  link-facts page (Err fault) gives = tt
  link-facts page (Ok book) gives =
      let read = book-page (link_grammar bids) page book gives in
      let rows : List Row = read.0 in
      let is = read.2 in
      let are = along-lines (link_grammar bids) AreSaid one-more rows book is none-said in
      rw is.says (is-link-book rows are (all-passed (link_file_checks bids rows) is.file).0)
