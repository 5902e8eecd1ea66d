-- The book of links.
use Rattle.std.specs.Prelude.{◌≡◌, ◌≤◌, ◌<◌, ◌+◌, ◌==◌, ℕ, Bool, true, false, List, [], ◌∷◌, ◌++◌, Option, Some, None, not, ◌&&◌, ◌||◌, nat_lt, map, codes, filter, position, is_some, unwrap_or, option_map, slice_get, length, count_by, if◌then◌else◌}
use Rattle.std.specs.List.{All, filter_map, find, list_any, range_with_len}
use Rattle.std.specs.Option.{option_and_then, option_map_or}
use Rattle.std.specs.Str.{bytes_eq}
use Rattle.mari_units.specs.Names.{is_name}
use Rattle.mari_units.specs.declared.limits.TheConstants.{MOST_GATES}
use Rattle.mari_rows.specs.Books.{Checks, Grammar}
use Rattle.mari_rows.specs.Names.{distinct, place_in}
use Rattle.mari_rows.specs.Rows.{field_of}
use Rattle.mari_rows.specs.declared.rows.Row.{Row}
use Rattle.mari_bids.specs.declared.bids.Bid.{Bid}
use Rattle.mari_bids.specs.declared.bids.BidBook.{BidBook}
use Rattle.mari_links.specs.Gates.{has_gate_at}
use Rattle.mari_links.specs.LinkChecks.{link_check_number}
use Rattle.mari_links.specs.declared.lines.Link.{Link}
use Rattle.mari_links.specs.declared.lines.LinkKind.{LinkKind}
use Rattle.mari_links.specs.declared.lines.LinkKind.TheVariants.{Group, Child, Needs, Bars, Technical}
use Rattle.mari_links.specs.declared.links.BidLinks.{BidLinks}
use Rattle.mari_links.specs.declared.links.LinkBook.{LinkBook}
use Rattle.mari_links.specs.declared.links.LinkCheck.TheVariants.{BadField, BadKind, ParentNotEarlier, Repeated, TooManyGates, UnknownBid, WrongQuarter}

-- the words of a kind
unfoldable pub group_word : List ℕ
group_word = codes "group"

unfoldable pub child_word : List ℕ
child_word = codes "child"

unfoldable pub needs_word : List ℕ
needs_word = codes "needs"

unfoldable pub bars_word : List ℕ
bars_word = codes "bars"

unfoldable pub technical_word : List ℕ
technical_word = codes "technical"

-- the kind that a word names
abbrev pub kind_named : List ℕ → Option LinkKind
kind_named word =
    if bytes_eq word group_word then Some Group else
    if bytes_eq word child_word then Some Child else
    if bytes_eq word needs_word then Some Needs else
    if bytes_eq word bars_word then Some Bars else
    if bytes_eq word technical_word then Some Technical else None

-- a line's kind
abbrev pub kind_of : Row → Option LinkKind
kind_of row = kind_named (field_of row 0)

-- a line's first and second field
abbrev pub first_of : Row → List ℕ
first_of row = field_of row 1

abbrev pub second_of : Row → List ℕ
second_of row = field_of row 2

-- the bid of a name, by its place
abbrev pub bid_named : BidBook → List ℕ → Option ℕ
bid_named bids name = position (bytes_eq name) bids.ids

-- the bid of a name that is one
abbrev pub bid_of : BidBook → List ℕ → ℕ
bid_of bids name = unwrap_or (bid_named bids name) 0

-- the quarter and the least quantity of the bid at a place
-- Read as the code reads it, by whether there is such a bid, and not off `bid_numbered`; so is `least_of_bid`.
abbrev pub quarter_of : BidBook → ℕ → ℕ
quarter_of bids bid = option_map_or (λ (bid : Bid). bid.quarter) (slice_get bids.bids bid) 0

abbrev pub least_of_bid : BidBook → ℕ → ℕ
least_of_bid bids bid = option_map_or (λ (bid : Bid). bid.least) (slice_get bids.bids bid) 0

-- whether two kinds are the same
abbrev pub is_same_kind : LinkKind → LinkKind → Bool
is_same_kind Group Group = true
is_same_kind Child Child = true
is_same_kind Needs Needs = true
is_same_kind Bars Bars = true
is_same_kind Technical Technical = true
is_same_kind _ _ = false

-- whether two links say the same
abbrev pub is_same_link : Link → Link → Bool
is_same_link a b = is_same_kind a.kind b.kind && ((a.first == b.first) && (a.second == b.second))

-- a bid that a line puts into a group
pub record Member : Type 0 where
  pub group : List ℕ
  pub bid : ℕ

-- what a line of this kind says: its two bids, or the group and its member
abbrev pub link_of : BidBook → Row → LinkKind → Link
link_of bids row kind = record { kind = kind; first = bid_of bids (first_of row); second = bid_of bids (second_of row) }

abbrev pub member_of : BidBook → Row → LinkKind → Option Member
member_of bids row Group = Some (record { group = first_of row; bid = bid_of bids (second_of row) })
member_of bids row _ = None

abbrev pub child_of : BidBook → Row → LinkKind → Option Link
child_of bids row Child = Some (link_of bids row Child)
child_of bids row _ = None

abbrev pub timed_of : BidBook → Row → LinkKind → Option Link
timed_of bids row Needs = Some (link_of bids row Needs)
timed_of bids row Bars = Some (link_of bids row Bars)
timed_of bids row Technical = Some (link_of bids row Technical)
timed_of bids row _ = None

-- what lines say, each in their order: the members of groups, the children with their parents, and the links to earlier
-- quarters
pub record Said : Type 0 where
  pub members : List Member
  pub children : List Link
  pub timed : List Link

abbrev pub said_by : BidBook → List Row → Said
said_by bids rows = record {
  members = filter_map (λ row. option_and_then (member_of bids row) (kind_of row)) rows;
  children = filter_map (λ row. option_and_then (child_of bids row) (kind_of row)) rows;
  timed = filter_map (λ row. option_and_then (timed_of bids row) (kind_of row)) rows;
}

-- the groups, each once, in order of first appearance
abbrev pub groups_of : List Member → List (List ℕ)
groups_of members = distinct (map (λ (member : Member). member.group) members)

-- the quarter of a group's first member
abbrev pub quarter_of_group : BidBook → List Member → List ℕ → Option ℕ
quarter_of_group bids members group =
    option_map (λ (member : Member). quarter_of bids member.bid) (find (λ (member : Member). bytes_eq group member.group) members)

-- the number of a bid's group
abbrev pub group_of : List Member → ℕ → Option ℕ
group_of members bid =
    option_map (λ (member : Member). place_in (groups_of members) member.group) (find (λ (member : Member). member.bid == bid) members)

-- a bid's parent
abbrev pub parent_of : List Link → ℕ → Option ℕ
parent_of children bid = option_map (λ (link : Link). link.second) (find (λ (link : Link). link.first == bid) children)

-- the bids that a bid names in links of a kind
abbrev pub named_by : LinkKind → List Link → ℕ → List ℕ
named_by kind timed bid = map (λ (link : Link). link.second) (filter (λ (link : Link). is_same_kind link.kind kind && (link.first == bid)) timed)

-- whether a bid has a gate: its least quantity is above 0, or it is in a group, or it is a child or a parent
abbrev pub is_gated : BidBook → Said → ℕ → Bool
is_gated bids said bid =
    nat_lt 0 (least_of_bid bids bid)
    || list_any (λ (member : Member). member.bid == bid) said.members
    || list_any (λ (link : Link). (link.first == bid) || (link.second == bid)) said.children

-- the bids that have a gate, in their order
abbrev pub gated_bids : BidBook → Said → List ℕ
gated_bids bids said = filter (is_gated bids said) (range_with_len 0 (length bids.ids))

-- how many of these bids are of a quarter
abbrev pub count_of : BidBook → List ℕ → ℕ → ℕ
count_of bids gated quarter = count_by (λ bid. quarter_of bids bid == quarter) gated

-- whether a field that should name a bid does not: the second one always, and the first one but of a group
abbrev pub names_no_bid : BidBook → Row → LinkKind → Bool
names_no_bid bids row Group = not (is_some (bid_named bids (second_of row)))
names_no_bid bids row _ = not (is_some (bid_named bids (first_of row)) && is_some (bid_named bids (second_of row)))

-- whether a line's bids are of quarters that cannot be so linked: a group has one quarter, that of its first member,
-- and parent and child have the same; a bid needs, or is barred by, one of one or two quarters before, and technically
-- one of the quarter before
abbrev pub has_wrong_quarter : BidBook → Said → Row → LinkKind → Bool
has_wrong_quarter bids said row Group =
    option_map_or (λ quarter. not (quarter == quarter_of bids (bid_of bids (second_of row)))) (quarter_of_group bids said.members (first_of row)) false
has_wrong_quarter bids said row Child =
    not (quarter_of bids (bid_of bids (first_of row)) == quarter_of bids (bid_of bids (second_of row)))
has_wrong_quarter bids said row Technical =
    not (quarter_of bids (bid_of bids (first_of row)) == quarter_of bids (bid_of bids (second_of row)) + 1)
has_wrong_quarter bids said row _ =
    not ((quarter_of bids (bid_of bids (first_of row)) == quarter_of bids (bid_of bids (second_of row)) + 1)
    || (quarter_of bids (bid_of bids (first_of row)) == quarter_of bids (bid_of bids (second_of row)) + 2))

-- whether the parent does not stand before its child in the book of bids
abbrev pub has_later_parent : BidBook → Row → LinkKind → Bool
has_later_parent bids row Child = not (nat_lt (bid_of bids (second_of row)) (bid_of bids (first_of row)))
has_later_parent bids row _ = false

-- whether an earlier line puts the bid into a group, or gives the child a parent, or is equal
abbrev pub is_repeated : BidBook → Said → Row → LinkKind → Bool
is_repeated bids said row Group = list_any (λ (member : Member). member.bid == bid_of bids (second_of row)) said.members
is_repeated bids said row Child = list_any (λ (link : Link). link.first == bid_of bids (first_of row)) said.children
is_repeated bids said row kind = list_any (is_same_link (link_of bids row kind)) said.timed

-- whether this is so of a line's kind
abbrev pub of_kind : (LinkKind → Bool) → Row → Bool
of_kind test row = option_map_or test (kind_of row) false

-- a line is refused for a kind that isn't one, for a group whose name isn't a name, and for a name of no bid
abbrev pub name_checks : BidBook → Row → Checks
name_checks bids row =
    (not (is_some (kind_of row)), link_check_number BadKind)
    ∷ (of_kind (is_same_kind Group) row && not (is_name (first_of row)), link_check_number BadField)
    ∷ (of_kind (names_no_bid bids row) row, link_check_number UnknownBid)
    ∷ []

-- and, after lines that say this, for a wrong quarter, for a parent that does not stand before its child, and for what
-- an earlier line says
abbrev pub place_checks : BidBook → Said → Row → Checks
place_checks bids said row =
    (of_kind (has_wrong_quarter bids said row) row, link_check_number WrongQuarter)
    ∷ (of_kind (has_later_parent bids row) row, link_check_number ParentNotEarlier)
    ∷ (of_kind (is_repeated bids said row) row, link_check_number Repeated)
    ∷ []

-- in this order
abbrev pub line_checks : BidBook → List Row → Row → Checks
line_checks bids earlier row = name_checks bids row ++ place_checks bids (said_by bids earlier) row

-- whether one of these bids is of a quarter that has more than `MOST_GATES` of them
abbrev pub has_too_many : BidBook → List ℕ → Bool
has_too_many bids gated = list_any (λ bid. nat_lt MOST_GATES (count_of bids gated (quarter_of bids bid))) gated

-- a file is refused where some quarter has more than `MOST_GATES` bids with a gate
abbrev pub link_file_checks : BidBook → List Row → Checks
link_file_checks bids rows = (has_too_many bids (gated_bids bids (said_by bids rows)), link_check_number TooManyGates) ∷ []

-- what is said of a bid
abbrev pub links_of : BidBook → Said → ℕ → BidLinks
links_of bids said bid = record {
  gated = is_gated bids said bid;
  group = group_of said.members bid;
  parent = parent_of said.children bid;
  needs = named_by Needs said.timed bid;
  bars = named_by Bars said.timed bid;
  technical = named_by Technical said.timed bid;
}

-- what is said of each bid
abbrev pub entries_of : BidBook → Said → List BidLinks
entries_of bids said = map (links_of bids said) (range_with_len 0 (length bids.ids))

-- each bid's links
abbrev pub link_book : BidBook → List Row → LinkBook
link_book bids rows = record { links = entries_of bids (said_by bids rows) }

-- the columns of the file
unfoldable pub link_columns : List ℕ
link_columns = codes "kind,first,second"

-- what makes a page a book of links between these bids
abbrev pub link_grammar : BidBook → Grammar LinkBook
link_grammar bids = record { columns = link_columns; line_checks = line_checks bids; file_checks = link_file_checks bids; book = link_book bids }

-- whether the bid at a place has a gate
abbrev pub has_gate : LinkBook → ℕ → Bool
has_gate book bid = has_gate_at book.links bid

-- the places of the bids that have a gate
abbrev pub gated_in : LinkBook → List ℕ
gated_in book = filter (has_gate book) (range_with_len 0 (length book.links))

-- a parent stands before its child, in the same quarter, and has a gate
pub record IsParent (bids : BidBook) (book : LinkBook) (child parent : ℕ) : Type 0 where
  pub before : parent < child
  pub same_quarter : quarter_of bids parent ≡ quarter_of bids child
  pub gated : has_gate book parent ≡ true

-- the links of a bid: what is in a group or has a parent has a gate, what has none is stated with least quantity 0, and
-- the bids that it names are there
pub record AreLinks (bids : BidBook) (book : LinkBook) (bid : ℕ) (links : BidLinks) : Type 0 where
  pub in_group : (group : ℕ) → links.group ≡ Some group → links.gated ≡ true
  pub is_child : (parent : ℕ) → links.parent ≡ Some parent → links.gated ≡ true
  pub parent : (parent : ℕ) → links.parent ≡ Some parent → IsParent bids book bid parent
  pub plain : links.gated ≡ false → least_of_bid bids bid ≡ 0
  pub needs : All (λ other. other < length bids.ids) links.needs
  pub bars : All (λ other. other < length bids.ids) links.bars
  pub technical : All (λ other. other < length bids.ids) links.technical

-- what holds of every book of links that is read: one entry per bid, and no quarter has more than `MOST_GATES` bids
-- with a gate
pub record IsLinkBook (bids : BidBook) (book : LinkBook) : Type 0 where
  pub one_each : length book.links ≡ length bids.ids
  pub links : (bid : ℕ) (links : BidLinks) → slice_get book.links bid ≡ Some links → AreLinks bids book bid links
  pub of_quarter : (quarter : ℕ) → count_of bids (gated_in book) quarter ≤ MOST_GATES
