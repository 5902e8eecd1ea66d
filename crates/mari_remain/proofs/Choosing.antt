-- What the choice of a run's bids reads off what is kept is what its definition says.
use Rattle.std.proofs.Common.{◌≡◌, ◌∙◌, ℕ, zero, suc, ◌+◌, ◌<◌, ◌≤◌, ◌==◌, Bool, true, false, cond, if◌then◌else◌, List, [], ◌∷◌, ◌++◌, Option, Some, None, refl, ap, sym, arith, length, get_or, filter, take, drop, length-append, zero-add, add-one, map, inl, inr}
use Rattle.std.specs.Prelude.{not, ◌&&◌, ◌||◌, nat_lt, is_some, slice_get}
use Rattle.std.specs.List.{All, AllPairs, list_any, range_with_len}
use Rattle.std.specs.Option.{option_and_then, option_map_or}
use Rattle.std.proofs.lemmas.Bool.{eqb-true, eq-eqb}
use Rattle.std.proofs.lemmas.Bool.{cases_lt}
use Rattle.std.proofs.lemmas.Bool.Decides.{nat_tests}
use Rattle.std.proofs.lemmas.List.{append-nil, map-append, get_or_default, get_or-drop, length-drop, take-append-drop}
use Rattle.std.proofs.lemmas.List.Kept.{AllPairs-filter}
use Rattle.std.proofs.lemmas.List.Folds.{list_any-append, list_any_none}
use Rattle.std.proofs.lemmas.List.Elements.{All-filter, All-weaker, filter-append, filter_passes}
use Rattle.std.proofs.lemmas.List.FromFn.{get_or-map-range_with_len, length-map-range_with_len}
use Rattle.std.proofs.Math.Seq.{drop-cons, get_or-append_seam, take-suc}
use Rattle.std.proofs.lemmas.Option.{slice_get-get_or, slice_get_past}
use Rattle.std.proofs.Math.ListN.{get_or-eq_default}
use Rattle.std.proofs.lemmas.Map.Views.{any-filter_same}
use Rattle.mari_bids.specs.Bids.{bid_numbered, no_bid}
use Rattle.mari_bids.specs.declared.bids.Bid.{Bid}
use Rattle.mari_bids.specs.declared.bids.BidBook.{BidBook}
use Rattle.mari_links.specs.Links.{has_gate, quarter_of}
use Rattle.mari_links.specs.declared.links.BidLinks.{BidLinks}
use Rattle.mari_links.proofs.LinkEq.{list_any-alike}
use Rattle.mari_demands.specs.declared.demands.Demand.{Demand}
use Rattle.mari_demands.specs.declared.runs.Run.{Run}
use Rattle.mari_market.specs.declared.market.Order.{Order}
use Rattle.mari_remain.specs.declared.books.Books.{Books}
use Rattle.mari_remain.specs.Accepted.{IsAccepted}
use Rattle.mari_remain.specs.Available.{Taken, has_free_group, is_available, is_available_up, is_used, may_run, parent_allows, share_group}
use Rattle.mari_remain.specs.Choice.{is_alone, keeps_links_in, rivals_in}
use Rattle.mari_remain.specs.FirstBlocks.{Tally, taken_in}
use Rattle.mari_remain.specs.Lists.{bids_of_quarter, demand_at, group_at, numbers_of_run, parent_at}
use Rattle.mari_remain.specs.RunMarket.{bid_order, demands_of_run, gate_of}
use Rattle.mari_remain.proofs.Gates.{gate-at, gate-is}
use Rattle.mari_remain.proofs.Places.{places-filter, places-items, places-rise, places-within}
use Rattle.mari_remain.proofs.Validity.{few_of_quarter, parents}

-- a test on what passes another
any-filter : {X : Type 0} (f g : X → Bool) (xs : List X) → list_any f (filter g xs) ≡ list_any (λ x. g x && f x) xs
any-filter f g [] = refl
any-filter f g (x ∷ xs) = by (g x) refl (any-filter f g xs)
  where
    by : (b : Bool) → g x ≡ b → list_any f (filter g xs) ≡ list_any (λ y. g y && f y) xs → list_any f (cond b (x ∷ filter g xs) (filter g xs)) ≡ ((b && f x) || list_any (λ y. g y && f y) xs)
    by true e more = ap (λ b. f x || b) more
    by false e more = more

-- the bids of a quarter are the numbers whose bid is of it
pub of_the_quarter : (bids : List Bid) (quarter : ℕ) → bids_of_quarter bids quarter ≡ filter (λ i. (bid_numbered bids i).quarter == quarter) (range_with_len 0 (length bids))
of_the_quarter bids quarter = places-filter (λ (b : Bid). b.quarter == quarter) (λ i. (bid_numbered bids i).quarter == quarter) 0 bids
    (λ i d l. rw (zero-add i) (ap (λ (b : Bid). b.quarter == quarter) (get_or_default bids i _ d l)))

-- one bid and its rival
rival : (q a : Bool) (mw : ℕ) (gi gj : Option ℕ)
    → (q && ((nat_lt 0 mw && is_some gj) && (a && option_map_or (λ g. option_map_or (λ h. h == g) gj false) gi false)))
    ≡ (a && (option_map_or (λ g. option_map_or (λ h. h == g) gj false) gi false && nat_lt 0 (if q then mw else 0)))
rival q a mw gi None = none q a gi (nat_lt 0 mw)
  where
    none : (q a : Bool) (gi : Option ℕ) (b : Bool)
        → (q && ((b && false) && (a && option_map_or (λ g. false) gi false))) ≡ (a && (option_map_or (λ g. false) gi false && nat_lt 0 (if q then mw else 0)))
    none q a gi b = grind (arith)
rival true a mw None (Some h) = grind arith
rival false a mw None (Some h) = grind arith
rival true a mw (Some g) (Some h) = grind arith
rival false a mw (Some g) (Some h) = grind arith

-- no rival among the activated bids of the quarter that are in a group is no rival at all
pub free : (books : Books) (kept : Tally) (quarter i : ℕ) → IsAccepted books
    → list_any (λ j. not (j == i) && share_group books.links.links i j) (filter (rivals_in books kept) (bids_of_quarter books.bids.bids quarter))
    ≡ list_any (λ j. not (j == i) && (share_group books.links.links i j && is_used (taken_in books kept quarter) j)) (range_with_len 0 (length books.links.links))
free books kept quarter i ok =
    let f : ℕ → Bool = λ j. not (j == i) && share_group books.links.links i j in
    let own : ℕ → Bool = λ j. (bid_numbered books.bids.bids j).quarter == quarter in
    let all : length books.links.links ≡ length books.bids.bids = ok.links.one_each ∙ ok.bids.named in
    any-filter f (rivals_in books kept) (bids_of_quarter books.bids.bids quarter)
    ∙ ap (list_any (λ j. rivals_in books kept j && f j)) (of_the_quarter books.bids.bids quarter)
    ∙ any-filter (λ j. rivals_in books kept j && f j) own (range_with_len 0 (length books.bids.bids))
    ∙ list_any-alike (λ j. own j && (rivals_in books kept j && f j))
    (λ j. not (j == i) && (share_group books.links.links i j && is_used (taken_in books kept quarter) j)) (range_with_len 0 (length books.bids.bids))
    (λ j. rival (own j) (not (j == i)) (get_or kept.mw j 0) (group_at books.links.links i) (group_at books.links.links j))
    ∙ ap (λ n. list_any (λ j. not (j == i) && (share_group books.links.links i j && is_used (taken_in books kept quarter) j)) (range_with_len 0 n)) (sym all)

and-false : (b : Bool) → (b && false) ≡ false
and-false true = refl
and-false false = refl

-- a bid in no group has no rival
pub no-rival : (links : List BidLinks) (i : ℕ) (numbers : List ℕ) → is_some (group_at links i) ≡ false → list_any (λ j. not (j == i) && share_group links i j) numbers ≡ false
no-rival links i numbers e = by (group_at links i) e
  where
    by : (group : Option ℕ) → is_some group ≡ false
        → list_any (λ j. not (j == i) && option_map_or (λ g. option_map_or (λ h. h == g) (group_at links j) false) group false) numbers ≡ false
    by None e = list_any_none _ numbers (λ k d l. and-false _)
    by (Some g) e = absurd (cc e)

-- what the test of a bid that is alone says of its links
no-number : (number : Option ℕ) (rest : Bool) → (not (is_some number) && rest) ≡ true → number ≡ None
no-number None rest e = refl
no-number (Some n) rest e = absurd (cc e)

no-items : (xs : List ℕ) → (length xs == 0) ≡ true → xs ≡ []
no-items [] e = refl
no-items (x ∷ xs) e = let none : suc (length xs) ≡ 0 = eqb-true (suc (length xs)) 0 e in absurd (omega (arith, none))

and-first : (a b : Bool) → (a && b) ≡ true → a ≡ true
and-first true b e = refl
and-first false b e = absurd (cc e)

and-rest : (a b : Bool) → (a && b) ≡ true → b ≡ true
and-rest true b e = e
and-rest false b e = absurd (cc e)

-- no other bid keeps a bid that is alone from a run
module _ (links : List BidLinks) (i : ℕ) (own : BidLinks) (at : slice_get links i ≡ Some own) (alone : is_alone own ≡ true) where
  after_group : (not (is_some own.parent) && (length own.needs == 0 && (length own.bars == 0 && length own.technical == 0))) ≡ true
  after_group = and-rest _ _ alone

  after_parent : (length own.needs == 0 && (length own.bars == 0 && length own.technical == 0)) ≡ true
  after_parent = and-rest _ _ after_group

  after_needs : (length own.bars == 0 && length own.technical == 0) ≡ true
  after_needs = and-rest _ _ after_parent

  pub alone-free : (taken : Taken) → has_free_group links taken i ≡ true
  alone-free taken = by (group_at links i) (ap (option_and_then (λ (l : BidLinks). l.group)) at ∙ no-number own.group _ alone)
    where
      by : (group : Option ℕ) → group ≡ None
          → not (list_any (λ j. not (j == i) && (option_map_or (λ g. option_map_or (λ h. h == g) (group_at links j) false) group false && is_used taken j)) (range_with_len 0 (length links))) ≡ true
      by None e = ap not (list_any_none _ (range_with_len 0 (length links)) (λ k d l. and-false _))
      by (Some g) e = absurd (cc e)

  pub alone-keeps : (kept : Tally) → option_map_or (keeps_links_in kept) (slice_get links i) true ≡ true
  alone-keeps kept =
      let needs : own.needs ≡ [] = no-items own.needs (and-first _ _ after_parent) in
      let bars : own.bars ≡ [] = no-items own.bars (and-first _ _ after_needs) in
      let technical : own.technical ≡ [] = no-items own.technical (and-rest _ _ after_needs) in
      rw at (rw (needs, bars, technical) refl)

  pub alone-parent : (allows : ℕ → Bool) → option_map_or allows (parent_at links i) true ≡ true
  alone-parent allows = ap (λ (parent : Option ℕ). option_map_or allows parent true) (ap (option_and_then (λ (l : BidLinks). l.parent)) at ∙ no-number own.parent _ after_group)

-- the MW that is kept of a bid of the quarter is what was taken of it in the quarter
pub own-mw : (books : Books) (kept : Tally) (quarter i : ℕ) → (bid_numbered books.bids.bids i).quarter ≡ quarter → (taken_in books kept quarter).mw i ≡ get_or kept.mw i 0
own-mw books kept quarter i e = rw (eq-eqb (bid_numbered books.bids.bids i).quarter quarter e) refl

-- the quarter of a number, in either word
pub quarter-at : (bids : BidBook) (i : ℕ) → quarter_of bids i ≡ (bid_numbered bids.bids i).quarter
quarter-at bids i = elim (cases_lt i (length bids.bids)) [
  | inl l ↦ rw (slice_get-get_or bids.bids i no_bid l) refl
  | inr past ↦ rw (slice_get_past bids.bids i past) (ap (λ (b : Bid). b.quarter) (sym (get_or-eq_default bids.bids no_bid past)))
]

-- a number of a range is found in it
range-any : (a n p : ℕ) → a ≤ p → p < a + n → list_any (λ j. j == p) (range_with_len a n) ≡ true
range-any a zero p low high = absurd (omega (arith, low, high))
range-any a (suc n) p low high = by (a == p) refl (λ more. range-any (a + 1) n p more (omega (arith, high)))
  where
    by : (b : Bool) → (a == p) ≡ b → (a + 1 ≤ p → list_any (λ j. j == p) (range_with_len (a + 1) n) ≡ true) → (b || list_any (λ j. j == p) (range_with_len (a + 1) n)) ≡ true
    by true e more = refl
    by false e more = more (grind (arith, nat_tests, e, low))

module _ (books : Books) (taken : Taken) (run : Run) (ok : IsAccepted books) where
  -- how many parents up makes no difference after the bid's own number
  up-same : (n m i : ℕ) → i < n → i < m → is_available_up books taken run n i ≡ is_available_up books taken run m i
  up-same zero m i l k = absurd (omega (arith, l))
  up-same (suc n) zero i l k = absurd (omega (arith, k))
  up-same (suc n) (suc m) i l k = ap (λ b. may_run books taken run i && b) (by (parent_at books.links.links i) refl (λ p before. up-same n m p (omega (arith, before, l)) (omega (arith, before, k))))
    where
      by : (parent : Option ℕ) → parent_at books.links.links i ≡ parent → ((p : ℕ) → p < i → is_available_up books taken run n p ≡ is_available_up books taken run m p)
          → parent_allows (is_available_up books taken run n) taken parent ≡ parent_allows (is_available_up books taken run m) taken parent
      by None e same = refl
      by (Some p) e same = ap (λ b. is_used taken p || b) (same p (parents books ok i p e).before)

  -- a bid is available exactly where it may run and its parent, if it has one, was activated or is available
  pub available : (i : ℕ) → is_available books taken run i ≡ (may_run books taken run i && parent_allows (is_available books taken run) taken (parent_at books.links.links i))
  available i = ap (λ b. may_run books taken run i && b) (by (parent_at books.links.links i) refl)
    where
      by : (parent : Option ℕ) → parent_at books.links.links i ≡ parent → parent_allows (is_available_up books taken run i) taken parent ≡ parent_allows (is_available books taken run) taken parent
      by None e = refl
      by (Some p) e = let before = (parents books ok i p e).before in ap (λ b. is_used taken p || b) (up-same i (suc p) p before (omega arith))

and-true : (b : Bool) → (b && true) ≡ b
and-true true = refl
and-true false = refl

module _ (books : Books) (kept : Tally) (run : Run) (ok : IsAccepted books) where
  abbrev taken : Taken
  taken = taken_in books kept run.quarter

  abbrev is_there : ℕ → Bool
  is_there = is_available books taken run

  -- a number of the quarter that is below the one at a place stands before that place
  stands-before : (k i p : ℕ) → k < length (bids_of_quarter books.bids.bids run.quarter) → get_or (bids_of_quarter books.bids.bids run.quarter) k i ≡ i → p < i → i < length books.bids.bids
      → (bid_numbered books.bids.bids p).quarter ≡ run.quarter → list_any (λ j. j == p) (take k (bids_of_quarter books.bids.bids run.quarter)) ≡ true
  stands-before k i p l here less there own =
      let numbers : List ℕ = bids_of_quarter books.bids.bids run.quarter in
      let own_of : ℕ → Bool = λ j. (bid_numbered books.bids.bids j).quarter == run.quarter in
      let found : list_any (λ j. j == p) numbers ≡ true =
      ap (list_any (λ j. j == p)) (of_the_quarter books.bids.bids run.quarter)
      ∙ any-filter_same (λ j. j == p) own_of true (λ j e. eq-eqb _ _ (ap (λ n. (bid_numbered books.bids.bids n).quarter) (eqb-true j p e) ∙ own)) (range_with_len 0 (length books.bids.bids))
      ∙ range-any 0 (length books.bids.bids) p (omega arith) (omega (arith, less, there)) in
      let rise = places-rise (λ (b : Bid). b.quarter == run.quarter) 0 books.bids.bids in
      let later : All (λ j. (j == p) ≡ false) (drop k numbers) = λ m d more. apart numbers k i p m d l here less rise (omega (arith, simp length-drop at more)) in
      let none : list_any (λ j. j == p) (drop k numbers) ≡ false = list_any_none (λ j. j == p) (drop k numbers) later in
      let split : list_any (λ j. j == p) (take k numbers ++ drop k numbers) ≡ (list_any (λ j. j == p) (take k numbers) || list_any (λ j. j == p) (drop k numbers)) =
      list_any-append (λ j. j == p) (take k numbers) (drop k numbers) in
      first-true (list_any (λ j. j == p) (take k numbers)) (list_any (λ j. j == p) (drop k numbers)) none (sym split ∙ ap (list_any (λ j. j == p)) (take-append-drop k numbers) ∙ found)
    where
      first-true : (a b : Bool) → b ≡ false → (a || b) ≡ true → a ≡ true
      first-true true b e f = refl
      first-true false b e f = sym e ∙ f

      apart : (numbers : List ℕ) (k i p m d : ℕ) → k < length numbers → get_or numbers k i ≡ i → p < i
          → AllPairs (λ i j. i < j) numbers → k + m < length numbers → (get_or (drop k numbers) m d == p) ≡ false
      apart numbers k i p zero d l here less rise more =
          let same : get_or (drop k numbers) zero d ≡ i = get_or-drop k numbers zero d ∙ ap (λ n. get_or numbers n d) (omega arith) ∙ get_or_default numbers k d i l ∙ here in
          grind (arith, nat_tests, same, less)
      apart numbers k i p (suc m) d l here less rise more =
          let same : get_or (drop k numbers) (suc m) d ≡ get_or numbers (k + suc m) d = get_or-drop k numbers (suc m) d in
          let first : get_or numbers k d ≡ i = get_or_default numbers k d i l ∙ here in
          let above : get_or numbers k d < get_or numbers (k + suc m) d = rise k (k + suc m) d (omega arith) more in
          grind (arith, nat_tests, same, first, above, less)

  -- the next bid of the quarter, after the gated ones that were chosen before it
  pub next : (k i : ℕ) → k < length (bids_of_quarter books.bids.bids run.quarter)
      → get_or (bids_of_quarter books.bids.bids run.quarter) k i ≡ i → i < length books.bids.bids
      → (bid_numbered books.bids.bids i).quarter ≡ run.quarter
      → (chosen gated : List ℕ) → chosen ≡ filter (is_available books (taken_in books kept run.quarter) run)
      (take k (bids_of_quarter books.bids.bids run.quarter)) → gated ≡ filter (has_gate books.links) chosen
      → (may_run books (taken_in books kept run.quarter) run i && option_map_or (λ p. nat_lt 0 (get_or kept.mw p 0) || list_any (λ j. j == p) gated) (parent_at books.links.links i) true)
      ≡ is_available books (taken_in books kept run.quarter) run i
  next k i l here there own chosen gated is_chosen is_gated =
      ap (λ b. may_run books taken run i && b) (by (parent_at books.links.links i) refl) ∙ sym (available books taken run ok i)
    where
      by : (parent : Option ℕ) → parent_at books.links.links i ≡ parent
          → option_map_or (λ p. nat_lt 0 (get_or kept.mw p 0) || list_any (λ j. j == p) gated) parent true ≡ parent_allows (is_available books taken run) taken parent
      by None e = refl
      by (Some p) e =
          let up = parents books ok i p e in
          let its_own : (bid_numbered books.bids.bids p).quarter ≡ run.quarter = sym (quarter-at books.bids p) ∙ up.same_quarter ∙ quarter-at books.bids i ∙ own in
          let all : List ℕ = take k (bids_of_quarter books.bids.bids run.quarter) in
          let among : list_any (λ j. j == p) (filter is_there all) ≡ is_there p =
          any-filter_same (λ j. j == p) is_there (is_there p) (λ j e. ap is_there (eqb-true j p e)) all
          ∙ ap (λ b. is_there p && b) (stands-before k i p l here up.before there its_own) ∙ and-true (is_there p) in
          let gates : list_any (λ j. j == p) (filter (has_gate books.links) (filter is_there all)) ≡ is_there p =
          any-filter_same (λ j. j == p) (has_gate books.links) true (λ j e. ap (has_gate books.links) (eqb-true j p e) ∙ up.gated) (filter is_there all) ∙ among in
          rw (is_gated, is_chosen, gates, own-mw books kept run.quarter p its_own) refl

-- what passes of one item more
pub filter-push : {X : Type 0} (p : X → Bool) (xs : List X) (x : X) → filter p (xs ++ x ∷ []) ≡ filter p xs ++ cond (p x) (x ∷ []) []
filter-push p xs x = filter-append p xs (x ∷ [])

pub filter-take : {X : Type 0} (p : X → Bool) (xs : List X) (k : ℕ) (x : X) → k < length xs → get_or xs k x ≡ x → filter p (take (k + 1) xs) ≡ filter p (take k xs) ++ cond (p x) (x ∷ []) []
filter-take p xs k x l e = ap (λ n. filter p (take n xs)) (add-one k) ∙ ap (filter p) (take-suc xs k x l ∙ ap (λ y. take k xs ++ y ∷ []) e) ∙ filter-push p (take k xs) x

-- a bid that the index has for a quarter
pub record IsOwn (books : Books) (quarter i : ℕ) : Type 0 where
  pub there : i < length books.bids.bids
  pub own : (bid_numbered books.bids.bids i).quarter ≡ quarter

pub own-numbers : (books : Books) (quarter : ℕ) → All (IsOwn books quarter) (bids_of_quarter books.bids.bids quarter)
own-numbers books quarter =
    let own : ℕ → Bool = λ i. (bid_numbered books.bids.bids i).quarter == quarter in
    let within = places-within (λ (b : Bid). b.quarter == quarter) 0 books.bids.bids in
    let passes : All (λ i. own i ≡ true) (bids_of_quarter books.bids.bids quarter) = rw (of_the_quarter books.bids.bids quarter) (filter_passes own (range_with_len 0 (length books.bids.bids))) in
    λ k d l. record { there = omega (arith, (within k d l).below); own = eqb-true _ _ (passes k d l) }

-- what the index has for a quarter of the day
pub record HasQuarter (books : Books) (kept : Tally) (quarter : ℕ) : Type 0 where
  pub there : quarter < length kept.of_quarter
  pub bids : get_or kept.of_quarter quarter [] ≡ bids_of_quarter books.bids.bids quarter

pub has-quarter : (books : Books) (kept : Tally) (quarter : ℕ)
    → kept.of_quarter ≡ map (bids_of_quarter books.bids.bids) (range_with_len 0 (books.quarters + 1))
    → quarter ≤ books.quarters → HasQuarter books kept quarter
has-quarter books kept quarter index l =
    let long : length kept.of_quarter ≡ books.quarters + 1 = ap length index ∙ length-map-range_with_len (bids_of_quarter books.bids.bids) 0 (books.quarters + 1) in
    record {
      there = omega (arith, long, l);
      bids = ap (λ (lists : List (List ℕ)). get_or lists quarter []) index
          ∙ get_or-map-range_with_len (bids_of_quarter books.bids.bids) 0 (books.quarters + 1) quarter quarter [] (omega (arith, l)) (zero-add quarter);
    }

-- what the index has for a run of the day
pub record HasRun (books : Books) (kept : Tally) (run : ℕ) : Type 0 where
  pub there : run < length kept.of_run
  pub demands : get_or kept.of_run run [] ≡ numbers_of_run books.demands.demands run

pub has-run : (books : Books) (kept : Tally) (run : ℕ)
    → kept.of_run ≡ map (numbers_of_run books.demands.demands) (range_with_len 0 (length books.runs.runs + 1))
    → run ≤ length books.runs.runs → HasRun books kept run
has-run books kept run index l =
    let runs : ℕ = length books.runs.runs in
    let long : length kept.of_run ≡ runs + 1 = ap length index ∙ length-map-range_with_len (numbers_of_run books.demands.demands) 0 (runs + 1) in
    record {
      there = omega (arith, long, l);
      demands = ap (λ (lists : List (List ℕ)). get_or lists run []) index ∙ get_or-map-range_with_len (numbers_of_run books.demands.demands) 0 (runs + 1) run run [] (omega (arith, l)) (zero-add run);
    }

-- the demands of a run's numbers are the run's
pub demands-are : (demands : List Demand) (run : ℕ) → map (demand_at demands) (numbers_of_run demands run) ≡ demands_of_run demands run
demands-are demands run = places-items (λ (d : Demand). d.run == run) (demand_at demands) 0 demands (λ i d l. rw (zero-add i) (get_or_default demands i _ d l))

-- what passes a test of a quarter's bids is of the quarter
pub own-chosen : (books : Books) (p : ℕ → Bool) (quarter : ℕ) (numbers : List ℕ)
    → numbers ≡ filter p (bids_of_quarter books.bids.bids quarter)
    → All (λ i. (bid_numbered books.bids.bids i).quarter ≡ quarter) numbers
own-chosen books p quarter numbers e =
    rw e (All-filter p (λ i. (bid_numbered books.bids.bids i).quarter ≡ quarter) (bids_of_quarter books.bids.bids quarter)
    (All-weaker (IsOwn books quarter) (λ i. (bid_numbered books.bids.bids i).quarter ≡ quarter) (λ i own. own.own) (bids_of_quarter books.bids.bids quarter) (own-numbers books quarter)))

-- all the gated bids that are chosen for a run, and the order of a bid among them
abbrev pub gated_chosen : Books → Tally → Run → List ℕ
gated_chosen books kept run = filter (has_gate books.links) (filter (is_available books (taken_in books kept run.quarter) run) (bids_of_quarter books.bids.bids run.quarter))

abbrev pub order_chosen : Books → Tally → Run → ℕ → Order
order_chosen books kept run i = bid_order (bid_numbered books.bids.bids i) (gate_of (gated_chosen books kept run) i) ((taken_in books kept run.quarter).mw i)

-- what is chosen of one number more: where it passes it is put after with its order, and among the gated ones where it
-- has a gate
pub record IsChosen (avail gate : ℕ → Bool) (order : ℕ → Order) (all : List ℕ) (k : ℕ) (numbers gated : List ℕ) (orders : List Order) : Type 0 where
  pub all_there : numbers ≡ filter avail (take k all)
  pub all_gated : gated ≡ filter gate numbers
  pub all_ordered : orders ≡ map order numbers

module _ (avail gate : ℕ → Bool) (order : ℕ → Order) (all : List ℕ) (k i : ℕ) (numbers gated : List ℕ) (orders : List Order)
    (l : k < length all) (here : get_or all k i ≡ i) (so_far : IsChosen avail gate order all k numbers gated orders) where
  pub chosen-not : avail i ≡ false → IsChosen avail gate order all (k + 1) numbers gated orders
  chosen-not e = record {
    all_there = so_far.all_there ∙ sym (filter-take avail all k i l here ∙ rw e (append-nil _));
    all_gated = so_far.all_gated;
    all_ordered = so_far.all_ordered;
  }

  pub chosen-next : avail i ≡ true → IsChosen avail gate order all (k + 1) (numbers ++ i ∷ []) (cond (gate i) (gated ++ i ∷ []) gated) (orders ++ order i ∷ [])
  chosen-next e = record {
    all_there = ap (λ ns. ns ++ i ∷ []) so_far.all_there ∙ sym (filter-take avail all k i l here ∙ rw e refl);
    all_gated = by (gate i) refl;
    all_ordered = ap (λ os. os ++ order i ∷ []) so_far.all_ordered ∙ sym (map-append order numbers (i ∷ []));
  }
    where
      by : (b : Bool) → gate i ≡ b → cond b (gated ++ i ∷ []) gated ≡ filter gate (numbers ++ i ∷ [])
      by true f = ap (λ ns. ns ++ i ∷ []) so_far.all_gated ∙ sym (filter-push gate numbers i ∙ rw f refl)
      by false f = so_far.all_gated ∙ sym (filter-push gate numbers i ∙ rw f (append-nil _))

-- the gate of the next bid that is chosen: where it has one, the gates of the gated bids before it are before it
module _ (books : Books) (kept : Tally) (run : Run) (ok : IsAccepted books) (k : ℕ) where
  abbrev is_open : ℕ → Bool
  is_open = is_available books (taken_in books kept run.quarter) run

  abbrev numbers_all : List ℕ
  numbers_all = bids_of_quarter books.bids.bids run.quarter

  abbrev gated_before : List ℕ
  gated_before = filter (has_gate books.links) (filter is_open (take k numbers_all))

  gated_split : gated_chosen books kept run ≡ gated_before ++ filter (has_gate books.links) (filter is_open (drop k numbers_all))
  gated_split = ap (λ ns. filter (has_gate books.links) (filter is_open ns)) (sym (take-append-drop k numbers_all))
      ∙ ap (filter (has_gate books.links)) (filter-append is_open (take k numbers_all) (drop k numbers_all))
      ∙ filter-append (has_gate books.links) (filter is_open (take k numbers_all)) (filter is_open (drop k numbers_all))

  pub few-before : length gated_before ≤ 512
  few-before = omega (arith, ap length gated_split, length-append gated_before (filter (has_gate books.links) (filter is_open (drop k numbers_all))), few_of_quarter books ok is_open run.quarter)

  gated_rise : AllPairs (λ i j. i < j) (gated_chosen books kept run)
  gated_rise = AllPairs-filter (λ i j. i < j) (has_gate books.links) (filter is_open numbers_all)
      (AllPairs-filter (λ i j. i < j) is_open numbers_all (places-rise (λ (b : Bid). b.quarter == run.quarter) 0 books.bids.bids))

  next-gate : (i : ℕ) → k < length numbers_all → get_or numbers_all k i ≡ i → is_open i ≡ true
      → cond (has_gate books.links i) (Some (length gated_before)) None ≡ gate_of (gated_chosen books kept run) i
  next-gate i l here e = by (has_gate books.links i) refl
    where
      by : (b : Bool) → has_gate books.links i ≡ b → cond b (Some (length gated_before)) None ≡ gate_of (gated_chosen books kept run) i
      by true f =
          let rest : List ℕ = filter (has_gate books.links) (filter is_open (drop (suc k) numbers_all)) in
          let cut : drop k numbers_all ≡ i ∷ drop (suc k) numbers_all = drop-cons numbers_all k i l ∙ ap (λ n. n ∷ drop (suc k) numbers_all) here in
          let kept_i : filter (has_gate books.links) (filter is_open (i ∷ drop (suc k) numbers_all)) ≡ i ∷ rest = rw e (rw f refl) in
          let whole : gated_chosen books kept run ≡ gated_before ++ i ∷ rest =
          gated_split ∙ ap (λ ns. gated_before ++ filter (has_gate books.links) (filter is_open ns)) cut ∙ ap (λ ns. gated_before ++ ns) kept_i in
          let at : get_or (gated_chosen books kept run) (length gated_before) 0 ≡ i = ap (λ ns. get_or ns (length gated_before) 0) whole ∙ get_or-append_seam gated_before i rest 0 in
          let less : length gated_before < length (gated_chosen books kept run) = omega (arith, ap length whole, length-append gated_before (i ∷ rest)) in
          sym (rw at at (gate-is (gated_chosen books kept run) (length gated_before) gated_rise less))
      by false f = none (gate_of (gated_chosen books kept run) i) refl
        where
          none : (gate : Option ℕ) → gate_of (gated_chosen books kept run) i ≡ gate → None ≡ gate_of (gated_chosen books kept run) i
          none None g = sym g
          none (Some place) g =
              let found = gate-at (gated_chosen books kept run) i place g in
              let passes = filter_passes (has_gate books.links) (filter is_open numbers_all) place 0 found.0 in
              let has : has_gate books.links i ≡ true = sym (ap (has_gate books.links) found.1) ∙ passes in
              absurd (cc (has, f))

  -- so its order is the one that it has among all
  pub next-order : (i : ℕ) (gated : List ℕ) → k < length numbers_all → get_or numbers_all k i ≡ i → (bid_numbered books.bids.bids i).quarter ≡ run.quarter → is_open i ≡ true → gated ≡ gated_before
      → bid_order (bid_numbered books.bids.bids i) (cond (has_gate books.links i) (Some (length gated)) None) (get_or kept.mw i 0) ≡ order_chosen books kept run i
  next-order i gated l here own e same =
      ap (λ gate. bid_order (bid_numbered books.bids.bids i) gate (get_or kept.mw i 0)) (ap (λ (gs : List ℕ). cond (has_gate books.links i) (Some (length gs)) None) same ∙ next-gate i l here e)
      ∙ ap (λ mw. bid_order (bid_numbered books.bids.bids i) (gate_of (gated_chosen books kept run) i) mw) (sym (own-mw books kept run.quarter i own))

-- no more gated bids are chosen than a market has gates
pub few-chosen : (books : Books) (p : ℕ → Bool) (quarter : ℕ) (numbers gated : List ℕ) → IsAccepted books
    → numbers ≡ filter p (bids_of_quarter books.bids.bids quarter) → gated ≡ filter (has_gate books.links) numbers
    → length gated ≤ 512
few-chosen books p quarter numbers gated ok e f = rw (f, e) (few_of_quarter books ok p quarter)
