-- The place and the quarter of each bid in the book.
use Rattle.std.proofs.Common.{◌≡◌, ◌≢◌, ◌≤◌, ◌<◌, ◌+◌, ◌*◌, ◌/◌, ◌%◌, ◌∙◌, ◌==◌, ◌⊎◌, ℕ, zero, suc, true, false, List, [], ◌∷◌, ◌++◌, Some, length, map, refl, subst, sym, ap, inl, inr, arith}
use Rattle.std.specs.Prelude.{nat_lt, slice_get}
use Rattle.std.specs.List.{position_or_len}
use Rattle.std.specs.Str.{bytes_eq}
use Rattle.std.proofs.lemmas.Bool.Decides.{eqb_tells, nat_tests}
use Rattle.std.proofs.lemmas.List.{length-map, map-append}
use Rattle.std.proofs.Math.Bool.{or-true}
use Rattle.mari_rows.specs.Names.{is_among, place_in}
use Rattle.mari_rows.specs.declared.rows.Row.{Row}
use Rattle.mari_rows.proofs.NameLemmas.{bytes_eq-same}
use Rattle.mari_rows.proofs.PlaceLemmas.{among-push, place-new, place-stays}
use Rattle.mari_bids.specs.Bids.{bid_at, id_of, provider_of, providers_of}
use Rattle.mari_bids.specs.declared.bids.Bid.{Bid}
use Rattle.mari_links.specs.Links.{bid_named, least_of_bid, quarter_of}
use Rattle.mari_scenario.specs.Draws.{lines}
use Rattle.mari_scenario.specs.Pages.{bid, bid_line}
use Rattle.mari_scenario.proofs.Accepting.{drawn, rows-more}
use Rattle.mari_scenario.proofs.BidNames.{bid_id}
use Rattle.mari_scenario.proofs.BidPage.{bid_fields, bid_records, bid_rows, length-rows, new-id, the_bids}
use Rattle.mari_rows.proofs.NumberLemmas.{decimal_in}
use Rattle.mari_scenario.proofs.ZonePage.{the_zones}
use Rattle.mari_units.proofs.Lists.{get_front, get_seam}

-- the row of a bid after the first ones
abbrev row_of : (n state : ℕ) → Row
row_of n x = record { line = 2 + length (drawn bid_line bid_records n x); fields = bid_fields n (lines bid_line n x).state }

-- the names of the first bids
abbrev ids : (n state : ℕ) → List (List ℕ)
ids n x = map id_of (bid_rows n x)

ids-more : (n x : ℕ) → ids (suc n) x ≡ ids n x ++ bid_id n ∷ []
ids-more n x = rw (rows-more bid_line bid_records n x) (map-append id_of (bid_rows n x) (row_of n x ∷ []))

length-ids : (n x : ℕ) → length (ids n x) ≡ n
length-ids n x = length-map (bid_rows n x) id_of ∙ length-rows n x

-- each is there, at the place of its number
has-place : (n x i : ℕ) → i < n → n ≤ 960 → (is_among (ids n x) (bid_id i) ≡ true) × (place_in (ids n x) (bid_id i) ≡ i)
has-place zero x i before few = absurd (omega (arith, before))
has-place (suc n) x i before few = rw (ids-more n x) (by (eqb_tells i n) (λ lower. has-place n x i lower (omega (arith, few))))
  where
    by : ((i == n) ≡ true) × (i ≡ n) ⊎ ((i == n) ≡ false) × (i ≢ n)
        → (i < n → (is_among (ids n x) (bid_id i) ≡ true) × (place_in (ids n x) (bid_id i) ≡ i))
        → (is_among (ids n x ++ bid_id n ∷ []) (bid_id i) ≡ true) × (place_in (ids n x ++ bid_id n ∷ []) (bid_id i) ≡ i)
    by (inl same) earlier =
        subst (λ k. (is_among (ids n x ++ bid_id n ∷ []) (bid_id k) ≡ true) × (place_in (ids n x ++ bid_id n ∷ []) (bid_id k) ≡ k)) (sym same.1) (
          rw (among-push (ids n x) (bid_id n) (bid_id n), bytes_eq-same (bid_id n)) (or-true (is_among (ids n x) (bid_id n))),
          place-new (ids n x) (bid_id n) (new-id n x n (omega arith) (omega (arith, few))) ∙ length-ids n x,
        )
    by (inr other) earlier =
        let more = earlier (below other.1) in
        (rw (among-push (ids n x) (bid_id i) (bid_id n), more.0) refl, place-stays (ids n x) (bid_id i) (bid_id n) more.0 ∙ more.1)
      where
        below : (i ≢ n) → i < n
        below apart = grind (arith, before)

pub id-named : (x i : ℕ) → i < 960 → bid_named (the_bids x) (bid_id i) ≡ Some i
unfolding the_bids
id-named x i few =
    let place : position_or_len (bytes_eq (bid_id i)) (ids 960 x) ≡ i = (has-place 960 x i few (omega arith)).1 in
    let below : nat_lt i 960 ≡ true = grind (arith, nat_tests) in
    rw (place, length-ids 960 x, below) refl

-- the line of each, from some state
abbrev line_of : (k at state : ℕ) → Row
line_of k at x = record { line = at; fields = bid_fields k x }

bid-there : (f : Row → Bid) (n x k : ℕ) → k < n → n ≤ 960 → (at : ℕ) × (state : ℕ) × (slice_get (map f (bid_rows n x)) k ≡ Some (f (line_of k at state)))
bid-there f zero x k before few = absurd (omega (arith, before))
bid-there f (suc n) x k before few =
    rw (rows-more bid_line bid_records n x, map-append f (bid_rows n x) (row_of n x ∷ []))
    (by (eqb_tells k n) (λ lower. bid-there f n x k lower (omega (arith, few))))
  where
    first : List Bid
    first = map f (bid_rows n x)

    sized : length first ≡ n
    sized = length-map (bid_rows n x) f ∙ length-rows n x

    last : slice_get (first ++ f (row_of n x) ∷ []) n ≡ Some (f (row_of n x))
    last = ap (λ i. slice_get (first ++ f (row_of n x) ∷ []) i) (sym sized) ∙ get_seam first [] (f (row_of n x))

    by : ((k == n) ≡ true) × (k ≡ n) ⊎ ((k == n) ≡ false) × (k ≢ n)
        → (k < n → (at : ℕ) × (state : ℕ) × (slice_get first k ≡ Some (f (line_of k at state))))
        → (at : ℕ) × (state : ℕ) × (slice_get (first ++ f (row_of n x) ∷ []) k ≡ Some (f (line_of k at state)))
    by (inl same) earlier =
        subst (λ i. (at : ℕ) × (state : ℕ) × (slice_get (first ++ f (row_of n x) ∷ []) i ≡ Some (f (line_of i at state)))) (sym same.1)
        (2 + length (drawn bid_line bid_records n x), (lines bid_line n x).state, last)
    by (inr other) earlier =
        let lower : k < n = below other.1 in
        let found = earlier lower in
        (found.0, found.1, get_front first (f (row_of n x) ∷ []) k (omega (arith, sized, lower)) ∙ found.2)
      where
        below : (k ≢ n) → k < n
        below apart = grind (arith, before)

-- the bid that a line says
abbrev said_bid : ℕ → Row → Bid
said_bid x row = bid_at the_zones 96 (place_in (providers_of (bid_rows 960 x)) (provider_of row)) row

-- its quarter
pub quarter-reported : (x k : ℕ) → k < 960 → quarter_of (the_bids x) k ≡ k / 40 + 1
unfolding the_bids
quarter-reported x k few =
    let found = bid-there (said_bid x) 960 x k few (omega arith) in
    rw (found.2, decimal_in 1 96 (k / 40 + 1) (omega arith) (omega arith) (omega arith)) refl

-- a bid that isn't every fifth is divisible
pub divisible : (x k : ℕ) → k < 960 → ((k + 1) % 5 == 0) ≡ false → least_of_bid (the_bids x) k ≡ 0
unfolding the_bids
divisible x k few other =
    let found = bid-there (said_bid x) 960 x k few (omega arith) in
    let same : (k % 40 + 1) % 5 ≡ (k + 1) % 5 = omega arith in
    rw (found.2, same, other, decimal_in 0 9999 0 (omega arith) (omega arith) (omega arith)) refl

pub count-bids : (x : ℕ) → length (the_bids x).bids ≡ 960
unfolding the_bids
count-bids x = length-map (bid_rows 960 x) (said_bid x) ∙ length-rows 960 x

pub count-ids : (x : ℕ) → length (the_bids x).ids ≡ 960
unfolding the_bids
count-ids x = length-ids 960 x

-- the bid of a quarter at a place of it
pub bid-named : (x n j : ℕ) → n < 24 → j < 40 → bid_named (the_bids x) (bid (n + 1) (j + 1)) ≡ Some (40 * n + j)
bid-named x n j few small = ap (λ name. bid_named (the_bids x) name) same ∙ id-named x (40 * n + j) (omega arith)
  where
    quarter : n + 1 ≡ (40 * n + j) / 40 + 1
    quarter = omega arith

    place : j + 1 ≡ (40 * n + j) % 40 + 1
    place = omega arith

    same : bid (n + 1) (j + 1) ≡ bid_id (40 * n + j)
    same = λ i. bid (quarter i) (place i)
