-- What the scheduled runs of several quarters bring, where each quarter has one.
use Rattle.std.proofs.Common.{◌≡◌, ◌∙◌, ◌+◌, ◌-◌, ◌<◌, ◌≤◌, ◌==◌, ℕ, Bool, true, false, [], Option, Some, None, Contains, ap, filter, get_or, length, pos, refl, sym, subst, arith}
use Rattle.std.specs.Prelude.{is_some, nat_le, not, option_map, position, unwrap_or}
use Rattle.std.specs.List.{All, range_with_len}
use Rattle.std.proofs.lemmas.Bool.{and_parts, eq-eqb, eqb-true, le-leb, leb-true, not-false}
use Rattle.std.proofs.lemmas.List.FromFn.{get_or-range_with_len, length-range_with_len}
use Rattle.std.proofs.lemmas.List.Quantifiers.{position-Some}
use Rattle.std.proofs.lemmas.Nat.{div-mul-add}
use Rattle.mari_bids.specs.Bids.{bid_numbered}
use Rattle.mari_demands.specs.declared.runs.Run.{Run}
use Rattle.mari_market.specs.Market.{IsValid}
use Rattle.mari_remain.specs.Accepted.{IsAccepted}
use Rattle.mari_remain.specs.Available.{is_available, may_run, parent_allows, taken_by}
use Rattle.mari_remain.specs.Lists.{parent_at, run_numbered}
use Rattle.mari_remain.specs.RunMarket.{market_at, taken_before}
use Rattle.mari_remain.specs.declared.books.Books.{Books}
use Rattle.mari_remain.proofs.Choosing.{available, of_the_quarter, own-chosen, quarter-at}
use Rattle.mari_remain.proofs.Validity.{parents, there, valid}
use Rattle.mari_blocks.specs.Blocks.{is_within, quarter_at}
use Rattle.mari_blocks.specs.Joint.{is_scheduled, lacks_run, offered, bids_brought, quarters_of, run_of_quarter, scheduled_run_of, zones_before}
use Rattle.mari_blocks.specs.Prices.{zone_quarter}
use Rattle.mari_blocks.proofs.Listing.{none-at}
use Rattle.mari_blocks.proofs.Parents.{FollowParents, follow-filter, follow-flat, follow-range}
use Rattle.mari_blocks.proofs.Ranges.{all-flat}

-- a quarter that passes the test is in the list, and one in the list passes
pub within-has : (first last quarter : ℕ) → is_within first last quarter ≡ true → Contains (quarters_of first last) quarter
within-has first last quarter t =
    let both = and_parts (nat_le first quarter) (nat_le quarter last) t in
    let low = leb-true first quarter both.0 in
    let high = leb-true quarter last both.1 in
    let small : quarter - first < last + 1 - first = omega (arith, low, high) in
    let at = get_or-range_with_len first (last + 1 - first) (quarter - first) quarter small in
    (quarter - first, omega (arith, small, length-range_with_len first (last + 1 - first)), at ∙ omega (arith, low))

pub has-within : (first last quarter : ℕ) → Contains (quarters_of first last) quarter → is_within first last quarter ≡ true
has-within first last quarter c =
    let small : c.0 < last + 1 - first = omega (arith, c.1, length-range_with_len first (last + 1 - first)) in
    let at : quarter ≡ first + c.0 = sym c.2 ∙ get_or-range_with_len first (last + 1 - first) c.0 quarter small in
    rw (le-leb first quarter (omega (arith, at)), le-leb quarter last (omega (arith, at, small))) refl

-- the quarter of a zone that stands among those of a quarter
pub zone-has-quarter : (books : Books) (first quarter zone : ℕ) → first ≤ quarter → zone < length books.zones.zones → zone_quarter books first (zones_before books first quarter + zone) ≡ quarter
zone-has-quarter books first quarter zone low l =
    ap (λ k. first + k) (div-mul-add (quarter - first) (length books.zones.zones) zone l) ∙ omega (arith, low)

-- a run, where there is none
abbrev no_run : Run
no_run = record { quarter = 0; direct = false; reference = record { 0 = pos 0 } }

-- the number of a quarter's scheduled run
pub record IsRunOf (books : Books) (quarter run : ℕ) : Type 0 where
  pub first : 1 ≤ run
  pub last : run ≤ length books.runs.runs
  pub own_quarter : (run_numbered books run).quarter ≡ quarter

pub run-of : (books : Books) (quarter : ℕ) → is_some (scheduled_run_of books.runs.runs quarter) ≡ true → IsRunOf books quarter (run_of_quarter books.runs.runs quarter)
run-of books quarter some = by (position (is_scheduled quarter) books.runs.runs) refl some
  where
    by : (o : Option ℕ) → position (is_scheduled quarter) books.runs.runs ≡ o
        → is_some (option_map (λ place. place + 1) o) ≡ true
        → IsRunOf books quarter (unwrap_or (option_map (λ place. place + 1) o) 0)
    by None e s = cc s
    by (Some place) e s =
        let found = position-Some (is_scheduled quarter) books.runs.runs place no_run e in
        let same : (place + 1) - 1 ≡ place = omega arith in
        record {
          first = omega arith;
          last = omega (arith, found.0);
          own_quarter = rw same (eqb-true (get_or books.runs.runs place no_run).quarter quarter
              (and_parts ((get_or books.runs.runs place no_run).quarter == quarter) (not (get_or books.runs.runs place no_run).direct) found.1).0);
        }

module _ (books : Books) (ok : IsAccepted books) (first last : ℕ) (all : lacks_run books first last ≡ false) where
  -- each of the quarters has one
  pub has-run : (quarter : ℕ) → first ≤ quarter → quarter ≤ last → is_some (scheduled_run_of books.runs.runs quarter) ≡ true
  has-run quarter low high =
      let within : quarter - first < last + 1 - first = omega (arith, low, high) in
      let none = none-at (λ q. not (is_some (scheduled_run_of books.runs.runs q))) (quarters_of first last) all (quarter - first) 0 (rw (length-range_with_len first (last + 1 - first)) within) in
      let here : first + (quarter - first) ≡ quarter = omega (arith, low) in
      not-false (is_some (scheduled_run_of books.runs.runs quarter)) (rw (get_or-range_with_len first (last + 1 - first) (quarter - first) 0 within, here) at none)

  pub is-run : (quarter : ℕ) → first ≤ quarter → quarter ≤ last → IsRunOf books quarter (run_of_quarter books.runs.runs quarter)
  is-run quarter low high = run-of books quarter (has-run quarter low high)

  -- its market is valid
  pub run-valid : (quarter : ℕ) → first ≤ quarter → quarter ≤ last → IsValid (market_at books [] (run_of_quarter books.runs.runs quarter))
  run-valid quarter low high =
      let is = is-run quarter low high in
      valid books (taken_before books [] (run_of_quarter books.runs.runs quarter)) (run_of_quarter books.runs.runs quarter) ok (λ k. omega arith) is.first is.last

  -- a bid that is there, of one of the quarters
  pub record IsOffered (bid : ℕ) : Type 0 where
    pub there : bid < length books.bids.bids
    pub from_first : first ≤ quarter_at books.bids bid
    pub to_last : quarter_at books.bids bid ≤ last

  -- the bids that a quarter brings are the quarter's
  pub own-offered : (quarter : ℕ) → first ≤ quarter → quarter ≤ last → All (λ bid. quarter_at books.bids bid ≡ quarter) (bids_brought books quarter)
  own-offered quarter low high =
      let run = run_of_quarter books.runs.runs quarter in
      let own = own-chosen books (is_available books (taken_before books [] run) (run_numbered books run)) (run_numbered books run).quarter (bids_brought books quarter) refl in
      λ k d l. own k d l ∙ (is-run quarter low high).own_quarter

  offered-there : (quarter : ℕ) → first ≤ quarter → quarter ≤ last → All IsOffered (bids_brought books quarter)
  offered-there quarter low high =
      let run = run_of_quarter books.runs.runs quarter in
      let is = is-run quarter low high in
      let taken = taken_before books [] run in
      let here = there books taken run ok (λ k. omega arith) in
      let own = own-offered quarter low high in
      λ k d l. record { there = here k d l; from_first = omega (arith, own k d l, low); to_last = omega (arith, own k d l, high) }

  pub all-offered : All IsOffered (offered books first last)
  all-offered = all-flat IsOffered (bids_brought books) first (last + 1 - first) (λ quarter low high. offered-there quarter low (omega (arith, low, high)))

  -- its bids stand after their parents
  follow-in : (quarter : ℕ) → first ≤ quarter → quarter ≤ last → FollowParents (parent_at books.links.links) [] (bids_brought books quarter)
  follow-in quarter low high =
      let bids = books.bids.bids in
      let run = run_of_quarter books.runs.runs quarter in
      let entry : Run = run_numbered books run in
      let own : ℕ → Bool = λ i. (bid_numbered bids i).quarter == entry.quarter in
      let avail : ℕ → Bool = is_available books (taken_by [] entry.quarter) entry in
      rw (of_the_quarter bids entry.quarter) (follow-filter (parent_at books.links.links) avail (keeps-available entry) [] (filter own (range_with_len 0 (length bids)))
      (follow-filter (parent_at books.links.links) own (keeps-quarter entry.quarter) [] (range_with_len 0 (length bids))
      (follow-range (parent_at books.links.links) (λ bid parent up. (parents books ok bid parent up).before) 0 (length bids))))
    where
      keeps-quarter : (q bid parent : ℕ) → ((bid_numbered books.bids.bids bid).quarter == q) ≡ true
          → parent_at books.links.links bid ≡ Some parent
          → ((bid_numbered books.bids.bids parent).quarter == q) ≡ true
      keeps-quarter q bid parent own up =
          let same = (parents books ok bid parent up).same_quarter in
          eq-eqb (bid_numbered books.bids.bids parent).quarter q (sym (quarter-at books.bids parent) ∙ same ∙ quarter-at books.bids bid ∙ eqb-true (bid_numbered books.bids.bids bid).quarter q own)

      keeps-available : (run : Run) (bid parent : ℕ) → is_available books (taken_by [] run.quarter) run bid ≡ true
          → parent_at books.links.links bid ≡ Some parent
          → is_available books (taken_by [] run.quarter) run parent ≡ true
      keeps-available run bid parent here up =
          let taken = taken_by [] run.quarter in
          let both = and_parts (may_run books taken run bid) (parent_allows (is_available books taken run) taken (parent_at books.links.links bid)) (sym (available books taken run ok bid) ∙ here) in
          let P : Option ℕ → Type 0 = λ o. parent_allows (is_available books taken run) taken o ≡ true in
          subst P up both.1

  pub offered-follow : FollowParents (parent_at books.links.links) [] (offered books first last)
  offered-follow = follow-flat (parent_at books.links.links) (bids_brought books) [] first (last + 1 - first) (λ quarter low high. follow-in quarter low (omega (arith, low, high)))
