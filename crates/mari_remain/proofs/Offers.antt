-- No bid is activated above its offer over a day, and a gated one in at most one block.
use Rattle.std.proofs.Common.{◌≡◌, ◌∙◌, ℕ, suc, ◌+◌, ◌-◌, ◌<◌, ◌≤◌, ◌==◌, Bool, true, false, if◌then◌else◌, List, [], ◌∷◌, ◌++◌, Option, Some, None, refl, ap, sym, arith, get_or, map, inl, inr, ◌⊎◌}
use Rattle.std.specs.Prelude.{IfSome, not, nat_lt}
use Rattle.std.specs.List.{All, AllPairs, AllZip}
use Rattle.std.specs.Option.{option_map_or}
use Rattle.std.proofs.lemmas.Bool.{eqb-true, eq-eqb, and_parts}
use Rattle.std.proofs.lemmas.Bool.Decides.{nat_tests}
use Rattle.std.proofs.lemmas.List.Elements.{All-nil, All-push, filter_passes}
use Rattle.std.proofs.lemmas.List.Kept.{AllPairs-filter}
use Rattle.std.proofs.lemmas.List.Sums.{sum_by_push}
use Rattle.mari_bids.specs.Bids.{bid_numbered}
use Rattle.mari_bids.specs.declared.bids.Bid.{Bid}
use Rattle.mari_links.specs.Links.{has_gate}
use Rattle.mari_market.specs.Activation.{is_open}
use Rattle.mari_market.specs.Bounds.{GateState, IsWithin, span_of}
use Rattle.mari_market.specs.Bounds.GateState.{Open, Closed}
use Rattle.mari_market.specs.declared.market.Order.{Order}
use Rattle.mari_market.specs.declared.market.Market.{Market}
use Rattle.mari_remain.specs.declared.books.Books.{Books}
use Rattle.mari_remain.specs.Accepted.{IsAccepted}
use Rattle.mari_remain.specs.Available.{Taken, is_available, is_left, may_run}
use Rattle.mari_remain.specs.Blocks.{PastBlock, PastRun, mw_beside, mw_in_block, mw_of}
use Rattle.mari_remain.specs.FirstBlocks.{AreFirstBlocks, IsNextBlock, IsPastRun}
use Rattle.mari_remain.specs.Lists.{bids_of_quarter, run_numbered}
use Rattle.mari_remain.specs.RunMarket.{bid_order, demand_order, demands_of_run, gate_of, gated_left, greatest_left, market_at, numbers_of, taken_before}
use Rattle.mari_remain.proofs.Choosing.{own-chosen}
use Rattle.mari_remain.proofs.Gates.{gate-at}
use Rattle.mari_remain.proofs.History.{IsOwnBlock, by_blocks, beside-none, own-block}
use Rattle.mari_remain.proofs.Places.{places-rise}
use Rattle.mari_remain.proofs.Standing.{mw-own}
use Rattle.mari_market.proofs.Sizes.{high_at_most}

-- the MW beside a bid among rising numbers are at most its order's greatest
beside-most : (state : ℕ → GateState) (f : ℕ → Order) (i : ℕ) (ns : List ℕ) (rest : List Order) (qs : List ℕ) → AllPairs (λ i j. i < j) ns
    → AllZip (λ (o : Order) (q : ℕ). IsWithin (span_of state o.gate o) q) (map f ns ++ rest) qs → mw_beside i ns qs ≤ (f i).greatest
beside-most state f i [] rest qs rise h = omega arith
beside-most state f i (n ∷ ns) rest [] rise h = omega arith
beside-most state f i (n ∷ ns) rest (q ∷ qs) rise h =
    let above : All (λ m. n < m) ns = λ k d l. rise 0 (suc k) d (omega arith) (omega (arith, l)) in
    let later : AllPairs (λ i j. i < j) ns = λ a b d l m. rise (suc a) (suc b) d (omega (arith, l)) (omega (arith, m)) in
    by (n == i) refl above (beside-most state f i ns rest qs later h.1) h.0.most
  where
    by : (t : Bool) → (n == i) ≡ t → All (λ m. n < m) ns → mw_beside i ns qs ≤ (f i).greatest → q ≤ (span_of state (f n).gate (f n)).hi → (if t then q else 0) + mw_beside i ns qs ≤ (f i).greatest
    by false e above more most = omega (arith, more)
    by true e above more most =
        let same : n ≡ i = eqb-true n i e in
        let none : mw_beside i ns qs ≡ 0 = beside-none i ns qs (λ k d l. apart (get_or ns k d) (above k d l) same) in
        let high : (f n).greatest ≡ (f i).greatest = ap (λ m. (f m).greatest) same in
        omega (arith, none, high, most, high_at_most state (f n).gate (f n))
      where
        apart : (m : ℕ) → n < m → n ≡ i → (m == i) ≡ false
        apart m l same = grind (arith, nat_tests, l, same)

module _ (books : Books) (ok : IsAccepted books) where
  -- what a block takes of a bid is at most what is left of its offer, and nothing of a gated bid that was activated
  pub record IsWithinOffer (before : List PastBlock) (i mw : ℕ) : Type 0 where
    pub left : mw_of before i + mw ≤ (bid_numbered books.bids.bids i).greatest
    pub once : has_gate books.links i ≡ true → (mw_of before i ≡ 0) ⊎ (mw ≡ 0)

  no_more : (before : List PastBlock) (i mw : ℕ) → mw_of before i ≤ (bid_numbered books.bids.bids i).greatest → mw ≡ 0 → IsWithinOffer before i mw
  no_more before i mw so_far none = record { left = omega (arith, so_far, none); once = λ g. inr none }

  -- an order of a bid that is left
  some_more : (before : List PastBlock) (i mw : ℕ) (taken : Taken) (gated : List ℕ)
      → mw_of before i ≤ (bid_numbered books.bids.bids i).greatest → taken.mw i ≡ mw_of before i
      → is_left books taken i ≡ true
      → All (λ k. has_gate books.links k ≡ true) gated → mw ≤ greatest_left (gate_of gated i) (bid_numbered books.bids.bids i).greatest (taken.mw i) → IsWithinOffer before i mw
  some_more before i mw taken gated so_far same left gates most = by (has_gate books.links i) refl left (gate_of gated i) refl most
    where
      by : (t : Bool) → has_gate books.links i ≡ t → (if t then not (nat_lt 0 (taken.mw i)) else nat_lt 0 ((bid_numbered books.bids.bids i).greatest - taken.mw i)) ≡ true
          → (gate : Option ℕ) → gate_of gated i ≡ gate → mw ≤ greatest_left gate (bid_numbered books.bids.bids i).greatest (taken.mw i) → IsWithinOffer before i mw
      by true g left None e most = let none : taken.mw i ≡ 0 = grind (arith, nat_tests, left) in record { left = omega (arith, most, none, same); once = λ f. inl (omega (arith, none, same)) }
      by true g left (Some k) e most = let none : taken.mw i ≡ 0 = grind (arith, nat_tests, left) in record { left = omega (arith, most, none, same); once = λ f. inl (omega (arith, none, same)) }
      by false g left None e most = record { left = omega (arith, most, so_far, same); once = λ f. let both : true ≡ false = sym f ∙ g in absurd (cc both) }
      by false g left (Some k) e most =
          let at = gate-at gated i k e in
          let both : true ≡ false = sym (rw at.1 at (gates k 0 at.0)) ∙ g in
          absurd (cc both)

  pub within-offer : (before : List PastBlock) (b : PastBlock) → All (IsOwnBlock books ok) before → IsNextBlock books before b → (i : ℕ) → mw_of before i ≤ (bid_numbered books.bids.bids i).greatest
      → IsWithinOffer before i (mw_in_block i b)
  within-offer before b are_own next i so_far = published b.published next.published
    where
      own : (past : PastRun) → IsPastRun books before b.run past → (t : Bool)
          → ((bid_numbered books.bids.bids i).quarter == (run_numbered books b.run).quarter) ≡ t → (u : Bool)
          → is_available books (taken_before books before b.run) (run_numbered books b.run) i ≡ u
          → IsWithinOffer before i (mw_beside i past.bids past.activation.mw)
      own past is false e u f =
          let numbers = own-chosen books (is_available books (taken_before books before b.run) (run_numbered books b.run)) (run_numbered books b.run).quarter past.bids is.bids in
          no_more before i _ so_far (beside-none i past.bids past.activation.mw (λ k d l. differ (get_or past.bids k d) (numbers k d l) e))
        where
          differ : (n : ℕ) → (bid_numbered books.bids.bids n).quarter ≡ (run_numbered books b.run).quarter
              → ((bid_numbered books.bids.bids i).quarter == (run_numbered books b.run).quarter) ≡ false
              → (n == i) ≡ false
          differ n own e = by (n == i) refl
            where
              by : (t : Bool) → (n == i) ≡ t → (n == i) ≡ false
              by false f = f
              by true f =
                  let same : ((bid_numbered books.bids.bids i).quarter == (run_numbered books b.run).quarter) ≡ true =
                  eq-eqb _ _ (ap (λ j. (bid_numbered books.bids.bids j).quarter) (sym (eqb-true n i f)) ∙ own) in
                  let both : true ≡ false = sym same ∙ e in
                  absurd (cc both)
      own past is true e false f =
          let avail : ℕ → Bool = is_available books (taken_before books before b.run) (run_numbered books b.run) in
          let numbers : All (λ n. avail n ≡ true) past.bids = rw is.bids (filter_passes avail (bids_of_quarter books.bids.bids (run_numbered books b.run).quarter)) in
          no_more before i _ so_far (beside-none i past.bids past.activation.mw (λ k d l. differ (get_or past.bids k d) (numbers k d l) f))
        where
          differ : (n : ℕ) → is_available books (taken_before books before b.run) (run_numbered books b.run) n ≡ true
              → is_available books (taken_before books before b.run) (run_numbered books b.run) i ≡ false
              → (n == i) ≡ false
          differ n own f = by (n == i) refl
            where
              by : (t : Bool) → (n == i) ≡ t → (n == i) ≡ false
              by false g = g
              by true g =
                  let both : true ≡ false = sym own ∙ ap (is_available books (taken_before books before b.run) (run_numbered books b.run)) (eqb-true n i g) ∙ f in
                  absurd (cc both)
      own past is true e true f =
          let taken = taken_before books before b.run in
          let run = run_numbered books b.run in
          let avail : ℕ → Bool = is_available books taken run in
          let gated : List ℕ = gated_left books taken b.run in
          let m : Market = market_at books before b.run in
          let state : ℕ → GateState = λ g. if is_open m past.activation g then Open else Closed in
          let order : ℕ → Order = λ k. bid_order (bid_numbered books.bids.bids k) (gate_of gated k) (taken.mw k) in
          let rise : AllPairs (λ i j. i < j) (numbers_of books before b.run) =
          AllPairs-filter (λ i j. i < j) avail (bids_of_quarter books.bids.bids run.quarter) (places-rise (λ (b : Bid). b.quarter == run.quarter) 0 books.bids.bids) in
          let most = beside-most state order i (numbers_of books before b.run) (map demand_order (demands_of_run books.demands.demands b.run)) past.activation.mw rise is.feasible.orders in
          let same : taken.mw i ≡ mw_of before i = mw-own books ok run.quarter i before are_own ∙ rw e refl in
          let may = and_parts (may_run books taken run i) _ f in
          let rest = and_parts _ _ may.0 in
          let left = and_parts (is_left books taken i) _ rest.1 in
          some_more before i _ taken gated so_far same left.0 (filter_passes (has_gate books.links) (numbers_of books before b.run)) (rw is.bids most)

      published : (p : Option PastRun) → IfSome p (IsPastRun books before b.run) → IsWithinOffer before i (option_map_or (λ (r : PastRun). mw_beside i r.bids r.activation.mw) p 0)
      published None is = no_more before i 0 so_far refl
      published (Some past) is =
          own past is ((bid_numbered books.bids.bids i).quarter == (run_numbered books b.run).quarter) refl (is_available books (taken_before books before b.run) (run_numbered books b.run) i) refl

  -- the blocks so far are each of their quarter, and take no more of a bid than its offer
  record KeepsOffers (blocks : List PastBlock) : Type 0 where
    own : All (IsOwnBlock books ok) blocks
    offers : (i : ℕ) → mw_of blocks i ≤ (bid_numbered books.bids.bids i).greatest

  keeps_more : (before : List PastBlock) (b : PastBlock) → IsNextBlock books before b → KeepsOffers before → KeepsOffers (before ++ b ∷ [])
  keeps_more before b next so_far = record {
    own = All-push (IsOwnBlock books ok) before b so_far.own (own-block books ok before b next);
    offers = λ i. rw (sum_by_push (mw_in_block i) before b) (within-offer before b so_far.own next i (so_far.offers i)).left;
  }

  keeps : (blocks : List PastBlock) → AreFirstBlocks books blocks → KeepsOffers blocks
  keeps blocks first = by_blocks books KeepsOffers (record { own = All-nil _; offers = λ i. omega arith }) keeps_more blocks first

  -- no bid is activated above its offer
  pub offers : (blocks : List PastBlock) → AreFirstBlocks books blocks → (i : ℕ) → mw_of blocks i ≤ (bid_numbered books.bids.bids i).greatest
  offers blocks first = (keeps blocks first).offers

  -- and the next block takes nothing of a gated bid that was activated
  pub once : (blocks : List PastBlock) (b : PastBlock) → AreFirstBlocks books blocks → IsNextBlock books blocks b
      → (i : ℕ) → has_gate books.links i ≡ true → (mw_of blocks i ≡ 0) ⊎ (mw_in_block i b ≡ 0)
  once blocks b first next i gated = (within-offer blocks b (keeps blocks first).own next i (offers blocks first i)).once gated
