-- What holds of the blocks of the first runs: which bids they name, how far flows go, and that quarters don't fall.
use Rattle.std.proofs.Common.{◌≡◌, ◌∙◌, ℕ, zero, suc, ◌-◌, ◌<◌, ◌≤◌, ◌==◌, ℤ, pos, negsuc, Bool, true, false, cond, if◌then◌else◌, List, [], ◌∷◌, ◌++◌, Option, Some, None, refl, ap, sym, subst, arith, length, get_or, take, zero-add, inl, inr}
use Rattle.std.specs.Prelude.{neg_ℤ, ◌+ℤ◌, ◌-ℤ◌, ◌≤ℤ◌, IfSome, unsigned_abs}
use Rattle.std.specs.List.{All}
use Rattle.std.specs.Option.{option_map_or}
use Rattle.std.proofs.lemmas.Bool.{cases_lt, eqb-true, eq-eqb}
use Rattle.std.proofs.lemmas.Int.{ints}
use Rattle.std.proofs.lemmas.List.{get_or_past}
use Rattle.std.proofs.lemmas.List.Elements.{All-head, All-nil, All-push, All-tail, filter-append}
use Rattle.std.proofs.lemmas.List.FromFn.{get_or-map-range_with_len, length-map-range_with_len}
use Rattle.std.proofs.lemmas.List.Sums.{sum_by-cons}
use Rattle.std.proofs.lemmas.Option.{slice_get-get_or}
use Rattle.std.proofs.lemmas.Slice.Zip.{AllZip-long}
use Rattle.std.proofs.Math.Seq.{take-length, take-suc}
use Rattle.mari_bids.specs.Bids.{bid_numbered}
use Rattle.mari_market.specs.Activation.{IsWithinLimits}
use Rattle.mari_market.specs.Sums.{int_sum}
use Rattle.mari_market.specs.declared.market.Border.{Border}
use Rattle.mari_market.proofs.Sums.{AllZip-at}
use Rattle.mari_remain.specs.declared.books.Books.{Books}
use Rattle.mari_remain.specs.Accepted.{IsAccepted}
use Rattle.mari_remain.specs.Available.{is_available}
use Rattle.mari_remain.specs.Blocks.{PastBlock, PastRun, flow_in, flow_of, mw_beside, mw_in_block, mw_of, of_quarter}
use Rattle.mari_remain.specs.FirstBlocks.{AreFirstBlocks, IsNextBlock, IsPastRun}
use Rattle.mari_remain.specs.Lists.{run_numbered}
use Rattle.mari_remain.specs.RunMarket.{at_least_0, border_left, ends_at, market_at, run_limits, taken_before}
use Rattle.mari_remain.proofs.Choosing.{own-chosen}
use Rattle.mari_remain.proofs.Validity.{in_range}

-- a block, where there is none
abbrev pub no_block : PastBlock
no_block = record { run = 0; quarter = 0; direct = false; published = None }

-- what holds of no blocks, and of one block more, holds of the blocks of the first runs
pub by_blocks : (books : Books) (P : List PastBlock → Type 0) → P [] → ((before : List PastBlock) (b : PastBlock) → IsNextBlock books before b → P before → P (before ++ b ∷ []))
    → (blocks : List PastBlock) → AreFirstBlocks books blocks → P blocks
by_blocks books P none more blocks first = subst P (take-length blocks) (up (length blocks) (omega arith))
  where
    up : (k : ℕ) → k ≤ length blocks → P (take k blocks)
    up zero l = none
    up (suc k) l =
        let here : k < length blocks = omega (arith, l) in
        subst P (sym (take-suc blocks k no_block here))
        (more (take k blocks) (get_or blocks k no_block) (first k (get_or blocks k no_block) (slice_get-get_or blocks k no_block here)) (up k (omega (arith, l))))

-- a sum over one list after another
int_sum-append : {X : Type 0} (f : X → ℤ) (xs ys : List X) → int_sum f (xs ++ ys) ≡ int_sum f xs +ℤ int_sum f ys
int_sum-append f [] ys = omega (arith, ints)
int_sum-append f (x ∷ xs) ys = let more = int_sum-append f xs ys in omega (arith, ints, more)

-- a bid that isn't among the numbers has no MW beside them
pub beside-none : (i : ℕ) (ns qs : List ℕ) → All (λ n. (n == i) ≡ false) ns → mw_beside i ns qs ≡ 0
beside-none i [] qs h = refl
beside-none i (n ∷ ns) [] h = refl
beside-none i (n ∷ ns) (q ∷ qs) h = rw (All-head (λ n. (n == i) ≡ false) n ns h, beside-none i ns qs (All-tail (λ n. (n == i) ≡ false) n ns h)) refl

-- a sum of nothing
pub mw-none : (i : ℕ) (blocks : List PastBlock) → All (λ b. mw_in_block i b ≡ 0) blocks → mw_of blocks i ≡ 0
mw-none i [] h = refl
mw-none i (b ∷ bs) h = sum_by-cons (mw_in_block i) b bs ∙ rw (All-head (λ b. mw_in_block i b ≡ 0) b bs h, mw-none i bs (All-tail (λ b. mw_in_block i b ≡ 0) b bs h)) refl

module _ (books : Books) (ok : IsAccepted books) where
  -- a block that gives MW to bids of its quarter alone, which is one of the day, and flows to borders that are there
  pub record IsOwnBlock (b : PastBlock) : Type 0 where
    pub quarter : 1 ≤ b.quarter
    pub bids : (i : ℕ) → ((bid_numbered books.bids.bids i).quarter == b.quarter) ≡ false → mw_in_block i b ≡ 0
    pub flows : (k : ℕ) → length books.borders.borders ≤ k → flow_in k b ≡ pos 0

  entry : (before : List PastBlock) (b : PastBlock) → IsNextBlock books before b → 1 ≤ (run_numbered books b.run).quarter
  entry before b next = (ok.runs.runs (b.run - 1) _ (omega (arith, next.run, next.there))).first_quarter

  pub own-block : (before : List PastBlock) (b : PastBlock) → IsNextBlock books before b → IsOwnBlock b
  own-block before b next = record { quarter = rw next.quarter (entry before b next); bids = bids b.published refl; flows = flows b.published refl }
    where
      differs : (n i : ℕ) → (bid_numbered books.bids.bids n).quarter ≡ b.quarter → ((bid_numbered books.bids.bids i).quarter == b.quarter) ≡ false → (n == i) ≡ false
      differs n i own other = by (n == i) refl
        where
          by : (t : Bool) → (n == i) ≡ t → (n == i) ≡ false
          by false e = e
          by true e =
              let same : ((bid_numbered books.bids.bids i).quarter == b.quarter) ≡ true =
              eq-eqb (bid_numbered books.bids.bids i).quarter b.quarter (ap (λ j. (bid_numbered books.bids.bids j).quarter) (sym (eqb-true n i e)) ∙ own) in
              let both : true ≡ false = sym same ∙ other in
              absurd (cc both)

      bids : (p : Option PastRun) → b.published ≡ p → (i : ℕ)
          → ((bid_numbered books.bids.bids i).quarter == b.quarter) ≡ false
          → option_map_or (λ (r : PastRun). mw_beside i r.bids r.activation.mw) p 0 ≡ 0
      bids None e i other = refl
      bids (Some past) e i other =
          let is : IsPastRun books before b.run past = subst (λ (o : Option PastRun). IfSome o (IsPastRun books before b.run)) e next.published in
          let taken = taken_before books before b.run in
          let own = own-chosen books (is_available books taken (run_numbered books b.run)) (run_numbered books b.run).quarter past.bids is.bids in
          beside-none i past.bids past.activation.mw (λ k d l. differs (get_or past.bids k d) i (own k d l ∙ sym next.quarter) other)

      flows : (p : Option PastRun) → b.published ≡ p → (k : ℕ) → length books.borders.borders ≤ k → option_map_or (λ (r : PastRun). get_or r.activation.flow k (pos 0)) p (pos 0) ≡ pos 0
      flows None e k l = refl
      flows (Some past) e k l =
          let is : IsPastRun books before b.run past = subst (λ (o : Option PastRun). IfSome o (IsPastRun books before b.run)) e next.published in
          let long = AllZip-long _ (market_at books before b.run).borders past.activation.flow is.feasible.borders in
          let all =
          length-map-range_with_len (λ j. border_left (ends_at books.borders.borders j) (run_limits books b.run j) ((taken_before books before b.run).flow j)) 0 (length books.borders.borders) in
          get_or_past past.activation.flow k (pos 0) (omega (arith, long, all, l))

  pub own-blocks : (blocks : List PastBlock) → AreFirstBlocks books blocks → All IsOwnBlock blocks
  own-blocks blocks first = by_blocks books (All IsOwnBlock) (All-nil IsOwnBlock) (λ before b next so_far. All-push IsOwnBlock before b so_far (own-block before b next)) blocks first

-- a flow within what is left of limits, after a flow, keeps their sum within 99,999
flow-within : (flow more left back : ℤ) (limit after : ℕ) → left ≡ pos limit -ℤ flow → back ≡ pos after +ℤ flow → limit ≤ 99999 → after ≤ 99999 → unsigned_abs flow ≤ 99999
    → neg_ℤ (pos (at_least_0 back)) ≤ℤ more → more ≤ℤ pos (at_least_0 left) → unsigned_abs (flow +ℤ more) ≤ 99999
flow-within flow more (pos n) (pos m) limit after e f l b small low high = omega (arith, ints, e, f, l, b, small, low, high)
flow-within flow more (pos n) (negsuc m) limit after e f l b small low high = omega (arith, ints, e, f, l, b, small, low, high)
flow-within flow more (negsuc n) (pos m) limit after e f l b small low high = omega (arith, ints, e, f, l, b, small, low, high)
flow-within flow more (negsuc n) (negsuc m) limit after e f l b small low high = omega (arith, ints, e, f, l, b, small, low, high)

-- the flows of one block more
pub flow-more : (k quarter : ℕ) (before : List PastBlock) (b : PastBlock)
    → flow_of (of_quarter quarter (before ++ b ∷ [])) k ≡ flow_of (of_quarter quarter before) k +ℤ (if b.quarter == quarter then flow_in k b else pos 0)
flow-more k quarter before b =
    ap (λ bs. flow_of bs k) (filter-append (λ (b : PastBlock). b.quarter == quarter) before (b ∷ [])) ∙ int_sum-append (flow_in k)
    (of_quarter quarter before) (cond (b.quarter == quarter) (b ∷ []) []) ∙ ap (λ v. flow_of (of_quarter quarter before) k +ℤ v)
    (one (b.quarter == quarter))
  where
    one : (t : Bool) → int_sum (flow_in k) (cond t (b ∷ []) []) ≡ (if t then flow_in k b else pos 0)
    one true = omega (arith, ints)
    one false = refl

module _ (books : Books) (ok : IsAccepted books) where
  bounded-more : (before : List PastBlock) (b : PastBlock) → IsNextBlock books before b → ((quarter k : ℕ) → unsigned_abs (flow_of (of_quarter quarter before) k) ≤ 99999)
      → (quarter k : ℕ) → unsigned_abs (flow_of (of_quarter quarter (before ++ b ∷ [])) k) ≤ 99999
  bounded-more before b next so_far quarter k = rw (flow-more k quarter before b) (by (b.quarter == quarter) refl)
    where
      inside : (past : PastRun) → IsPastRun books before b.run past → b.quarter ≡ quarter → k < length books.borders.borders
          → unsigned_abs (flow_of (of_quarter quarter before) k +ℤ get_or past.activation.flow k (pos 0)) ≤ 99999
      inside past is e l =
          let taken = taken_before books before b.run in
          let left : ℕ → Border = λ j. border_left (ends_at books.borders.borders j) (run_limits books b.run j) (taken.flow j) in
          let own : left k ≡ get_or (market_at books before b.run).borders k (left k) = sym (get_or-map-range_with_len left 0 (length books.borders.borders) k k (left k) l (zero-add k)) in
          let within : IsWithinLimits (left k) (get_or past.activation.flow k (pos 0)) =
          subst (λ (x : Border). IsWithinLimits x (get_or past.activation.flow k (pos 0))) (sym own)
          (AllZip-at IsWithinLimits (market_at books before b.run).borders past.activation.flow k (left k) (pos 0)
          (omega (arith, l, length-map-range_with_len left 0 (length books.borders.borders))) is.feasible.borders) in
          let fits = in_range books books.limits b.run k ok.limits (ok.borders.borders k _ l) in
          let same : (run_numbered books b.run).quarter ≡ quarter = sym next.quarter ∙ e in
          let small = so_far quarter k in
          flow-within (flow_of (of_quarter quarter before) k) (get_or past.activation.flow k (pos 0))
          (pos (run_limits books b.run k).limit -ℤ flow_of (of_quarter quarter before) k)
          (pos (run_limits books b.run k).back +ℤ flow_of (of_quarter quarter before) k)
          (run_limits books b.run k).limit (run_limits books b.run k).back refl refl fits.0 fits.1 small (rw same at within.back) (rw same at within.limit)

      published : (p : Option PastRun) → IfSome p (IsPastRun books before b.run) → b.quarter ≡ quarter
          → unsigned_abs (flow_of (of_quarter quarter before) k +ℤ option_map_or (λ (r : PastRun). get_or r.activation.flow k (pos 0)) p (pos 0)) ≤ 99999
      published None is e = let small = so_far quarter k in omega (arith, ints, small)
      published (Some past) is e = elim (cases_lt k (length books.borders.borders)) [
        | inl l ↦ inside past is e l
        | inr far ↦ (
            let long = AllZip-long _ (market_at books before b.run).borders past.activation.flow is.feasible.borders in
            let all =
            length-map-range_with_len (λ j. border_left (ends_at books.borders.borders j) (run_limits books b.run j) ((taken_before books before b.run).flow j)) 0 (length books.borders.borders) in
            let none : get_or past.activation.flow k (pos 0) ≡ pos 0 = get_or_past past.activation.flow k (pos 0) (omega (arith, long, all, far)) in
            let small = so_far quarter k in
            rw none (omega (arith, ints, small)))
      ]

      by : (t : Bool) → (b.quarter == quarter) ≡ t → unsigned_abs (flow_of (of_quarter quarter before) k +ℤ (if t then flow_in k b else pos 0)) ≤ 99999
      by true e = published b.published next.published (eqb-true b.quarter quarter e)
      by false e = let small = so_far quarter k in omega (arith, ints, small)

  -- the sum of a border's flows in a quarter stays within 99,999 MW
  pub bounded : (blocks : List PastBlock) → AreFirstBlocks books blocks → (quarter k : ℕ) → unsigned_abs (flow_of (of_quarter quarter blocks) k) ≤ 99999
  bounded blocks first = by_blocks books (λ bs. (quarter k : ℕ) → unsigned_abs (flow_of (of_quarter quarter bs) k) ≤ 99999) (λ quarter k. omega arith) bounded-more blocks first
