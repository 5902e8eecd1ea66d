-- What is read off what stands for blocks is what the blocks took.
use Rattle.std.proofs.Common.{◌≡◌, ◌∙◌, ℕ, ◌+◌, ◌-◌, ◌<◌, ◌≤◌, ◌==◌, ℤ, pos, Bool, true, false, cond, if◌then◌else◌, List, [], ◌∷◌, ◌++◌, Option, Some, None, refl, ap, sym, arith, length, get_or, zero-add, inl, inr}
use Rattle.std.specs.Prelude.{is_some, nat_lt, unsigned_abs, unwrap_or}
use Rattle.std.specs.List.{All, range_with_len}
use Rattle.std.specs.Option.{option_map_or}
use Rattle.std.proofs.Math.Path.{fun_ext}
use Rattle.std.proofs.lemmas.Bool.{cases_lt, eqb-true, eq-eqb}
use Rattle.std.proofs.lemmas.Bool.Decides.{nat_tests}
use Rattle.std.proofs.lemmas.List.{get_or_past}
use Rattle.std.proofs.lemmas.List.Elements.{All-filter, All-head, All-map, All-nil, All-push, All-tail, All-weaker}
use Rattle.std.proofs.lemmas.List.FromFn.{get_or-map-range_with_len, length-map-range_with_len}
use Rattle.std.proofs.lemmas.List.Sums.{fold-append, sum_by-cons}
use Rattle.std.proofs.lemmas.List.{length-append}
use Rattle.mari_bids.specs.Bids.{bid_numbered}
use Rattle.mari_remain.specs.declared.books.Books.{Books}
use Rattle.mari_remain.specs.Accepted.{IsAccepted}
use Rattle.mari_remain.specs.Available.{taken_by}
use Rattle.mari_remain.specs.Blocks.{PastBlock, PastRun, flow_in, flow_of, is_activated, mw_in_block, mw_of, of_direct_runs, of_quarter}
use Rattle.mari_remain.specs.FirstBlocks.{AreFirstBlocks, IsNextBlock, Tally, StandsFor, last_published_quarter, taken_in}
use Rattle.mari_remain.specs.Lists.{run_numbered}
use Rattle.mari_remain.proofs.History.{IsOwnBlock, bounded, by_blocks, mw-none, own-blocks}

module _ (books : Books) (ok : IsAccepted books) where
  -- quarters of runs don't fall
  pub quarters-rise : (r s : ℕ) → 1 ≤ r → r ≤ s → s ≤ length books.runs.runs → (run_numbered books r).quarter ≤ (run_numbered books s).quarter
  quarters-rise r s one l last = elim (cases_lt r s) [
    | inl less ↦ (ok.runs.in_order (r - 1) (s - 1) _ (omega (arith, less, one)) (omega (arith, one, l, last))).quarter
    | inr same ↦ (let e : r ≡ s = omega (arith, l, same) in let f = ap (λ n. (run_numbered books n).quarter) e in omega (arith, f))
  ]

  -- the quarter of the last published block is the greatest so far, and no later run has a smaller one
  pub record HasLast (blocks : List PastBlock) : Type 0 where
    pub greatest : All (λ b. is_some b.published ≡ true → b.quarter ≤ unwrap_or (last_published_quarter blocks) 0) blocks
    pub later : (r : ℕ) → length blocks < r → r ≤ length books.runs.runs → unwrap_or (last_published_quarter blocks) 0 ≤ (run_numbered books r).quarter

  pub last-more : (before : List PastBlock) (b : PastBlock) → last_published_quarter (before ++ b ∷ []) ≡ (if is_some b.published then Some b.quarter else last_published_quarter before)
  last-more before b = fold-append (λ last (b : PastBlock). if is_some b.published then Some b.quarter else last) None before (b ∷ [])

  next-last : (before : List PastBlock) (b : PastBlock) → IsNextBlock books before b → HasLast before → HasLast (before ++ b ∷ [])
  next-last before b next so_far = by (is_some b.published) refl
    where
      by : (t : Bool) → is_some b.published ≡ t → HasLast (before ++ b ∷ [])
      by true e =
          let last : last_published_quarter (before ++ b ∷ []) ≡ Some b.quarter = last-more before b ∙ rw e refl in
          let before_it = so_far.later b.run (omega (arith, next.run)) next.there in
          let own = next.quarter in
          record {
            greatest = rw last (All-push (λ a. is_some a.published ≡ true → a.quarter ≤ b.quarter) before b
                (All-weaker (λ a. is_some a.published ≡ true → a.quarter ≤ unwrap_or (last_published_quarter before) 0) (λ a. is_some a.published ≡ true → a.quarter ≤ b.quarter)
                (λ a h there. let most = h there in omega (arith, most, before_it, own)) before so_far.greatest) (λ there. omega arith));
            later = λ r l there. rw last (let rise = quarters-rise b.run r (omega (arith, next.run)) (omega (arith, next.run, l, length-append before (b ∷ []))) there in omega (arith, rise, own));
          }
      by false e =
          let last : last_published_quarter (before ++ b ∷ []) ≡ last_published_quarter before = last-more before b ∙ rw e refl in
          record {
            greatest = rw last (All-push (λ a. is_some a.published ≡ true → a.quarter ≤ unwrap_or (last_published_quarter before) 0) before b so_far.greatest
                (λ there. let both : true ≡ false = sym there ∙ e in absurd (cc both)));
            later = λ r l there. rw last (so_far.later r (omega (arith, l, length-append before (b ∷ []))) there);
          }

  pub has-last : (blocks : List PastBlock) → AreFirstBlocks books blocks → HasLast blocks
  has-last blocks first = by_blocks books HasLast (record { greatest = All-nil _; later = λ r l there. omega arith }) next-last blocks first

  -- what the blocks of the bid's quarter took of a bid is what all took of it
  pub mw-own : (quarter i : ℕ) (blocks : List PastBlock) → All (IsOwnBlock books ok) blocks
      → mw_of (of_quarter quarter blocks) i ≡ (if (bid_numbered books.bids.bids i).quarter == quarter then mw_of blocks i else 0)
  mw-own quarter i [] h = by ((bid_numbered books.bids.bids i).quarter == quarter)
    where
      by : (t : Bool) → let none : ℕ = 0 in none ≡ (if t then none else none)
      by true = refl
      by false = refl
  mw-own quarter i (b ∷ bs) h =
      by (b.quarter == quarter) refl ((bid_numbered books.bids.bids i).quarter == quarter) refl (mw-own quarter i bs (All-tail (IsOwnBlock books ok) b bs h)) (All-head (IsOwnBlock books ok) b bs h)
    where
      by : (s : Bool) → (b.quarter == quarter) ≡ s → (t : Bool)
          → ((bid_numbered books.bids.bids i).quarter == quarter) ≡ t
          → mw_of (of_quarter quarter bs) i ≡ (if t then mw_of bs i else 0) → IsOwnBlock books ok b
          → mw_of (cond s (b ∷ of_quarter quarter bs) (of_quarter quarter bs)) i ≡ (if t then mw_of (b ∷ bs) i else 0)
      by true e true f more own = sum_by-cons (mw_in_block i) b (of_quarter quarter bs) ∙ ap (λ n. mw_in_block i b + n) more ∙ sym (sum_by-cons (mw_in_block i) b bs)
      by true e false f more own =
          let none : mw_in_block i b ≡ 0 = own.bids i (rw (eqb-true b.quarter quarter e) f) in
          sum_by-cons (mw_in_block i) b (of_quarter quarter bs) ∙ omega (arith, none, more)
      by false e true f more own =
          let none : mw_in_block i b ≡ 0 = own.bids i (differ b.quarter quarter (bid_numbered books.bids.bids i).quarter e f) in
          more ∙ sym (sum_by-cons (mw_in_block i) b bs ∙ omega (arith, none))
        where
          differ : (a q n : ℕ) → (a == q) ≡ false → (n == q) ≡ true → (n == a) ≡ false
          differ a q n e f = grind (arith, nat_tests, e, f)
      by false e false f more own = more

  -- no block gives MW to a bid that isn't there
  mw-past : (i : ℕ) (blocks : List PastBlock) → length books.bids.bids ≤ i → All (IsOwnBlock books ok) blocks → mw_of blocks i ≡ 0
  mw-past i blocks past own = mw-none i blocks (All-weaker (IsOwnBlock books ok) (λ b. mw_in_block i b ≡ 0) (λ b h. h.bids i (none b h.quarter)) blocks own)
    where
      none : (b : PastBlock) → 1 ≤ b.quarter → ((bid_numbered books.bids.bids i).quarter == b.quarter) ≡ false
      none b one = rw (get_or_past books.bids.bids i _ past) (zero-not b.quarter one)
        where
          zero-not : (q : ℕ) → 1 ≤ q → (0 == q) ≡ false
          zero-not q one = grind (arith, nat_tests, one)

  -- no published block of a quarter that isn't the last one's, no flow
  quarter-none : (quarter k : ℕ) (blocks : List PastBlock) → All (λ b. (b.quarter == quarter) ≡ true → flow_in k b ≡ pos 0) blocks → flow_of (of_quarter quarter blocks) k ≡ pos 0
  quarter-none quarter k [] h = refl
  quarter-none quarter k (b ∷ bs) h =
      by (b.quarter == quarter) refl (quarter-none quarter k bs (All-tail (λ b. (b.quarter == quarter) ≡ true → flow_in k b ≡ pos 0) b bs h))
      (All-head (λ b. (b.quarter == quarter) ≡ true → flow_in k b ≡ pos 0) b bs h)
    where
      by : (t : Bool) → (b.quarter == quarter) ≡ t → flow_of (of_quarter quarter bs) k ≡ pos 0
          → ((b.quarter == quarter) ≡ true → flow_in k b ≡ pos 0)
          → flow_of (cond t (b ∷ of_quarter quarter bs) (of_quarter quarter bs)) k ≡ pos 0
      by true e more here = rw (here e, more) refl
      by false e more here = more

  module _ (blocks : List PastBlock) (kept : Tally) (stands : StandsFor books blocks kept) where
    pub kept-mw : (i : ℕ) → get_or kept.mw i 0 ≡ mw_of blocks i
    kept-mw i = elim (cases_lt i (length books.bids.bids)) [
      | inl l ↦ ap (λ (ms : List ℕ). get_or ms i 0) stands.mw ∙ get_or-map-range_with_len (mw_of blocks) 0 (length books.bids.bids) i i 0 l (zero-add i)
      | inr past ↦ (get_or_past kept.mw i 0 (rw stands.mw (omega (arith, past, length-map-range_with_len (mw_of blocks) 0 (length books.bids.bids))))
          ∙ sym (mw-past i blocks past (own-blocks books ok blocks stands.first)))
    ]

    pub kept-direct : (i : ℕ) → get_or kept.direct i false ≡ is_activated (of_direct_runs blocks) i
    kept-direct i = elim (cases_lt i (length books.bids.bids)) [
      | inl l ↦ ap (λ (ms : List Bool). get_or ms i false) stands.direct ∙ get_or-map-range_with_len (is_activated (of_direct_runs blocks)) 0 (length books.bids.bids) i i false l (zero-add i)
      | inr past ↦ (get_or_past kept.direct i false (rw stands.direct (omega (arith, past, length-map-range_with_len (is_activated (of_direct_runs blocks)) 0 (length books.bids.bids))))
          ∙ sym (ap (nat_lt 0) (mw-past i (of_direct_runs blocks) past (All-filter (λ (b : PastBlock). b.direct) (IsOwnBlock books ok) blocks (own-blocks books ok blocks stands.first)))))
    ]

    kept-flow : (quarter k : ℕ) → kept.quarter ≡ Some quarter → get_or kept.flow k (pos 0) ≡ flow_of (of_quarter quarter blocks) k
    kept-flow quarter k e =
        let is = rw e at stands.flow in
        elim (cases_lt k (length books.borders.borders)) [
          | inl l ↦ ap (λ (fs : List ℤ). get_or fs k (pos 0)) is ∙ get_or-map-range_with_len (flow_of (of_quarter quarter blocks)) 0 (length books.borders.borders) k k (pos 0) l (zero-add k)
          | inr past ↦ (get_or_past kept.flow k (pos 0) (rw is (omega (arith, past, length-map-range_with_len (flow_of (of_quarter quarter blocks)) 0 (length books.borders.borders))))
              ∙ sym (quarter-none quarter k blocks
              (All-weaker (IsOwnBlock books ok) (λ b. (b.quarter == quarter) ≡ true → flow_in k b ≡ pos 0) (λ b h e. h.flows k past) blocks (own-blocks books ok blocks stands.first))))
        ]

    other-flow : (quarter k : ℕ) → option_map_or (λ last. last == quarter) kept.quarter false ≡ false
        → ((r : ℕ) × (length blocks < r) × (r ≤ length books.runs.runs) × ((run_numbered books r).quarter ≡ quarter))
        → pos 0 ≡ flow_of (of_quarter quarter blocks) k
    other-flow quarter k test (r, l, there, is) =
        let last = has-last blocks stands.first in
        let later = last.later r l there in
        sym (quarter-none quarter k blocks (All-both blocks last.greatest (own-blocks books ok blocks stands.first) later (rw stands.quarter at test)))
      where
        unpublished : (b : PastBlock) (p : Option PastRun) → is_some p ≡ false → option_map_or (λ (r : PastRun). get_or r.activation.flow k (pos 0)) p (pos 0) ≡ pos 0
        unpublished b None e = refl
        unpublished b (Some past) e = cc e

        none : (b : PastBlock) (last : Option ℕ) → (is_some b.published ≡ true → b.quarter ≤ unwrap_or last 0)
            → 1 ≤ b.quarter → unwrap_or last 0 ≤ (run_numbered books r).quarter
            → option_map_or (λ last. last == quarter) last false ≡ false
            → b.quarter ≡ quarter → (t : Bool) → is_some b.published ≡ t → t ≡ false
        none b last most one later test e false f = refl
        none b None most one later test e true f = let m = most f in absurd (omega (arith, m, one))
        none b (Some q) most one later test e true f = let m = most f in let apart = test in absurd (clash q (omega (arith, m, e, later, is)) apart)
          where
            clash : (q : ℕ) → q ≡ quarter → (q == quarter) ≡ false → ⊥
            clash q e f = let both : true ≡ false = sym (eq-eqb q quarter e) ∙ f in cc both

        All-both : (bs : List PastBlock)
            → All (λ b. is_some b.published ≡ true → b.quarter ≤ unwrap_or (last_published_quarter blocks) 0) bs
            → All (IsOwnBlock books ok) bs
            → unwrap_or (last_published_quarter blocks) 0 ≤ (run_numbered books r).quarter
            → option_map_or (λ last. last == quarter) (last_published_quarter blocks) false ≡ false → All (λ b. (b.quarter == quarter) ≡ true → flow_in k b ≡ pos 0) bs
        All-both bs most own later test = λ m d l same.
            let b : PastBlock = get_or bs m d in
            unpublished b b.published (none b (last_published_quarter blocks) (most m d l) (own m d l).quarter later test (eqb-true b.quarter quarter same) (is_some b.published) refl)

    -- flows that are kept stay within 99,999 MW
    pub kept-small : All (λ (flow : ℤ). unsigned_abs flow ≤ 99999) kept.flow
    kept-small = rw stands.flow (All-map (λ (flow : ℤ). unsigned_abs flow ≤ 99999) (flow_of (of_quarter (unwrap_or kept.quarter 0) blocks)) (range_with_len 0 (length books.borders.borders))
        (λ k d l. bounded books ok blocks stands.first (unwrap_or kept.quarter 0) (get_or (range_with_len 0 (length books.borders.borders)) k d)))

    -- and there is a number of MW for each bid
    pub kept-mws : length kept.mw ≡ length books.bids.bids
    kept-mws = ap length stands.mw ∙ length-map-range_with_len (mw_of blocks) 0 (length books.bids.bids)

    the_quarter : (quarter : ℕ) (o : Option ℕ) → option_map_or (λ last. last == quarter) o false ≡ true → o ≡ Some quarter
    the_quarter quarter None e = cc e
    the_quarter quarter (Some q) e = ap Some (eqb-true q quarter e)

    flow_is : (quarter k : ℕ)
        → ((r : ℕ) × (length blocks < r) × (r ≤ length books.runs.runs) × ((run_numbered books r).quarter ≡ quarter))
        → (t : Bool) → option_map_or (λ last. last == quarter) kept.quarter false ≡ t
        → (if t then get_or kept.flow k (pos 0) else pos 0) ≡ flow_of (of_quarter quarter blocks) k
    flow_is quarter k later true e = kept-flow quarter k (the_quarter quarter kept.quarter e)
    flow_is quarter k later false e = other-flow quarter k e later

    -- the flows of the quarter of a later run, as they are read off
    pub flow-before : (quarter k r : ℕ) → length blocks < r → r ≤ length books.runs.runs → (run_numbered books r).quarter ≡ quarter
        → (if option_map_or (λ last. last == quarter) kept.quarter false then get_or kept.flow k (pos 0) else pos 0) ≡ flow_of (of_quarter quarter blocks) k
    flow-before quarter k r l there is = flow_is quarter k (r, l, there, is) (option_map_or (λ last. last == quarter) kept.quarter false) refl

    -- for a later run
    pub same-taken : (run : ℕ) → length blocks < run → run ≤ length books.runs.runs → taken_in books kept (run_numbered books run).quarter ≡ taken_by blocks (run_numbered books run).quarter
    same-taken run later there =
        let quarter = (run_numbered books run).quarter in
        let own = own-blocks books ok blocks stands.first in
        let mws = fun_ext (λ i. ap (λ n. if (bid_numbered books.bids.bids i).quarter == quarter then n else 0) (kept-mw i) ∙ sym (mw-own quarter i blocks own)) in
        let activated = fun_ext (λ i. ap (nat_lt 0) (kept-mw i)) in
        let direct = fun_ext kept-direct in
        let flows = fun_ext (λ k. flow-before quarter k run later there refl) in
        λ i. record { mw = mws i; activated = activated i; by_direct_run = direct i; flow = flows i }
