-- What stands for blocks stands for one more after it is added.
use Rattle.std.proofs.Common.{◌≡◌, ◌∙◌, ℕ, ◌+◌, ◌<◌, ◌≤◌, ◌==◌, ℤ, pos, Bool, true, false, cond, if◌then◌else◌, List, [], ◌∷◌, ◌++◌, Some, None, refl, ap, sym, subst, arith, length, get_or, map, take, inl, inr}
use Rattle.std.specs.Prelude.{◌+ℤ◌, ◌&&◌, ◌||◌, is_some, nat_lt, slice_get, unsigned_abs, unwrap_or}
use Rattle.std.specs.List.{All, range_with_len}
use Rattle.std.specs.Option.{option_map_or}
use Rattle.std.proofs.Math.Seq.{take-length}
use Rattle.std.proofs.Math.Path.{fun_ext}
use Rattle.std.proofs.lemmas.Bool.{cases_lt, eq-eqb}
use Rattle.std.proofs.lemmas.Bool.Decides.{nat_tests}
use Rattle.std.proofs.lemmas.Int.{ints}
use Rattle.std.proofs.lemmas.List.{append-nil, get_or_past, length-append, length-map, take-append-le}
use Rattle.std.proofs.lemmas.List.Elements.{All-filter, All-weaker, filter-append}
use Rattle.std.proofs.lemmas.List.FromFn.{fill_by_all, length-map-range_with_len}
use Rattle.std.proofs.lemmas.List.Sums.{sum_by_push}
use Rattle.std.proofs.lemmas.Option.{slice_get_within}
use Rattle.mari_bids.specs.Bids.{bid_numbered}
use Rattle.mari_remain.specs.declared.books.Books.{Books}
use Rattle.mari_remain.specs.Accepted.{IsAccepted}
use Rattle.mari_remain.specs.Blocks.{PastBlock, flow_in, flow_of, is_activated, mw_beside, mw_in_block, mw_of, of_direct_runs, of_quarter}
use Rattle.mari_remain.specs.FirstBlocks.{AreFirstBlocks, IsKeptAfter, IsNextBlock, IsPastRun, Tally, StandsFor, block_of}
use Rattle.mari_remain.proofs.History.{bounded, flow-more, own-blocks}
use Rattle.mari_remain.proofs.Standing.{flow-before, kept-direct, kept-mw, last-more}
use Rattle.mari_remain.specs.Lists.{bids_of_quarter, run_numbered}
use Rattle.mari_remain.specs.RunMarket.{bid_order, border_left, demand_order, demands_of_run, ends_at, gate_of, gated_left, market_at, numbers_of, run_limits, run_market_of, taken_before}
use Rattle.mari_remain.specs.declared.market.RunMarket.{RunMarket}
use Rattle.mari_remain.specs.Available.{is_available}
use Rattle.mari_remain.proofs.Choosing.{IsOwn, own-numbers}
use Rattle.mari_remain.proofs.Offers.{offers, within-offer}
use Rattle.mari_market.specs.Optimal.{IsFeasible}
use Rattle.mari_market.specs.declared.activation.Activation.{Activation}
use Rattle.std.proofs.lemmas.Slice.Zip.{AllZip-long}
use Rattle.mari_units.proofs.Lists.{get_front, get_seam}

module _ (books : Books) (ok : IsAccepted books) (blocks : List PastBlock) (b : PastBlock) (next : IsNextBlock books blocks b) where
  -- one more of the first blocks
  pub first-more : AreFirstBlocks books blocks → AreFirstBlocks books (blocks ++ b ∷ [])
  first-more first k x e = elim (cases_lt k (length blocks)) [
    | inl l ↦ rw (take-append-le k blocks (b ∷ []) (omega (arith, l))) (first k x (sym (get_front blocks (b ∷ []) k l) ∙ e))
    | inr past ↦ (
        let within = slice_get_within (blocks ++ b ∷ []) k x e in
        let last : k ≡ length blocks = omega (arith, past, within, length-append blocks (b ∷ [])) in
        let here : slice_get (blocks ++ b ∷ []) (length blocks) ≡ Some x = rw last at e in
        let same : Some b ≡ Some x = sym (get_seam blocks [] b) ∙ here in
        let is : b ≡ x = cc same in
        let whole : take k (blocks ++ b ∷ []) ≡ blocks = ap (λ n. take n (blocks ++ b ∷ [])) last ∙ take-append-le (length blocks) blocks (b ∷ []) (omega arith) ∙ take-length blocks in
        rw (whole, sym is) next)
  ]

  -- the marks of direct runs, with one more
  direct-more : (i : ℕ) → is_activated (of_direct_runs (blocks ++ b ∷ [])) i ≡ (is_activated (of_direct_runs blocks) i || (b.direct && nat_lt 0 (mw_in_block i b)))
  direct-more i = ap (λ bs. is_activated bs i) (filter-append (λ (b : PastBlock). b.direct) blocks (b ∷ [])) ∙ by b.direct
    where
      by : (t : Bool) → is_activated (of_direct_runs blocks ++ cond t (b ∷ []) []) i ≡ (is_activated (of_direct_runs blocks) i || (t && nat_lt 0 (mw_in_block i b)))
      by true = ap (nat_lt 0) (sum_by_push (mw_in_block i) (of_direct_runs blocks) b) ∙ grind (arith, nat_tests)
      by false = ap (λ bs. is_activated bs i) (append-nil (of_direct_runs blocks)) ∙ grind (arith, nat_tests)

  module _ (kept after : Tally) (stands : StandsFor books blocks kept) where
    -- a published block that is added
    pub after-stands : is_some b.published ≡ true → IsKeptAfter b kept after → StandsFor books (blocks ++ b ∷ []) after
    after-stands published is = record {
      first = first-more stands.first;
      mw = fill_by_all (mw_of (blocks ++ b ∷ [])) after.mw (length books.bids.bids) 0 (is.mws ∙ ap length stands.mw ∙ length-map-range_with_len (mw_of blocks) 0 (length books.bids.bids))
          (λ i l. is.mw i ∙ ap (λ n. n + mw_in_block i b) (kept-mw books ok blocks kept stands i) ∙ sym (sum_by_push (mw_in_block i) blocks b));
      direct =
          fill_by_all (is_activated (of_direct_runs (blocks ++ b ∷ []))) after.direct (length books.bids.bids) false
          (is.marks ∙ ap length stands.direct ∙ length-map-range_with_len (is_activated (of_direct_runs blocks)) 0 (length books.bids.bids))
          (λ i l. is.direct i ∙ ap (λ t. t || (b.direct && nat_lt 0 (mw_in_block i b))) (kept-direct books ok blocks kept stands i) ∙ sym (direct-more i));
      quarter = is.quarter ∙ sym (last-more books ok blocks b ∙ rw published refl);
      flow = rw is.quarter (fill_by_all (flow_of (of_quarter b.quarter (blocks ++ b ∷ []))) after.flow (length books.borders.borders) (pos 0)
          (is.flows ∙ ap length stands.flow ∙ length-map-range_with_len (flow_of (of_quarter (unwrap_or kept.quarter 0) blocks)) 0 (length books.borders.borders))
          (λ k l. is.flow k ∙ ap (λ v. v +ℤ flow_in k b) (flow-before books ok blocks kept stands b.quarter k b.run (omega (arith, next.run)) next.there (sym next.quarter))
          ∙ sym (flow-more k b.quarter blocks b ∙ rw (eq-eqb b.quarter b.quarter refl) refl)));
      of_quarter = is.of_quarter ∙ stands.of_quarter;
      of_run = is.of_run ∙ stands.of_run;
    }

    -- an unpublished block changes nothing
    pub nothing-more : b.published ≡ None → StandsFor books (blocks ++ b ∷ []) kept
    nothing-more none =
        let no_mw : (i : ℕ) → mw_in_block i b ≡ 0 = λ i. rw none refl in
        let no_flow : (k : ℕ) → flow_in k b ≡ pos 0 = λ k. rw none refl in
        record {
          first = first-more stands.first;
          mw = stands.mw ∙ ap (λ (f : ℕ → ℕ). map f (range_with_len 0 (length books.bids.bids))) (fun_ext (λ i. sym (sum_by_push (mw_in_block i) blocks b ∙ rw (no_mw i) (omega arith))));
          direct = stands.direct ∙ ap (λ (f : ℕ → Bool). map f (range_with_len 0 (length books.bids.bids)))
              (fun_ext (λ i. sym (direct-more i ∙ rw (no_mw i) (none-marked (is_activated (of_direct_runs blocks) i) b.direct))));
          quarter = stands.quarter ∙ sym (last-more books ok blocks b ∙ rw none refl);
          flow = stands.flow ∙ ap (λ (f : ℕ → ℤ). map f (range_with_len 0 (length books.borders.borders))) (fun_ext (λ k. sym
              (flow-more k (unwrap_or kept.quarter 0) blocks b ∙ rw (no_flow k) (none-flows (b.quarter == unwrap_or kept.quarter 0) (flow_of (of_quarter (unwrap_or kept.quarter 0) blocks) k)))));
          of_quarter = stands.of_quarter;
          of_run = stands.of_run;
        }
      where
        none-marked : (t d : Bool) → (t || (d && nat_lt 0 0)) ≡ t
        none-marked true d = refl
        none-marked false true = refl
        none-marked false false = refl

        none-flows : (t : Bool) (v : ℤ) → v +ℤ (if t then pos 0 else pos 0) ≡ v
        none-flows true v = omega (arith, ints)
        none-flows false v = omega (arith, ints)

-- what is asked where a block is added
pub record CanAdd (books : Books) (kept : Tally) (quarter : ℕ) (bids : List ℕ) (a : Activation) : Type 0 where
  pub mws : length kept.mw ≡ length books.bids.bids
  pub marks : length kept.direct ≡ length books.bids.bids
  pub there : All (λ i. i < length books.bids.bids) bids
  pub long : length bids ≤ length a.mw
  pub small : (i : ℕ) → get_or kept.mw i 0 + mw_beside i bids a.mw ≤ 9999
  pub flows : length a.flow ≡ length kept.flow
  pub flow : (k : ℕ) → unsigned_abs ((if option_map_or (λ last. last == quarter) kept.quarter false then get_or kept.flow k (pos 0) else pos 0) +ℤ get_or a.flow k (pos 0)) ≤ 99999

module _ (books : Books) (ok : IsAccepted books) (blocks : List PastBlock) (kept : Tally) (run : ℕ) (made : RunMarket) (a : Activation)
    (stands : StandsFor books blocks kept) (is_next : run ≡ length blocks + 1) (last : run ≤ length books.runs.runs) (made_is : made ≡ run_market_of books blocks run)
    (feasible : IsFeasible made.market a) where
  is_past : IsPastRun books blocks run (record { bids = made.bids; activation = a })
  is_past = record {
    bids = ap (λ (r : RunMarket). r.bids) made_is;
    feasible = let P : RunMarket → Type 0 = λ r. IsFeasible r.market a in subst P made_is feasible;
  }

  pub next-block : IsNextBlock books blocks (block_of books run made.bids a)
  next-block = record { run = is_next; there = last; quarter = refl; direct = refl; published = is_past }

  most : (i : ℕ) → (bid_numbered books.bids.bids i).greatest ≤ 9999
  most i = elim (cases_lt i (length books.bids.bids)) [
    | inl l ↦ (ok.bids.bids i _ l).most
    | inr past ↦ rw (get_or_past books.bids.bids i _ past) (omega arith)
  ]

  pub can-add : CanAdd books kept (run_numbered books run).quarter made.bids a
  can-add =
      let run_of = run_numbered books run in
      let avail : ℕ → Bool = is_available books (taken_before books blocks run) run_of in
      let next = next-block in
      let own = own-numbers books run_of.quarter in
      let orders = AllZip-long _ (market_at books blocks run).orders a.mw is_past.feasible.orders in
      let borders = AllZip-long _ (market_at books blocks run).borders a.flow is_past.feasible.borders in
      record {
        mws = ap length stands.mw ∙ length-map-range_with_len (mw_of blocks) 0 (length books.bids.bids);
        marks = ap length stands.direct ∙ length-map-range_with_len (is_activated (of_direct_runs blocks)) 0 (length books.bids.bids);
        there = rw is_past.bids (All-filter avail (λ i. i < length books.bids.bids) (bids_of_quarter books.bids.bids run_of.quarter)
            (All-weaker (IsOwn books run_of.quarter) (λ i. i < length books.bids.bids) (λ i h. h.there) (bids_of_quarter books.bids.bids run_of.quarter) own));
        long = rw is_past.bids (omega (
          arith,
          orders,
          length-append (map (λ i. bid_order (bid_numbered books.bids.bids i) (gate_of (gated_left books (taken_before books blocks run) run) i) ((taken_before books blocks run).mw i))
              (numbers_of books blocks run)) (map demand_order (demands_of_run books.demands.demands run)),
          length-map (numbers_of books blocks run)
              (λ i. bid_order (bid_numbered books.bids.bids i) (gate_of (gated_left books (taken_before books blocks run) run) i) ((taken_before books blocks run).mw i)),
        ));
        small = λ i. rw (kept-mw books ok blocks kept stands i) (let left = (within-offer books ok blocks (block_of books run made.bids a) (own-blocks books ok blocks stands.first) next i
            (offers books ok blocks stands.first i)).left in omega (arith, left, most i));
        flows =
            borders ∙ length-map-range_with_len
            (λ k. border_left (ends_at books.borders.borders k) (run_limits books run k) ((taken_before books blocks run).flow k)) 0
            (length books.borders.borders)
            ∙ sym (ap length stands.flow ∙ length-map-range_with_len (flow_of (of_quarter (unwrap_or kept.quarter 0) blocks)) 0 (length books.borders.borders));
        flow = λ k.
            let sum : flow_of (of_quarter run_of.quarter (blocks ++ block_of books run made.bids a ∷ [])) k ≡ flow_of (of_quarter run_of.quarter blocks) k +ℤ get_or a.flow k (pos 0) =
            flow-more k run_of.quarter blocks (block_of books run made.bids a) ∙ rw (eq-eqb run_of.quarter run_of.quarter refl) refl in
            rw (flow-before books ok blocks kept stands run_of.quarter k run (omega (arith, is_next)) last refl, sym sum)
            (bounded books ok (blocks ++ block_of books run made.bids a ∷ []) (first-more books ok blocks (block_of books run made.bids a) next stands.first) run_of.quarter k);
      }
