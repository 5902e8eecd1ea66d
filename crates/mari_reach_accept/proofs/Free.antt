-- A printed block has none of the faults.
use Rattle.std.proofs.Common.{◌≡◌, ◌≤◌, ◌<◌, ◌==◌, ℕ, pos, List, [], ◌∷◌, Option, length, map, sym, subst, refl, ap, arith}
use Rattle.std.specs.List.{All, AllByRecursion, AllPairs}
use Rattle.std.proofs.lemmas.List.{length-map}
use Rattle.std.proofs.lemmas.List.Elements.{All-filter, All-weaker}
use Rattle.std.proofs.lemmas.List.Kept.{AllPairs-filter}
use Rattle.mari_units.specs.declared.numbers.Cents.{Cents}
use Rattle.mari_bids.specs.declared.bids.Bid.{Bid}
use Rattle.mari_links.specs.Links.{has_gate}
use Rattle.mari_market.specs.declared.market.Market.{Market}
use Rattle.mari_market.specs.Activation.{welfare_of}
use Rattle.mari_publish.specs.declared.publication.Block.{Block}
use Rattle.mari_remain.specs.Accepted.{IsAccepted}
use Rattle.mari_remain.specs.Available.{Taken, is_available}
use Rattle.mari_remain.specs.Lists.{bids_of_quarter, run_numbered}
use Rattle.mari_remain.specs.RunMarket.{gate_at, gated_left, numbers_left, run_market_left, taken_before}
use Rattle.mari_remain.specs.declared.books.Books.{Books}
use Rattle.mari_remain.specs.declared.market.RunMarket.{RunMarket}
use Rattle.mari_remain.proofs.Places.{IsPlace, places-rise, places-within}
use Rattle.mari_progress.specs.After.{also_after, before_of, market_after, run_after}
use Rattle.mari_progress.specs.Reported.{activation_of}
use Rattle.mari_check.specs.declared.fault.Fault.{Fault}
use Rattle.mari_check.specs.declared.fault.Fault.TheVariants as fault
use Rattle.mari_reach.specs.declared.decisions.Decision.{Decision}
use Rattle.mari_reach.specs.declared.decisions.ReachItem.{ReachItem}
use Rattle.mari_reach.specs.declared.decisions.ReachLeaf.{ReachLeaf}
use Rattle.mari_reach.specs.Leaf.{ReachLeafHolds}
use Rattle.mari_reach.specs.Tree.{ArePartsOf, ReachHolds}
use Rattle.mari_reached.specs.Answer.{IsAnswer}
use Rattle.mari_reached.specs.declared.answer.Found.{Found}
use Rattle.mari_reach_lines.specs.declared.line.Claim.{Claim}
use Rattle.mari_reach_lines.specs.declared.line.Claim.TheVariants.{First, Within}
use Rattle.mari_reach_text.specs.Numbers.{IsNumbered, gated_of}
use Rattle.mari_reach_check.specs.Day.{IsReachFreeIn, all_printed}
use Rattle.mari_reach_check.specs.Faults.{IsReachFreeOf, cutoff_of, word_claimed}
use Rattle.mari_reach_day.specs.declared.block.ReachBlock.{ReachBlock}
use Rattle.mari_reach_day.specs.Reach.{IsReachBlock, IsReachOf, answered, block_of, blocks_of, found_in}
use Rattle.mari_reach_day.proofs.Blocks.{admissible, items}
use Rattle.mari_reach_accept.specs.Named.{all_named, named_item, named_of}
use Rattle.mari_reach_accept.proofs.Names.{IsItemAmong, any_parts, items_among, numbered}

-- what an answer says of its welfare and of its tree, as the checker asks it
pub welfare_is : (m : Market) (budget : ℕ) (claim : Claim) (f : Found) → IsAnswer m budget (answered claim f) → welfare_of m f.activation ≡ pos f.welfare
welfare_is m budget First f is = is.welfare
welfare_is m budget (Within gap) f is = is.welfare

pub holding : (m : Market) (budget : ℕ) (claim : Claim) (f : Found) → IsAnswer m budget (answered claim f) → ReachHolds m (cutoff_of f.welfare claim) (word_claimed m f.activation claim) f.tree
holding m budget First f is = is.tree
holding m budget (Within gap) f is = is.tree

-- a leaf holds as the checker asks it of a block
abbrev leaf_holds : Market → ReachBlock → List Decision → ReachLeaf → Type 0
leaf_holds m r = ReachLeafHolds m (cutoff_of r.block.welfare r.claim) (word_claimed m (activation_of r.block) r.claim)

-- a block of a run's market, the names of whose tree stand for it
module _ (books : Books) (budget run : ℕ) (made : RunMarket) (also : Option (List Cents)) (r : ReachBlock) (is : IsReachOf books budget run made also r)
    (stands : IsNumbered books (gated_of books made) (map (named_item books r.gated) r.tree) r.tree) where
  pub free_of : (any : Fault) → IsReachFreeOf books run made also budget (named_of books r) any
  free_of fault.Heading = is.heading
  free_of fault.Lines = is.names
  free_of fault.Infeasible = (admissible made.market budget r.claim (found_in r) is.answer).feasible
  free_of fault.Welfare = welfare_is made.market budget r.claim (found_in r) is.answer
  free_of fault.Inconsistent = is.prices.consistent
  free_of fault.Interval = is.prices.intervals
  free_of fault.Price = is.prices.published
  free_of fault.Area = is.prices.areas
  free_of fault.Tree = record {
    tree = r.tree;
    numbered = stands;
    whole = record {
      shape = any_parts made.market (leaf_holds made.market r) ([] ∷ []) r.tree (holding made.market budget r.claim (found_in r) is.answer);
      few = (items made.market budget r.claim (found_in r) is.answer).few;
    };
  }
  free_of fault.Leaf = record { tree = r.tree; numbered = stands; holds = holding made.market budget r.claim (found_in r) is.answer }
  free_of fault.Ledger = is.ledger
  free_of fault.Totals = tt

-- the gated bids of a run's market rise, and are bids of the books
module _ (books : Books) (ok : IsAccepted books) (taken : Taken) (run : ℕ) where
  abbrev of_quarter : List ℕ
  of_quarter = bids_of_quarter books.bids.bids (run_numbered books run).quarter

  rise : AllPairs (λ i j. i < j) (gated_left books taken run)
  rise = AllPairs-filter (λ i j. i < j) (has_gate books.links) (numbers_left books taken run)
      (AllPairs-filter (λ i j. i < j) (is_available books taken (run_numbered books run)) of_quarter (places-rise (λ (b : Bid). b.quarter == (run_numbered books run).quarter) 0 books.bids.bids))

  pub gated_there : All (λ i. i < length books.bids.ids) (gated_left books taken run)
  gated_there =
      let named = ok.bids.named in
      let Own : ℕ → Type 0 = λ i. i < length books.bids.ids in
      let places = places-within (λ (b : Bid). b.quarter == (run_numbered books run).quarter) 0 books.bids.bids in
      let within : All Own of_quarter = All-weaker (IsPlace 0 (length books.bids.bids)) Own (λ i l. omega (arith, l.below, named)) of_quarter places in
      All-filter (has_gate books.links) Own (numbers_left books taken run) (All-filter (is_available books taken (run_numbered books run)) Own of_quarter within)

  pub gated_count : length (run_market_left books taken run).market.gates ≡ length (gated_left books taken run)
  gated_count = length-map (gated_left books taken run) (gate_at books.links.links (gated_left books taken run))

  -- so the names of a tree that holds in it stand for the tree
  pub names_stand : (holds : List Decision → ReachLeaf → Type 0) (tree : List ReachItem) → ArePartsOf (run_market_left books taken run).market holds ([] ∷ []) tree
      → IsNumbered books (gated_left books taken run) (map (named_item books (gated_left books taken run)) tree) tree
  names_stand holds tree h =
      let gated = gated_left books taken run in
      let m = (run_market_left books taken run).market in
      numbered books gated ok.bids.distinct ok.zones.distinct rise gated_there tree
      (subst (λ (n : ℕ). AllByRecursion (IsItemAmong n (length books.zones.zones)) tree) gated_count (items_among m holds ([] ∷ []) tree h))

-- the blocks by names, as the later runs read them
pub printed_named : (books : Books) (blocks : List ReachBlock) → all_printed (all_named books blocks) ≡ blocks_of blocks
printed_named books [] = refl
printed_named books (r ∷ rs) = ap (λ (bs : List Block). block_of r ∷ bs) (printed_named books rs)

module _ (books : Books) (ok : IsAccepted books) (budget : ℕ) (before : List ReachBlock) (r : ReachBlock) (is : IsReachBlock books budget before r) where
  abbrev made : RunMarket
  made = market_after books (blocks_of before)

  stands : IsNumbered books (gated_of books made) (map (named_item books r.gated) r.tree) r.tree
  stands =
      let run = run_after (blocks_of before) in
      let taken = taken_before books (before_of books (blocks_of before)) run in
      let P : List ℕ → Type 0 = λ gated. IsNumbered books (gated_of books made) (map (named_item books gated) r.tree) r.tree in
      subst P (sym is.gated) (names_stand books ok taken run (leaf_holds made.market r) r.tree (holding made.market budget r.claim (found_in r) is.answer))

  -- the block of a run that is there has none of the faults
  pub free_in : run_after (blocks_of before) ≤ length books.runs.runs → (any : Fault) → IsReachFreeIn books budget (all_named books before) (named_of books r) any
  free_in last any =
      let P : List Block → Type 0 =
      λ bs. (run_after bs ≤ length books.runs.runs) × IsReachFreeOf books (run_after bs) (market_after books bs) (also_after books bs) budget (named_of books r) any in
      subst P (sym (printed_named books before)) (last, free_of books budget (run_after (blocks_of before)) made (also_after books (blocks_of before)) r is stands any)
