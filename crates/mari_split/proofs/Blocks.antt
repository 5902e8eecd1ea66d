-- The block of a run that was cleared island by island.
use Rattle.std.proofs.Common.{◌≡◌, ◌∷◌, [], ℕ, ◌+◌, ◌<◌, ◌≤◌, List, Option, Some, None, length, refl, sym, ap, subst, arith}
use Rattle.std.specs.Prelude.{slice_get}
use Rattle.std.specs.Option.{IsSomeAnd}
use Rattle.std.specs.List.{All, AllZip}
use Rattle.std.proofs.lemmas.List.{length-map}
use Rattle.std.proofs.lemmas.List.Elements.{All-cons, All-nil}
use Rattle.std.proofs.lemmas.Option.{slice_get_within}
use Rattle.std.proofs.lemmas.Slice.Zip.{AllZip-long}
use Rattle.mari_units.specs.declared.numbers.Cents.{Cents}
use Rattle.mari_market.specs.declared.certificate.TreeItem.{TreeItem}
use Rattle.mari_market.specs.declared.clearing.Clearing.{Clearing}
use Rattle.mari_market.specs.declared.clearing.Spent.{Spent}
use Rattle.mari_market.specs.declared.market.Market.{Market}
use Rattle.mari_market.specs.Clearing.{IsSpent, IsUnpublished}
use Rattle.mari_market.specs.Market.{IsValid}
use Rattle.mari_lines.specs.declared.line.Heading.{Heading}
use Rattle.mari_publish.specs.declared.publication.FullBlock.{FullBlock}
use Rattle.mari_publish.specs.Ranges.{MarketFits}
use Rattle.mari_remain.specs.declared.books.Books.{Books}
use Rattle.mari_remain.specs.declared.market.RunMarket.{RunMarket}
use Rattle.mari_progress.specs.After.{also_after, market_after, run_after}
use Rattle.mari_progress.specs.Reported.{heading_of}
use Rattle.mari_day.specs.Published.{IsReportedOf}
use Rattle.mari_islands.specs.declared.islands.Island.{Island}
use Rattle.mari_islands.specs.declared.join.Joined.{Joined}
use Rattle.mari_islands.specs.Cleared.{ArePublished, IsClearedBy, IsFirstOfWhole, IsIslandSpent}
use Rattle.mari_islands.specs.Islands.{AreIslands, first_zones, has_first}
use Rattle.mari_islands.specs.Part.{part_of}
use Rattle.mari_islands.proofs.Numbers.{few_numbers}
use Rattle.mari_split.specs.declared.split.SplitBlock.{SplitBlock}
use Rattle.mari_split.specs.declared.split.SplitRun.{SplitRun}
use Rattle.mari_split.specs.Split.{IsSplitOf, IsSplitRun, IsUnpublishedSplitOf, IsUnpublishedSplitRun, blocks_of, joined_in}
use Rattle.mari_split.specs.Steps.{RunFits}

-- there are no more islands than zones
pub few_islands : (m : Market) (islands : List Island) → IsValid m → AreIslands m islands → length islands ≤ 64
few_islands m islands v h =
    let heads = few_numbers (λ z. has_first h.firsts z z) (length h.firsts) in
    omega (arith, ap length h.parts, length-map (first_zones h.firsts) (λ first. part_of m (has_first h.firsts first)), heads, h.are_firsts.one_each, v.zones.1)

-- ---- what isn't published

-- the island on which the budget is spent, with what was built of its search tree
pub record IsSpentAt (islands : List Island) (budget k : ℕ) (part : Spent) : Type 0 where
  pub island : Island
  pub at : slice_get islands k ≡ Some island
  pub spent : IsSpent island.market budget part

pub spent_at : (islands : List Island) (budget k : ℕ) (part : Spent) → IsIslandSpent islands budget k part → IsSpentAt islands budget k part
spent_at islands budget k part is = by (slice_get islands k) refl is.spent
  where
    by : (o : Option Island) → slice_get islands k ≡ o → IsSomeAnd o (λ (i : Island). IsSpent i.market budget part) → IsSpentAt islands budget k part
    by None e h = absurd h
    by (Some i) e h = record { island = i; at = e; spent = h }

pub spent_below : (islands : List Island) (budget k : ℕ) (part : Spent) → IsIslandSpent islands budget k part → k < length islands
spent_below islands budget k part is = let s = spent_at islands budget k part is in slice_get_within islands k s.island s.at

pub unpublished_split : (books : Books) (budget run : ℕ) (made : RunMarket) (islands : List Island) (k : ℕ) (part : Spent) → AreIslands made.market islands → IsIslandSpent islands budget k part
    → IsUnpublishedSplitOf books budget run made (heading_of books run) (k + 1) (length part.items)
unpublished_split books budget run made islands k part are is =
    let s = spent_at islands budget k part is in
    let here : IsUnpublished s.island.market budget (length part.items) = record { spent = part; is_spent = s.spent; counted = refl } in
    record {
      is_of = refl;
      place = k;
      numbered = refl;
      islands = islands;
      are_islands = are;
      earlier = is.earlier;
      spent = subst (λ (o : Option Island). IsSomeAnd o (λ (i : Island). IsUnpublished i.market budget (length part.items))) (sym s.at) here;
    }

-- ---- what is

trees_fit : (budget : ℕ) → budget ≤ 50000 → (islands : List Island) (clearings : List Clearing)
    → AllZip (IsClearedBy budget) islands clearings → All (λ (c : Clearing). length c.tree ≤ 50000) clearings
trees_fit budget small [] [] a = All-nil (λ (c : Clearing). length c.tree ≤ 50000)
trees_fit budget small (i ∷ islands) (c ∷ clearings) a =
    All-cons (λ (c : Clearing). length c.tree ≤ 50000) c clearings (omega (arith, a.0.within_budget, small))
    (trees_fit budget small islands clearings a.1)
trees_fit budget small _ _ a = absurd a

module _ (m : Market) (v : IsValid m) (budget : ℕ) (islands : List Island) (are : AreIslands m islands) (joined : Joined) (clearings : List Clearing)
    (published : ArePublished m islands budget joined clearings) where
  pub run_fits : (b : FullBlock) → budget ≤ 50000 → MarketFits b → RunFits (record { block = b; islands = islands; clearings = clearings })
  run_fits b small fits = record {
    market = fits;
    few = few_islands m islands v are;
    one_each = AllZip-long (IsClearedBy budget) islands clearings published.cleared;
    trees = trees_fit budget small islands clearings published.cleared;
  }

abbrev as_joined : Clearing → Joined
as_joined c = record { activation = c.activation; welfare = c.welfare }

module _ (books : Books) (budget run : ℕ) (made : RunMarket) (also : Option (List Cents)) (islands : List Island) (are : AreIslands made.market islands) (joined : Joined) (clearings : List Clearing)
    (published : ArePublished made.market islands budget joined clearings) (first : IsFirstOfWhole made.market joined) (tree : List TreeItem) (b : FullBlock) where
  pub split : IsReportedOf books run made also (record { activation = joined.activation; welfare = joined.welfare; tree = tree }) b
      → IsSplitOf books budget run made also (record { block = b; islands = islands; clearings = clearings })
  split reported =
      let same : joined_in b ≡ joined = ap as_joined reported.cleared in
      record {
        heading = reported.heading;
        names = reported.names;
        first = subst (IsFirstOfWhole made.market) (sym same) first;
        prices = reported.prices;
        ledger = reported.ledger;
        islands = are;
        published = subst (λ (j : Joined). ArePublished made.market islands budget j clearings) (sym same) published;
      }

-- what is known of the run's own market and prices, of those after the blocks
module _ (books : Books) (budget : ℕ) (blocks : List SplitBlock) (made : RunMarket) (e : made ≡ market_after books (blocks_of blocks)) (run : ℕ) (is : run ≡ run_after (blocks_of blocks)) where
  pub split_after : (also : Option (List Cents)) → also ≡ also_after books (blocks_of blocks) → (r : SplitRun) → IsSplitOf books budget run made also r → IsSplitRun books budget blocks r
  split_after also f r h =
      let R : ℕ → Type 0 = λ n. IsSplitOf books budget n made also r in
      let M : RunMarket → Type 0 = λ m. IsSplitOf books budget (run_after (blocks_of blocks)) m also r in
      let A : Option (List Cents) → Type 0 = λ a. IsSplitOf books budget (run_after (blocks_of blocks)) (market_after books (blocks_of blocks)) a r in
      subst A f (subst M e (subst R is h))

  pub unsplit_after : (heading : Heading) (island count : ℕ) → IsUnpublishedSplitOf books budget run made heading island count → IsUnpublishedSplitRun books budget blocks heading island count
  unsplit_after heading island count h =
      let R : ℕ → Type 0 = λ n. IsUnpublishedSplitOf books budget n made heading island count in
      let M : RunMarket → Type 0 = λ m. IsUnpublishedSplitOf books budget (run_after (blocks_of blocks)) m heading island count in
      subst M e (subst R is h)
