-- What stands before the first run, and the bids of a quarter and the demands of a run by the quarters and runs of all.
use Rattle.std.proofs.Common.{◌≡◌, ◌∙◌, ℕ, zero, suc, ◌+◌, ◌<◌, ◌≤◌, ◌==◌, pos, false, cond, List, [], ◌∷◌, None, refl, ap, arith, length, map, replicate}
use Rattle.std.specs.List.{All, range_with_len}
use Rattle.std.proofs.lemmas.List.Elements.{All-map, All-weaker}
use Rattle.std.proofs.Math.Path.{fun_ext}
use Rattle.mari_bids.specs.Bids.{IsBid}
use Rattle.mari_bids.specs.declared.bids.Bid.{Bid}
use Rattle.mari_demands.specs.Demands.{IsDemand}
use Rattle.mari_demands.specs.declared.demands.Demand.{Demand}
use Rattle.mari_remain.specs.Accepted.{IsAccepted}
use Rattle.mari_remain.specs.declared.books.Books.{Books}
use Rattle.mari_remain.specs.FirstBlocks.{Tally, StandsFor}
use Rattle.mari_remain.specs.Lists.{bids_of_quarter, numbers_of_run, places_from, places_of}
use Rattle.mari_remain.proofs.Counts.{at-most-each}

-- the places of items by what they are mapped to
places-map : {X : Type 0} (f : X → ℕ) (key k : ℕ) (xs : List X) → places_from (λ n. n == key) k (map f xs) ≡ places_from (λ x. f x == key) k xs
places-map f key k [] = refl
places-map f key k (x ∷ xs) = ap (λ ns. cond (f x == key) (k ∷ ns) ns) (places-map f key (k + 1) xs)

pub by-quarter : (bids : List Bid) (n : ℕ) → map (places_of (map (λ (b : Bid). b.quarter) bids)) (range_with_len 0 n) ≡ map (bids_of_quarter bids) (range_with_len 0 n)
by-quarter bids n = ap (λ (f : ℕ → List ℕ). map f (range_with_len 0 n)) (fun_ext (λ key. places-map (λ (b : Bid). b.quarter) key 0 bids))

pub by-run : (demands : List Demand) (n : ℕ) → map (places_of (map (λ (d : Demand). d.run) demands)) (range_with_len 0 n) ≡ map (numbers_of_run demands) (range_with_len 0 n)
by-run demands n = ap (λ (f : ℕ → List ℕ). map f (range_with_len 0 n)) (fun_ext (λ key. places-map (λ (d : Demand). d.run) key 0 demands))

-- `n` times the same, as made at each of `n` numbers
pub same-all : {X : Type 0} (x : X) (a n : ℕ) → replicate n x ≡ map (λ k. x) (range_with_len a n)
same-all x a zero = refl
same-all x a (suc n) = ap (λ xs. x ∷ xs) (same-all x (a + 1) n)

-- nothing taken
pub nothing : (books : Books) (kept : Tally) → kept.mw ≡ replicate (length books.bids.bids) 0 → kept.direct ≡ replicate (length books.bids.bids) false → kept.quarter ≡ None
    → kept.flow ≡ replicate (length books.borders.borders) (pos 0) → kept.of_quarter ≡ map (bids_of_quarter books.bids.bids) (range_with_len 0 (books.quarters + 1))
    → kept.of_run ≡ map (numbers_of_run books.demands.demands) (range_with_len 0 (length books.runs.runs + 1)) → StandsFor books [] kept
nothing books kept mw direct quarter flow index numbers = record {
  first = λ k b e. absurd (cc e);
  mw = mw ∙ same-all 0 0 (length books.bids.bids);
  direct = direct ∙ same-all false 0 (length books.bids.bids);
  quarter = quarter;
  flow = flow ∙ same-all (pos 0) 0 (length books.borders.borders);
  of_quarter = index;
  of_run = numbers;
}

-- the quarter of a bid is one of the day's
pub quarters-fit : (books : Books) → IsAccepted books → All (λ key. key < books.quarters + 1) (map (λ (b : Bid). b.quarter) books.bids.bids)
quarters-fit books ok = All-map (λ key. key < books.quarters + 1) (λ (b : Bid). b.quarter) books.bids.bids
    (All-weaker (IsBid books.zones (length books.bids.providers) books.quarters) (λ (b : Bid). b.quarter < books.quarters + 1) (λ b h. omega (arith, h.last_quarter)) books.bids.bids ok.bids.bids)

module _ (books : Books) (ok : IsAccepted books) where
  -- the run of a demand is one of the day's
  runs-below : All (λ (d : Demand). d.run < length books.runs.runs + 1) books.demands.demands
  runs-below =
      All-weaker (IsDemand books.zones (length books.runs.runs)) (λ (d : Demand). d.run < length books.runs.runs + 1)
      (λ d h. omega (arith, h.last_run)) books.demands.demands ok.demands.demands

  pub runs-fit : All (λ key. key < length books.runs.runs + 1) (map (λ (d : Demand). d.run) books.demands.demands)
  runs-fit = All-map (λ key. key < length books.runs.runs + 1) (λ (d : Demand). d.run) books.demands.demands runs-below

  -- so there are no more demands than the runs of a day can have
  pub few-demands : length books.demands.demands ≤ 512512
  few-demands =
      let most = at-most-each (λ (d : Demand). d.run) 512 (length books.runs.runs + 1) books.demands.demands runs-below ok.demands.of_run in
      omega (arith, most, ok.runs.few)
