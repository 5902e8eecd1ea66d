-- Providers of a run's bids.
use Rattle.std.proofs.Common.{◌≡◌, ℕ, zero, suc, ◌+◌, ◌-◌, ◌<◌, ◌≤◌, ◌==◌, ◌||◌, Bool, true, false, List, [], ◌∷◌, ◌++◌, length, length-append, map, fold, cond, get_or, set, take, get_or-set_same, get_or-set_other, refl, sym, ap, subst, ◌∙◌, arith}
use Rattle.std.proofs.Math.Bool.{or_comm}
use Rattle.std.proofs.Math.ListN.{replicate}
use Rattle.std.specs.List.{All, list_any}
use Rattle.std.proofs.lemmas.Bool.{eqb-false, eqb-true}
use Rattle.std.proofs.lemmas.List.{length-map, take_all}
use Rattle.std.proofs.lemmas.List.Folds.{list_any-append}
use Rattle.std.proofs.lemmas.List.Elements.{All-head, All-tail, All-push, All-nil, All-map}
use Rattle.mari_bids.specs.Bids.{bid_numbered}
use Rattle.mari_bids.specs.declared.bids.Bid.{Bid}
use Rattle.mari_progress.specs.Money.{AreMarked, each_once, providers_among, with_number}

-- what holds of each number holds of each one once
module _ (P : ℕ → Type 0) where
  one-more : (ns : List ℕ) (n : ℕ) → All P ns → P n → All P (with_number ns n)
  one-more ns n all here = elim (list_any (λ m. m == n) ns) as (λ b. All P (cond b ns (ns ++ n ∷ []))) [
    | true ↦ all
    | false ↦ All-push P ns n all here
  ]

  more : (ns xs : List ℕ) → All P ns → All P xs → All P (fold with_number ns xs)
  more ns [] all rest = all
  more ns (x ∷ xs) all rest = more (with_number ns x) xs (one-more ns x all (All-head P x xs rest)) (All-tail P x xs rest)

  pub all-once : (xs : List ℕ) → All P xs → All P (each_once xs)
  all-once xs all = more [] xs (All-nil P) all

one-longer : (ns : List ℕ) (n : ℕ) → length (with_number ns n) ≤ length ns + 1
one-longer ns n = elim (list_any (λ m. m == n) ns) as (λ b. length (cond b ns (ns ++ n ∷ [])) ≤ length ns + 1) [
  | true ↦ omega arith
  | false ↦ simp length-append (omega arith)
]

longer : (ns xs : List ℕ) → length (fold with_number ns xs) ≤ length ns + length xs
longer ns [] = omega arith
longer ns (x ∷ xs) = omega (arith, longer (with_number ns x) xs, one-longer ns x)

-- there are no more providers than bids
pub few-providers : (bids : List Bid) (numbers : List ℕ) → length (providers_among bids numbers) ≤ length numbers
few-providers bids numbers = omega (arith, longer [] (map (λ i. (bid_numbered bids i).provider) numbers), length-map numbers (λ i. (bid_numbered bids i).provider))

-- each is the provider of a bid
pub providers-there : (bids : List Bid) (numbers : List ℕ) (n : ℕ) → All (λ (bid : Bid). bid.provider < n) bids
    → All (λ i. i < length bids) numbers → All (λ place. place < n) (providers_among bids numbers)
providers-there bids numbers n all there =
    all-once (λ place. place < n) (map (λ i. (bid_numbered bids i).provider) numbers)
    (All-map (λ place. place < n) (λ i. (bid_numbered bids i).provider) numbers (λ k d below. all _ _ (there k d below)))
