-- Islands that are cleared, and what their clearings are together.
use Rattle.std.proofs.Common.{◌≡◌, ℕ, ◌+◌, ◌*◌, ◌<◌, ◌≤◌, ℤ, pos, List, [], ◌∷◌, ◌++◌, length, take, get_or, refl, sym, ap, ◌∙◌, subst, arith}
use Rattle.std.specs.List.{All, AllZip, sum_by}
use Rattle.std.specs.Option.{IsSomeAnd}
use Rattle.std.proofs.lemmas.Int.{ints}
use Rattle.std.proofs.lemmas.List.{length-map, take_all, take_more}
use Rattle.std.proofs.lemmas.List.Elements.{All-cons, All-nil}
use Rattle.std.proofs.lemmas.List.Sums.{sum_by-cons}
use Rattle.std.proofs.lemmas.Option.{slice_get_read}
use Rattle.std.proofs.lemmas.Slice.Zip.{AllZip-long, all_zipped_more}
use Rattle.mari_market.specs.declared.activation.Activation.{Activation}
use Rattle.mari_market.specs.declared.clearing.Clearing.{Clearing}
use Rattle.mari_market.specs.declared.clearing.Spent.{Spent}
use Rattle.mari_market.specs.declared.market.Market.{Market}
use Rattle.mari_market.specs.Activation.{IsWithinLimits, welfare_of}
use Rattle.mari_market.specs.Clearing.{IsClearing, IsSpent}
use Rattle.mari_market.specs.First.{IsFirst}
use Rattle.mari_market.specs.Market.{IsValid}
use Rattle.mari_market.specs.Sums.{int_sum}
use Rattle.mari_market.proofs.Sizes.{as_many, welfare_at_most}
use Rattle.mari_market.proofs.Sums.{AllZip-both}
use Rattle.mari_islands.specs.declared.islands.Island.{Island}
use Rattle.mari_islands.specs.Cleared.{IsClearedBy, IsFirstOfIsland, IsIslandSpent, IsJoinedOf}
use Rattle.mari_islands.specs.Islands.{AreIslands, has_first, first_zones}
use Rattle.mari_islands.specs.Part.{activation_in, part_of}
use Rattle.mari_islands.specs.Placing.{ArePlaced, FitsIsland, activation_of}
use Rattle.mari_islands.proofs.Beside.{side_all}
use Rattle.mari_islands.proofs.Laws.{all_first, islands_valid, joined_first, joined_still, sum_of_islands}
use Rattle.mari_islands.proofs.Numbers.{few_numbers}

-- ---- lists

zip_weaker : {X Y : Type 0} (P Q : X → Y → Type 0) → ((x : X) (y : Y) → P x y → Q x y) → (xs : List X) (ys : List Y) → AllZip P xs ys → AllZip Q xs ys
zip_weaker P Q h xs ys a = AllZip-both P P Q (λ x y p q. h x y p) xs ys a a

all_second : {X Y : Type 0} (P : Y → Type 0) (xs : List X) (ys : List Y) → AllZip (λ x y. P y) xs ys → All P ys
all_second P [] [] a = All-nil P
all_second P [] (y ∷ ys) a = absurd a
all_second P (x ∷ xs) [] a = absurd a
all_second P (x ∷ xs) (y ∷ ys) a = All-cons P y ys a.0 (all_second P xs ys a.1)

all_some : {X Y : Type 0} (R : X → Y → Type 0) (xs : List X) (ys : List Y) → AllZip R xs ys → All (λ x. (y : Y) × R x y) xs
all_some {X} {Y} R [] ys a = All-nil (λ (x : X). (y : Y) × R x y)
all_some R (x ∷ xs) [] a = absurd a
all_some {X} {Y} R (x ∷ xs) (y ∷ ys) a = All-cons (λ (x : X). (y : Y) × R x y) x xs (y, a.0) (all_some R xs ys a.1)

sums_agree : {X Y : Type 0} (f : X → ℤ) (g : Y → ℕ) (xs : List X) (ys : List Y) → AllZip (λ x y. f x ≡ pos (g y)) xs ys → int_sum f xs ≡ pos (sum_by g ys)
sums_agree f g [] [] a = refl
sums_agree f g [] (y ∷ ys) a = absurd a
sums_agree f g (x ∷ xs) [] a = absurd a
sums_agree f g (x ∷ xs) (y ∷ ys) a = omega (arith, ints, a.0, sums_agree f g xs ys a.1, sum_by-cons g y ys)

-- ---- the joined activation

fits_first : (i : Island) (c : Clearing) → IsFirstOfIsland i c → FitsIsland i c
fits_first i c h =
    let feasible = h.first.optimal.admissible.feasible in
    record { orders = as_many i.market c.activation feasible; borders = AllZip-long IsWithinLimits i.market.borders c.activation.flow feasible.borders }

pub first_fit : (islands : List Island) (clearings : List Clearing) → AllZip IsFirstOfIsland islands clearings → AllZip FitsIsland islands clearings
first_fit islands clearings a = zip_weaker IsFirstOfIsland FitsIsland fits_first islands clearings a

-- islands that are placed are joined
pub placed_joined : (m : Market) (islands : List Island) (clearings : List Clearing) (mw : List ℕ) (flow : List ℤ)
    → length mw ≡ length m.orders → length flow ≡ length m.borders → ArePlaced islands clearings mw flow
    → IsJoinedOf m islands clearings (activation_of mw flow)
placed_joined m islands clearings mw flow l k h = record { lengths = record { orders = l; borders = k }; parts = h.parts; apart = λ j less none. h.apart j none }

module _ (m : Market) (islands : List Island) (v : IsValid m) (h : AreIslands m islands) where
  pub few_islands : length islands ≤ m.zones
  few_islands =
      let part : ℕ → Island = λ first. part_of m (has_first h.firsts first) in
      omega (arith, ap length h.parts, length-map (first_zones h.firsts) part, few_numbers (λ z. has_first h.firsts z z) (length h.firsts), h.are_firsts.one_each)

  pub few_clearings : (clearings : List Clearing) → AllZip IsFirstOfIsland islands clearings → length clearings ≤ 64
  few_clearings clearings a = omega (arith, few_islands, AllZip-long IsFirstOfIsland islands clearings a, v.zones.1)

  pub small_welfare : (clearings : List Clearing) → AllZip IsFirstOfIsland islands clearings → All (λ (c : Clearing). c.welfare ≤ 9999900 * 99999 * 4608) clearings
  small_welfare clearings a = all_second (λ (c : Clearing). c.welfare ≤ 9999900 * 99999 * 4608) islands clearings
      (AllZip-both (λ (i : Island) (c : Clearing). IsValid i.market) IsFirstOfIsland (λ (i : Island) (c : Clearing). c.welfare ≤ 9999900 * 99999 * 4608)
      (λ i c valid first. omega (arith, ints, welfare_at_most i.market c.activation valid first.first.optimal.admissible.feasible, first.welfare))
      islands clearings (side_all (λ (i : Island). IsValid i.market) islands clearings (AllZip-long IsFirstOfIsland islands clearings a) (islands_valid m islands v h)) a)

  -- first activations of the islands are joined to the first activation of the whole
  pub joined_is_first : (clearings : List Clearing) (a : Activation) → AllZip IsFirstOfIsland islands clearings → IsJoinedOf m islands clearings a → IsFirst m a
  joined_is_first clearings a firsts j = joined_first m islands v h a j.lengths (joined_still m islands v h a j.lengths j.apart)
      (all_first (λ (i : Island). IsFirst i.market (activation_in i a)) islands clearings
      (AllZip-both (λ (i : Island) (c : Clearing). activation_in i a ≡ c.activation) IsFirstOfIsland (λ (i : Island) (c : Clearing). IsFirst i.market (activation_in i a))
      (λ i c same first. subst (IsFirst i.market) (sym same) first.first) islands clearings j.parts firsts))

  -- whose welfare is the sum of theirs
  pub joined_welfare : (clearings : List Clearing) (a : Activation) → AllZip IsFirstOfIsland islands clearings
      → IsJoinedOf m islands clearings a → welfare_of m a ≡ pos (sum_by (λ (c : Clearing). c.welfare) clearings)
  joined_welfare clearings a firsts j =
      sum_of_islands m islands v h a j.lengths
      ∙ sums_agree (λ (i : Island). welfare_of i.market (activation_in i a)) (λ (c : Clearing). c.welfare) islands clearings
      (AllZip-both (λ (i : Island) (c : Clearing). activation_in i a ≡ c.activation) IsFirstOfIsland (λ (i : Island) (c : Clearing). welfare_of i.market (activation_in i a) ≡ pos c.welfare)
      (λ i c same first. ap (welfare_of i.market) same ∙ first.welfare) islands clearings j.parts firsts)

-- ---- one island after the other

pub cleared_more : (budget : ℕ) (islands : List Island) (clearings news : List Clearing) (place : ℕ) (i : Island) (c : Clearing)
    → place < length islands → i ≡ get_or islands place i → AllZip (IsClearedBy budget) (take place islands) clearings
    → IsClearing i.market budget c → news ≡ clearings ++ c ∷ []
    → AllZip (IsClearedBy budget) (take (place + 1) islands) news
cleared_more budget islands clearings news place i c l is so_far here pushed =
    let more : take (place + 1) islands ≡ take place islands ++ i ∷ [] = take_more islands place i l ∙ ap (λ (j : Island). take place islands ++ j ∷ []) (sym is) in
    subst (λ (xs : List Island). AllZip (IsClearedBy budget) xs news) (sym more)
    (subst (AllZip (IsClearedBy budget) (take place islands ++ i ∷ [])) (sym pushed) (all_zipped_more (IsClearedBy budget) (take place islands) clearings i c so_far here))

pub all_cleared : (budget : ℕ) (islands : List Island) (clearings given : List Clearing) (place : ℕ)
    → length islands ≤ place → AllZip (IsClearedBy budget) (take place islands) clearings → given ≡ clearings
    → AllZip IsFirstOfIsland islands given
all_cleared budget islands clearings given place l so_far is =
    let all : AllZip (IsClearedBy budget) islands clearings = subst (λ (xs : List Island). AllZip (IsClearedBy budget) xs clearings) (take_all place islands l) so_far in
    subst (AllZip IsFirstOfIsland islands) (sym is) (zip_weaker (IsClearedBy budget) IsFirstOfIsland (λ i c k. record { first = k.first; welfare = k.welfare }) islands clearings all)

pub spent_at : (budget : ℕ) (islands : List Island) (clearings : List Clearing) (place : ℕ) (i : Island) (part : Spent)
    → place < length islands → i ≡ get_or islands place i → AllZip (IsClearedBy budget) (take place islands) clearings
    → IsSpent i.market budget part → IsIslandSpent islands budget place part
spent_at budget islands clearings place i part l is so_far here = record {
  earlier = all_some (IsClearedBy budget) (take place islands) clearings so_far;
  spent = subst (λ o. IsSomeAnd o (λ (j : Island). IsSpent j.market budget part)) (sym (slice_get_read islands (length islands) place i refl l is)) here;
}
