-- What holds of the islands of a market.
use Rattle.std.proofs.Common.{◌≡◌, ◌≢◌, ℕ, suc, ◌+◌, ◌<◌, Bool, true, false, ℤ, pos, ◌*ℤ◌, List, [], ◌∷◌, length, Option, filter, map, get_or, slice_index, refl, sym, ap, ◌∙◌, subst, arith, add-zero}
use Rattle.std.specs.Prelude.{Contains, slice_get, slice_index_or}
use Rattle.std.specs.Option.{option_map_or}
use Rattle.std.specs.List.{All, AllZip, range_with_len}
use Rattle.std.proofs.lemmas.Bool.{and_parts, eq-eqb, eqb-true}
use Rattle.std.proofs.lemmas.Int.{ints}
use Rattle.std.proofs.lemmas.List.{get_or-map, get_or_default, length-map}
use Rattle.std.proofs.lemmas.List.Elements.{All-cons, All-contains, All-map, All-nil}
use Rattle.std.proofs.lemmas.Option.{slice_get-get_or}
use Rattle.std.proofs.lemmas.Slice.Zip.{AllZip-long}
use Rattle.mari_market.specs.declared.activation.Activation.{Activation}
use Rattle.mari_market.specs.declared.certificate.TreeItem.{TreeItem}
use Rattle.mari_market.specs.declared.market.Border.{Border}
use Rattle.mari_market.specs.declared.market.Market.{Market}
use Rattle.mari_market.specs.Activation.{HasLengths, IsWithinLimits, welfare_of}
use Rattle.mari_market.specs.First.{IsFirst}
use Rattle.mari_market.specs.Market.{IsValid}
use Rattle.mari_market.specs.Optimal.{IsAdmissible, IsFeasible}
use Rattle.mari_market.specs.Sums.{int_at, int_sum}
use Rattle.mari_market.proofs.Sums.{AllZip-both, int_sum-map, sum_below}
use Rattle.mari_market.proofs.Sizes.{as_many}
use Rattle.mari_market.proofs.Ties.{first_by_tree}
use Rattle.mari_islands.specs.declared.islands.Island.{Island}
use Rattle.mari_islands.specs.Checked.{AreCertified, HoldsInIsland}
use Rattle.mari_islands.specs.Islands.{AreIslands, has_first, first_zones}
use Rattle.mari_islands.specs.Lists.{places_from}
use Rattle.mari_islands.specs.Part.{activation_in, is_border_in, part_of}
use Rattle.mari_islands.proofs.Beside.{side_all}
use Rattle.mari_islands.proofs.Consistent.{HasHeads, own_admissible}
use Rattle.mari_islands.proofs.Feasible.{IsStill, flows_still, own_feasible}
use Rattle.mari_islands.proofs.First.{whole_first}
use Rattle.mari_islands.proofs.Inside.{inside}
use Rattle.mari_islands.proofs.Bound.{Splits, head_below, islands_split, own_first}
use Rattle.mari_islands.proofs.Numbers.{each_kept, kept_contains, number_there, range_below}
use Rattle.mari_islands.proofs.Open.{island_of, own_is}
use Rattle.mari_islands.proofs.Sums.{counts, is_head, passing_sum, welfare_in, welfare_sum}
use Rattle.mari_islands.proofs.Valid.{island_valid}

-- ---- lists

pub all_first : {X Y : Type 0} (P : X → Type 0) (xs : List X) (ys : List Y) → AllZip (λ x y. P x) xs ys → All P xs
all_first P [] ys a = All-nil P
all_first P (x ∷ xs) [] a = absurd a
all_first P (x ∷ xs) (y ∷ ys) a = All-cons P x xs a.0 (all_first P xs ys a.1)

pub zip_from : {X Y : Type 0} (R : X → Y → Type 0) (xs : List X) (ys : List Y) → length ys ≡ length xs
    → ((k : ℕ) (d : X) (e : Y) → k < length xs → R (slice_index_or xs k d) (slice_index_or ys k e)) → AllZip R xs ys
zip_from R [] [] l h = tt
zip_from R [] (y ∷ ys) l h = absurd (omega (arith, l))
zip_from R (x ∷ xs) [] l h = absurd (omega (arith, l))
zip_from R (x ∷ xs) (y ∷ ys) l h = (h 0 x y (omega arith), zip_from R xs ys (omega (arith, l)) (λ k d e less. h (suc k) d e (omega arith)))

int_sum-same : {X : Type 0} (f g : X → ℤ) (xs : List X) → ((x : X) → f x ≡ g x) → int_sum f xs ≡ int_sum g xs
int_sum-same f g [] h = refl
int_sum-same f g (x ∷ xs) h = omega (arith, ints, h x, int_sum-same f g xs h)

-- ---- places of items that pass

abbrev pub passes_at : {X : Type 0} → (X → Bool) → List X → ℕ → Bool
passes_at p xs i = option_map_or p (slice_get xs i) false

places_filter : {X : Type 0} (p : X → Bool) (q : ℕ → Bool) (k : ℕ) (xs : List X)
    → ((i : ℕ) (d : X) → i < length xs → q (k + i) ≡ p (slice_index_or xs i d))
    → places_from p k xs ≡ filter q (range_with_len k (length xs))
places_filter p q k [] h = refl
places_filter p q k (x ∷ xs) h =
    let here : q k ≡ p x = ap q (sym (add-zero k)) ∙ h 0 x (omega arith) in
    let rest : places_from p (k + 1) xs ≡ filter q (range_with_len (k + 1) (length xs)) = places_filter p q (k + 1) xs (λ i d l. ap q (omega arith) ∙ h (suc i) d (omega arith)) in
    rw (here, rest) refl

passes_same : {X : Type 0} (p : X → Bool) (xs : List X) (i : ℕ) (d : X) → i < length xs → passes_at p xs i ≡ p (slice_index_or xs i d)
passes_same p xs i d l = ap (λ (o : Option _). option_map_or p o false) (slice_get-get_or xs i d l)

pub places_are : {X : Type 0} (p : X → Bool) (xs : List X) → places_from p 0 xs ≡ filter (passes_at p xs) (range_with_len 0 (length xs))
places_are p xs = places_filter p (passes_at p xs) 0 xs (λ i d l. ap (passes_at p xs) (omega arith) ∙ passes_same p xs i d l)

-- an item at one of the places passes
pub place_passes : {X : Type 0} (p : X → Bool) (xs : List X) (k : ℕ) (d : X) → Contains (places_from p 0 xs) k → (k < length xs) × (p (slice_index_or xs k d) ≡ true)
place_passes p xs k d h =
    let kept = subst (λ (ks : List ℕ). Contains ks k) (places_are p xs) h in
    let both = kept_contains (passes_at p xs) (range_with_len 0 (length xs)) k kept in
    let less : k < length xs = All-contains (λ i. i < length xs) (range_with_len 0 (length xs)) k (range_below (length xs)) both.0 in
    (less, sym (passes_same p xs k d less) ∙ both.1)

-- ---- islands

module _ (m : Market) (islands : List Island) (v : IsValid m) (h : AreIslands m islands) where
  abbrev pub first_of : ℕ → ℕ
  first_of = slice_index h.firsts

  abbrev pub part_at : ℕ → Island
  part_at f = part_of m (has_first h.firsts f)

  pub are_split : Splits m first_of
  are_split = islands_split m h.firsts v h.are_firsts

  pub have_heads : HasHeads m first_of
  have_heads = record { below = head_below m h.firsts h.are_firsts; own = own_first m h.firsts h.are_firsts }

  -- what holds of the island of each first zone holds of all islands
  pub all_islands : (P : Island → Type 0) → ((f : ℕ) → f < m.zones → first_of f ≡ f → P (part_at f)) → All P islands
  all_islands P each = subst (All P) (sym h.parts) (All-map P part_at (first_zones h.firsts) (each_kept (λ z. has_first h.firsts z z) (λ f. P (part_at f)) (range_with_len 0 (length h.firsts))
      (λ f c t. each f (let less = All-contains (λ i. i < length h.firsts) (range_with_len 0 (length h.firsts)) f (range_below (length h.firsts)) c in omega (arith, less, h.are_firsts.one_each))
      (eqb-true _ _ t))))

  -- and the other way about
  pub at_island : (P : Island → Type 0) → All P islands → (z : ℕ) → z < m.zones → P (part_at (first_of z))
  at_island P all z l =
      let f : ℕ = first_of z in
      let below : f < length h.firsts = let less = have_heads.below z l in omega (arith, less, h.are_firsts.one_each) in
      let c = number_there (λ z. has_first h.firsts z z) (length h.firsts) f below (eq-eqb _ _ (have_heads.own z l)) in
      let parts : All P (map part_at (first_zones h.firsts)) = subst (All P) h.parts all in
      let read : get_or (map part_at (first_zones h.firsts)) c.0 (part_at f) ≡ part_at f = get_or-map part_at (first_zones h.firsts) c.0 f (part_at f) c.1 ∙ ap part_at c.2 in
      subst P read (parts c.0 (part_at f) (omega (arith, c.1, length-map (first_zones h.firsts) part_at)))

  pub islands_valid : All (λ (i : Island). IsValid i.market) islands
  islands_valid = all_islands (λ i. IsValid i.market) (λ f l e. island_valid m first_of f v f l e)

  -- what is feasible in the whole is so in each island
  pub islands_feasible : (a : Activation) → HasLengths m a → IsFeasible m a → All (λ (i : Island). IsFeasible i.market (activation_in i a)) islands
  islands_feasible a long fe =
      all_islands (λ i. IsFeasible i.market (activation_in i a))
      (λ f l e. subst (IsFeasible (island_of m first_of f)) (sym (own_is m first_of f a long)) (own_feasible m first_of f v are_split a fe))

  -- the welfare of the whole is the sum of that of the islands
  pub sum_of_islands : (a : Activation) → HasLengths m a → welfare_of m a ≡ int_sum (λ (i : Island). welfare_of i.market (activation_in i a)) islands
  sum_of_islands a long =
      let W : Island → ℤ = λ i. welfare_of i.market (activation_in i a) in
      let own : ℕ → ℤ = welfare_in m first_of v have_heads a in
      let listed = ap (int_sum W) h.parts ∙ int_sum-map W part_at (first_zones h.firsts)
      ∙ int_sum-same (λ f. W (part_at f)) own (first_zones h.firsts) (λ f. ap (welfare_of (island_of m first_of f)) (own_is m first_of f a long))
      ∙ passing_sum (is_head first_of) own (length h.firsts)
      ∙ ap (λ (n : ℕ). sum_below n (λ f. counts (is_head first_of) f *ℤ own f)) h.are_firsts.one_each in
      welfare_sum m first_of v have_heads a long.orders ∙ sym listed

  -- ---- the joined activation

  -- a border between two islands is of none
  between : (k : ℕ) (d : Border) → first_of (slice_index_or m.borders k d).from ≢ first_of (slice_index_or m.borders k d).to → All (λ (i : Island). Contains i.borders k → ⊥) islands
  between k d apart = all_islands (λ i. Contains i.borders k → ⊥) (λ f l e c.
      let t = (place_passes (is_border_in (inside first_of f)) m.borders k d c).1 in
      let b : Border = slice_index_or m.borders k d in
      let ends = and_parts (inside first_of f b.from) (inside first_of f b.to) t in
      apart (eqb-true _ _ ends.0 ∙ sym (eqb-true _ _ ends.1)))

  pub joined_still : (a : Activation) → HasLengths m a
      → ((k : ℕ) → k < length m.borders → All (λ (i : Island). Contains i.borders k → ⊥) islands → int_at a.flow k ≡ pos 0)
      → AllZip (IsStill first_of) m.borders a.flow
  joined_still a long none =
      zip_from (IsStill first_of) m.borders a.flow long.borders
      (λ k d e l apart. get_or_default a.flow k e (pos 0) (omega (arith, l, long.borders)) ∙ none k l (between k d apart))

  -- first activations of the islands are together the first activation of the whole
  pub joined_first : (a : Activation) → HasLengths m a → AllZip (IsStill first_of) m.borders a.flow → All (λ (i : Island). IsFirst i.market (activation_in i a)) islands → IsFirst m a
  joined_first a long still firsts = whole_first m first_of v are_split have_heads a long still
      (λ z l. subst (IsFirst (island_of m first_of (first_of z))) (own_is m first_of (first_of z) a long) (at_island (λ i. IsFirst i.market (activation_in i a)) firsts z l))

  pub lengths_of : (a : Activation) → IsFeasible m a → HasLengths m a
  lengths_of a fe = record { orders = as_many m a fe; borders = AllZip-long IsWithinLimits m.borders a.flow fe.borders }

  -- what is admissible in the whole is so in each island
  pub islands_admissible : (a : Activation) → IsAdmissible m a → All (λ (i : Island). IsAdmissible i.market (activation_in i a)) islands
  islands_admissible a adm =
      all_islands (λ i. IsAdmissible i.market (activation_in i a))
      (λ f l e. subst (IsAdmissible (island_of m first_of f)) (sym (own_is m first_of f a (lengths_of a adm.feasible))) (own_admissible m first_of f v are_split a adm))

  -- an admissible activation with a tree for each island that holds for what it is there is the first
  pub certified_first : (a : Activation) (trees : List (List TreeItem)) → AreCertified m islands a trees → IsFirst m a
  certified_first a trees c =
      let valid = side_all (λ (i : Island). IsValid i.market) islands trees (AllZip-long (HoldsInIsland a) islands trees c.hold) islands_valid in
      let adm = side_all (λ (i : Island). IsAdmissible i.market (activation_in i a)) islands trees (AllZip-long (HoldsInIsland a) islands trees c.hold) (islands_admissible a c.admissible) in
      let both = AllZip-both (λ (i : Island) (tree : List TreeItem). IsAdmissible i.market (activation_in i a)) (HoldsInIsland a)
      (λ (i : Island) (tree : List TreeItem). IsAdmissible i.market (activation_in i a) × HoldsInIsland a i tree) (λ i tree k h. (k, h)) islands trees adm c.hold in
      let firsts = AllZip-both (λ (i : Island) (tree : List TreeItem). IsValid i.market) (λ (i : Island) (tree : List TreeItem). IsAdmissible i.market (activation_in i a) × HoldsInIsland a i tree)
      (λ (i : Island) (tree : List TreeItem). IsFirst i.market (activation_in i a))
      (λ i tree k h. first_by_tree i.market (activation_in i a) tree k h.0 h.1) islands trees valid both in
      joined_first a (lengths_of a c.admissible.feasible) (flows_still m first_of a are_split c.admissible.feasible)
      (all_first (λ (i : Island). IsFirst i.market (activation_in i a)) islands trees firsts)
