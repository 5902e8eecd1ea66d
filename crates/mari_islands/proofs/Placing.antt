-- Quantities and flows of islands that are written to their places.
use Rattle.std.proofs.Common.{◌≡◌, ◌==◌, ℕ, suc, ◌+◌, ◌<◌, Bool, true, false, ℤ, List, [], ◌∷◌, ◌++◌, length, map, filter, take, drop, set, get_or, slice_index, refl, sym, ap, ◌∙◌, subst, arith, cond}
use Rattle.std.specs.Prelude.{Contains, slice_index_or}
use Rattle.std.specs.List.{All, AllPairs, range_with_len}
use Rattle.std.proofs.lemmas.Bool.{and_parts, eqb-true}
use Rattle.std.proofs.lemmas.List.{get_or-map, get_or-set_other, get_or-set_same, get_or-take, get_or_default, length-map, length-take-le, map-append, take_at, take_more}
use Rattle.std.proofs.lemmas.List.Elements.{All-contains, All-contains_itself, All-head, All-tail, Contains-append_left, Contains-push}
use Rattle.mari_market.specs.declared.activation.Activation.{Activation}
use Rattle.mari_market.specs.declared.clearing.Clearing.{Clearing}
use Rattle.mari_market.specs.declared.market.Market.{Market}
use Rattle.mari_market.specs.Market.{IsValid}
use Rattle.mari_market.specs.Sums.{int_at}
use Rattle.mari_market.proofs.Lists.{AllZip_more}
use Rattle.mari_market.proofs.Sums.{AllZip-both}
use Rattle.mari_islands.specs.declared.islands.Island.{Island}
use Rattle.mari_islands.specs.Cleared.{IsApart}
use Rattle.mari_islands.specs.Islands.{AreIslands, has_first, first_zones}
use Rattle.mari_islands.specs.Lists.{places_from}
use Rattle.mari_islands.specs.Part.{activation_in, border_among, is_border_in, is_order_in, order_among}
use Rattle.mari_islands.specs.Placing.{AreNumbersOf, ArePlaced, IsPlaced, activation_of}
use Rattle.mari_islands.proofs.Beside.{side_all}
use Rattle.mari_islands.proofs.Inside.{gates_of, inside, zones_of}
use Rattle.mari_islands.proofs.Laws.{all_islands, first_of, part_at, passes_at, place_passes, places_are}
use Rattle.mari_islands.proofs.Numbers.{Rises, each_kept, numbers_rise, range_below}
use Rattle.mari_islands.proofs.Uniting.{no_border, no_order}

-- ---- one list

-- what is written into a list that was lent as a slice
pub written : {Y : Type 0} (n : ℕ) (news olds : List Y) → length news ≡ n → take n (news ++ drop (length news) olds) ≡ news
written n news olds l = take_at news (drop (length news) olds) n l

pub map_same : {Y : Type 0} (f g : ℕ → Y) (ks : List ℕ) → All (λ k. f k ≡ g k) ks → map f ks ≡ map g ks
map_same f g [] h = refl
map_same {Y} f g (k ∷ ks) h = ap (λ (y : Y). y ∷ map f ks) (All-head (λ k. f k ≡ g k) k ks h) ∙ ap (λ (ys : List Y). g k ∷ ys) (map_same f g ks (All-tail (λ k. f k ≡ g k) k ks h))

module _ {Y : Type 0} (d : Y) (xs : List Y) (numbers : List ℕ) (own : List Y) (i : ℕ) (v : Y) (rise : Rises numbers) (l : i < length numbers) (lo : i < length own)
    (there : get_or numbers i 0 < length xs) (is : v ≡ get_or own i d) where
  here : ℕ
  here = get_or numbers i 0

  new_at : ℕ → Y
  new_at k = get_or (set xs (get_or numbers i 0) v) k d

  earlier : All (λ k. new_at k ≡ get_or xs k d) (take i numbers)
  unfolding new_at
  earlier k e less =
      let short : length (take i numbers) ≡ i = length-take-le i numbers (omega arith) in
      let before : k < i = omega (arith, less, short) in
      let read : get_or (take i numbers) k e ≡ get_or numbers k 0 = get_or-take i numbers k e before ∙ get_or_default numbers k e 0 (omega (arith, before, l)) in
      let lower : get_or numbers k 0 < get_or numbers i 0 = rise k i 0 before l in
      get_or-set_other xs (get_or numbers i 0) (get_or (take i numbers) k e) v d (λ same. absurd (omega (arith, same, read, lower)))

  -- one more is written
  pub place_more : map (λ k. get_or xs k d) (take i numbers) ≡ take i own → map (λ k. get_or (set xs (get_or numbers i 0) v) k d) (take (i + 1) numbers) ≡ take (i + 1) own
  unfolding new_at
  place_more so_far =
      let n : ℕ = get_or numbers i 0 in
      ap (map new_at) (take_more numbers i 0 l) ∙ map-append new_at (take i numbers) (n ∷ [])
      ∙ ap (λ (ys : List Y). ys ++ new_at n ∷ []) (map_same new_at (λ k. get_or xs k d) (take i numbers) earlier ∙ so_far)
      ∙ ap (λ (y : Y). take i own ++ y ∷ []) (get_or-set_same xs n v d there ∙ is)
      ∙ sym (take_more own i d lo)

  pub others_more : (olds : List Y) → ((k : ℕ) → (Contains (take i numbers) k → ⊥) → get_or xs k d ≡ get_or olds k d)
      → (k : ℕ) → (Contains (take (i + 1) numbers) k → ⊥)
      → get_or (set xs (get_or numbers i 0) v) k d ≡ get_or olds k d
  others_more olds so_far k none =
      let n : ℕ = get_or numbers i 0 in
      let more = take_more numbers i 0 l in
      get_or-set_other xs n k v d (λ same. none (subst (λ (ks : List ℕ). Contains ks k) (sym more) (subst (Contains (take i numbers ++ n ∷ [])) (sym same) (Contains-push (take i numbers) n))))
      ∙ so_far k (λ c. none (subst (λ (ks : List ℕ). Contains ks k) (sym more) (Contains-append_left (take i numbers) (n ∷ []) k c)))

same_length : {X : Type 0} (b : Bool) (x : X) (k : ℕ) (ks : List ℕ) (xs : List X) → length ks ≡ length xs → length (cond b (k ∷ ks) ks) ≡ length (cond b (x ∷ xs) xs)
same_length true x k ks xs e = ap suc e
same_length false x k ks xs e = e

-- there are as many places as items that pass
pub length_places : {X : Type 0} (p : X → Bool) (xs : List X) (k : ℕ) → length (places_from p k xs) ≡ length (filter p xs)
length_places p [] k = refl
length_places p (x ∷ xs) k = same_length (p x) x k (places_from p (k + 1) xs) (filter p xs) (length_places p xs (k + 1))

-- ---- islands apart

-- no order and no border is of both
pub record AreDisjoint (i j : Island) : Type 0 where
  pub orders : (k : ℕ) → Contains i.orders k → Contains j.orders k → ⊥
  pub borders : (k : ℕ) → Contains i.borders k → Contains j.borders k → ⊥

pairs_map : {X Y : Type 0} (f : X → Y) (R : Y → Y → Type 0) (xs : List X) (x : X) → AllPairs (λ a b. R (f a) (f b)) xs → AllPairs R (map f xs)
pairs_map {X} {Y} f R xs x h = λ i j d l k.
    let long : j < length xs = omega (arith, k, length-map xs f) in
    subst (λ (b : Y). R (get_or (map f xs) i d) b) (sym (get_or-map f xs j x d long))
    (subst (λ (a : Y). R a (f (get_or xs j x))) (sym (get_or-map f xs i x d (omega (arith, l, long)))) (h i j x l long))

module _ (m : Market) (islands : List Island) (v : IsValid m) (h : AreIslands m islands) where
  two_parts : (e f : ℕ) → e < f → AreDisjoint (part_at m islands v h e) (part_at m islands v h f)
  two_parts e f l = record {
    orders = λ k a b.
        let p = (place_passes (is_order_in (inside (first_of m islands v h) e)) m.orders k no_order a).1 in
        let q = (place_passes (is_order_in (inside (first_of m islands v h) f)) m.orders k no_order b).1 in
        let z : ℕ = first_of m islands v h (slice_index_or m.orders k no_order).zone in
        let same : e ≡ f = sym (eqb-true z e p) ∙ eqb-true z f q in
        omega (arith, l, same);
    borders = λ k a b.
        let p = (place_passes (is_border_in (inside (first_of m islands v h) e)) m.borders k no_border a).1 in
        let q = (place_passes (is_border_in (inside (first_of m islands v h) f)) m.borders k no_border b).1 in
        let y : ℕ = first_of m islands v h (slice_index_or m.borders k no_border).from in
        let z : ℕ = first_of m islands v h (slice_index_or m.borders k no_border).to in
        let same : e ≡ f = sym (eqb-true y e (and_parts (y == e) (z == e) p).0) ∙ eqb-true y f (and_parts (y == f) (z == f) q).0 in
        omega (arith, l, same);
  }

  all_disjoint : AllPairs AreDisjoint islands
  all_disjoint = subst (AllPairs AreDisjoint) (sym h.parts) (pairs_map (part_at m islands v h) AreDisjoint (first_zones h.firsts) 0
      (λ i j d l k. two_parts _ _ (numbers_rise (λ z. has_first h.firsts z z) (length h.firsts) i j d l k)))

  disjoint_before : (i : ℕ) (d : Island) → i < length islands → All (λ e. AreDisjoint e (get_or islands i d)) (take i islands)
  disjoint_before i d l = λ k e less.
      let short : length (take i islands) ≡ i = length-take-le i islands (omega arith) in
      let before : k < i = omega (arith, less, short) in
      let read : get_or (take i islands) k e ≡ get_or islands k d = get_or-take i islands k e before ∙ get_or_default islands k e d (omega (arith, before, l)) in
      subst (λ (x : Island). AreDisjoint x (get_or islands i d)) (sym read) (all_disjoint k i d before l)

  -- ---- the numbers of an island

  numbers_of : {X : Type 0} (p : X → Bool) (xs : List X) → AreNumbersOf (length xs) (places_from p 0 xs)
  numbers_of p xs = subst (AreNumbersOf (length xs)) (sym (places_are p xs)) (record {
    below = each_kept (passes_at p xs) (λ k. k < length xs) (range_with_len 0 (length xs)) (λ k c t. All-contains (λ k. k < length xs) (range_with_len 0 (length xs)) k (range_below (length xs)) c);
    rising = numbers_rise (passes_at p xs) (length xs);
  })

  pub order_numbers : All (λ (i : Island). AreNumbersOf (length m.orders) i.orders) islands
  order_numbers = all_islands m islands v h (λ i. AreNumbersOf (length m.orders) i.orders) (λ f l e. numbers_of (is_order_in (inside (first_of m islands v h) f)) m.orders)

  pub border_numbers : All (λ (i : Island). AreNumbersOf (length m.borders) i.borders) islands
  border_numbers = all_islands m islands v h (λ i. AreNumbersOf (length m.borders) i.borders) (λ f l e. numbers_of (is_border_in (inside (first_of m islands v h) f)) m.borders)

  pub orders_long : All (λ (i : Island). length i.orders ≡ length i.market.orders) islands
  orders_long = all_islands m islands v h (λ i. length i.orders ≡ length i.market.orders) (λ f l e.
      length_places (is_order_in (inside (first_of m islands v h) f)) m.orders 0
      ∙ sym (length-map (filter (is_order_in (inside (first_of m islands v h) f)) m.orders) (order_among (zones_of m (first_of m islands v h) f) (gates_of m (first_of m islands v h) f))))

  pub borders_long : All (λ (i : Island). length i.borders ≡ length i.market.borders) islands
  borders_long = all_islands m islands v h (λ i. length i.borders ≡ length i.market.borders) (λ f l e.
      length_places (is_border_in (inside (first_of m islands v h) f)) m.borders 0
      ∙ sym (length-map (filter (is_border_in (inside (first_of m islands v h) f)) m.borders) (border_among (zones_of m (first_of m islands v h) f))))

  -- ---- the loop over islands

  activation_same : (e i : Island) (own : Activation) (mw : List ℕ) (flow : List ℤ) (mws : List ℕ) (flows : List ℤ)
      → AreDisjoint e i → IsPlaced i own mw flow mws flows
      → activation_in e (activation_of mws flows) ≡ activation_in e (activation_of mw flow)
  activation_same e i own mw flow mws flows apart p =
      let A : List ℕ → Activation = λ qs. record { mw = qs; flow = map (int_at flows) e.borders } in
      let B : List ℤ → Activation = λ fs. record { mw = map (slice_index mw) e.orders; flow = fs } in
      ap A (map_same (slice_index mws) (slice_index mw) e.orders (λ k d l. p.other_mw _ (apart.orders _ (All-contains_itself e.orders k d l))))
      ∙ ap B (map_same (int_at flows) (int_at flow) e.borders (λ k d l. p.other_flow _ (apart.borders _ (All-contains_itself e.borders k d l))))

  pub placed_more : (clearings : List Clearing) (i : ℕ) (d : Island) (c : Clearing) (mw : List ℕ) (flow : List ℤ) (mws : List ℕ) (flows : List ℤ)
      → i < length islands → i < length clearings → ArePlaced (take i islands) (take i clearings) mw flow
      → IsPlaced (get_or islands i d) (get_or clearings i c).activation mw flow mws flows
      → ArePlaced (take (i + 1) islands) (take (i + 1) clearings) mws flows
  placed_more clearings i d c mw flow mws flows l lc so_far p = record {
    parts = AllZip_more (λ (e : Island) (c : Clearing). activation_in e (activation_of mws flows) ≡ c.activation) islands clearings i d c l lc
        (AllZip-both (λ (e : Island) (c : Clearing). AreDisjoint e (get_or islands i d)) (λ (e : Island) (c : Clearing). activation_in e (activation_of mw flow) ≡ c.activation)
        (λ (e : Island) (c : Clearing). activation_in e (activation_of mws flows) ≡ c.activation)
        (λ e c apart old. activation_same e (get_or islands i d) _ mw flow mws flows apart p ∙ old)
        (take i islands) (take i clearings) (side_all (λ e. AreDisjoint e (get_or islands i d)) (take i islands) (take i clearings)
        (length-take-le i clearings (omega arith) ∙ sym (length-take-le i islands (omega arith))) (disjoint_before i d l)) so_far.parts)
        p.placed;
    apart = λ k none.
        let more = take_more islands i d l in
        let split : IsApart (take i islands ++ get_or islands i d ∷ []) k = subst (λ (is : List Island). IsApart is k) more none in
        p.other_flow k
        (All-contains (λ (e : Island). Contains e.borders k → ⊥) (take i islands ++ get_or islands i d ∷ []) (get_or islands i d) split (Contains-push (take i islands) (get_or islands i d)))
        ∙ so_far.apart k (λ j e less. All-contains (λ (e : Island). Contains e.borders k → ⊥) (take i islands ++ get_or islands i d ∷ []) _ split
        (Contains-append_left (take i islands) (get_or islands i d ∷ []) _ (All-contains_itself (take i islands) j e less)));
  }
