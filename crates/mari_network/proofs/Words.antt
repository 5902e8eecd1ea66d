-- Rungs as words: words that rise are rungs that rise, and one word more is one rung more.
use Rattle.std.proofs.Common.{◌≡◌, ℕ, ◌<◌, ◌≤◌, ◌≤ℤ◌, List, [], ◌∷◌, ◌++◌, length, get_or, map, ap, ◌∙◌, arith}
use Rattle.std.proofs.lemmas.Int.{ints}
use Rattle.std.proofs.lemmas.List.{get_or-map, length-map, map-append}
use Rattle.std.proofs.lemmas.List.Sorted.{IsNonDecreasingBy-from_sort}
use Rattle.std.specs.List.Sorted.{IsSorted}
use Rattle.std.specs.Ordering.{nat_cmp}
use Rattle.mari_network.specs.declared.network.Rung.{Rung}
use Rattle.mari_network.specs.Network.{IsRising}
use Rattle.mari_network.specs.Words.{rung_in}

-- a greater word has no lower price
dearer : (v w : ℕ) → v ≤ w → (rung_in v).price ≤ℤ (rung_in w).price
dearer v w le = omega (arith, ints)

-- words that rise are rungs that rise
pub rising : (ws : List ℕ) → IsSorted nat_cmp ws → IsRising (map rung_in ws)
rising ws up i j d le l =
    let there : j < length ws = omega (arith, l, length-map ws rung_in) in
    let before : i < length ws = omega arith in
    let first : get_or (map rung_in ws) i d ≡ rung_in (get_or ws i 0) = get_or-map rung_in ws i 0 d before in
    let second : get_or (map rung_in ws) j d ≡ rung_in (get_or ws j 0) = get_or-map rung_in ws j 0 d there in
    let order : (rung_in (get_or ws i 0)).price ≤ℤ (rung_in (get_or ws j 0)).price = dearer _ _ (IsNonDecreasingBy-from_sort (λ x. x) ws up i j 0 le there) in
    omega (arith, ints, ap (λ (r : Rung). r.price) first, ap (λ (r : Rung). r.price) second, order)

-- one word more
pub one_more_word : (ws : List ℕ) (w : ℕ) (r : Rung) → rung_in w ≡ r → map rung_in (ws ++ w ∷ []) ≡ map rung_in ws ++ r ∷ []
one_more_word ws w r e = map-append rung_in ws (w ∷ []) ∙ ap (λ (x : Rung). map rung_in ws ++ x ∷ []) e
