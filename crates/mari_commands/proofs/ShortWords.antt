-- Distinct words of few bits are few.
use Rattle.std.proofs.Common.{◌≡◌, ◌≢◌, ◌∙◌, ℕ, zero, suc, ◌+◌, ◌<◌, ◌≤◌, ◌==◌, Bool, true, false, List, [], ◌∷◌, get_or, length, map, ap, arith, refl, sym}
use Rattle.std.specs.List.{All, AllPairs, list_any}
use Rattle.std.proofs.lemmas.Bool.{eqb-true}
use Rattle.std.proofs.lemmas.Bool.Decides.{Decides-eqb}
use Rattle.std.proofs.lemmas.List.{get_or-map, length-map}
use Rattle.std.proofs.lemmas.List.Elements.{All-map}
use Rattle.std.proofs.lemmas.List.Folds.{Any-from_list_any}
use Rattle.std.proofs.lemmas.Map.Made.{IsDistinct-from_AllPairs}
use Rattle.std.proofs.lemmas.Map.Steps.{length-le_from_distinct_below}

-- the place of a word among all words, of which the shorter ones are first
abbrev place_of : List Bool → ℕ
place_of [] = 0
place_of (false ∷ w) = place_of w + place_of w + 1
place_of (true ∷ w) = place_of w + place_of w + 2

one-place : (v w : List Bool) → place_of v ≡ place_of w → v ≡ w
one-place [] [] e = refl
one-place (false ∷ v) (false ∷ w) e = ap (λ u. false ∷ u) (one-place v w (omega (arith, e)))
one-place (true ∷ v) (true ∷ w) e = ap (λ u. true ∷ u) (one-place v w (omega (arith, e)))
one-place v w e = grind arith

-- how many words there are of at most n bits
abbrev pub count_to : ℕ → ℕ
count_to zero = 1
count_to (suc n) = count_to n + count_to n + 1

place-below : (n : ℕ) (w : List Bool) → length w ≤ n → place_of w < count_to n
place-below zero [] l = omega arith
place-below (suc n) [] l = omega arith
place-below zero (b ∷ w) l = absurd (omega (arith, l))
place-below (suc n) (false ∷ w) l = omega (arith, place-below n w (omega (arith, l)))
place-below (suc n) (true ∷ w) l = omega (arith, place-below n w (omega (arith, l)))

module _ (n : ℕ) (words : List (List Bool)) (distinct : AllPairs (λ v w. v ≢ w) words) (short : All (λ w. length w ≤ n) words) where
  differ : AllPairs (λ a b. a ≢ b) (map place_of words)
  differ = λ i j d l m e.
      let last : j < length words = omega (arith, m, length-map words place_of) in
      let first = get_or-map place_of words i [] d (omega (arith, l, last)) in
      distinct i j [] l last (one-place (get_or words i []) (get_or words j []) (sym first ∙ e ∙ get_or-map place_of words j [] d last))

  below : All (λ k. k < count_to n) (map place_of words)
  below = All-map (λ k. k < count_to n) place_of words (λ k d l. place-below n (get_or words k d) (short k d l))

  member : (q : ℕ) → list_any (λ k. q == k) (map place_of words) ≡ true → q < count_to n
  member q found =
      let any = Any-from_list_any (λ k. q == k) (map place_of words) found in
      omega (arith, below any.0 any.1 any.2, any.3, eqb-true q any.1 any.4)

  -- so they are no more than there are words
  pub few-words : length words ≤ count_to n
  few-words =
      let fit = length-le_from_distinct_below (map place_of words) (count_to n) (IsDistinct-from_AllPairs Decides-eqb (map place_of words) differ) member in
      omega (arith, fit, length-map words place_of)
