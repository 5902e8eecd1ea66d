-- Gates by their places among the gated bids, which rise.
use Rattle.std.proofs.Common.{◌≡◌, ℕ, ◌<◌, ◌≤◌, ◌==◌, inl, inr, Bool, true, false, List, length, refl, ap, arith, Some, get_or, nat_lt}
use Rattle.std.specs.List.{AllPairs, position, position_or_len}
use Rattle.std.proofs.lemmas.Bool.{eqb-true, eq-eqb, lt-ltb, cases_lt}
use Rattle.std.proofs.lemmas.Bool.Decides.{eqb_tells}
use Rattle.std.proofs.lemmas.List.Quantifiers.{position-Some}
use Rattle.std.proofs.lemmas.List.Sums.{position_or_len_is}
use Rattle.mari_remain.specs.RunMarket.{gate_of}

-- the gate of a bid is its place
pub gate-at : (gated : List ℕ) (i g : ℕ) → gate_of gated i ≡ Some g → (g < length gated) × (get_or gated g 0 ≡ i)
gate-at gated i g e = let found = position-Some (λ j. j == i) gated g 0 e in (found.0, eqb-true _ _ found.1)

differs : (a b : ℕ) → a < b → (a == b) ≡ false
differs a b l = elim (eqb_tells a b) [ inl h ↦ absurd (omega (arith, h.1)) | inr h ↦ h.0 ]

-- the first place of a number is found
first_place : (xs : List ℕ) (x g : ℕ) → g < length xs → position_or_len (λ j. j == x) xs ≡ g → position (λ j. j == x) xs ≡ Some g
first_place xs x g l e = rw e (let here : nat_lt g (length xs) ≡ true = lt-ltb g (length xs) l in rw here refl)

-- the bid at a place has this gate
pub gate-is : (gated : List ℕ) (g : ℕ) → AllPairs (λ i j. i < j) gated → g < length gated → gate_of gated (get_or gated g 0) ≡ Some g
gate-is gated g rise l =
    let test : ℕ → Bool = λ j. j == get_or gated g 0 in
    first_place gated (get_or gated g 0) g l (position_or_len_is test gated g 0 (omega arith) (λ k less. differs _ _ (rise k g 0 less l)) (λ m. eq-eqb _ _ refl))

not_before : (gated : List ℕ) (i j g h : ℕ) → AllPairs (λ i j. i < j) gated → get_or gated g 0 ≡ i → (h < length gated) × (get_or gated h 0 ≡ j) → get_or gated h 0 ≡ j → g ≤ h → j < i → ⊥
not_before gated i j g h rise a b e at_least l = elim (cases_lt g h) [
  | inl less ↦ omega (arith, rise g h 0 less b.0)
  | inr more ↦ (let same : g ≡ h = omega arith in let one : get_or gated g 0 ≡ get_or gated h 0 = ap (λ k. get_or gated k 0) same in omega arith)
]

-- of two gated bids the earlier has the smaller gate
pub gate-less : (gated : List ℕ) (i j g h : ℕ) → AllPairs (λ i j. i < j) gated → gate_of gated i ≡ Some g → gate_of gated j ≡ Some h → j < i → h < g
gate-less gated i j g h rise e f l =
    let a = gate-at gated i g e in
    let b = gate-at gated j h f in
    elim (cases_lt h g) [ inl less ↦ less | inr at_least ↦ absurd (not_before gated i j g h rise a.1 b b.1 at_least l) ]
