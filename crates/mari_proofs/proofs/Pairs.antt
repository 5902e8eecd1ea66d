-- What holds somewhere in two lists side by side, pair by pair.
use Rattle.std.proofs.Common.{ℕ, ◌+◌, ◌<◌, List, length, take, get_or, inl, inr}
use Rattle.mari_market.specs.Sums.{AnyZip}
use Rattle.mari_market.proofs.Sums.{AnyZip_cases}

-- a loop's step: still nowhere
pub nowhere_more : {X Y : Type 0} (P : X → Y → Type 0) (xs : List X) (ys : List Y) (i : ℕ) (d : X) (e : Y)
    → i < length xs → i < length ys → (AnyZip P (take i xs) (take i ys) → ⊥) → (P (get_or xs i d) (get_or ys i e) → ⊥)
    → AnyZip P (take (i + 1) xs) (take (i + 1) ys) → ⊥
nowhere_more P xs ys i d e h l before here a = elim (AnyZip_cases P xs ys i d e h l a) [ inl b ↦ before b | inr p ↦ here p ]
