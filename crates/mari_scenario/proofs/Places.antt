-- A fact of each of the first eight or ten numbers.
use Rattle.std.proofs.Common.{◌<◌, ℕ, zero, suc, arith}

pub first-eight : (P : ℕ → Type 0) → P 0 → P 1 → P 2 → P 3 → P 4 → P 5 → P 6 → P 7 → (i : ℕ) → i < 8 → P i
first-eight P a b c d e f g h zero few = a
first-eight P a b c d e f g h (suc zero) few = b
first-eight P a b c d e f g h (suc (suc zero)) few = c
first-eight P a b c d e f g h (suc (suc (suc zero))) few = d
first-eight P a b c d e f g h (suc (suc (suc (suc zero)))) few = e
first-eight P a b c d e f g h (suc (suc (suc (suc (suc zero))))) few = f
first-eight P a b c d e f g h (suc (suc (suc (suc (suc (suc zero)))))) few = g
first-eight P a b c d e f g h (suc (suc (suc (suc (suc (suc (suc zero))))))) few = h
first-eight P a b c d e f g h (suc (suc (suc (suc (suc (suc (suc (suc i)))))))) few = absurd (omega (arith, few))

pub first-ten : (P : ℕ → Type 0) → P 0 → P 1 → P 2 → P 3 → P 4 → P 5 → P 6 → P 7 → P 8 → P 9 → (i : ℕ) → i < 10 → P i
first-ten P a b c d e f g h j k zero few = a
first-ten P a b c d e f g h j k (suc zero) few = b
first-ten P a b c d e f g h j k (suc (suc i)) few = first-eight (λ i. P (suc (suc i))) c d e f g h j k i (omega (arith, few))
