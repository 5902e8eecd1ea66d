-- Ledgers within bounds add up, to one within the sum of the bounds.
use Rattle.std.proofs.Common.{◌≡◌, ℕ, ◌+◌, ◌≤◌, ◌^◌, List, [], ◌∷◌, length, arith, sym}
use Rattle.std.proofs.lemmas.Int.{ints}
use Rattle.std.proofs.lemmas.List.Elements.{All-head, All-tail}
use Rattle.std.proofs.lemmas.Slice.Zip.{AllZip-long}
use Rattle.std.specs.List.{All, AllZip}
use Rattle.mari_units.specs.declared.numbers.Quarters.{Quarters}
use Rattle.mari_settle.specs.declared.ledger.OperatorLine.{OperatorLine}
use Rattle.mari_settle.specs.declared.ledger.Ledger.{Ledger}
use Rattle.mari_settle.specs.Conditions.{AddUp, MoneyIsWithin, LedgerIsWithin, LedgersAddUp, LineIsWithin, LinesAddUp}
use Rattle.mari_settle.specs.Lines.{lines_together, map_along, together}
use Rattle.mari_settle.proofs.Laws.{All-map_along}

-- what follows of an item of each list holds at each place
pub side_by_side : {X Y : Type 0} (P : X → Type 0) (Q : Y → Type 0) (R : X → Y → Type 0)
    → ((x : X) (y : Y) → P x → Q y → R x y) → (xs : List X) (ys : List Y) → length xs ≡ length ys → All P xs
    → All Q ys → AllZip R xs ys
side_by_side P Q R h [] [] l p q = tt
side_by_side P Q R h (x ∷ xs) (y ∷ ys) l p q = (h x y (All-head P x xs p) (All-head Q y ys q), side_by_side P Q R h xs ys (omega (arith, l)) (All-tail P x xs p) (All-tail Q y ys q))
side_by_side P Q R h [] (y ∷ ys) l p q = absurd (omega (arith, l))
side_by_side P Q R h (x ∷ xs) [] l p q = absurd (omega (arith, l))

pub sum_within : (m n : ℕ) (a b : Quarters) → MoneyIsWithin m a → MoneyIsWithin n b → MoneyIsWithin (m + n) (together a b)
sum_within m n a b h l = omega (arith, ints, h, l)

add_up : (m n : ℕ) (a b : Quarters) → m + n ≤ 10 ^ 30 → MoneyIsWithin m a → MoneyIsWithin n b → AddUp a b
add_up m n a b k h l = omega (arith, ints, h, l, k)

lines_add_up : (m n : ℕ) (a b : OperatorLine) → m + n ≤ 10 ^ 30 → LineIsWithin m a → LineIsWithin n b → LinesAddUp a b
lines_add_up m n a b k h l = record { payment = add_up m n a.payment b.payment k h.payment l.payment; rent = add_up m n a.rent b.rent k h.rent l.rent }

pub lines_within : (m n : ℕ) (a b : OperatorLine) → LineIsWithin m a → LineIsWithin n b → LineIsWithin (m + n) (lines_together a b)
lines_within m n a b h l = record { payment = sum_within m n a.payment b.payment h.payment l.payment; rent = sum_within m n a.rent b.rent h.rent l.rent }

-- ledgers of equal lengths, whose numbers are within bounds that add up to at most 10^30
pub ledgers_add_up : (m n : ℕ) (a b : Ledger) → m + n ≤ 10 ^ 30 → length a.operators ≡ length b.operators
    → length a.providers ≡ length b.providers → length a.rents ≡ length b.rents → LedgerIsWithin m a
    → LedgerIsWithin n b → LedgersAddUp a b
ledgers_add_up m n a b k os ps rs h l = record {
  operators = side_by_side (LineIsWithin m) (LineIsWithin n) LinesAddUp (λ x y p q. lines_add_up m n x y k p q) a.operators b.operators os h.operators l.operators;
  providers = side_by_side (MoneyIsWithin m) (MoneyIsWithin n) AddUp (λ x y p q. add_up m n x y k p q) a.providers b.providers ps h.providers l.providers;
  rents = side_by_side (MoneyIsWithin m) (MoneyIsWithin n) AddUp (λ x y p q. add_up m n x y k p q) a.rents b.rents rs h.rents l.rents;
}

pub sums_within : {X : Type 0} (f : X → X → X) (P Q R : X → Type 0) → ((x y : X) → P x → Q y → R (f x y)) → (xs ys : List X) → length xs ≡ length ys → All P xs → All Q ys → All R (map_along f xs ys)
sums_within f P Q R h xs ys l p q = All-map_along f (λ x y. R (f x y)) R (λ x y r. r) xs ys (side_by_side P Q (λ x y. R (f x y)) h xs ys l p q)

-- the sum of two ledgers is within the sum of their bounds
pub sum_is_within : (m n : ℕ) (a b c : Ledger) → LedgersAddUp a b
    → c.operators ≡ map_along lines_together a.operators b.operators
    → c.providers ≡ map_along together a.providers b.providers → c.rents ≡ map_along together a.rents b.rents
    → LedgerIsWithin m a → LedgerIsWithin n b → LedgerIsWithin (m + n) c
sum_is_within m n a b c sums os ps rs h l = record {
  operators = rw os (sums_within lines_together (LineIsWithin m) (LineIsWithin n) (LineIsWithin (m + n)) (lines_within m n) a.operators b.operators
      (sym (AllZip-long LinesAddUp a.operators b.operators sums.operators)) h.operators l.operators);
  providers = rw ps (sums_within together (MoneyIsWithin m) (MoneyIsWithin n) (MoneyIsWithin (m + n)) (sum_within m n) a.providers b.providers
      (sym (AllZip-long AddUp a.providers b.providers sums.providers)) h.providers l.providers);
  rents =
      rw rs (sums_within together (MoneyIsWithin m) (MoneyIsWithin n) (MoneyIsWithin (m + n)) (sum_within m n) a.rents b.rents (sym (AllZip-long AddUp a.rents b.rents sums.rents)) h.rents l.rents);
}
