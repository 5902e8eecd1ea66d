-- Tests, and tests over two lists side by side.
use Rattle.std.proofs.Common.{◌≡◌, ℕ, ◌+◌, ◌<◌, ◌≤◌, Bool, true, false, List, ◌∷◌, length, take, get_or, arith, subst, sym, refl, suc}
use Rattle.std.specs.Prelude.{◌↔◌}
use Rattle.std.proofs.lemmas.Bool.{false≢true, both_ways}
use Rattle.std.proofs.lemmas.List.{take_all}
use Rattle.std.specs.List.{AllZip}
use Rattle.mari_market.proofs.Sums.{AllZip-at}

-- what follows from either answer of a test
pub by_test : {P : Type 0} (b : Bool) → (b ≡ true → P) → (b ≡ false → P) → P
by_test b f g = grind arith

-- one more pair, for a loop's step
pub AllZip_more : {X Y : Type 0} (P : X → Y → Type 0) (xs : List X) (ys : List Y) (i : ℕ) (d : X) (e : Y)
    → i < length xs → i < length ys → AllZip P (take i xs) (take i ys) → P (get_or xs i d) (get_or ys i e)
    → AllZip P (take (i + 1) xs) (take (i + 1) ys)
AllZip_more P (x ∷ xs) (y ∷ ys) (suc i) d e h l a p =
    let k : suc (i + 1) ≡ suc i + 1 = omega arith in
    subst (λ (n : ℕ). AllZip P (take n (x ∷ xs)) (take n (y ∷ ys))) k (a.0, AllZip_more P xs ys i d e (omega arith) (omega arith) a.1 p)
AllZip_more P _ _ _ d e h l a p = grind arith

-- a loop that tests each pair: where the test of one passes, and where it fails
pub passes_more : {X Y : Type 0} (P : X → Y → Type 0) (xs : List X) (ys : List Y) (i : ℕ) (d : X) (e y : Y) (b : Bool)
    → i < length xs → i < length ys → y ≡ get_or ys i e → ((b ≡ true) ↔ P (get_or xs i d) y) → b ≡ true
    → AllZip P (take i xs) (take i ys) → AllZip P (take (i + 1) xs) (take (i + 1) ys)
passes_more P xs ys i d e y b h l read test is all = AllZip_more P xs ys i d e h l all (subst (P (get_or xs i d)) read (test.0 is))

pub fails_at : {X Y : Type 0} (P : X → Y → Type 0) (xs : List X) (ys : List Y) (i : ℕ) (d : X) (e y : Y) (b : Bool)
    → i < length xs → y ≡ get_or ys i e → ((b ≡ true) ↔ P (get_or xs i d) y) → b ≡ false
    → (false ≡ true) ↔ AllZip P xs ys
fails_at P xs ys i d e y b h read test is = (λ t. absurd (false≢true t), λ all. absurd (both_ways b is (test.1 (subst (P (get_or xs i d)) (sym read) (AllZip-at P xs ys i d e h all)))))

pub passes_all : {X Y : Type 0} (P : X → Y → Type 0) (xs : List X) (ys : List Y) (i : ℕ) → length xs ≤ i → length ys ≤ i → AllZip P (take i xs) (take i ys) → (true ≡ true) ↔ AllZip P xs ys
passes_all {X} {Y} P xs ys i h l all = (λ t. subst (λ (zs : List Y). AllZip P xs zs) (take_all i ys l) (subst (λ (zs : List X). AllZip P zs (take i ys)) (take_all i xs h) all), λ a. refl)
