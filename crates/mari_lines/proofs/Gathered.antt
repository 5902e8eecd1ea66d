-- A list that is gathered from words, one of each word.
use Rattle.std.proofs.Common.{◌≡◌, ◌≤◌, ◌<◌, ℕ, suc, zero, ◌+◌, List, [], ◌∷◌, ◌++◌, map, length, Result, Err, refl, ap, ◌∙◌, arith}
use Rattle.std.specs.List.{All}
use Rattle.std.proofs.lemmas.Fmt.{decimal_injective}
use Rattle.mari_market.specs.Cut.{IsRising}
use Rattle.std.proofs.lemmas.List.Elements.{All-nil}
use Rattle.mari_lines.specs.declared.fault.FormFault.{FormFault}
use Rattle.mari_lines.specs.Ranges.{Listed, IsZone}
use Rattle.mari_lines.specs.Spelling.{zone_text}
use Rattle.mari_lines.specs.Reading.{Reads}
use Rattle.mari_lines.proofs.NotRead.{handed_on}

-- these were gathered, and these words are left of all
pub record Begun {X : Type 0} (R : X → Type 0) (f : X → List ℕ) (most : ℕ) (xs : List X) (left all : List (List ℕ)) : Type 0 where
  pub whole : all ≡ map f xs ++ left
  pub ranges : All R xs
  pub few : length xs ≤ most

pub head_of : {X : Type 0} (R : X → Type 0) (x : X) (xs : List X) → All R (x ∷ xs) → R x
head_of R x xs a = a 0 x (omega arith)

pub tail_of : {X : Type 0} (R : X → Type 0) (x : X) (xs : List X) → All R (x ∷ xs) → All R xs
tail_of R x xs a k d lt = a (suc k) d (omega arith)

-- the one that is written as the word after those before it
at_word : {X : Type 0} (R : X → Type 0) (f : X → List ℕ) (xs ys : List X) (w : List ℕ) (left : List (List ℕ)) → All R ys → map f ys ≡ map f xs ++ w ∷ left → (x : X) × R x × (f x ≡ w)
at_word R f [] [] w left a e = absurd cc
at_word R f [] (y ∷ ys) w left a e = (y, head_of R y ys a, cc)
at_word R f (x ∷ xs) [] w left a e = absurd cc
at_word R f (x ∷ xs) (y ∷ ys) w left a e = let rest : map f ys ≡ map f xs ++ w ∷ left = cc in at_word R f xs ys w left (tail_of R y ys a) rest

pub begun_unread : {X : Type 0} (R : X → Type 0) (f : X → List ℕ) (least most : ℕ) (xs : List X) (w : List ℕ) (ws left all : List (List ℕ)) (e : FormFault) (result : Result (List X) FormFault)
    → Begun R f most xs ws all → ws ≡ w ∷ left → Reads R f w (Err e) → (x : FormFault) × (result ≡ Err x) × (x ≡ e) → Reads (Listed least most R) (map f) all result
begun_unread R f least most xs w ws left all e result b next none is =
    handed_on R f w (Listed least most R) (map f) all e result is none
    (λ ys r same. at_word R f xs ys w left r.1 (same ∙ b.whole ∙ ap (λ (vs : List (List ℕ)). map f xs ++ vs) next))

-- lists whose items are written alike are the same
pub same_list : {X : Type 0} (R : X → Type 0) (f : X → List ℕ) → ((x y : X) → R x → R y → f x ≡ f y → x ≡ y) → (xs ys : List X) → All R xs → All R ys → map f xs ≡ map f ys → xs ≡ ys
same_list R f inj [] [] a b e = refl
same_list R f inj [] (y ∷ ys) a b e = absurd cc
same_list R f inj (x ∷ xs) [] a b e = absurd cc
same_list R f inj (x ∷ xs) (y ∷ ys) a b e =
    let first : f x ≡ f y = cc in
    let rest : map f xs ≡ map f ys = cc in
    let same : x ≡ y = inj x y (head_of R x xs a) (head_of R y ys b) first in
    let more = same_list R f inj xs ys (tail_of R x xs a) (tail_of R y ys b) rest in
    cc

pub same_zone : (m n : ℕ) → m < 64 → n < 64 → zone_text m ≡ zone_text n → m ≡ n
same_zone m n lm ln e = let same : m + 1 ≡ n + 1 = decimal_injective (m + 1) (n + 1) (omega arith) (omega arith) e in omega arith

pub cons_all : {X : Type 0} (R : X → Type 0) (x : X) (xs : List X) → R x → All R xs → All R (x ∷ xs)
cons_all R x xs r a zero d lt = r
cons_all R x xs r a (suc k) d lt = a k d (omega arith)

-- zones that rise below 64 are zones
pub rising_zones : (least : ℕ) (zs : List ℕ) → IsRising least 64 zs → All IsZone zs
rising_zones least [] r = All-nil IsZone
rising_zones least (z ∷ zs) r = cons_all IsZone z zs r.1 (rising_zones (z + 1) zs r.2)
