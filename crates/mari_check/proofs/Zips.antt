-- Lists compared item by item.
use Rattle.std.proofs.Common.{◌≡◌, ℕ, zero, suc, ◌+◌, ◌<◌, ◌≤◌, Bool, true, false, List, [], ◌∷◌, length, map, take, get_or, arith, refl, sym, ap, ◌∙◌, subst}
use Rattle.std.specs.Prelude.{◌↔◌}
use Rattle.std.specs.List.{All, AllZip}
use Rattle.std.proofs.lemmas.Bool.{both_ways, false≢true}
use Rattle.std.proofs.lemmas.List.{take_all}
use Rattle.std.proofs.lemmas.List.Elements.{All-cons, All-head, All-nil, All-tail}
use Rattle.std.proofs.lemmas.Slice.Zip.{AllZip-long}
use Rattle.mari_settle.specs.Lines.{map_along}
use Rattle.mari_market.proofs.Lists.{fails_at, passes_more}

-- a loop that tests each pair, whose first item is read as x
pub pass : {X Y : Type 0} (P : X → Y → Type 0) (xs : List X) (ys : List Y) (i : ℕ) (x : X) (e y : Y) (b : Bool)
    → i < length xs → i < length ys → x ≡ get_or xs i x → y ≡ get_or ys i e → ((b ≡ true) ↔ P x y) → b ≡ true
    → AllZip P (take i xs) (take i ys) → AllZip P (take (i + 1) xs) (take (i + 1) ys)
pass {X} P xs ys i x e y b h l at read test is all = passes_more P xs ys i x e y b h l read (subst (λ (w : X). (b ≡ true) ↔ P w y) at test) is all

pub fail : {X Y : Type 0} (P : X → Y → Type 0) (xs : List X) (ys : List Y) (i : ℕ) (x : X) (e y : Y) (b : Bool)
    → i < length xs → x ≡ get_or xs i x → y ≡ get_or ys i e → ((b ≡ true) ↔ P x y) → b ≡ false
    → (false ≡ true) ↔ AllZip P xs ys
fail {X} P xs ys i x e y b h at read test is = fails_at P xs ys i x e y b h read (subst (λ (w : X). (b ≡ true) ↔ P w y) at test) is

pub uneven : {X Y : Type 0} (P : X → Y → Type 0) (xs : List X) (ys : List Y) → (length ys ≡ length xs → ⊥) → (false ≡ true) ↔ AllZip P xs ys
uneven P xs ys apart = (λ t. absurd (false≢true t), λ all. absurd (apart (AllZip-long P xs ys all)))

-- no, where something that would have to hold is tested and doesn't
pub refuted : (P : Type 0) (b : Bool) → b ≡ false → (P → b ≡ true) → (false ≡ true) ↔ P
refuted P b wrong test = (λ t. absurd (false≢true t), λ h. absurd (both_ways b wrong (test h)))

-- ---- pairs, and lists that are mapped

pub zip-to : {X Y Z : Type 0} (R : X → Y → Type 0) (f : X → Z) (g : Y → Z) → ((x : X) (y : Y) → R x y → f x ≡ g y) → (xs : List X) (ys : List Y) → AllZip R xs ys → map f xs ≡ map g ys
zip-to R f g h [] [] a = refl
zip-to R f g h (x ∷ xs) (y ∷ ys) a = ap (λ z. z ∷ map f xs) (h x y a.0) ∙ ap (λ zs. g y ∷ zs) (zip-to R f g h xs ys a.1)
zip-to R f g h _ _ a = absurd a

pub zip-from : {X Y Z : Type 0} (R : X → Y → Type 0) (f1 f2 : X → Z) (g1 g2 : Y → Z)
    → ((x : X) (y : Y) → f1 x ≡ g1 y → f2 x ≡ g2 y → R x y) → (xs : List X) (ys : List Y) → map f1 xs ≡ map g1 ys
    → map f2 xs ≡ map g2 ys → AllZip R xs ys
zip-from R f1 f2 g1 g2 h [] [] d e = tt
zip-from R f1 f2 g1 g2 h [] (y ∷ ys) d e = absurd (cc d)
zip-from R f1 f2 g1 g2 h (x ∷ xs) [] d e = absurd (cc d)
zip-from R f1 f2 g1 g2 h (x ∷ xs) (y ∷ ys) d e =
    let d1 : f1 x ≡ g1 y = cc d in
    let d2 : map f1 xs ≡ map g1 ys = cc d in
    let e1 : f2 x ≡ g2 y = cc e in
    let e2 : map f2 xs ≡ map g2 ys = cc e in
    (h x y d1 e1, zip-from R f1 f2 g1 g2 h xs ys d2 e2)

pub map-itself : {X : Type 0} (xs : List X) → map (λ (x : X). x) xs ≡ xs
map-itself [] = refl
map-itself (x ∷ xs) = ap (λ ys. x ∷ ys) (map-itself xs)

pub zip-same : {X : Type 0} (R : X → X → Type 0) → ((x y : X) → R x y → x ≡ y) → (xs ys : List X) → AllZip R xs ys → xs ≡ ys
zip-same {X} R h xs ys a = sym (map-itself xs) ∙ zip-to R (λ (x : X). x) (λ (y : X). y) h xs ys a ∙ map-itself ys

pub same-zip : {X : Type 0} (R : X → X → Type 0) → ((x y : X) → x ≡ y → R x y) → (xs ys : List X) → xs ≡ ys → AllZip R xs ys
same-zip {X} R h xs ys e = let all = map-itself xs ∙ e ∙ sym (map-itself ys) in zip-from R (λ (x : X). x) (λ (x : X). x) (λ (y : X). y) (λ (y : X). y) (λ x y d f. h x y d) xs ys all all

-- lists are compared where their items are
pub same-by : {X : Type 0} (R : X → X → Type 0) → ((x y : X) → R x y → x ≡ y) → ((x y : X) → x ≡ y → R x y) → (xs ys : List X) (b : Bool) → (b ≡ true) ↔ AllZip R xs ys → (b ≡ true) ↔ (xs ≡ ys)
same-by R to from xs ys b test = (λ t. zip-same R to xs ys (test.0 t), λ e. test.1 (same-zip R from xs ys e))

pub along-at : {X Y Z : Type 0} (f : X → Y → Z) (xs : List X) (ys : List Y) (i : ℕ) (c : X) (d : Y) (e : Z)
    → i < length xs → i < length ys → f (get_or xs i c) (get_or ys i d) ≡ get_or (map_along f xs ys) i e
along-at f [] ys i c d e l m = absurd (omega arith)
along-at f (x ∷ xs) [] i c d e l m = absurd (omega arith)
along-at f (x ∷ xs) (y ∷ ys) zero c d e l m = refl
along-at f (x ∷ xs) (y ∷ ys) (suc i) c d e l m = along-at f xs ys i c d e (omega arith) (omega arith)

-- one more item of which something holds
pub all-more : {X : Type 0} (P : X → Type 0) (xs : List X) (i : ℕ) (x : X) → i < length xs → x ≡ get_or xs i x → P x → All P (take i xs) → All P (take (i + 1) xs)
all-more P [] i x l at p all = absurd (omega arith)
all-more {X} P (y ∷ ys) zero x l at p all = All-cons P y [] (subst P at p) (All-nil P)
all-more {X} P (y ∷ ys) (suc i) x l at p all =
    let k : suc (i + 1) ≡ suc i + 1 = omega arith in
    subst (λ (n : ℕ). All P (take n (y ∷ ys))) k (All-cons P y (take (i + 1) ys) (All-head P y (take i ys) all) (all-more P ys i x (omega arith) at p (All-tail P y (take i ys) all)))

pub all-whole : {X : Type 0} (P : X → Type 0) (xs : List X) (i : ℕ) → length xs ≤ i → All P (take i xs) → All P xs
all-whole {X} P xs i l all = subst (All P) (take_all i xs l) all
