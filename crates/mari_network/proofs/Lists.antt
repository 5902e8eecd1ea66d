-- Lists read place by place, and lists made item by item.
use Rattle.std.proofs.Common.{◌≡◌, ℕ, suc, ◌+◌, ◌<◌, List, [], ◌∷◌, ◌++◌, length, take, drop, get_or, map, sym, ap, ◌∙◌, arith, append_assoc, subst}
use Rattle.std.specs.List.{All, AllZip}
use Rattle.std.proofs.lemmas.List.Elements.{All-head, All-tail}
use Rattle.std.proofs.lemmas.List.{take_more, map_more}

pub all_zip : {X Y : Type 0} (P : X → Type 0) (xs : List X) (ys : List Y) → length xs ≡ length ys → All P xs → AllZip (λ x y. P x) xs ys
all_zip P (x ∷ xs) (y ∷ ys) e a = (All-head P x xs a, all_zip P xs ys (omega arith) (All-tail P x xs a))
all_zip P _ _ e a = grind arith

pub zip_of : {X Y : Type 0} (P : X → Y → Type 0) (xs : List X) (ys : List Y) (d : X) (e : Y) → length xs ≡ length ys → ((k : ℕ) → k < length xs → P (get_or xs k d) (get_or ys k e)) → AllZip P xs ys
zip_of P (x ∷ xs) (y ∷ ys) d e l h = (h 0 (omega arith), zip_of P xs ys d e (omega arith) (λ k m. h (suc k) (omega arith)))
zip_of P _ _ d e l h = grind arith

pub zip_long : {X Y : Type 0} (P : X → Y → Type 0) (xs : List X) (ys : List Y) → AllZip P xs ys → length xs ≡ length ys
zip_long P (x ∷ xs) (y ∷ ys) a = ap suc (zip_long P xs ys a.1)
zip_long P _ _ a = grind arith

pub zip_take : {X Y : Type 0} (P : X → Y → Type 0) (n : ℕ) (xs : List X) (ys : List Y) → AllZip P xs ys → AllZip P (take n xs) (take n ys)
zip_take P (suc n) (x ∷ xs) (y ∷ ys) a = (a.0, zip_take P n xs ys a.1)
zip_take P _ _ _ a = grind arith

pub zip_append : {X Y : Type 0} (P : X → Y → Type 0) (ss rs : List X) (xs ys : List Y) → AllZip P ss xs → AllZip P rs ys → AllZip P (ss ++ rs) (xs ++ ys)
zip_append P (s ∷ ss) rs (x ∷ xs) ys a b = (a.0, zip_append P ss rs xs ys a.1 b)
zip_append P _ rs _ ys a b = grind arith

pub zip_step : {X Y : Type 0} (P : X → Y → Type 0) (xs : List X) (ys new : List Y) (i : ℕ) (d : X) (y : Y)
    → i < length xs → new ≡ ys ++ y ∷ [] → AllZip P (take i xs) ys → P (get_or xs i d) y
    → AllZip P (take (i + 1) xs) new
zip_step {X = X} {Y = Y} P xs ys new i d y l e a p =
    subst (λ (zs : List X). AllZip P zs new) (sym (take_more xs i d l))
    (subst (λ (zs : List Y). AllZip P (take i xs ++ get_or xs i d ∷ []) zs) (sym e) (zip_append P (take i xs) (get_or xs i d ∷ []) ys (y ∷ []) a (p, tt)))

pub zip_first : {X Y : Type 0} (P : X → Y → Type 0) (ss rs : List X) (ys : List Y) → AllZip P (ss ++ rs) ys → AllZip P ss (take (length ss) ys)
zip_first P (s ∷ ss) rs (y ∷ ys) a = (a.0, zip_first P ss rs ys a.1)
zip_first P _ rs _ a = omega arith

pub zip_rest : {X Y : Type 0} (P : X → Y → Type 0) (ss rs : List X) (ys : List Y) → AllZip P (ss ++ rs) ys → AllZip P rs (drop (length ss) ys)
zip_rest P (s ∷ ss) rs (y ∷ ys) a = zip_rest P ss rs ys a.1
zip_rest P _ rs _ a = grind arith

pub pushed_map : {X Y : Type 0} (f : X → Y) (xs : List X) (i : ℕ) (d : X) (items new : List Y) (v : Y) → i < length xs
    → new ≡ items ++ v ∷ [] → items ≡ map f (take i xs) → v ≡ f (get_or xs i d) → new ≡ map f (take (i + 1) xs)
pushed_map {Y = Y} f xs i d items new v h n e w = n ∙ ap (λ (ys : List Y). ys ++ v ∷ []) e ∙ ap (λ (y : Y). map f (take i xs) ++ y ∷ []) w ∙ sym (map_more f xs i d h)

pub pushed_after : {X Y : Type 0} (f : X → Y) (first : List Y) (xs : List X) (i : ℕ) (d : X) (items new : List Y) (v : Y)
    → i < length xs → new ≡ items ++ v ∷ [] → items ≡ first ++ map f (take i xs) → v ≡ f (get_or xs i d)
    → new ≡ first ++ map f (take (i + 1) xs)
pushed_after {Y = Y} f first xs i d items new v h n e w =
    n ∙ ap (λ (ys : List Y). ys ++ v ∷ []) e ∙ append_assoc first (map f (take i xs)) (v ∷ []) ∙ ap
    (λ (y : Y). first ++ (map f (take i xs) ++ y ∷ [])) w ∙ ap (λ (ys : List Y). first ++ ys) (sym (map_more f xs i d h))
