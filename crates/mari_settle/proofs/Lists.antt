-- Lists that a loop writes item by item, and sums over numbers from 0 on.
use Rattle.std.proofs.Common.{◌≡◌, ℕ, ◌+◌, ◌<◌, ◌≤◌, ℤ, ◌+ℤ◌, List, [], ◌∷◌, ◌++◌, length, take, drop, get_or, set, map, arith, refl, sym, ap, subst, ◌∙◌, suc, zero}
use Rattle.std.proofs.lemmas.Grind.{take-set_at}
use Rattle.std.proofs.lemmas.Int.{ints}
use Rattle.std.proofs.lemmas.List.{drop-drop, drop-set-lt, get_or-drop, take_all}
use Rattle.std.proofs.lemmas.Slice.Zip.{AllZip-long}
use Rattle.std.proofs.lemmas.List.FromFn.{map-range_with_len_more}
use Rattle.std.proofs.lemmas.List.Elements.{All-append, All-cons, AllZip-get_or}
use Rattle.std.specs.List.{All, AllZip, range_with_len}
use Rattle.mari_market.specs.Sums.{int_sum}
use Rattle.mari_units.specs.Lists.{with_items}
use Rattle.mari_settle.specs.Lines.{map_along}
use Rattle.std.proofs.Math.Seq.{take-append_seam}

-- a list that is written over as a whole
pub written_over : {X : Type 0} (xs ws vs : List X) → length ws ≡ length xs → ws ≡ vs → with_items xs ws ≡ vs
written_over xs ws vs l e = rw (← l) (take-append_seam ws (drop (length ws) xs)) ∙ e

-- the list so far is what f gives of the numbers so far: one more
pub written_more : {X : Type 0} (f : ℕ → X) (xs : List X) (k : ℕ) (x : X) → k < length xs
    → take k xs ≡ map f (range_with_len 0 k) → x ≡ f k → take (k + 1) (set xs k x) ≡ map f (range_with_len 0 (k + 1))
written_more f xs k x h e y = take-set_at xs k (k + 1) x refl h ∙ ap (λ ys. ys ++ x ∷ []) e ∙ ap (λ z. map f (range_with_len 0 k) ++ z ∷ []) y ∙ sym (map-range_with_len_more f 0 k k (omega arith))

-- what holds of each item so far holds of each with one more
pub small_more : {X : Type 0} (P : X → Type 0) (xs : List X) (k : ℕ) (x : X) → k < length xs → All P (take k xs) → P x → All P (take (k + 1) (set xs k x))
small_more P xs k x h all here = subst (All P) (sym (take-set_at xs k (k + 1) x refl h)) (All-append P (take k xs) (x ∷ []) all (All-cons P x [] here (λ i d l. absurd (omega arith))))

-- what f gives of two lists side by side: one more
pub map_along_more : {X Y Z : Type 0} (f : X → Y → Z) (xs : List X) (ys : List Y) (i : ℕ) (d : X) (e : Y)
    → i < length xs → i < length ys
    → map_along f (take (i + 1) xs) (take (i + 1) ys) ≡ map_along f (take i xs) (take i ys) ++ f (get_or xs i d) (get_or ys i e) ∷ []
map_along_more f [] ys i d e h l = absurd (omega arith)
map_along_more f (x ∷ xs) [] i d e h l = absurd (omega arith)
map_along_more f (x ∷ xs) (y ∷ ys) zero d e h l = refl
map_along_more f (x ∷ xs) (y ∷ ys) (suc i) d e h l =
    let k : suc i + 1 ≡ suc (i + 1) = omega arith in
    ap (λ n. map_along f (take n (x ∷ xs)) (take n (y ∷ ys))) k ∙ ap (λ zs. f x y ∷ zs) (map_along_more f xs ys i d e (omega arith) (omega arith))

-- the list so far is what f gives of two lists side by side so far: one more
pub written_along_more : {X Y Z : Type 0} (f : X → Y → Z) (xs : List X) (ys : List Y) (zs : List Z) (i : ℕ) (d : X) (e : Y) (z : Z)
    → i < length xs → i < length ys → i < length zs → take i zs ≡ map_along f (take i xs) (take i ys)
    → z ≡ f (get_or xs i d) (get_or ys i e)
    → take (i + 1) (set zs i z) ≡ map_along f (take (i + 1) xs) (take (i + 1) ys)
written_along_more f xs ys zs i d e z h l m so_far here =
    take-set_at zs i (i + 1) z refl m ∙ ap (λ ws. ws ++ z ∷ []) so_far ∙ ap (λ w. map_along f (take i xs) (take i ys) ++ w ∷ []) here ∙ sym
    (map_along_more f xs ys i d e h l)

-- where two lists are the same from a place on, they are so at that place and after it
same_here : {X : Type 0} (xs ys : List X) (i : ℕ) (d : X) → drop i xs ≡ drop i ys → get_or xs i d ≡ get_or ys i d
same_here xs ys i d e =
    let k : i + 0 ≡ i = omega arith in
    sym (get_or-drop i xs 0 d ∙ ap (λ n. get_or xs n d) k) ∙ ap (λ zs. get_or zs 0 d) e ∙ get_or-drop i ys 0 d ∙ ap (λ n. get_or ys n d) k

pub same_after : {X : Type 0} (xs ys : List X) (i : ℕ) (z : X) → drop i xs ≡ drop i ys → drop (i + 1) (set xs i z) ≡ drop (i + 1) ys
same_after xs ys i z e = drop-set-lt (i + 1) xs i z (omega arith) ∙ sym (drop-drop 1 i xs) ∙ ap (λ zs. drop 1 zs) e ∙ drop-drop 1 i ys

-- a list that is changed item by item, by f of what it was and another list: one more
pub changed_more : {X : Type 0} (f : X → X → X) (P : X → X → Type 0) (xs old ys : List X) (i : ℕ) (d z : X)
    → i < length xs → length xs ≡ length old → AllZip P old ys → drop i xs ≡ drop i old
    → take i xs ≡ map_along f (take i old) (take i ys) → z ≡ f (get_or xs i d) (get_or ys i d)
    → take (i + 1) (set xs i z) ≡ map_along f (take (i + 1) old) (take (i + 1) ys)
changed_more f P xs old ys i d z h l a rest so_far e =
    written_along_more f old ys xs i d d z (omega arith) (omega (arith, AllZip-long P old ys a)) h so_far
    (e ∙ ap (λ x. f x (get_or ys i d)) (same_here xs old i d rest))

-- what holds of what it was holds where it isn't changed yet
pub unchanged_at : {X : Type 0} (P : X → X → Type 0) (xs old ys : List X) (i : ℕ) (d : X) → i < length xs
    → length xs ≡ length old → AllZip P old ys → drop i xs ≡ drop i old → P (get_or xs i d) (get_or ys i d)
unchanged_at P xs old ys i d h l a rest = rw (same_here xs old i d rest) (AllZip-get_or P old ys i d d a (omega arith))

-- the whole list
pub changed_all : {X : Type 0} (f : X → X → X) (P : X → X → Type 0) (xs old ys : List X) (i : ℕ) → length xs ≤ i
    → length xs ≡ length old → AllZip P old ys → take i xs ≡ map_along f (take i old) (take i ys)
    → xs ≡ map_along f old ys
changed_all f P xs old ys i h l a e =
    sym (take_all i xs h) ∙ e
    ∙ ap (λ zs. map_along f zs (take i ys)) (take_all i old (omega arith))
    ∙ ap (map_along f old) (take_all i ys (omega (arith, AllZip-long P old ys a)))

-- a sum over numbers from a on: one more
pub range_sum_more : (f : ℕ → ℤ) (a n : ℕ) → int_sum f (range_with_len a (n + 1)) ≡ int_sum f (range_with_len a n) +ℤ f (a + n)
range_sum_more f a zero = let e : a + 0 ≡ a = omega arith in omega (arith, ints, ap f e)
range_sum_more f a (suc n) =
    let e : suc n + 1 ≡ suc (n + 1) = omega arith in
    let k : a + 1 + n ≡ a + suc n = omega arith in
    ap (λ (m : ℕ). int_sum f (range_with_len a m)) e ∙ omega (arith, ints, range_sum_more f (a + 1) n, ap f k)

-- a loop's step
pub range_sum_step : (f : ℕ → ℤ) (n : ℕ) (total term new : ℤ) → total ≡ int_sum f (range_with_len 0 n) → term ≡ f n → new ≡ total +ℤ term → new ≡ int_sum f (range_with_len 0 (n + 1))
range_sum_step f n total term new e t s =
    s ∙ ap (λ v. v +ℤ term) e ∙ ap (λ v. int_sum f (range_with_len 0 n) +ℤ v) t ∙ sym
    (range_sum_more f 0 n ∙ ap (λ (m : ℕ). int_sum f (range_with_len 0 n) +ℤ f m) (let same : 0 + n ≡ n = omega arith in same))
