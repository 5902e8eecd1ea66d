-- Lists: lists side by side, lists that are mapped, and one item more after others.
use Rattle.std.proofs.Common.{◌≡◌, ◌∙◌, ◌<◌, ℕ, suc, List, [], ◌∷◌, ◌++◌, get_or, length, map, take, Some, refl, sym, ap, arith, inl, inr, subst}
use Rattle.std.specs.Prelude.{slice_get}
use Rattle.std.proofs.Math.Seq.{take-length}
use Rattle.std.proofs.lemmas.Bool.{cases_lt}
use Rattle.std.specs.List.{All}
use Rattle.std.proofs.lemmas.List.{get_or-map, length-append, length-map, take-append-le}
use Rattle.std.proofs.lemmas.Option.{slice_get_within}
use Rattle.mari_settle.specs.Lines.{map_along}
use Rattle.mari_units.proofs.Lists.{get_front, get_seam}

-- as long as the first of two lists of one length
pub along-length : {X Y Z : Type 0} (f : X → Y → Z) (xs : List X) (ys : List Y) → length ys ≡ length xs → length (map_along f xs ys) ≡ length xs
along-length f [] ys e = refl
along-length f (x ∷ xs) [] e = absurd (omega arith)
along-length f (x ∷ xs) (y ∷ ys) e = ap suc (along-length f xs ys (omega arith))

-- what holds of a list that another is mapped to
pub of-map : {X Y : Type 0} (f : X → Y) (Q : Y → Type 0) (xs : List X) (ys : List Y) → map f xs ≡ ys → All Q ys → All (λ x. Q (f x)) xs
of-map f Q xs ys same all = λ k d l.
    let here : k < length ys = omega (arith, ap length same, length-map xs f) in
    let value : get_or ys k (f d) ≡ f (get_or xs k d) = rw same at (get_or-map f xs k d (f d) l) in
    subst Q value (all k (f d) here)

-- as long as what it is mapped to
pub as-many : {X Y : Type 0} (f : X → Y) (xs : List X) (ys : List Y) → map f xs ≡ ys → length xs ≡ length ys
as-many f xs ys same = sym (length-map xs f) ∙ ap length same

-- what holds of each item after those before it holds of one more, where it holds of that one after all of them
pub each-more : {X : Type 0} (P : List X → X → Type 0) (xs : List X) (y : X) → ((k : ℕ) (x : X) → slice_get xs k ≡ Some x → P (take k xs) x) → P xs y
    → (k : ℕ) (x : X) → slice_get (xs ++ y ∷ []) k ≡ Some x → P (take k (xs ++ y ∷ [])) x
each-more P xs y each own k x e = elim (cases_lt k (length xs)) [
  | inl l ↦ rw (take-append-le k xs (y ∷ []) (omega (arith, l))) (each k x (sym (get_front xs (y ∷ []) k l) ∙ e))
  | inr past ↦ (
      let within = slice_get_within (xs ++ y ∷ []) k x e in
      let here : k ≡ length xs = omega (arith, past, within, length-append xs (y ∷ [])) in
      let there : slice_get (xs ++ y ∷ []) (length xs) ≡ Some x = rw here at e in
      let both : Some y ≡ Some x = sym (get_seam xs [] y) ∙ there in
      let same : y ≡ x = cc both in
      let whole : take k (xs ++ y ∷ []) ≡ xs = ap (λ n. take n (xs ++ y ∷ [])) here ∙ take-append-le (length xs) xs (y ∷ []) (omega arith) ∙ take-length xs in
      rw (whole, sym same) own)
]
