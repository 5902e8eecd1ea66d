-- The words of a text.
use Rattle.std.proofs.Common.{◌≡◌, ◌≤◌, ◌<◌, ℕ, suc, ◌+◌, ◌-◌, Bool, true, false, not, eqb, List, [], ◌∷◌, ◌++◌, length, take, drop, get_or, add-one, refl, sym, ap, ◌∙◌, arith}
use Rattle.std.specs.List.{list_all, slice_split}
use Rattle.std.proofs.lemmas.Bool.{eq-eqb, eqb-true, and_parts, not-true}
use Rattle.std.proofs.lemmas.List.{take_all, take-append-drop, length-take-le, length-drop, get_or-take}
use Rattle.std.proofs.lemmas.List.Elements.{All-from_get_or}
use Rattle.std.proofs.lemmas.List.Sums.{list_all-from_AllPass}
use Rattle.std.proofs.Math.Seq.{drop-cons}
use Rattle.std.proofs.lemmas.List.Splits.{length-slice_split}
use Rattle.mari_lines.specs.Reading.{Lacks}

same : (n : ℕ) → eqb n n ≡ true
same n = eq-eqb n n refl

-- words without the separator are the words that were joined by it
pub first_split : (s : ℕ) (w rest : List ℕ) → Lacks s w → slice_split (λ b. eqb b s) (w ++ s ∷ rest) ≡ w ∷ slice_split (λ b. eqb b s) rest
first_split s [] rest e = rw (same s) refl
first_split s (b ∷ w) rest e =
    let p = and_parts (not (eqb b s)) (list_all (λ b. not (eqb b s)) w) e in
    rw (not-true (eqb b s) p.0, first_split s w rest p.1) refl

pub only_split : (s : ℕ) (w : List ℕ) → Lacks s w → slice_split (λ b. eqb b s) w ≡ w ∷ []
only_split s [] e = refl
only_split s (b ∷ w) e =
    let p = and_parts (not (eqb b s)) (list_all (λ b. not (eqb b s)) w) e in
    rw (not-true (eqb b s) p.0, only_split s w p.1) refl

pub some_words : (s : ℕ) (text : List ℕ) → slice_split (λ b. eqb b s) text ≡ [] → ⊥
some_words s text e = let n = length-slice_split (λ b. eqb b s) text in let z : length (slice_split (λ b. eqb b s) text) ≡ 0 = ap length e in omega (arith, n, z)

-- a test that never passes fails
fails : (b : Bool) → (b ≡ true → ⊥) → not b ≡ true
fails true never = absurd (never refl)
fails false never = refl

-- no byte before a place is the separator
pub lacks_before : (separator : ℕ) (bytes : List ℕ) (place : ℕ) → place ≤ length bytes
    → ((k : ℕ) → 0 ≤ k → k < place → eqb (get_or bytes k 0) separator ≡ true → ⊥) → Lacks separator (take place bytes)
lacks_before separator bytes place le none =
    let front = take place bytes in
    let long : length front ≡ place = length-take-le place bytes le in
    list_all-from_AllPass (λ b. not (eqb b separator)) front (All-from_get_or (λ b. not (eqb b separator) ≡ true) front 0
    (λ i lt. let below : i < place = omega (arith, lt, long) in
    ap (λ b. not (eqb b separator)) (get_or-take place bytes i 0 below) ∙ fails (eqb (get_or bytes i 0) separator) (none i (omega arith) below)))

-- the bytes are those before the separator, it, and those after it
pub cut_at : (separator : ℕ) (bytes : List ℕ) (place : ℕ) → place < length bytes → eqb (get_or bytes place 0) separator ≡ true
    → bytes ≡ take place bytes ++ separator ∷ take (length bytes - (place + 1)) (drop (place + 1) bytes)
cut_at separator bytes place lt is =
    let rest : length (drop (place + 1) bytes) ≤ length bytes - (place + 1) = omega (arith, length-drop (place + 1) bytes) in
    let byte = eqb-true (get_or bytes place 0) separator is in
    sym (take-append-drop place bytes)
    ∙ ap (λ t. take place bytes ++ t) (drop-cons bytes place 0 lt)
    ∙ ap (λ b. take place bytes ++ b ∷ drop (suc place) bytes) byte
    ∙ ap (λ n. take place bytes ++ separator ∷ drop n bytes) (sym (add-one place))
    ∙ ap (λ t. take place bytes ++ separator ∷ t) (sym (take_all (length bytes - (place + 1)) (drop (place + 1) bytes) rest))
