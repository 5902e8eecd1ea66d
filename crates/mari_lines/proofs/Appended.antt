-- What is appended piece by piece.
use Rattle.std.proofs.Common.{◌≡◌, ◌<◌, ◌+◌, List, ◌∷◌, ◌++◌, length, drop, get_or, map, sym, ap, ◌∙◌, add-one, append_assoc, drop-cons, ℕ, Result, Ok, Err}
use Rattle.std.specs.Result.{OnOk}
use Rattle.mari_lines.specs.Spelling.{spaced}

-- after three pieces
pub after_three : {R E : Type 0} (r : Result R E) (x y z w a b c : List ℕ) → y ≡ x ++ a → z ≡ y ++ b → OnOk r (w ≡ z ++ c) → OnOk r (w ≡ x ++ ((a ++ b) ++ c))
after_three (Ok v) x y z w a b c ea eb ec = ec ∙ ap (λ (t : List ℕ). t ++ c) (eb ∙ ap (λ (t : List ℕ). t ++ b) ea) ∙ ap (λ (t : List ℕ). t ++ c) (append_assoc x a b) ∙ append_assoc x (a ++ b) c
after_three (Err e) x y z w a b c ea eb ec = tt

-- after one more text of a list, what is written and those still to come are the whole as before
pub after_one : {A : Type 0} (text : A → List ℕ) (xs : List A) (i : ℕ) (d : A) (out new whole : List ℕ) → i < length xs → out ++ spaced (map text (drop i xs)) ≡ whole
    → new ≡ out ++ 32 ∷ text (get_or xs i d) → new ++ spaced (map text (drop (i + 1) xs)) ≡ whole
after_one {A = A} text xs i d out new whole below so_far put =
    let rest : List ℕ = spaced (map text (drop (i + 1) xs)) in
    let next : drop i xs ≡ get_or xs i d ∷ drop (i + 1) xs = rw add-one (drop-cons xs i d below) in
    ap (λ (t : List ℕ). t ++ rest) put ∙ append_assoc out (32 ∷ text (get_or xs i d)) rest ∙ sym (ap (λ (ys : List A). out ++ spaced (map text ys)) next) ∙ so_far
