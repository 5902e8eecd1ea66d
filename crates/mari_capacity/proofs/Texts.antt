-- The lines of borders, one after the other.
use Rattle.std.proofs.Common.{◌≡◌, ◌∙◌, ℕ, zero, suc, ◌+◌, ◌<◌, ◌≤◌, List, [], ◌∷◌, ◌++◌, length, get_or, drop, arith, refl, sym, ap, append_assoc}
use Rattle.std.specs.Prelude.{OnOk, Result as Res}
use Rattle.std.proofs.lemmas.List.{append-nil}
use Rattle.mari_lines.specs.declared.line.BorderLine.{BorderLine}
use Rattle.mari_capacity.specs.declared.worth.BorderWorth.{BorderWorth}
use Rattle.mari_capacity.specs.Lines.{border_line, border_lines}

first-line : (ls : List BorderLine) (ws : List BorderWorth) (k : ℕ) (l : BorderLine) (w : BorderWorth) → k < length ls → k < length ws
    → border_lines (drop k ls) (drop k ws) ≡ border_line (get_or ls k l) (get_or ws k w) ++ border_lines (drop (k + 1) ls) (drop (k + 1) ws)
unfolding border_lines
first-line [] ws k l w h i = absurd (omega arith)
first-line (x ∷ ls) [] k l w h i = absurd (omega arith)
first-line (x ∷ ls) (y ∷ ws) zero l w h i = refl
first-line (x ∷ ls) (y ∷ ws) (suc k) l w h i =
    let e : suc k + 1 ≡ suc (k + 1) = omega arith in
    rw e (first-line ls ws k l w (omega arith) (omega arith))

-- a line is put, so that those still to come are one less
pub one-put : (ls : List BorderLine) (ws : List BorderWorth) (k : ℕ) (l : BorderLine) (w : BorderWorth) (a b whole : List ℕ)
    → k < length ls → k < length ws → b ≡ a ++ border_line (get_or ls k l) (get_or ws k w)
    → a ++ border_lines (drop k ls) (drop k ws) ≡ whole → b ++ border_lines (drop (k + 1) ls) (drop (k + 1) ws) ≡ whole
one-put ls ws k l w a b whole h i put e =
    let rest = border_lines (drop (k + 1) ls) (drop (k + 1) ws) in
    ap (λ (t : List ℕ). t ++ rest) put ∙ append_assoc a (border_line (get_or ls k l) (get_or ws k w)) rest ∙ ap (λ (t : List ℕ). a ++ t) (sym (first-line ls ws k l w h i)) ∙ e

no-line : (ls : List BorderLine) (ws : List BorderWorth) (k : ℕ) → length ls ≤ k → border_lines (drop k ls) (drop k ws) ≡ []
unfolding border_lines
no-line [] ws zero h = refl
no-line [] ws (suc k) h = refl
no-line (x ∷ ls) ws zero h = absurd (omega arith)
no-line (x ∷ ls) [] (suc k) h = none (drop k ls)
  where
    none : (xs : List BorderLine) → border_lines xs [] ≡ []
    none [] = refl
    none (y ∷ ys) = refl
no-line (x ∷ ls) (y ∷ ws) (suc k) h = no-line ls ws k (omega arith)

-- none is still to come
pub all-put : (ls : List BorderLine) (ws : List BorderWorth) (k : ℕ) (a whole : List ℕ) → length ls ≤ k → a ++ border_lines (drop k ls) (drop k ws) ≡ whole → a ≡ whole
all-put ls ws k a whole h e = sym (append-nil a) ∙ ap (λ (t : List ℕ). a ++ t) (sym (no-line ls ws k h)) ∙ e

-- a text after which four pieces were put
pub four-put : {R E : Type 0} (r : Res R E) (old a b c now w x y z : List ℕ) → a ≡ old ++ w → b ≡ a ++ x → c ≡ b ++ y → OnOk r (now ≡ c ++ z) → OnOk r (now ≡ old ++ (w ++ ((x ++ y) ++ z)))
four-put r old a b c now w x y z d e f g = grind (arith, append_assoc)
