-- Three pieces after a text.
use Rattle.std.proofs.Common.{◌≡◌, ◌∙◌, ◌++◌, ℕ, List, append_assoc, ap}

pub three-pieces : (text a b c : List ℕ) → ((text ++ a) ++ b) ++ c ≡ text ++ ((a ++ b) ++ c)
three-pieces text a b c = ap (λ ab. ab ++ c) (append_assoc text a b) ∙ append_assoc text (a ++ b) c
