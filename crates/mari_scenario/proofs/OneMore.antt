-- One more line after the first lines.
use Rattle.std.proofs.Common.{◌≡◌, ◌∙◌, ℕ, ◌+◌, List, ◌++◌, sym, refl, append_assoc, append-nil, add-one}
use Rattle.mari_scenario.specs.Draws.{Drawn, lines}

-- no line yet
pub first : (line : ℕ → ℕ → Drawn) (x : ℕ) (text : List ℕ) → text ≡ text ++ (lines line 0 x).text
unfolding lines
first line x text = sym (append-nil text)

pub first_state : (line : ℕ → ℕ → Drawn) (x : ℕ) → x ≡ (lines line 0 x).state
unfolding lines
first_state line x = refl

-- the text of one line more
pub more : (line : ℕ → ℕ → Drawn) (i x state : ℕ) (before now after : List ℕ) → now ≡ before ++ (lines line i x).text → state ≡ (lines line i x).state
    → after ≡ now ++ (line i state).text → after ≡ before ++ (lines line (i + 1) x).text
unfolding lines
more line i x state before now after e s a = a ∙ rw (e, s, add-one) (append_assoc before (lines line i x).text (line i (lines line i x).state).text)

-- and the state after it
pub more_state : (line : ℕ → ℕ → Drawn) (i x state next : ℕ) → state ≡ (lines line i x).state
    → next ≡ (line i state).state → next ≡ (lines line (i + 1) x).state
unfolding lines
more_state line i x state next s n = n ∙ rw (s, add-one) refl
