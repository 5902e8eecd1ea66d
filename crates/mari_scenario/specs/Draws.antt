-- The generator's draws, and lines that draw.
use Rattle.std.specs.Prelude.{ℕ, zero, suc, ◌+◌, ◌*◌, ◌/◌, ◌%◌, List, [], ◌++◌}

-- the state after a draw
unfoldable pub next : ℕ → ℕ
next x = (1103515245 * x + 12345) % 2147483648

-- the number below a bound that a draw gives, from the state after it
abbrev pub below : (bound state : ℕ) → ℕ
below bound x = (x / 65536) % bound

-- the state after `draws` draws
abbrev pub after : (draws state : ℕ) → ℕ
after zero x = x
after (suc n) x = next (after n x)

-- the number below a bound that a draw gives, where draws count from 1
abbrev pub draw : (number bound state : ℕ) → ℕ
draw n bound x = below bound (after n x)

-- lines, and the state after their draws
pub record Drawn : Type 0 where
  pub text : List ℕ
  pub state : ℕ

-- a line after these
abbrev pub with_line : Drawn → Drawn → Drawn
with_line before line = record { text = before.text ++ line.text; state = line.state }

-- the first `n` lines, where a line is made from its number from 0 and the state before it
unfoldable pub lines : (ℕ → ℕ → Drawn) → (n state : ℕ) → Drawn
lines line zero x = record { text = []; state = x }
lines line (suc n) x = with_line (lines line n x) (line n (lines line n x).state)
