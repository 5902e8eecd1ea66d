-- What stands of a piece that was being appended when memory ran out.
use Rattle.std.specs.Prelude.{ℕ, ◌≡◌, List, ◌++◌}

-- a first part of the piece was appended
pub record AppendsPart (piece before after : List ℕ) : Type 0 where
  pub part : List ℕ
  pub rest : List ℕ
  pub split : part ++ rest ≡ piece
  pub appended : after ≡ before ++ part
