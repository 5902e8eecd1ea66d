-- Texts that stand in quotes as they are.
use Rattle.std.specs.Prelude.{ℕ, Bool, ◌&&◌, ◌==◌, not, nat_lt, List}
use Rattle.std.specs.List.{list_all}

-- graphic ASCII, neither a quote nor a backslash
abbrev pub is_plain_byte : ℕ → Bool
is_plain_byte b = nat_lt 32 b && nat_lt b 128 && not (b == 34) && not (b == 92)

abbrev pub is_plain_text : List ℕ → Bool
is_plain_text text = list_all is_plain_byte text
