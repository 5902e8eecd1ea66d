-- The table is held against the definition at each of the 256 bytes, by computing.
use Rattle.std.proofs.Common.{◌≡◌, ℕ, ◌<◌, Bool, true, not, nat_eq, get_or, List, refl, ap, ◌∙◌, arith}
use Rattle.std.proofs.lemmas.Bool.{agree_below, agree_below_at}
use Rattle.mari_units.specs.Names.{is_name_byte}
use Rattle.mari_units.specs.declared.name.TheConstants.{NAME_BYTES}
use Rattle.mari_units.proofs.name.is_name_byte.Goals as goal

abbrev holds : List ℕ → ℕ → Bool
holds table b = not (nat_eq (get_or table b 0) 44)

from_table : (table : List ℕ) (b : ℕ) → b < 256 → agree_below (holds table) is_name_byte 256 ≡ true → holds table b ≡ is_name_byte b
from_table table b lt all = agree_below_at (holds table) is_name_byte 256 b all lt

pub returns : goal.returns
returns c = ap (holds NAME_BYTES) c.from.ensures ∙ from_table NAME_BYTES c.args.byte (omega arith) refl
