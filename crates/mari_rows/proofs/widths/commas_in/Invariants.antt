use Rattle.std.proofs.Common.{◌≡◌, ◌==◌, take}
use Rattle.std.specs.List.{count_by}
use Rattle.mari_rows.proofs.widths.commas_in.Given as goal

-- the commas so far
abbrev pub invariant-loop-byte : goal.invariant-loop-byte
invariant-loop-byte l = l.commas ≡ count_by (λ b. b == 44) (take l.byte-index l.text)
