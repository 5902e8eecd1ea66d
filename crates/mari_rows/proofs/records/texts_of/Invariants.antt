use Rattle.std.proofs.Common.{◌≡◌, Bor, List, ℕ, map, take}
use Rattle.csv.specs.Records.{fields_of}
use Rattle.mari_rows.proofs.records.texts_of.Given as goal

-- the fields so far
abbrev pub invariant-loop-i : goal.invariant-loop-i
invariant-loop-i l = map (λ (text : Bor (List ℕ)). text.now) l.texts.items ≡ take l.i (fields_of l.row)
