use Rattle.std.proofs.Common.{◌≡◌, take, true}
use Rattle.std.specs.List.{list_all}
use Rattle.std.specs.Str.{is_utf8}
use Rattle.csv.specs.Records.{fields_of}
use Rattle.mari_rows.proofs.records.each_is_text.Given as goal

-- the fields so far are text
abbrev pub invariant-loop-i : goal.invariant-loop-i
invariant-loop-i l = list_all is_utf8 (take l.i (fields_of l.row)) ≡ true
