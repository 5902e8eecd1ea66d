use Rattle.std.proofs.Common.{◌≡◌, ◌≤◌, ◌+◌, drop}
use Rattle.csv.specs.declared.parser.State.TheVariants as st
use Rattle.mari_rows.specs.Widths.{state_of}
use Rattle.mari_rows.proofs.WalkLemmas.{first_from}
use Rattle.mari_rows.proofs.widths.wide_line_in.Given as goal

-- the first wide record is the first from here on
abbrev pub invariant-loop-byte : goal.invariant-loop-byte
invariant-loop-byte l = record {
  same : first_from l.most (state_of l.place) l.line l.commas (drop l.byte-index l.text) ≡ first_from l.most st.StartRecord 1 0 l.text;
  lines : l.line ≤ l.byte-index + 1;
  counted : l.commas ≤ l.byte-index;
}
