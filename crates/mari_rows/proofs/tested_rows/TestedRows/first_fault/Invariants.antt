use Rattle.std.proofs.Common.{◌≡◌, length}
use Rattle.mari_rows.specs.Rows.{first_row_fault}
use Rattle.mari_rows.specs.Widths.{KnowsWide}
use Rattle.mari_rows.proofs.tested_rows.TestedRows.first_fault.Given as goal

-- the rows so far have no fault, and none of them is wide
abbrev pub invariant-rows : goal.invariant-rows
invariant-rows l = record {
  known : KnowsWide l.self;
  faults : first_row_fault l.self.width l.self.rows ≡ first_row_fault l.initial.self.width l.initial.self.rows;
}

abbrev pub decreases-rows : goal.decreases-rows
decreases-rows l = length l.self.rows
