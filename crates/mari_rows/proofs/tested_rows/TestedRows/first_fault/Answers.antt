use Rattle.std.proofs.Common.{subst}
use Rattle.mari_rows.specs.Rows.{TestsRow}
use Rattle.mari_rows.specs.declared.records.TestedRecord.{TestedRecord}
use Rattle.mari_rows.proofs.RowLemmas.{fault-later}
use Rattle.mari_rows.proofs.WideLemmas.{known-later}
use Rattle.mari_rows.proofs.tested_rows.TestedRows.first_fault.Goals as goal

pub rows-preserved : goal.rows-preserved
rows-preserved c =
    let rows = c.rows.self in
    let rest = c.test_next.new.self in
    let tested = subst (λ (t : TestedRecord). TestsRow rows.width rows.rows rest t) c.in-Fine.is c.in_ok-test_next.ensures.tested in
    record {
      known = known-later rows rest tested.0 c.rows.invariant.known tested.1 tested.2;
      faults = fault-later rows.width tested.0 rows.rows rest tested.1 _ tested.2 c.rows.invariant.faults;
    }
