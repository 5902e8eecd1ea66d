use Rattle.std.proofs.Common.{◌≡◌, ◌∷◌, ◌∙◌, ℕ, Bool, Bor, List, Option, ap, arith, length, map, subst, sym}
use Rattle.mari_rows.specs.Records.{records_in}
use Rattle.mari_rows.specs.Rows.{TestsHeader}
use Rattle.mari_rows.proofs.RecordLemmas.{length-records_in}
use Rattle.mari_rows.proofs.rows.rows_after_header.Goals as goal

pub invariant_of-result : goal.invariant_of-result
invariant_of-result c =
    let reported =
    subst (λ (o : Option Bool). TestsHeader (map (λ (x : Bor (List ℕ)). x.now) c.args.columns.now) c.in_ok-records.records c.next_is.new.self o) c.in-Some-true.is c.in_ok-next_is.ensures.next in
    let next : records_in c.args.page.now ≡ reported.0 ∷ c.next_is.new.self = sym c.in_ok-records.ensures ∙ reported.1 in
    omega (arith, ap length next, length-records_in c.args.page.now, c.requires)
