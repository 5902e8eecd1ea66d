use Rattle.std.proofs.Common.{◌≡◌, ◌≤◌, ◌∙◌, ℕ, Option, Some, false, ap, sym, subst, rules}
use Rattle.std.specs.Prelude.{is_some, unwrap_or}
use Rattle.std.specs.Result.{result_ok}
use Rattle.mari_rows.specs.Rows.{field_of}
use Rattle.mari_rows.proofs.BookFacts.{number-bounds}
use Rattle.mari_bids.specs.Bids.{has_bad_field, quarter_in}
use Rattle.mari_bids.proofs.BidLemmas.{good-names}
use Rattle.mari_bids.proofs.bids.read_bid.Goals as goal

pub returns-clause-quarter : goal.returns-clause-quarter
returns-clause-quarter c =
    let number : quarter_in c.args.quarters c.args.line.now ≡ Some c.in-Ok.quarter = sym c.columns_of-columns.ensures.quarter ∙ ap result_ok c.in-Ok.is in
    let bounds = number-bounds 1 c.args.quarters (field_of c.args.line.now 3) (ap is_some number) in
    subst (λ (o : Option ℕ). unwrap_or o 0 ≤ c.args.quarters) number bounds.1

pub returns-clause-provider : goal.returns-clause-provider
returns-clause-provider c =
    let good : has_bad_field c.args.line.now ≡ false = search rules in
    (good-names c.args.line.now good).1
