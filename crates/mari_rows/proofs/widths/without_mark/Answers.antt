use Rattle.std.proofs.Common.{◌∙◌, ap}
use Rattle.mari_rows.proofs.WalkLemmas.{unmarked}
use Rattle.mari_rows.proofs.widths.without_mark.Goals as goal

pub returns : goal.returns
returns c = ap (λ page. page.now) c.unwrap_or.ensures ∙ unmarked c.args.page c.strip_prefix.result c.strip_prefix.ensures.cases
