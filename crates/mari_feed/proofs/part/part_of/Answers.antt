use Rattle.std.proofs.Common.{arith}
use Rattle.std.proofs.lemmas.Result.{err_from_is_err_and}
use Rattle.mari_feed.proofs.ByKey.{head_part, totals_part}
use Rattle.mari_feed.proofs.NotRead.{handed_on}
use Rattle.mari_feed.proofs.part.part_of.Goals as goal

pub returns-in_err-date : goal.returns-in_err-date
returns-in_err-date c = grind (arith, handed_on, err_from_is_err_and, head_part)

pub returns-in_err-operators : goal.returns-in_err-operators
returns-in_err-operators c = grind (arith, handed_on, err_from_is_err_and, totals_part)
