use Rattle.std.proofs.Common.{arith}
use Rattle.std.proofs.lemmas.Result.{err_from_is_err_and}
use Rattle.mari_feed.proofs.NotRead.{begins, after, going_on, member_unread}
use Rattle.mari_feed.proofs.lines.AmountLineForm.read.Goals as goal

pub returns-in_err-amount : goal.returns-in_err-amount
returns-in_err-amount c = grind (arith, member_unread, err_from_is_err_and, begins)

pub returns-in_err-name : goal.returns-in_err-name
returns-in_err-name c = grind (arith, member_unread, err_from_is_err_and, begins, after)

pub returns : goal.returns
returns c = grind (arith, going_on)
