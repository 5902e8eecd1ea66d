use Rattle.std.proofs.Common.{arith}
use Rattle.std.proofs.lemmas.Result.{err_from_is_err_and}
use Rattle.mari_feed.proofs.NotRead.{begins, after, member_unread}
use Rattle.mari_feed.proofs.lines.BorderLineForm.read.Goals as goal

pub returns-in_err-flow : goal.returns-in_err-flow
returns-in_err-flow c = grind (arith, member_unread, err_from_is_err_and, begins)

pub returns-in_err-from : goal.returns-in_err-from
returns-in_err-from c = grind (arith, member_unread, err_from_is_err_and, begins, after)

pub returns-in_err-rent : goal.returns-in_err-rent
returns-in_err-rent c = grind (arith, member_unread, err_from_is_err_and, begins, after)

pub returns-in_err-to : goal.returns-in_err-to
returns-in_err-to c = grind (arith, member_unread, err_from_is_err_and, begins, after)
