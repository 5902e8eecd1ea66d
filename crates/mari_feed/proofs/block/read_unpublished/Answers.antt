use Rattle.std.proofs.Common.{arith, rules}
use Rattle.std.proofs.lemmas.Result.{err_from_is_err_and}
use Rattle.mari_feed.proofs.NotRead.{begins, after, going_on, member_unread}
use Rattle.mari_feed.proofs.block.read_unpublished.Goals as goal

pub returns-in_err-direct : goal.returns-in_err-direct
returns-in_err-direct c = grind (arith, member_unread, err_from_is_err_and, begins)

pub returns-in_err-nodes : goal.returns-in_err-nodes
returns-in_err-nodes c = grind (arith, member_unread, err_from_is_err_and, begins, after)

pub returns-in_err-quarter : goal.returns-in_err-quarter
returns-in_err-quarter c = search (rules, member_unread, err_from_is_err_and, begins, after)

pub returns-in_err-run : goal.returns-in_err-run
returns-in_err-run c = grind (arith, member_unread, err_from_is_err_and, begins, after)

pub returns : goal.returns
returns c = grind (arith, going_on)
