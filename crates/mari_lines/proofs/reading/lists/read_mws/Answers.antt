use Rattle.std.proofs.Common.{◌≤◌, subst}
use Rattle.std.specs.Fmt.{decimal}
use Rattle.std.proofs.lemmas.Result.{err_from_is_err_and}
use Rattle.mari_lines.specs.Reading.{Reads}
use Rattle.mari_lines.proofs.Gathered.{begun_unread}
use Rattle.mari_lines.proofs.reading.lists.read_mws.Goals as goal

pub returns-in_err-mw : goal.returns-in_err-mw
returns-in_err-mw c =
    let read = c.in-Some.ensures in
    begun_unread (λ mw. mw ≤ 99999) decimal 0 4608 c.loop-mw.mws.items read.0 c.loop-mw.left c.next_number.new.self c.args.words.now _ c.from_residual-in_err-mw.result c.loop-mw.invariant read.1
    (subst (λ r. Reads (λ mw. mw ≤ 99999) decimal read.0 r) c.in_err-mw.was read.2) (err_from_is_err_and c.from_residual-in_err-mw.result c.from_residual-in_err-mw.ensures.1)
