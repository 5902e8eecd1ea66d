use Rattle.std.proofs.Common.{[], ◌∷◌}
use Rattle.std.specs.Fmt.{decimal}
use Rattle.std.proofs.lemmas.Result.{err_from_is_err_and}
use Rattle.mari_lines.proofs.NotRead.{word_unread}
use Rattle.mari_lines.proofs.reading.read_head.Goals as goal

pub returns-in_err-quarters : goal.returns-in_err-quarters
returns-in_err-quarters c =
    word_unread _ _ _ [] _ _ c.args.words.now _ c.from_residual-in_err-quarters.result
    (err_from_is_err_and c.from_residual-in_err-quarters.result c.from_residual-in_err-quarters.ensures.1) c.in_err-quarters.ensures
    (λ z r e. (z.1, decimal z.2 ∷ [], r.1, cc (e, c.in_ok-version.ensures.1, c.in_ok-date.ensures.1)))

pub returns-in_err-budget : goal.returns-in_err-budget
returns-in_err-budget c =
    word_unread _ _ _ [] _ _ c.args.words.now _ c.from_residual-in_err-budget.result
    (err_from_is_err_and c.from_residual-in_err-budget.result c.from_residual-in_err-budget.ensures.1) c.in_err-budget.ensures
    (λ z r e. (z.2, [], r.2, cc (e, c.in_ok-version.ensures.1, c.in_ok-date.ensures.1, c.in_ok-quarters.ensures.1)))

pub returns-in_err-version : goal.returns-in_err-version
returns-in_err-version c = word_unread _ _ _ [] _ _ c.args.words.now _ c.from_residual.result (err_from_is_err_and c.from_residual.result c.from_residual.ensures.1) c.in_err-version.ensures
    (λ z r e. (tt, z.0 ∷ decimal z.1 ∷ decimal z.2 ∷ [], tt, cc e))

pub returns-in_err-date : goal.returns-in_err-date
returns-in_err-date c =
    word_unread _ _ _ [] _ _ c.args.words.now _ c.from_residual-in_err-date.result
    (err_from_is_err_and c.from_residual-in_err-date.result c.from_residual-in_err-date.ensures.1) c.in_err-date.ensures
    (λ z r e. (z.0, decimal z.1 ∷ decimal z.2 ∷ [], r.0, cc (e, c.in_ok-version.ensures.1)))
