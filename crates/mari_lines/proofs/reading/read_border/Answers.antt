use Rattle.std.proofs.Common.{[], ◌∷◌}
use Rattle.std.proofs.lemmas.Result.{err_from_is_err_and}
use Rattle.mari_lines.specs.Spelling.{money_text}
use Rattle.mari_lines.proofs.NotRead.{word_unread}
use Rattle.mari_lines.proofs.reading.read_border.Goals as goal

pub returns-in_err-flow : goal.returns-in_err-flow
returns-in_err-flow c =
    word_unread _ _ _ [] _ _ c.args.words.now _ c.from_residual-in_err-flow.result
    (err_from_is_err_and c.from_residual-in_err-flow.result c.from_residual-in_err-flow.ensures.1) c.in_err-flow.ensures
    (λ z r e. (z.flow, money_text z.rent ∷ [], r.2, cc (e, c.in_ok-from.ensures.1, c.in_ok-to.ensures.1)))

pub returns-in_err-rent : goal.returns-in_err-rent
returns-in_err-rent c =
    word_unread _ _ _ [] _ _ c.args.words.now _ c.from_residual-in_err-rent.result
    (err_from_is_err_and c.from_residual-in_err-rent.result c.from_residual-in_err-rent.ensures.1) c.in_err-rent.ensures
    (λ z r e. (z.rent, [], r.3, cc (e, c.in_ok-from.ensures.1, c.in_ok-to.ensures.1, c.in_ok-flow.ensures.1)))
