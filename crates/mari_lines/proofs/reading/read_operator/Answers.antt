use Rattle.std.proofs.Common.{[], ◌∷◌}
use Rattle.std.proofs.lemmas.Result.{err_from_is_err_and}
use Rattle.mari_lines.specs.Spelling.{money_text}
use Rattle.mari_lines.proofs.NotRead.{word_unread}
use Rattle.mari_lines.proofs.reading.read_operator.Goals as goal

pub returns-in_err-rent : goal.returns-in_err-rent
returns-in_err-rent c =
    word_unread _ _ _ [] _ _ c.args.words.now _ c.from_residual-in_err-rent.result
    (err_from_is_err_and c.from_residual-in_err-rent.result c.from_residual-in_err-rent.ensures.1) c.in_err-rent.ensures
    (λ z r e. (z.rent, money_text z.net ∷ [], r.2, cc (e, c.in_ok-name.ensures.1, c.in_ok-payment.ensures.1)))

pub returns-in_err-net : goal.returns-in_err-net
returns-in_err-net c =
    word_unread _ _ _ [] _ _ c.args.words.now _ c.from_residual-in_err-net.result
    (err_from_is_err_and c.from_residual-in_err-net.result c.from_residual-in_err-net.ensures.1) c.in_err-net.ensures
    (λ z r e. (z.net, [], r.3, cc (e, c.in_ok-name.ensures.1, c.in_ok-payment.ensures.1, c.in_ok-rent.ensures.1)))
