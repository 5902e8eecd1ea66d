use Rattle.std.proofs.Common.{[], ◌∷◌}
use Rattle.std.specs.Fmt.{decimal}
use Rattle.std.proofs.lemmas.Result.{err_from_is_err_and}
use Rattle.mari_lines.specs.Spelling.{price_text}
use Rattle.mari_lines.proofs.NotRead.{word_unread}
use Rattle.mari_lines.proofs.reading.read_zone.Goals as goal

pub returns-in_err-least : goal.returns-in_err-least
returns-in_err-least c =
    word_unread _ _ _ [] _ _ c.args.words.now _ c.from_residual-in_err-least.result
    (err_from_is_err_and c.from_residual-in_err-least.result c.from_residual-in_err-least.ensures.1) c.in_err-least.ensures
    (λ z r e. (z.least, price_text z.greatest ∷ decimal z.area ∷ [], r.2, cc (e, c.in_ok-name.ensures.1, c.in_ok-price.ensures.1)))

pub returns-in_err-greatest : goal.returns-in_err-greatest
returns-in_err-greatest c =
    word_unread _ _ _ [] _ _ c.args.words.now _ c.from_residual-in_err-greatest.result
    (err_from_is_err_and c.from_residual-in_err-greatest.result c.from_residual-in_err-greatest.ensures.1) c.in_err-greatest.ensures
    (λ z r e. (z.greatest, decimal z.area ∷ [], r.3, cc (e, c.in_ok-name.ensures.1, c.in_ok-price.ensures.1, c.in_ok-least.ensures.1)))

pub returns-in_err-area : goal.returns-in_err-area
returns-in_err-area c =
    word_unread _ _ _ [] _ _ c.args.words.now _ c.from_residual-in_err-area.result
    (err_from_is_err_and c.from_residual-in_err-area.result c.from_residual-in_err-area.ensures.1) c.in_err-area.ensures
    (λ z r e. (z.area, [], r.4, cc (e, c.in_ok-name.ensures.1, c.in_ok-price.ensures.1, c.in_ok-least.ensures.1, c.in_ok-greatest.ensures.1)))
