use Rattle.std.proofs.Common.{ap, []}
use Rattle.std.specs.Fmt.{decimal}
use Rattle.std.proofs.lemmas.Result.{err_from_is_err_and}
use Rattle.mari_lines.specs.Spelling.{fields, kind_text, published_text}
use Rattle.mari_lines.proofs.FirstWords.{run_part, count_part}
use Rattle.mari_lines.proofs.NotRead.{word_unread}
use Rattle.mari_lines.proofs.reading.read_run.Goals as goal

pub returns-in_err-published : goal.returns-in_err-published
returns-in_err-published c =
    word_unread _ _ _ [] _ fields c.args.words.now _ c.from_residual-in_err-published.result
    (err_from_is_err_and c.from_residual-in_err-published.result c.from_residual-in_err-published.ensures.1) c.in_err-published.ensures
    (λ l r e. let p = run_part l r.0 r.1 in (p.0, p.1, tt, cc (e, p.3, c.in_ok-run.ensures.1, c.in_ok-quarter.ensures.1, c.in_ok-direct.ensures.1)))

pub returns-in_err-count : goal.returns-in_err-count
returns-in_err-count c =
    word_unread _ _ _ [] _ fields c.args.words.now _ c.from_residual-in_err-count.result
    (err_from_is_err_and c.from_residual-in_err-count.result c.from_residual-in_err-count.ensures.1) c.in_err-count.ensures
    (λ l r e. count_part l c.args.words.now c.published.new.self (decimal c.in_ok-run.run') (decimal c.in_ok-quarter.quarter) (kind_text c.in_ok-direct.direct) r.0 r.1 e
    (cc (c.in_ok-run.ensures.1, c.in_ok-quarter.ensures.1, c.in_ok-direct.ensures.1, c.in_ok-published.ensures.1, ap published_text c.if-published.false)))
