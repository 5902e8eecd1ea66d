use Rattle.std.proofs.Common.{subst}
use Rattle.mari_market.specs.Price.{IsCapped}
use Rattle.mari_lines.specs.Reading.{Reads}
use Rattle.mari_lines.specs.Spelling.{price_text}
use Rattle.std.proofs.lemmas.Result.{err_from_is_err_and}
use Rattle.mari_lines.proofs.Gathered.{begun_unread}
use Rattle.mari_lines.proofs.reading.lists.read_prices.Goals as goal

pub returns-in_err-price : goal.returns-in_err-price
returns-in_err-price c =
    let read = c.in-Some.ensures in
    begun_unread IsCapped price_text 1 64 c.loop-price.prices.items read.0 c.loop-price.left c.next_price.new.self c.args.words.now _ c.from_residual-in_err-price.result c.loop-price.invariant read.1
    (subst (λ r. Reads IsCapped price_text read.0 r) c.in_err-price.was read.2) (err_from_is_err_and c.from_residual-in_err-price.result c.from_residual-in_err-price.ensures.1)
