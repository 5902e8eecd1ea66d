use Rattle.std.proofs.Common.{◌≡◌, ◌++◌, ◌∷◌, [], sym, ap, subst, ◌∙◌}
use lib.Chars.{codes}
use Rattle.std.proofs.lemmas.Result.{err_from_is_err_and}
use Rattle.mari_market.specs.Price.{IsCapped}
use Rattle.mari_lines.specs.Ranges.{InRange}
use Rattle.mari_lines.specs.Spelling.{price_text, spelling}
use Rattle.mari_lines.specs.declared.line.Line.{Line}
use Rattle.mari_lines.specs.declared.line.Line.TheVariants as line
use Rattle.mari_lines.proofs.NotRead.{handed_on}
use Rattle.mari_reach_lines.proofs.Pieces.{bound_of, bound_text, the_line}
use Rattle.mari_reach_lines.proofs.reading.pieces.read_price.Goals as goal

pub returns-in_err-prices : goal.returns-in_err-prices
returns-in_err-prices c =
    handed_on InRange spelling (codes "bound " ++ c.args.text.now) IsCapped price_text c.args.text.now _ c.from_residual.result
    (err_from_is_err_and c.from_residual.result c.from_residual.ensures.1) c.in_err-prices.ensures
    (λ p r e. let b = bound_of p c.args.text.now r e in (line.Bound (p ∷ []), b.0, b.1))

pub returns-in_default : goal.returns-in_default
returns-in_default c = λ p r e.
    let read = c.in_ok-prices.ensures in
    c.in_default.not-Bound (p ∷ []) (the_line c.in_ok-prices.field-0 (line.Bound (p ∷ [])) (codes "bound " ++ c.args.text.now) read.0 read.1 (bound_of p c.args.text.now r e))

pub returns-in_default-only_price : goal.returns-in_default-only_price
returns-in_default-only_price c = λ p r e.
    let read = c.in_ok-prices.ensures in
    let line : line.Bound c.in-Bound.prices ≡ line.Bound (p ∷ []) =
    sym c.in-Bound.is ∙ the_line c.in_ok-prices.field-0 (line.Bound (p ∷ [])) (codes "bound " ++ c.args.text.now) read.0 read.1 (bound_of p c.args.text.now r e) in
    let same : c.in-Bound.prices ≡ p ∷ [] = cc in
    c.in_default-only_price.ensures p (c.as_slice.ensures ∙ same)

pub returns : goal.returns
returns c =
    let p = c.in-Some.price in
    let read = c.in_ok-prices.ensures in
    let only : c.in-Bound.prices ≡ p ∷ [] = sym c.as_slice.ensures ∙ c.in-Some.ensures in
    let is : c.in_ok-prices.field-0 ≡ line.Bound (p ∷ []) = c.in-Bound.is ∙ ap (λ ps. line.Bound ps) only in
    bound_text p c.args.text.now (subst (λ (l : Line). InRange l) is read.0) (sym (ap spelling is) ∙ read.1)
