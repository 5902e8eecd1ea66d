use Rattle.std.proofs.Common.{◌≡◌, ◌++◌, sym, ap, subst, ◌∙◌, arith}
use lib.Chars.{codes}
use Rattle.std.proofs.lemmas.Int.{ints}
use Rattle.std.proofs.lemmas.Result.{err_from_is_err_and}
use Rattle.mari_units.specs.declared.numbers.Quarters.{Quarters}
use Rattle.mari_lines.specs.Ranges.{InRange}
use Rattle.mari_lines.specs.Spelling.{money_text, spelling}
use Rattle.mari_lines.specs.declared.line.Line.{Line}
use Rattle.mari_lines.specs.declared.line.Line.TheVariants as line
use Rattle.mari_lines.proofs.NotRead.{handed_on}
use Rattle.mari_reach_lines.specs.Ranges.{IsGap}
use Rattle.mari_reach_lines.proofs.Pieces.{amount_is, paid, provider_of, provider_text, the_line}
use Rattle.mari_reach_lines.proofs.reading.pieces.read_gap.Goals as goal

pub returns-in_err-provider : goal.returns-in_err-provider
returns-in_err-provider c =
    handed_on InRange spelling (codes "provider x " ++ c.args.text.now) IsGap money_text c.args.text.now _ c.from_residual.result
    (err_from_is_err_and c.from_residual.result c.from_residual.ensures.1) c.in_err-provider.ensures
    (λ gap r e. let p = provider_of gap c.args.text.now r e in (line.Provider (paid gap), p.0, p.1))

pub returns-in_default : goal.returns-in_default
returns-in_default c = λ gap r e.
    let read = c.in_ok-provider.ensures in
    c.in_default.not-Provider (paid gap) (the_line c.in_ok-provider.field-0 (line.Provider (paid gap)) (codes "provider x " ++ c.args.text.now) read.0 read.1 (provider_of gap c.args.text.now r e))

pub returns-then-provider-lt0 : goal.returns-then-provider-lt0
returns-then-provider-lt0 c = λ gap r e.
    let read = c.in_ok-provider.ensures in
    let p = c.in-Provider.provider in
    let same : p.amount ≡ gap = amount_is p gap
    (sym c.in-Provider.is ∙ the_line c.in_ok-provider.field-0 (line.Provider (paid gap)) (codes "provider x " ++ c.args.text.now) read.0 read.1 (provider_of gap c.args.text.now r e)) in
    let value : p.amount.0 ≡ gap.0 = ap (λ (q : Quarters). q.0) same in
    omega (arith, ints, value, r.0, r.1)

pub returns : goal.returns
returns c =
    let p = c.in-Provider.provider in
    let read = c.in_ok-provider.ensures in
    let range : InRange (line.Provider p) = subst (λ (l : Line). InRange l) c.in-Provider.is read.0 in
    let text = sym (ap spelling c.in-Provider.is) ∙ read.1 in
    ((range.1, omega (arith, ints, range.1)), provider_text p c.args.text.now range text)
