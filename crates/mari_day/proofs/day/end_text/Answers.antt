use Rattle.std.proofs.Common.{◌≡◌, ◌∙◌, ◌≤◌, List, length, refl, arith}
use Rattle.mari_publish.specs.Lines.{closing_lines_by}
use Rattle.mari_publish.specs.Texts.{text_of_lines}
use Rattle.mari_progress.specs.Totals.{operator_totals, provider_totals}
use Rattle.mari_progress.proofs.Sums.{one-each-provider, provider-lines}
use Rattle.mari_day.proofs.BlockFits.{have-nets}
use Rattle.mari_day.proofs.Days.{operators-fit, providers-fit, same-closing, sums-halves}
use Rattle.mari_day.proofs.Framing.{made-as}
use Rattle.mari_day.proofs.day.end_text.Goals as goal

pub money_lines-requires-clause-few : goal.money_lines-requires-clause-few
money_lines-requires-clause-few c = c.requires.accepted.zones.few_operators

pub money_lines-requires-clause-small : goal.money_lines-requires-clause-small
money_lines-requires-clause-small c =
    let s = c.requires.kept in
    let few : length s.0 ≤ 1000 = omega (arith, s.1.few, c.requires.accepted.runs.few) in
    rw c.as_slice.ensures (have-nets _ (sums-halves c.args.books.now c.requires.accepted c.requires.dated s.0 c.args.progress.now.totals s.1.totals few))

pub total_lines-requires-clause-one_each : goal.total_lines-requires-clause-one_each
total_lines-requires-clause-one_each c =
    let s = c.requires.kept in
    rw c.as_slice-2.ensures (one-each-provider c.args.books.now s.0 c.args.progress.now.totals s.1.totals)

pub closing_text-requires-clause-operators : goal.closing_text-requires-clause-operators
closing_text-requires-clause-operators c =
    let s = c.requires.kept in
    let few : length s.0 ≤ 1000 = omega (arith, s.1.few, c.requires.accepted.runs.few) in
    rw (c.deref.ensures.value, c.in_ok-operators.ensures, c.as_slice.ensures)
    (operators-fit c.args.books.now c.requires.accepted c.requires.dated s.0 c.args.progress.now.totals s.1.totals few).1

pub closing_text-requires-clause-providers : goal.closing_text-requires-clause-providers
closing_text-requires-clause-providers c =
    let s = c.requires.kept in
    let few : length s.0 ≤ 1000 = omega (arith, s.1.few, c.requires.accepted.runs.few) in
    rw (c.deref-2.ensures.value, c.in_ok-providers.ensures, c.as_slice-2.ensures)
    (providers-fit c.args.books.now c.requires.accepted c.requires.dated s.0 c.args.progress.now.totals s.1.totals few).1

pub returns : goal.returns
returns c = λ blocks kept.
    let books = c.args.books.now in
    let wanted : List _ = text_of_lines (closing_lines_by (operator_totals books blocks) (provider_totals books blocks) c.args.first c.args.others) in
    let operators = c.deref.ensures.value ∙ rw c.as_slice.ensures at c.in_ok-operators.ensures ∙ kept.totals.operators in
    let providers = c.deref-2.ensures.value ∙ rw c.as_slice-2.ensures at c.in_ok-providers.ensures ∙ provider-lines books blocks c.args.progress.now.totals kept.totals in
    made-as (λ t. t.items) c.closing_text.result _ wanted (λ text. text ≡ wanted) c.closing_text.ensures
    (same-closing _ _ _ _ _ _ _ _ operators providers refl refl) refl
