use Rattle.std.proofs.Common.{◌≡◌, ◌∙◌, length, ap, sym, arith}
use Rattle.std.proofs.lemmas.Bool.{eqb-true}
use Rattle.std.proofs.Math.Path.{fun_ext}
use Rattle.std.specs.List.{All}
use Rattle.mari_market.proofs.Conflicts.{none_past}
use Rattle.mari_market.proofs.GateRuns.{marks_more, runs_all}
use Rattle.mari_welfare.specs.Gates.{IsOfFewGates}
use Rattle.mari_welfare.proofs.Open.{few_gates}
use Rattle.mari_welfare.proofs.gates.OpenGates.of.Goals as goal

pub returns-then-is_empty : goal.returns-then-is_empty
returns-then-is_empty c =
    let market = c.args.market.now in
    let none : length market.gates ≡ 0 = ap length (sym c.as_slice.ensures) ∙ eqb-true _ _ (sym c.is_empty.ensures ∙ c.if-is_empty.true) in
    fun_ext (λ g. c.none-opened.ensures g ∙ sym (none_past market.zones (length market.gates) g market.orders c.args.activation.now.mw c.requires.market.orders (omega (arith, none))))

pub bounds-mw-i : goal.bounds-mw-i
bounds-mw-i c = omega (arith, c.loop-i-test.true, ap length c.as_slice-order-items.ensures, ap length c.as_slice-mw.ensures, c.requires.lengths.orders)

pub mark-requires : goal.mark-requires
mark-requires c =
    let few : All IsOfFewGates c.as_slice-order-items.result.now = rw c.as_slice-order-items.ensures (few_gates c.args.market.now c.requires.market) in
    few c.loop-i.i _ c.loop-i-test.true

pub loop-i-init : goal.loop-i-init
loop-i-init c g = c.none-opened.ensures g

pub loop-i-preserved : goal.loop-i-preserved
loop-i-preserved c g =
    let os = c.as_slice-order-items.result.now in
    let qs = c.as_slice-mw.result.now in
    let many : length qs ≡ length os = ap length c.as_slice-mw.ensures ∙ c.requires.lengths.orders ∙ sym (ap length c.as_slice-order-items.ensures) in
    marks_more g os qs c.loop-i.i _ _ _ c.loop-i-test.true (omega (arith, many)) (c.loop-i.invariant g) (c.mark.ensures g)

pub returns : goal.returns
returns c =
    let os = c.as_slice-order-items.result.now in
    let qs = c.as_slice-mw.result.now in
    let many : length qs ≡ length os = ap length c.as_slice-mw.ensures ∙ c.requires.lengths.orders ∙ sym (ap length c.as_slice-order-items.ensures) in
    rw (sym c.as_slice-order-items.ensures, sym c.as_slice-mw.ensures)
    (fun_ext (λ g. c.loop-i.invariant g ∙ runs_all g os qs c.loop-i.i c.loop-i-test.false (omega (arith, many))))
