use Rattle.std.proofs.Common.{◌≡◌, ◌∙◌, sym}
use Rattle.std.proofs.lemmas.Bool.{both_ways}
use Rattle.std.proofs.lemmas.Slice.Zip.{AllZip-long}
use Rattle.mari_check.proofs.TightConsistency.{consistent-greatest, consistent-least, kept-consistent}
use Rattle.mari_check.proofs.ends.are_consistent.Goals as goal
use Rattle.mari_check.proofs.ends.are_consistent.Goals.{then-are_prices, else-are_prices}

pub borders_agree-requires-clause-lengths : goal.borders_agree-requires-clause-lengths
borders_agree-requires-clause-lengths c = rw (c.as_slice-borders.ensures, c.as_slice-flow.ensures) (AllZip-long _ c.args.market.now.borders c.args.activation.now.flow c.requires.feasible.borders)

pub returns-then-are_kept_by : goal.returns-then-are_kept_by
returns-then-are_kept_by c =
    let bs : c.as_slice-borders.result.now ≡ c.args.market.now.borders = c.as_slice-borders.ensures in
    let fs : c.as_slice-flow.result.now ≡ c.args.activation.now.flow = c.as_slice-flow.ensures in
    let ps : c.as_slice-prices.result.now ≡ c.args.prices.now.cents = c.as_slice-prices.ensures in (
      λ t. elim c.if-are_prices.branch [
        | then-are_prices w ↦
            let kept = rw ps at (w.are_kept_by.ensures.0 (sym w.value-is ∙ c.if-are_kept_by.true)) in
            kept-consistent c.args.market.now c.args.activation.now c.args.prices.now.cents c.args.heights.now c.requires.valid c.requires.feasible c.requires.heights
            (rw ps at (c.are_prices.ensures.0 w.if-are_prices.true)) kept.0 kept.1 (rw (ps, bs, fs) at (c.borders_agree.ensures.0 t))
        | else-are_prices w ↦ absurd (both_ways c.if-are_prices.value (w.value-is ∙ w.if-are_prices.false) c.if-are_kept_by.true)
      ],
      λ k. c.borders_agree.ensures.1 (rw (ps, bs, fs) k.borders),
    )

pub returns-else-are_kept_by : goal.returns-else-are_kept_by
returns-else-are_kept_by c =
    let ps : c.as_slice-prices.result.now ≡ c.args.prices.now.cents = c.as_slice-prices.ensures in (
      λ t. absurd (both_ways c.if-are_prices.value c.if-are_kept_by.false t),
      λ k. elim c.if-are_prices.branch [
        | then-are_prices w ↦
            let least = consistent-least c.args.market.now c.args.activation.now c.args.prices.now.cents c.args.heights.now c.requires.valid c.requires.feasible c.requires.heights k in
            let greatest = consistent-greatest c.args.market.now c.args.activation.now c.args.prices.now.cents c.args.heights.now c.requires.valid c.requires.feasible c.requires.heights k in
            w.value-is ∙ w.are_kept_by.ensures.1 (rw ps (least, greatest))
        | else-are_prices w ↦ absurd (both_ways c.are_prices.result w.if-are_prices.false (c.are_prices.ensures.1 (rw ps k.prices)))
      ],
    )
