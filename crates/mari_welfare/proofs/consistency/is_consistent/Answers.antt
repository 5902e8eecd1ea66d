use Rattle.std.proofs.Common.{◌≡◌, ◌∙◌}
use Rattle.std.proofs.lemmas.Bool.{both_ways}
use Rattle.std.proofs.lemmas.Slice.Zip.{AllZip-long}
use Rattle.mari_units.specs.declared.Cents.{Cents}
use Rattle.std.proofs.Common.{List}
use Rattle.mari_market.specs.declared.market.Market.{Market}
use Rattle.mari_market.specs.declared.activation.Activation.{Activation}
use Rattle.mari_market.specs.Activation.{HasLengths}
use Rattle.mari_market.specs.Optimal.{IsConsistent}
use Rattle.mari_welfare.proofs.consistency.is_consistent.Goals as goal
use Rattle.mari_welfare.proofs.consistency.is_consistent.Goals.{then-has_lengths, else-has_lengths}

lengths : (m : Market) (a : Activation) (ps : List Cents) → IsConsistent m a ps → HasLengths m a
lengths m a ps f = record { orders = AllZip-long _ m.orders a.mw f.orders; borders = AllZip-long _ m.borders a.flow f.borders }

pub returns-else-are_prices : goal.returns-else-are_prices
returns-else-are_prices c =
    let ps : c.as_slice-prices.result.now ≡ c.args.prices.now.cents = c.as_slice-prices.ensures in (
      λ t. absurd (both_ways c.if-has_lengths.value c.if-are_prices.false t),
      λ f. elim c.if-has_lengths.branch [
        | then-has_lengths w ↦ w.value-is ∙ w.are_prices.ensures.1 (rw ps f.prices)
        | else-has_lengths w ↦ absurd (both_ways c.has_lengths.result w.if-has_lengths.false (c.has_lengths.ensures.1 (lengths c.args.market.now c.args.activation.now c.args.prices.now.cents f)))
      ],
    )
