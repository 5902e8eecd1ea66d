-- The block that is put together is that of the joint market.
use Rattle.std.proofs.Common.{◌≡◌, ◌∙◌, ℕ, List, ap, sym, subst}
use Rattle.mari_units.specs.declared.numbers.Cents.{Cents}
use Rattle.mari_market.specs.Clearing.{IsClearing}
use Rattle.mari_market.specs.declared.activation.Activation.{Activation}
use Rattle.mari_market.specs.declared.clearing.Clearing.{Clearing}
use Rattle.mari_remain.specs.declared.books.Books.{Books}
use Rattle.mari_settle.specs.Ledger.{rents_of}
use Rattle.mari_blocks.specs.Cutting.{ArePrinted, IsPriced}
use Rattle.mari_blocks.specs.Printed.{AreJointPrices, IsJointBlock, activation_printed, areas_printed, clearing_printed, greatest_printed, least_printed, prices_printed}
use Rattle.mari_blocks.specs.declared.joint.Joint.{Joint}
use Rattle.mari_blocks.specs.declared.printing.Priced.{Priced}
use Rattle.mari_blocks.specs.declared.text.JointBlock.{JointBlock}

module _ (books : Books) (first last : ℕ) (joint : Joint) (clearing : Clearing) (priced : Priced) (b : JointBlock) (is : IsPriced books first joint clearing.activation priced)
    (printed : ArePrinted books joint clearing.activation priced first last b.quarters) where
  prices-printed : AreJointPrices books first joint.market (activation_printed b.quarters) (prices_printed b.quarters) (least_printed b.quarters) (greatest_printed b.quarters)
      (areas_printed b.quarters)
  prices-printed =
      let A : Activation → Type 0 = λ x. AreJointPrices books first joint.market x (prices_printed b.quarters) (least_printed b.quarters) (greatest_printed b.quarters) (areas_printed b.quarters) in
      let P : List Cents → Type 0 = λ x. AreJointPrices books first joint.market clearing.activation x (least_printed b.quarters) (greatest_printed b.quarters) (areas_printed b.quarters) in
      let L : List Cents → Type 0 = λ x. AreJointPrices books first joint.market clearing.activation priced.pricing.published.cents x (greatest_printed b.quarters) (areas_printed b.quarters) in
      let G : List Cents → Type 0 = λ x. AreJointPrices books first joint.market clearing.activation priced.pricing.published.cents priced.pricing.least.cents x (areas_printed b.quarters) in
      let N : List ℕ → Type 0 = λ x. AreJointPrices books first joint.market clearing.activation priced.pricing.published.cents priced.pricing.least.cents priced.pricing.greatest.cents x in
      subst A (sym printed.activation) (subst P (sym printed.prices) (subst L (sym printed.least) (subst G (sym printed.greatest) (subst N (sym printed.areas) is.prices))))

  pub joint-block : (budget : ℕ) → IsClearing joint.market budget clearing → b.first ≡ first → b.last ≡ last
      → b.welfare ≡ clearing.welfare → b.tree ≡ clearing.tree → IsJointBlock books first last budget joint b
  joint-block budget clears begins ends welfare tree =
      let same : clearing_printed b ≡ clearing = λ i. record { activation = printed.activation i; welfare = welfare i; tree = tree i } in
      record {
        from_first = begins;
        to_last = ends;
        quarters = printed.numbers;
        each = printed.each;
        bids = printed.ids;
        clearing = subst (IsClearing joint.market budget) (sym same) clears;
        prices = prices-printed;
        rents = printed.rents ∙ is.rents ∙ ap (λ (x : Activation). rents_of joint.market x priced.pricing.published.cents) (sym printed.activation)
            ∙ ap (rents_of joint.market (activation_printed b.quarters)) (sym printed.prices);
      }
