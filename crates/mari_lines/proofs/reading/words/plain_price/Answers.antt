use Rattle.std.proofs.Common.{◌≡◌, List, ℕ, ◌∷◌, eqb, pos, sym, ap, subst, ◌∙◌, arith, to_z, of_z}
use mir.Syntax.{w64}
use Rattle.std.specs.List.{slice_split}
use Rattle.std.proofs.lemmas.Int.{ints}
use Rattle.mari_units.specs.Numbers.{printed_cents}
use Rattle.mari_units.specs.Prices.{IsPrice}
use Rattle.mari_lines.specs.Reading.{words_in}
use Rattle.mari_lines.proofs.Leading.{hundredths_lack, small_price, written_price}
use Rattle.mari_lines.proofs.Signs.{hundredths_text}
use Rattle.mari_lines.proofs.reading.words.plain_price.Goals as goal

pub returns : goal.returns
returns c =
    let n = c.in_ok-cents.cents in
    let first = c.in_ok-cents.ensures in
    let rest = c.in_ok-rest.ensures (hundredths_text n) (hundredths_lack n first.0) in
    let passed : to_z w64 (of_z w64 c.from.result) ≡ pos n = omega (arith, ints, first.0) in
    let words = ap (λ (bs : List ℕ). slice_split (λ b. eqb b 32) bs) first.1 ∙ rest ∙ ap (λ (w : List ℕ). w ∷ words_in c.in_ok-rest.rest) (sym (written_price n)) in
    subst (λ z. IsPrice z × (slice_split (λ b. eqb b 32) c.args.text.now ≡ printed_cents z ∷ words_in c.in_ok-rest.rest)) (sym passed) (small_price n first.0, words)
