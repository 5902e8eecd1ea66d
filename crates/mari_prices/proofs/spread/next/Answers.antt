use Rattle.std.proofs.Common.{pos, get_or, to_z-of_z, w64, FitsSigned, rules, refl, inr}
use Rattle.mari_prices.proofs.Borders.{none_led}
use Rattle.mari_prices.proofs.spread.next.Goals as goal

pub returns-in-Some-greatest_free-clause-some : goal.returns-in-Some-greatest_free-clause-some
returns-in-Some-greatest_free-clause-some c =
    let fits : FitsSigned w64 (get_or c.args.values.now c.in-Some-greatest_free.zone (pos 0)) = search rules in
    inr (record {
      greatest = c.in-Some-greatest_free.ensures;
      none_led = none_led c.args.along c.args.borders.now c.args.flow.now c.args.settled.now c.requires.lengths c.in_default.ensures.none;
      first = record { previous = refl; value = to_z-of_z fits; depth = refl };
    })
