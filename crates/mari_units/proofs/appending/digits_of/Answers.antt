use Rattle.mari_units.proofs.Digits.{one_digit, two_digits, three_digits, four_digits}
use Rattle.mari_units.proofs.appending.digits_of.Goals as goal

pub returns : goal.returns
returns c = record {
  one = λ lt. one_digit c.args.number lt;
  two = λ ge lt. two_digits c.args.number ge lt;
  three = λ ge lt. three_digits c.args.number ge lt;
  four = λ ge. four_digits c.args.number ge c.requires.short;
}
