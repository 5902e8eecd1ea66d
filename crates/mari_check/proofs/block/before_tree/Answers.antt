use Rattle.std.proofs.Common.{arith, refl}
use Rattle.mari_check.proofs.Least.{found-none, found-some}
use Rattle.mari_check.proofs.block.before_tree.Goals as goal

pub returns-in-Some : goal.returns-in-Some
returns-in-Some c = λ also budget.
    let found = c.in-Some.ensures also budget in
    (found.0, omega (arith, found.1))

pub returns-in-Some-2 : goal.returns-in-Some-2
returns-in-Some-2 c = λ also budget.
    found-some _ 9 c.in_ok-fault.field-0 c.in-Some-2.fault c.in-Some-2.is
    (c.in_ok-fault.ensures c.args.books.now c.args.run c.args.made.now also budget refl (c.in_default.ensures also budget))

pub returns-in-None : goal.returns-in-None
returns-in-None c = λ also budget. (
  found-none _ 9 c.in_ok-fault.field-0 c.in-None.is (c.in_ok-fault.ensures c.args.books.now c.args.run c.args.made.now also budget refl (c.in_default.ensures also budget)),
  c.in_ok-activation.ensures,
  c.in_ok-prices.ensures,
)
