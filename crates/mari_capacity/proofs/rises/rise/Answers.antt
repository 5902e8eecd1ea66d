use Rattle.std.proofs.Common.{ℤ, ◌+ℤ◌, ◌≤ℤ◌, arith, sym, subst}
use Rattle.std.proofs.lemmas.Grind.{common_steps}
use Rattle.mari_market.specs.Activation.{welfare_of}
use Rattle.mari_market.specs.declared.market.Border.{Border}
use Rattle.mari_capacity.specs.Rise.{rise_of}
use Rattle.mari_capacity.proofs.Bounding.{at-most-rise}
use Rattle.mari_capacity.proofs.rises.rise.Goals as goal

pub returns-clause-value : goal.returns-clause-value
returns-clause-value c = grind (arith, common_steps)

pub returns-clause-bounds : goal.returns-clause-bounds
returns-clause-bounds c = λ m a b k v there same feasible consistent within.
    let most = at-most-rise m v a feasible c.args.prices.now.cents consistent (record { border = k; forth = c.args.forth; more = c.args.more }) there b within in
    let P : Border → Type 0 = λ x. welfare_of m b ≤ℤ (welfare_of m a +ℤ rise_of c.args.prices.now.cents x c.args.forth c.args.more) in
    let Q : ℤ → Type 0 = λ z. welfare_of m b ≤ℤ (welfare_of m a +ℤ z) in
    subst Q (sym (returns-clause-value c)) (subst P same most)
