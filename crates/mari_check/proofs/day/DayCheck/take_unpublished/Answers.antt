use Rattle.std.proofs.Common.{arith, refl}
use Rattle.mari_check.specs.declared.fault.Fault.TheVariants as fault
use Rattle.mari_check.proofs.Ending.{few-others}
use Rattle.mari_check.proofs.Least.{finds-none}
use Rattle.mari_check.proofs.Progressing.{unpublished-counted}
use Rattle.mari_check.proofs.day.DayCheck.take_unpublished.Goals as goal

pub overflow_add-self : goal.overflow_add-self
overflow_add-self c = let s = c.requires.stands in omega (arith, few-others c.args.books.now c.requires.accepted s.0 c.args.self.now s.1)

pub returns-in-None-clause-stands : goal.returns-in-None-clause-stands
returns-in-None-clause-stands c = λ blocks checked none.
    let free = finds-none _ c.test_unpublished.result c.in-None.is (c.test_unpublished.ensures blocks checked) in
    let next = free fault.Heading in
    unpublished-counted c.args.books.now blocks c.args.self.now checked c.requires.accepted next.there c.args.reported c.args.count free _ refl
