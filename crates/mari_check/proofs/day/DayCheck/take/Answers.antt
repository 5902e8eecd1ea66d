use Rattle.std.proofs.Common.{subst, sym}
use Rattle.std.specs.Prelude.{IfOk}
use Rattle.mari_publish.specs.declared.publication.Block.{Block}
use Rattle.mari_check.specs.Day.{IsFreeIn}
use Rattle.mari_check.specs.Faults.{Finds}
use Rattle.mari_check.proofs.day.DayCheck.take.Goals as goal

pub returns-in-Published-clause-finds : goal.returns-in-Published-clause-finds
returns-in-Published-clause-finds c = λ blocks checked.
    let P : Block → Type 0 = λ b. IfOk c.take_published.result (Finds (IsFreeIn c.args.books.now c.args.self.now.budget blocks b)) in
    subst P (sym c.in-Published.is) (c.take_published.ensures.finds blocks checked)
