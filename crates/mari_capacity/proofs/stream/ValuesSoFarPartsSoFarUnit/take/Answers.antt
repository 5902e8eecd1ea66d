use Rattle.std.proofs.Common.{◌≤◌, ℕ, sym, subst}
use Rattle.mari_remain.specs.Accepted.{IsAccepted}
use Rattle.mari_remain.specs.declared.books.Books.{Books}
use Rattle.mari_check.proofs.Streaming.{comes}
use Rattle.mari_capacity.proofs.Pages.{own-taken, part-breaks, part-kept}
use Rattle.mari_capacity.proofs.stream.ValuesSoFarPartsSoFarUnit.take.Goals as goal

pub take_part-requires-clause-accepted : goal.take_part-requires-clause-accepted
take_part-requires-clause-accepted c = let r = c.requires in subst (λ (b : Books). IsAccepted b) (sym r.4.books_are) r.4.accepted

pub take_part-requires-clause-more : goal.take_part-requires-clause-more
take_part-requires-clause-more c = let r = c.requires in subst (λ (n : ℕ). n ≤ 1000) (sym r.4.taken.more_is) r.4.raise

pub take_part-requires-clause-comes : goal.take_part-requires-clause-comes
take_part-requires-clause-comes c = let r = c.requires in (r.3, own-taken r.0.books.now r.0.more r.3 c.args.self.now r.4, comes r.2 r.3 c.args.part r.5)

pub returns-clause-took : goal.returns-clause-took
returns-clause-took c = λ first lent text parts keeps there.
    part-kept first.books.now first.more parts c.args.self.now keeps c.take_part.result c.take_part.new.self c.args.part c.take_part.ensures.books
    (c.take_part.ensures.taken parts (own-taken first.books.now first.more parts c.args.self.now keeps) (comes text parts c.args.part there))

pub returns-clause-breaks : goal.returns-clause-breaks
returns-clause-breaks c = λ first lent text parts keeps there.
    part-breaks first.books.now first.more parts c.args.self.now keeps c.take_part.result c.take_part.new.self c.args.part
    (c.take_part.ensures.stops parts (own-taken first.books.now first.more parts c.args.self.now keeps) (comes text parts c.args.part there))
