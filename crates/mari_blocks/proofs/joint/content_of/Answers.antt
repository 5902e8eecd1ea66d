use Rattle.std.proofs.Common.{arith}
use Rattle.mari_blocks.proofs.Quarters.{all-offered}
use Rattle.mari_blocks.proofs.joint.content_of.Goals as goal

pub kept_bids-requires-clause-offered : goal.kept_bids-requires-clause-offered
kept_bids-requires-clause-offered c =
    let books = c.args.books.now in
    let all = all-offered books c.requires.accepted c.args.first c.args.last c.requires.runs in
    rw (c.deref.ensures.value, c.in_ok-parts.ensures.offered) (λ k d l.
    let here = (all k d l).there in omega (arith, here, c.requires.book.one_each, c.requires.accepted.bids.named))
