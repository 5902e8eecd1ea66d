use Rattle.std.proofs.Common.{◌≡◌, ◌+◌, ◌++◌, ◌∷◌, [], None, arith, length, length-append, refl}
use Rattle.mari_remain.specs.Blocks.{PastBlock}
use Rattle.mari_remain.specs.FirstBlocks.{IsNextBlock}
use Rattle.mari_remain.specs.Lists.{run_numbered}
use Rattle.mari_remain.proofs.After.{nothing-more}
use Rattle.mari_day_tests.proofs.remain.take.Goals as goal

pub returns-in-None : goal.returns-in-None
returns-in-None c =
    let books = c.args.books.now in
    let run = c.args.run in
    let past = c.requires.stands in
    let left : PastBlock = record { run = run; quarter = (run_numbered books run).quarter; direct = (run_numbered books run).direct; published = None } in
    let next : IsNextBlock books past.0 left = record { run = past.2; there = c.requires.there; quarter = refl; direct = refl; published = tt } in
    let longer : run + 1 ≡ length (past.0 ++ left ∷ []) + 1 = simp length-append (omega (arith, past.2)) in
    (past.0 ++ left ∷ [], nothing-more books c.requires.accepted past.0 left next c.args.remaining.now c.args.remaining.now past.1 refl, longer)
